-- What keeps `Buckets`, by the columns of the memory after some stores, so that their order does not matter; and what it gives.
--     buckets_fresh      after set-up
--     buckets_same       the chains stay, no node becomes present or ceases to be, present nodes keep their keys
--     buckets_kept       stores to columns other than chain and place
--     buckets_placed     the place of a node changes from one that is not present to another
--     buckets_added, buckets_dropped    an insertion, with `add`, and a removal, with `drop`
--     joinable, on_chain, on_chain_same    what `add` and `drop` require
--     present_on_chain   a present node is on the chain of its bucket
--     once, apart        no node is on a chain twice, and none is on two chains
-- Assumes nothing.
use mathlib.Core.Path.{◌≡◌, refl, sym, ◌∙◌, ap, subst}
use mathlib.Core.Logic.{◌≢◌}
use mathlib.Core.List.{List}
use Prim.Native.Nat.{ℕ, ◌*◌, ◌<◌, ◌≤◌}
use native.Mathlib.Omega.{arith}
use native.Mathlib.Decide.{ℕ_discrete}
use lib.ListN.{length, length-set, replicate, length-replicate, get_or-replicate}
use lib.Seq.{get_or-set_same, get_or-set_other}
use Rattle.lists.specs.Members.{In, Distinct}
use Rattle.sizes.specs.Rank.{bucket_of}
use Rattle.sizes.proofs.Ranking.{bucket_lt}
use Rattle.rows.specs.Rows.{upd, chains, places}
use Rattle.rows.proofs.Columns.{upd_same, upd_other}
use Rattle.buckets.specs.Chains.{nth, chain_from}
use Rattle.buckets.specs.Buckets.{Present, home, first_of, Room, Buckets}
use Rattle.buckets.specs.Finding.{Holds}
use Rattle.buckets.specs.Changes.{buckets_with, buckets_without, Joinable, OnChain}
use Rattle.buckets.proofs.Chains.{from_distinct}
use Rattle.buckets.proofs.Changing.{empty, stays, joins, leaves}
use Rattle.buckets.proofs.Framing.{without_buckets, chains_without, out_of}

-- LAW: after set-up, where no node is present and every chain is empty
pub buckets_fresh : (keys rows : List ℕ) (count cap : ℕ) → Room keys rows count cap → ((n : ℕ) → n < cap → Present rows n → ⊥)
    → Buckets keys rows (replicate count cap) cap
buckets_fresh keys rows count cap room none = record {
  room = rw (length-replicate count cap) room;
  chained =
      rw (length-replicate count cap)
      (empty cap count (nth (replicate count cap)) (chains rows) (home keys count) (Present rows) (λ b l. get_or-replicate count b cap 0 l) none);
}

-- LAW: what `drop` requires, after stores to other columns
pub on_chain_same : (rows rows' buckets : List ℕ) (cap rank n : ℕ) → OnChain rows buckets cap rank n → chains rows' ≡ chains rows → cap * 32 ≤ length rows'
    → OnChain rows' buckets cap rank n
on_chain_same rows rows' buckets cap rank n o e l = record {
  some = o.some;
  reached = record { rowed = l; ends = rw e o.reached.ends; met = rw e o.reached.met };
}

module _ (keys rows buckets : List ℕ) (cap : ℕ) (h : Buckets keys rows buckets cap) where
  abbrev count : ℕ
  count = length buckets

  homes : (n : ℕ) → home keys count n < count
  homes n = bucket_lt (nth keys n) count h.room.some

  -- LAW: what `add` requires
  pub joinable : (n : ℕ) → n < cap → Joinable rows buckets n
  joinable n l = record { rowed = let z = h.room.rowed in omega arith; some = h.room.some }

  -- LAW: what `drop` requires, of a present node
  pub on_chain : (rank n : ℕ) → Holds keys rows cap rank n → OnChain rows buckets cap rank n
  on_chain rank n o = record {
    some = h.room.some;
    reached = record {
      rowed = h.room.rowed;
      ends = h.chained.ends (bucket_of rank count) (bucket_lt rank count h.room.some);
      met = subst (λ (z : ℕ). In n (chain_from (chains rows) cap (first_of buckets z))) o.key (h.chained.has n o.node o.here);
    };
  }

  -- LAW: a present node is never missing from its bucket
  pub present_on_chain : (n : ℕ) → n < cap → Present rows n → In n (chain_from (chains rows) cap (first_of buckets (nth keys n)))
  present_on_chain n l w = h.chained.has n l w

  -- LAW: no node is on a chain twice, and none is on two chains
  pub once : (b : ℕ) → b < count → Distinct (chain_from (chains rows) cap (nth buckets b))
  once b l = from_distinct (chains rows) cap (h.chained.ends b l)

  pub apart : (a b n : ℕ) → a < count → b < count → In n (chain_from (chains rows) cap (nth buckets a)) → In n (chain_from (chains rows) cap (nth buckets b)) → a ≡ b
  apart a b n k l i j = sym (h.chained.owns a k n i).1 ∙ (h.chained.owns b l n j).1

  -- LAW: the chains stay, no node becomes present or ceases to be, and present nodes keep their keys
  pub buckets_same : (keys' rows' : List ℕ) → cap ≤ length keys' → cap * 32 ≤ length rows'
      → chains rows' ≡ chains rows
      → ((n : ℕ) → n < cap → Present rows n → Present rows' n)
      → ((n : ℕ) → n < cap → Present rows' n → Present rows n)
      → ((n : ℕ) → n < cap → Present rows n → nth keys' n ≡ nth keys n)
      → Buckets keys' rows' buckets cap
  buckets_same keys' rows' lk lr ec to from ek = record {
    room = record { keyed = lk; rowed = lr; some = h.room.some };
    chained =
        stays cap count (nth buckets) (chains rows) (home keys count) (Present rows) (chains rows') (home keys' count) (Present rows') h.chained
        (record {
          next_s = λ n l w. ap (λ (f : ℕ → ℕ). f n) ec;
          home_s = λ n l w. ap (λ (k : ℕ). bucket_of k count) (ek n l w);
          to = to;
          from = from;
          homes = homes;
        });
  }

  -- LAW: stores to columns other than chain and place
  pub buckets_kept : (rows' : List ℕ) → cap * 32 ≤ length rows' → chains rows' ≡ chains rows → places rows' ≡ places rows → Buckets keys rows' buckets cap
  buckets_kept rows' l ec ep =
      buckets_same keys rows' h.room.keyed l ec
      (λ n k w. ap (λ (f : ℕ → ℕ). f n) ep ∙ w)
      (λ n k w. sym (ap (λ (f : ℕ → ℕ). f n) ep) ∙ w)
      (λ n k w. refl)

  module _ (n : ℕ) where
    -- LAW: the place of a node changes from one that is not present to another
    pub buckets_placed : (v : ℕ) (rows' : List ℕ) → cap * 32 ≤ length rows' → chains rows' ≡ chains rows → places rows' ≡ upd (places rows) n v
        → (Present rows n → ⊥) → v ≢ 1 → Buckets keys rows' buckets cap
    buckets_placed v rows' l ec ep absent out =
        buckets_same keys rows' h.room.keyed l ec
        (λ m k w. ap (λ (f : ℕ → ℕ). f m) ep ∙ (upd_other (places rows) n v m (λ q. absent (subst (Present rows) q w)) ∙ w))
        (λ m k w. from m (sym (ap (λ (f : ℕ → ℕ). f m) ep) ∙ w) (ℕ_discrete m n))
        (λ m k w. refl)
      where
        from : (m : ℕ) → upd (places rows) n v m ≡ 1 → Dec (m ≡ n) → Present rows m
        from m w (yes e) = absurd (out (sym (upd_same (places rows) n v) ∙ (ap (upd (places rows) n v) (sym e) ∙ w)))
        from m w (no d) = sym (upd_other (places rows) n v m d) ∙ w

    -- LAW: the node n, which was not present, is present, with this rank, and `add` was called
    pub buckets_added : (rank : ℕ) (keys' rows' buckets' : List ℕ) → n < cap → (Present rows n → ⊥)
        → cap ≤ length keys' → cap * 32 ≤ length rows'
        → nth keys' n ≡ rank → ((m : ℕ) → m ≢ n → nth keys' m ≡ nth keys m)
        → chains rows' ≡ upd (chains rows) n (first_of buckets rank)
        → places rows' ≡ upd (places rows) n 1
        → buckets' ≡ buckets_with buckets rank n
        → Buckets keys' rows' buckets' cap
    unfolding buckets_with
    buckets_added rank keys' rows' buckets' node new lk lr kn ko ec ep eb =
        let b = bucket_of rank count in
        let e : home keys' count n ≡ b = ap (λ (k : ℕ). bucket_of k count) kn in
        let s : length buckets' ≡ count = ap (length {A = ℕ}) eb ∙ length-set buckets b n in
        record {
          room = record { keyed = lk; rowed = lr; some = rw s h.room.some };
          chained =
              rw s
              (joins cap count (nth buckets) (chains rows) (home keys count) (Present rows) (nth buckets') (chains rows') (home keys' count) (Present rows') n h.chained
              (record {
                node = node;
                new = new;
                into = bucket_lt (nth keys' n) count h.room.some;
                next_n = ap (λ (f : ℕ → ℕ). f n) ec ∙ (upd_same (chains rows) n (nth buckets b) ∙ ap (nth buckets) (sym e));
                next_o = λ m d. ap (λ (f : ℕ → ℕ). f m) ec ∙ upd_other (chains rows) n (nth buckets b) m d;
                first_n = ap (nth buckets') e ∙ (ap (λ (xs : List ℕ). nth xs b) eb ∙ get_or-set_same buckets b n 0 (bucket_lt rank count h.room.some));
                first_o = λ k d. ap (λ (xs : List ℕ). nth xs k) eb ∙ get_or-set_other buckets b k n 0 (λ q. d (q ∙ sym e));
                home_o = λ m d. ap (λ (k : ℕ). bucket_of k count) (ko m d);
                here_n = ap (λ (f : ℕ → ℕ). f n) ep ∙ upd_same (places rows) n 1;
                to = λ m d w. ap (λ (f : ℕ → ℕ). f m) ep ∙ (upd_other (places rows) n 1 m d ∙ w);
                from = λ m d w. sym (upd_other (places rows) n 1 m d) ∙ (sym (ap (λ (f : ℕ → ℕ). f m) ep) ∙ w);
                homes = homes;
              }));
        }

    -- LAW: the node n, which was present with this rank, is no longer, and `drop` was called
    pub buckets_dropped : (rank v : ℕ) (rows' buckets' : List ℕ) → Holds keys rows cap rank n → v ≢ 1
        → cap * 32 ≤ length rows'
        → chains rows' ≡ chains_without (chains rows) cap (first_of buckets rank) n
        → places rows' ≡ upd (places rows) n v
        → buckets' ≡ buckets_without rows buckets rank n
        → Buckets keys rows' buckets' cap
    buckets_dropped rank v rows' buckets' o out lr ec ep eb =
        let s : length buckets' ≡ count = ap (length {A = ℕ}) eb ∙ without_buckets rows buckets rank n in
        record {
          room = record { keyed = h.room.keyed; rowed = lr; some = rw s h.room.some };
          chained =
              rw s
              (leaves cap count (nth buckets) (chains rows) (home keys count) (Present rows) (nth buckets') (chains rows') (Present rows') n h.chained
              (record {
                node = o.node;
                here = o.here;
                out = out_of rows buckets rows' buckets' cap (nth keys n) n h.room.some (rw o.key ec) (rw o.key eb);
                gone = λ w. out (sym (upd_same (places rows) n v) ∙ (sym (ap (λ (f : ℕ → ℕ). f n) ep) ∙ w));
                to = λ m d w. ap (λ (f : ℕ → ℕ). f m) ep ∙ (upd_other (places rows) n v m d ∙ w);
                from = λ m d w. sym (upd_other (places rows) n v m d) ∙ (sym (ap (λ (f : ℕ → ℕ). f m) ep) ∙ w);
                homes = homes;
              }));
        }
