-- What the answer of `find` tells.
--     finds        it is a present node of the rank, or there is none
--     finds_one    where no two present nodes have the rank, there is one answer
--     found_at     a present node is found, where no other has its rank
--     found_none   where no present node has the rank, none is found
-- Assumes nothing.
use Rattle.std.proofs.Common.{Option, Some, None}
use mathlib.Core.Path.{◌≡◌, refl, sym, ◌∙◌, ap, subst}
use mathlib.Core.Logic.{inl, inr, ⊎_elim}
use mathlib.Core.List.{List, [], ◌∷◌}
use Prim.Native.Nat.{ℕ, ◌<◌}
use native.Mathlib.Decide.{ℕ_discrete}
use lib.ListN.{length}
use borrow.Author.Tests.{eq-eqb, ne_eqb}
use Rattle.lists.specs.Members.{In}
use Rattle.sizes.specs.Rank.{bucket_of}
use Rattle.sizes.proofs.Ranking.{bucket_lt}
use Rattle.rows.specs.Rows.{chains}
use Rattle.buckets.specs.Chains.{nth, chain_from}
use Rattle.buckets.specs.Buckets.{first_of, Buckets}
use Rattle.buckets.specs.Finding.{seek, found, Holds, Finds}
use Rattle.buckets.proofs.Chains.{from_below}

-- the search in a list of nodes
abbrev Sought : (ℕ → ℕ) → ℕ → List ℕ → Option ℕ → Type 0
Sought key rank ns (Some n) = In n ns × (key n ≡ rank)
Sought key rank ns None = (n : ℕ) → In n ns → key n ≡ rank → ⊥

sought_more : (key : ℕ → ℕ) (rank n : ℕ) (ns : List ℕ) → (key n ≡ rank → ⊥) → (r : Option ℕ) → Sought key rank ns r → Sought key rank (n ∷ ns) r
sought_more key rank n ns d (Some m) s = (inr s.0, s.1)
sought_more key rank n ns d None s = λ m i e. ⊎_elim (λ q. d (ap key (sym q) ∙ e)) (λ j. s m j e) i

sought : (key : ℕ → ℕ) (rank : ℕ) (ns : List ℕ) → Sought key rank ns (seek key rank ns)
sought key rank [] = λ n i e. i
sought key rank (n ∷ ns) = go (ℕ_discrete (key n) rank) (sought key rank ns)
  where
    go : Dec (key n ≡ rank) → Sought key rank ns (seek key rank ns) → Sought key rank (n ∷ ns) (seek key rank (n ∷ ns))
    go (yes e) s = rw (eq-eqb (key n) rank e) (inl refl, e)
    go (no d) s = rw (ne_eqb (key n) rank d) (sought_more key rank n ns d (seek key rank ns) s)

-- LAW: where no two present nodes have the rank, there is one answer
pub finds_one : (keys rows : List ℕ) (cap rank : ℕ) → ((m n : ℕ) → Holds keys rows cap rank m → Holds keys rows cap rank n → m ≡ n)
    → (r s : Option ℕ) → Finds keys rows cap rank r → Finds keys rows cap rank s → r ≡ s
finds_one keys rows cap rank one (Some m) (Some n) f g = ap Some (one m n f g)
finds_one keys rows cap rank one (Some m) None f g = absurd (g m f)
finds_one keys rows cap rank one None (Some n) f g = absurd (f n g)
finds_one keys rows cap rank one None None f g = refl

module _ (keys rows buckets : List ℕ) (cap : ℕ) (h : Buckets keys rows buckets cap) where
  abbrev count : ℕ
  count = length buckets

  -- LAW: the answer of `find` is a present node of the rank, or there is none
  pub finds : (rank : ℕ) {r : Option ℕ} → r ≡ found keys rows buckets cap rank → Finds keys rows cap rank r
  unfolding found
  finds rank {r} e = go r (subst (λ (x : Option ℕ). Sought (nth keys) rank (chain_from (chains rows) cap (first_of buckets rank)) x) (sym e) (sought (nth keys) rank (chain_from (chains rows) cap (first_of buckets rank))))
    where
      l : bucket_of rank count < count
      l = bucket_lt rank count h.room.some

      go : (r : Option ℕ) → Sought (nth keys) rank (chain_from (chains rows) cap (first_of buckets rank)) r → Finds keys rows cap rank r
      go (Some n) s = record {
        node = from_below (chains rows) cap (h.chained.ends (bucket_of rank count) l) n s.0;
        here = (h.chained.owns (bucket_of rank count) l n s.0).0;
        key = s.1;
      }
      go None s = λ n o. s n (subst (λ (z : ℕ). In n (chain_from (chains rows) cap (first_of buckets z))) o.key (h.chained.has n o.node o.here)) o.key

  -- LAW: a present node is found, where no other has its rank
  pub found_at : (rank n : ℕ) → ((m : ℕ) → Holds keys rows cap rank m → m ≡ n) → Holds keys rows cap rank n → found keys rows buckets cap rank ≡ Some n
  found_at rank n one o =
      finds_one keys rows cap rank (λ a b f g. one a f ∙ sym (one b g)) (found keys rows buckets cap rank) (Some n) (finds rank refl) o

  -- LAW: where no present node has the rank, none is found
  pub found_none : (rank : ℕ) → ((n : ℕ) → Holds keys rows cap rank n → ⊥) → found keys rows buckets cap rank ≡ None
  found_none rank none =
      finds_one keys rows cap rank (λ a b f g. absurd (none a f)) (found keys rows buckets cap rank) None (finds rank refl) none
