-- Laws of numbers one after another: their bytes, and one number more.
-- Assumes nothing.
use Prim.Native.Nat.{ℕ, zero, suc, ◌+◌, ◌^◌, ◌≤◌, ◌<◌}
use mathlib.Core.Path.{◌≡◌, refl, sym, ap, ap₂, subst, ◌∙◌}
use mathlib.Core.List.{List, [], ◌∷◌, ◌++◌, append_assoc, append-nil}
use mathlib.Core.Option.{Option, none, some}
use native.Mathlib.Omega.{arith}
use native.Mathlib.Numerals.{add-one}
use native.Mathlib.Nat.{zero-add}
use lib.ListN.{length, get_or, take, drop, take-append-drop, length-append, length-drop}
use lib.Seq.{sets, take-suc, take-add, take_at, length-take-le}
use Rattle.std.specs.Prelude.{sum_by}
use Rattle.std.proofs.lemmas.List.Sums.{sum_by_more_le}
use Rattle.std.proofs.lemmas.List.Recursion.{is_sum_by}
use Rattle.lists.specs.Holds.{All}
use Rattle.groups.specs.Groups.{Written, Stands, groups_of}
use Rattle.groups.proofs.Grouping.{written_groups, groups_written}
use Rattle.groups.proofs.Writing.{sets_append}
use Rattle.transactions.specs.Sequences.{Sequence, bytes_of, AtMost, Within, Reached}

-- LAW: numbers below 2 ^ 64 have one sequence of bytes
pub sequence_bytes : (ns bytes : List ℕ) → Sequence ns bytes → bytes ≡ bytes_of ns
sequence_bytes [] bytes s = s
sequence_bytes (n ∷ ns) bytes s = s.whole ∙ ap₂ (λ (x y : List ℕ). x ++ y) (written_groups s.written) (sequence_bytes ns s.back s.rest)

pub sequence_fits : (ns bytes : List ℕ) → Sequence ns bytes → All (λ n. n < 2 ^ 64) ns
sequence_fits [] bytes s = tt
sequence_fits (n ∷ ns) bytes s = (s.written.below, sequence_fits ns s.back s.rest)

pub bytes_sequence : (ns : List ℕ) → All (λ n. n < 2 ^ 64) ns → Sequence ns (bytes_of ns)
bytes_sequence [] f = refl
bytes_sequence (n ∷ ns) f = record { front = groups_of n; back = bytes_of ns; whole = refl; written = groups_written n f.0; rest = bytes_sequence ns f.1 }

-- one number more
pub sequence_snoc : (ns : List ℕ) (n : ℕ) (b c : List ℕ) → Sequence ns b → Written n c → Sequence (ns ++ n ∷ []) (b ++ c)
sequence_snoc [] n b c s w = record { front = c; back = []; whole = ap (λ (x : List ℕ). x ++ c) s ∙ sym (append-nil c); written = w; rest = refl }
sequence_snoc (m ∷ ns) n b c s w = record {
  front = s.front;
  back = s.back ++ c;
  whole = ap (λ (x : List ℕ). x ++ c) s.whole ∙ append_assoc s.front s.back c;
  written = s.written;
  rest = sequence_snoc ns n s.back c s.rest w;
}

pub within_snoc : (limit : List ℕ → Option ℕ) (ns : List ℕ) (n : ℕ) → Within limit ns → AtMost n (limit ns) → Within limit (ns ++ n ∷ [])
within_snoc limit [] n w m = (m, tt)
within_snoc limit (k ∷ ns) n w m = (w.0, within_snoc (λ ms. limit (k ∷ ms)) ns n w.1 m)

pub reached_none : (limit : List ℕ → Option ℕ) (rest : List ℕ) → Reached limit rest [] 0
reached_none limit rest = record { inside = omega arith; before = refl; within = tt }

pub reached_more : {limit : List ℕ → Option ℕ} {rest ns : List ℕ} {o most n len : ℕ} → Reached limit rest ns o → limit ns ≡ some most → Stands (drop o rest) n len → n ≤ most → Reached limit rest (ns ++ n ∷ []) (o + len)
reached_more {limit} {rest} {ns} {o} {most} {n} {len} r e s l = record {
  inside = omega (arith, r.inside, rw (length-drop o rest) at s.inside);
  before = rw (take-add o len rest) (sequence_snoc ns n (take o rest) (take len (drop o rest)) r.before s.written);
  within = within_snoc limit ns n r.within (subst (AtMost n) (sym e) l);
}

-- a number within its limit has a limit
pub record Limited (n : ℕ) (limit : Option ℕ) : Type 0 where
  pub most : ℕ
  pub is : limit ≡ some most
  pub below : n ≤ most

pub limited : (n : ℕ) (limit : Option ℕ) → AtMost n limit → Limited n limit
limited n none h = absurd h
limited n (some most) h = record { most = most; is = refl; below = h }

-- what was read
module _ {limit : List ℕ → Option ℕ} {rest ns : List ℕ} {o : ℕ} (r : Reached limit rest ns o) where
  pub reached_bytes : take o rest ≡ bytes_of ns
  reached_bytes = sequence_bytes ns (take o rest) r.before

  pub reached_length : o ≡ length (bytes_of ns)
  reached_length = sym (length-take-le o rest r.inside) ∙ ap length reached_bytes

  pub reached_whole : rest ≡ bytes_of ns ++ drop o rest
  reached_whole = sym (take-append-drop o rest) ∙ ap (λ (x : List ℕ). x ++ drop o rest) reached_bytes

-- LAW: the bytes of numbers below 2 ^ 64 and within their limits, with any behind them, are read up to their end
pub reached_of : (limit : List ℕ → Option ℕ) (ns behind : List ℕ) → All (λ n. n < 2 ^ 64) ns → Within limit ns → Reached limit (bytes_of ns ++ behind) ns (length (bytes_of ns))
reached_of limit ns behind f w = record {
  inside = omega (arith, length-append (bytes_of ns) behind);
  before = rw (take_at (bytes_of ns) behind (length (bytes_of ns)) refl) (bytes_sequence ns f);
  within = w;
}

-- the bytes of the first numbers of a list, and of one more
bytes_append : (xs ys : List ℕ) → bytes_of (xs ++ ys) ≡ bytes_of xs ++ bytes_of ys
bytes_append [] ys = refl
bytes_append (x ∷ xs) ys = ap (λ (l : List ℕ). groups_of x ++ l) (bytes_append xs ys) ∙ sym (append_assoc (groups_of x) (bytes_of xs) (bytes_of ys))

pub bytes_next : (l : List ℕ) (i : ℕ) → i < length l → bytes_of (take (i + 1) l) ≡ bytes_of (take i l) ++ groups_of (get_or l i 0)
bytes_next l i h =
    ap (λ k. bytes_of (take k l)) (add-one i) ∙ ap bytes_of (take-suc l i 0 h) ∙ bytes_append (take i l) (get_or l i 0 ∷ []) ∙ ap (λ (x : List ℕ). bytes_of (take i l) ++ x) (append-nil (groups_of (get_or l i 0)))

pub length_next : (l : List ℕ) (i : ℕ) → i < length l → length (bytes_of (take (i + 1) l)) ≡ length (bytes_of (take i l)) + length (groups_of (get_or l i 0))
length_next l i h = ap length (bytes_next l i h) ∙ length-append (bytes_of (take i l)) (groups_of (get_or l i 0))

-- fewer of them are no longer
pub lengths_rise : (l : List ℕ) (k m : ℕ) → k ≤ m → length (bytes_of (take k l)) ≤ length (bytes_of (take m l))
lengths_rise l zero m h = omega arith
lengths_rise l (suc k) zero h = absurd (omega arith)
lengths_rise [] (suc k) (suc m) h = omega arith
lengths_rise (x ∷ l) (suc k) (suc m) h = omega (arith, lengths_rise l k m (omega arith), length-append (groups_of x) (bytes_of (take k l)), length-append (groups_of x) (bytes_of (take m l)))

-- the length of all is the sum of their lengths
pub bytes_sum : (ns : List ℕ) → sum_by (λ n. length (groups_of n)) ns ≡ length (bytes_of ns)
bytes_sum ns = sym (is_sum_by (λ ms. length (bytes_of ms)) (λ n. length (groups_of n)) refl (λ m ms. length-append (groups_of m) (bytes_of ms)) ns)

-- one more of them has its place among all
pub length_within : (l : List ℕ) (i : ℕ) → i < length l → length (bytes_of (take i l)) + length (groups_of (get_or l i 0)) ≤ length (bytes_of l)
length_within l i h = omega (arith, bytes_sum l, bytes_sum (take i l), sum_by_more_le (λ n. length (groups_of n)) l i 0 h)

-- stored from the front on, and one more behind
pub sets_next : (b l : List ℕ) (i : ℕ) → i < length l → sets (sets b 0 (bytes_of (take i l))) (length (bytes_of (take i l))) (groups_of (get_or l i 0)) ≡ sets b 0 (bytes_of (take (i + 1) l))
sets_next b l i h =
    let X = bytes_of (take i l) in
    let G = groups_of (get_or l i 0) in
    ap (λ k. sets (sets b 0 X) k G) (sym (zero-add (length X))) ∙ sets_append b 0 X G ∙ ap (sets b 0) (sym (bytes_next l i h))
