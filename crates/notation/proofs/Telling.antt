-- Laws of what an error shows: printable bytes, few of them; of the byte order mark; and of the byte that a fault leaves.
-- Assumes nothing.
use mathlib.Core.Path.{◌≡◌, refl}
use mathlib.Core.Bool.{Bool, true, false, cond, ◌&&◌}
use mathlib.Core.List.{List, [], ◌∷◌, ◌++◌, map}
use Prim.Native.Nat.{ℕ, zero, suc, ◌+◌, ◌≤◌, ◌<◌}
use native.Mathlib.Omega.{arith}
use native.Mathlib.Numerals.{add-one}
use lib.Dec.{leb}
use lib.ListN.{length, take, drop, set, get_or, length-append, length-map}
use lib.Seq.{length-take-le, take_all, take-suc, drop-append_seam}
use borrow.Author.Tests.{lt-leb, leb-true, leb-false}
use Rattle.lists.specs.Holds.{All}
use Rattle.lists.proofs.Holding.{all_every, all_append, all_map}
use Rattle.groups.proofs.Standing.{stands_first}
use Rattle.listing.specs.Puts.{Room, Put}
use Rattle.listing.proofs.Putting.{put_wider, put_then, put_one}
use Rattle.std.proofs.Common.{Result, Err}
use Rattle.transactions.specs.declared.Call.{Call}
use Rattle.transactions.specs.declared.Halt.{Halt}
use Rattle.transactions.specs.declared.Halt.TheVariants.{Stop}
use Rattle.transactions.specs.Calls.{call_limit}
use Rattle.transactions.specs.Readings.{CallRead}
use Rattle.transactions.proofs.Sequencing.{reached_none}
use Rattle.transactions.proofs.Trips.{call_read_same}
use Rattle.notation.specs.Showing.{Printable, shown_byte, shown, NoCall}

byte_printable : (b : ℕ) → Printable (shown_byte b)
byte_printable b = go (leb 32 b) (leb b 126) refl refl
  where
    go : (s t : Bool) → leb 32 b ≡ s → leb b 126 ≡ t → Printable (cond (s && t) b 63)
    go true true e f = (leb-true 32 b e, leb-true b 126 f)
    go true false e f = (omega arith, omega arith)
    go false t e f = (omega arith, omega arith)

-- LAW: what is shown of any word is printable ASCII
pub shown_printable : (word : List ℕ) → All Printable (shown word)
shown_printable word = go (leb (length word) 40)
  where
    bytes : (w : List ℕ) → All Printable (map shown_byte w)
    bytes w = all_map Printable shown_byte w (all_every (λ b. Printable (shown_byte b)) byte_printable w)

    go : (t : Bool) → All Printable (cond t (map shown_byte word) (map shown_byte (take 40 word) ++ (46 ∷ 46 ∷ [])))
    go true = bytes word
    go false = all_append Printable (map shown_byte (take 40 word)) (46 ∷ 46 ∷ []) (bytes (take 40 word)) ((omega arith, omega arith), ((omega arith, omega arith), tt))

-- LAW: it has at most 42 bytes
pub shown_short : (word : List ℕ) → length (shown word) ≤ 42
shown_short word = go (leb (length word) 40) refl
  where
    go : (t : Bool) → leb (length word) 40 ≡ t → length (cond t (map shown_byte word) (map shown_byte (take 40 word) ++ (46 ∷ 46 ∷ []))) ≤ 42
    go true e = rw (length-map word shown_byte) (omega (arith, leb-true (length word) 40 e))
    go false e =
        rw (length-append (map shown_byte (take 40 word)) (46 ∷ 46 ∷ []), length-map (take 40 word) shown_byte, length-take-le 40 word (omega (arith, leb-false (length word) 40 e)))
        (omega arith)

mapped_at : (w : List ℕ) (i : ℕ) → i < length w → get_or (map shown_byte w) i 0 ≡ shown_byte (get_or w i 0)
mapped_at [] i h = absurd (omega arith)
mapped_at (b ∷ w) zero h = refl
mapped_at (b ∷ w) (suc i) h = mapped_at w i (omega arith)

-- the next byte of a word is put as it is shown
pub shown_next : (out mid word : List ℕ) (i b : ℕ) → i ≤ length out → i < length mid → i < length word → Put out 0 i (take i (map shown_byte word)) mid i
    → b ≡ shown_byte (get_or word i 0) → Put out 0 (i + 1) (take (i + 1) (map shown_byte word)) (set mid i b) (i + 1)
shown_next out mid word i b h k l p e =
    let text = map shown_byte word in
    let q = put_then {m = i} (omega arith) p (put_one mid i b (omega arith)) in
    rw (add-one, take-suc text i 0 (rw (length-map word shown_byte) l), mapped_at word i l, ← e, ← add-one) q

pub shown_bytes : (out last word : List ℕ) (i : ℕ) → length word ≤ 40 → i ≡ length word → Put out 0 i (take i (map shown_byte word)) last i → Put out 0 40 (map shown_byte word) last (length word)
shown_bytes out last word i h e p = let q = rw (take_all i (map shown_byte word) (rw (length-map word shown_byte) (omega arith))) at p in put_wider (omega arith) (rw e at q)

-- LAW: a word of more than 40 bytes is shown by its first 40 and `..`
pub shown_cut : (word : List ℕ) {out mid last : List ℕ} {here next : ℕ} → 40 < length word → Room out 0 42 → Put out 0 40 (map shown_byte (take 40 word)) mid here
    → Put mid here 2 (46 ∷ 46 ∷ []) last next → Put out 0 42 (shown word) last next
shown_cut word h room p q = rw (lt-leb (length word) 40 h) (put_then (omega arith) p q)

-- LAW: no call begins with a byte that is above the codes and is a whole number
pub no_call : (byte : ℕ) → 13 < byte → byte < 128 → NoCall byte
no_call byte h k behind at more = record {
  offset = 0;
  is = omega arith;
  stopped = record {
    stops = record {
      numbers = [];
      reached = reached_none call_limit (byte ∷ behind);
      most = 13;
      due = refl;
      bad = λ n len s l. let e = stands_first (omega arith) s in omega arith;
    };
    final = λ w b. let g = b.high.0.set in omega arith;
  };
}

-- LAW: whatever is read at such a byte is that reading stops there
pub stops_there : {byte : ℕ} → NoCall byte → (behind : List ℕ) (at : ℕ) (more : Bool) (r : Result (Call × ℕ) Halt) → CallRead (byte ∷ behind) at more r → r ≡ Err (Stop at)
stops_there {byte} n behind at more r c = call_read_same (byte ∷ behind) at more r (Err (Stop at)) c (n behind at more)

-- LAW: so a file that ends with it stops at it, where the calls in front of it end
pub stops_behind : {byte : ℕ} → NoCall byte → (front behind : List ℕ) (more : Bool) (r : Result (Call × ℕ) Halt) → CallRead (drop (length front) (front ++ (byte ∷ behind))) (length front) more r → r ≡ Err (Stop (length front))
stops_behind {byte} n front behind more r c = stops_there n behind (length front) more r (rw (drop-append_seam front (byte ∷ behind)) at c)
