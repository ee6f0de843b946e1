-- From what the code puts to the line of a transaction, and to the lines of transactions one behind another.
-- Assumes nothing.
use mathlib.Core.Path.{◌≡◌, sym, ap, ◌∙◌}
use mathlib.Core.List.{List, ◌∷◌, ◌++◌}
use Prim.Native.Nat.{ℕ, ◌+◌, ◌*◌}
use native.Mathlib.Omega.{arith}
use lib.ListN.{length, get_or, take, length-map, length-take}
use lib.IntN.{ℤ, pos}
use Rattle.listing.specs.Lines.{line, paired}
use Rattle.listing.specs.Puts.{longest, Put}
use Rattle.listing.proofs.Putting.{put_wider}
use Rattle.model.specs.Plain.{Pair}
use Rattle.model.specs.Calls.{Answer, pairs_in, flat, printed}
use Rattle.lines.specs.Lines.{line_of}
use Rattle.lines.specs.Told.{Told, shown_of}
use Rattle.lines.proofs.Telling.{paired_flat, shown_line, few_shown}

module _ {code : ℕ} {a : Answer} {cells ks vs : List ℤ} (k : Told code a cells ks vs) where
  -- LAW: as many keys as values
  pub told_alike : length ks ≡ length vs
  told_alike =
      ap length k.keys
      ∙ (length-map (pairs_in a) (λ (p : Pair). p.0) ∙ sym (ap length k.values ∙ length-map (pairs_in a) (λ (p : Pair). p.1)))

  told_pairs : paired ks vs ≡ flat (pairs_in a)
  told_pairs = rw (k.keys, k.values) (paired_flat (pairs_in a))

  -- LAW: what is put from the cells and the pairs is the line of the transaction
  pub told_line : (number : ℕ) {out last : List ℕ} {at c r s next : ℕ} → get_or cells 0 (pos 0) ≡ pos c → get_or cells 1 (pos 0) ≡ pos r → s ≡ shown_of c r
      → Put out at (longest (1 + length (take s cells) + 2 * length ks)) (line (pos number ∷ (take s cells ++ paired ks vs))) last next
      → Put out at (longest (6 + 2 * length ks)) (line_of number code a) last next
  unfolding line_of
  told_line number {c = c} {r = r} {s = s} ce re se p =
      let e : take s cells ++ paired ks vs ≡ pos code ∷ printed a =
      ap (λ z. take s cells ++ z) told_pairs ∙ (ap (λ n. take n cells ++ flat (pairs_in a)) se ∙ shown_line k.celled ce re) in
      put_wider (omega (arith, se, few_shown c r, length-take s cells)) (rw e at p)
