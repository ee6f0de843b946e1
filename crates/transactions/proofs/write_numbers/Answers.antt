-- `transactions::write_numbers` meets its contract.
use Prim.Native.Nat.{ℕ}
use mathlib.Core.Path.{◌≡◌, refl, ap₂, ◌∙◌}
use mathlib.Core.List.{List}
use native.Mathlib.Omega.{arith}
use lib.ListN.{length, get_or}
use lib.Seq.{sets, take_all}
use borrow.Author.Rules.{rules}
use Rattle.std.specs.Prelude.{sum_by}
use Rattle.groups.specs.Groups.{groups_of}
use Rattle.groups.proofs.Writing.{writes_short, writes_whole}
use Rattle.transactions.specs.Sequences.{bytes_of}
use Rattle.transactions.proofs.Sequencing.{bytes_sum, length_next, length_within, sets_next}
use Rattle.transactions.proofs.write_numbers.Goals as goal
use Rattle.transactions.proofs.write_numbers.Goals.{After-sum-total}

-- the total is the length of the bytes
total : (c : After-sum-total) → c.sum-total.result ≡ length (bytes_of c.args.numbers.now)
total c = let e : c.sum-total.result ≡ sum_by (λ n. length (groups_of n)) c.args.numbers.now = search rules in e ∙ bytes_sum c.args.numbers.now

pub returns-then-buffer-total : goal.returns-then-buffer-total
returns-then-buffer-total c = writes_short _ c.args.buffer.now (omega (arith, total (goal.at.returns-then-buffer-total c).After-sum-total))

pub loop-n-init : goal.loop-n-init
loop-n-init c = (refl, refl, omega (arith, total (goal.at.loop-n-init c).After-sum-total))

pub put-place-requires : goal.put-place-requires
put-place-requires c = let l = c.loop-n in omega (arith, l.invariant.0, l.invariant.2, length_within c.args.numbers.now l.n-index c.loop-n-test.true)

pub loop-n-preserved : goal.loop-n-preserved
loop-n-preserved c =
    let l = c.loop-n in
    let a = c.args in
    let n = a.numbers.now in
    let p = c.put-place in
    let h = c.loop-n-test.true in (
      omega (arith, p.ensures.0, l.invariant.0, length_next n l.n-index h),
      p.ensures.1 ∙ ap₂ (λ (b : List ℕ) (k : ℕ). sets b k (groups_of (get_or n l.n-index 0))) l.invariant.1 l.invariant.0 ∙ sets_next a.buffer.now n l.n-index h,
      l.invariant.2,
    )

pub returns : goal.returns
returns c =
    let l = c.loop-n in
    let a = c.args in
    let e = take_all l.n-index a.numbers.now c.loop-n-test.false in
    writes_whole (bytes_of a.numbers.now) a.buffer.now l.buffer c.sum-total.result l.invariant.2 (total (goal.at.returns c).After-sum-total) (rw e at l.invariant.1)
