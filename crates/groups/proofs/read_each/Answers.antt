-- `groups::read_each` meets its contract. The loop's invariant: the bytes behind have their high bits set (`Going`).
use Prim.Native.Nat.{◌+◌, ◌*◌, ◌^◌, ◌<◌}
use mathlib.Core.Path.{sym}
use mathlib.Core.Logic.{inl, inr, ⊎_elim}
use native.Mathlib.Omega.{arith}
use lib.ListN.{drop}
use Rattle.groups.proofs.Scanning as scan
use Rattle.groups.proofs.read_each.Goals as goal
use Rattle.groups.proofs.read_each.Goals.{After-from-byte, Joined-else-count-eq9-2}

-- what is known once a byte is read
at_byte : (c : After-from-byte) → scan.Met (drop c.args.at c.args.bytes.now) c.loop-count.sum c.loop-count.power c.loop-count.count c.from-byte.result
at_byte c =
    let e = c.left-byte-items.ensures in
    record {
      going = c.loop-count.invariant;
      more = rw (← e) c.loop-count-test.true;
      is = rw (← e) (sym c.from-byte.ensures);
      byte = omega (arith, c.from-byte.ensures, c.type_inv.byte-items c.loop-count.count);
    }

-- a last byte fits, whether it is the tenth or comes before it
small : (c : Joined-else-count-eq9-2)
    → scan.Met (drop c.args.at c.args.bytes.now) c.loop-count.sum c.loop-count.power c.loop-count.count c.from-byte.result
    → c.loop-count.sum + c.from-byte.result * c.loop-count.power < 2 ^ 64
small c h = ⊎_elim (λ t. scan.tenth_fits h t.0 t.1) (λ n. scan.early_fits h n c.if-byte-ge128.false) c.else-count-eq9-2.either

pub returns-then-count-eq9 : goal.returns-then-count-eq9
returns-then-count-eq9 c = scan.going_long (at_byte (goal.at.returns-then-count-eq9 c).After-from-byte) c.if-count-eq9.true c.if-byte-ge128.true

pub overflow_mul-sum : goal.overflow_mul-sum
overflow_mul-sum c = record { fits = omega (arith, scan.next_fits (at_byte (goal.at.overflow_mul-sum c).After-from-byte) c.if-count-eq9.false) }

pub overflow_add-sum : goal.overflow_add-sum
overflow_add-sum c =
    let h = at_byte (goal.at.overflow_add-sum c).After-from-byte in
    record { fits = omega (arith, scan.next_fits h c.if-count-eq9.false, scan.going_below h.going, scan.going_small h.going c.if-count-eq9.false) }

pub overflow_mul-power : goal.overflow_mul-power
overflow_mul-power c = record { fits = omega (arith, scan.going_small c.loop-count.invariant c.if-count-eq9.false) }

pub loop-count-preserved : goal.loop-count-preserved
loop-count-preserved c = scan.going_next (at_byte (goal.at.loop-count-preserved c).After-from-byte) c.if-count-eq9.false c.if-byte-ge128.true

pub returns-then-count-gt0 : goal.returns-then-count-gt0
returns-then-count-gt0 c = scan.going_zero (at_byte (goal.at.returns-then-count-gt0 c).After-from-byte) c.if-byte-eq0.true (omega arith)

pub returns-then-byte-gt1 : goal.returns-then-byte-gt1
returns-then-byte-gt1 c = let h = at_byte (goal.at.returns-then-byte-gt1 c).After-from-byte in scan.going_large h (omega arith) (scan.tenth_large h c.if-count-eq9-2.true c.if-byte-gt1.true)

pub overflow_mul-result : goal.overflow_mul-result
overflow_mul-result c = record { fits = omega (arith, small c (at_byte (goal.at.overflow_mul-result c).After-from-byte)) }

pub overflow_add-result : goal.overflow_add-result
overflow_add-result c = record { fits = omega (arith, small c (at_byte (goal.at.overflow_add-result c).After-from-byte)) }

pub returns-in-loop-count : goal.returns-in-loop-count
returns-in-loop-count c =
    let h = at_byte (goal.at.returns-in-loop-count c).After-from-byte in
    scan.going_of h c.if-byte-ge128.false (⊎_elim (λ z. inl (omega arith)) (λ n. inr n) c.else-byte-eq0.either) (small c h)
