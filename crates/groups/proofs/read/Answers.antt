-- `groups::read` meets its contract.
use Prim.Native.Nat.{◌+◌}
use mathlib.Core.Path.{refl}
use mathlib.Core.Logic.{inr}
use native.Mathlib.Omega.{arith}
use lib.ListN.{drop, length-drop}
use Rattle.groups.proofs.Scanning as scan
use Rattle.groups.proofs.Joining.{Byte, byte_in, met, first_met, led_one, led_two, led_three}
use Rattle.groups.proofs.read.Goals as goal
use Rattle.groups.proofs.read.Goals.{After-from-b0, After-from-b1, After-from-b2}

-- the bytes, once they are read
byte0 : (c : After-from-b0) → Byte (drop c.args.at c.args.bytes.now) 0 c.from-b0.result
byte0 c =
    let at = c.args.at in
    byte_in c.args.bytes.now at 0 (at) _ (simp length-drop (omega arith)) (omega arith) c.from-b0.ensures (omega (arith, c.type_inv.bytes (at), c.from-b0.ensures))

byte1 : (c : After-from-b1) → Byte (drop c.args.at c.args.bytes.now) 1 c.from-b1.result
byte1 c =
    let at = c.args.at in
    byte_in c.args.bytes.now at 1 (at + 1) _ (simp length-drop (omega arith)) (refl) c.from-b1.ensures (omega (arith, c.type_inv.bytes (at + 1), c.from-b1.ensures))

byte2 : (c : After-from-b2) → Byte (drop c.args.at c.args.bytes.now) 2 c.from-b2.result
byte2 c =
    let at = c.args.at in
    byte_in c.args.bytes.now at 2 (at + 2) _ (simp length-drop (omega arith)) (refl) c.from-b2.ensures (omega (arith, c.type_inv.bytes (at + 2), c.from-b2.ensures))

pub returns-then-b0-lt128 : goal.returns-then-b0-lt128
returns-then-b0-lt128 c = scan.going_one (first_met (byte0 (goal.at.returns-then-b0-lt128 c).After-from-b0)) c.if-b0-lt128.true refl

pub returns-then-b1-eq0 : goal.returns-then-b1-eq0
returns-then-b1-eq0 c =
    let x = byte0 (goal.at.returns-then-b1-eq0 c).After-from-b0 in let y = byte1 (goal.at.returns-then-b1-eq0 c).After-from-b1 in let g = led_one x c.if-b0-lt128.false in
    scan.going_zero (met g y) c.if-b1-eq0.true (λ q. omega arith)

pub returns-then-b1-lt128 : goal.returns-then-b1-lt128
returns-then-b1-lt128 c =
    let x = byte0 (goal.at.returns-then-b1-lt128 c).After-from-b0 in let y = byte1 (goal.at.returns-then-b1-lt128 c).After-from-b1 in let g = led_one x c.if-b0-lt128.false in
    scan.going_of (met g y) c.if-b1-lt128.true (inr c.if-b1-eq0.false) (omega (arith, x.byte, y.byte))

pub returns-then-b2-eq0 : goal.returns-then-b2-eq0
returns-then-b2-eq0 c =
    let x = byte0 (goal.at.returns-then-b2-eq0 c).After-from-b0 in let y = byte1 (goal.at.returns-then-b2-eq0 c).After-from-b1 in let z = byte2 (goal.at.returns-then-b2-eq0 c).After-from-b2 in let g = led_two x y c.if-b0-lt128.false c.if-b1-lt128.false in
    scan.going_zero (met g z) c.if-b2-eq0.true (λ q. omega arith)

pub returns-then-b2-lt128 : goal.returns-then-b2-lt128
returns-then-b2-lt128 c =
    let x = byte0 (goal.at.returns-then-b2-lt128 c).After-from-b0 in let y = byte1 (goal.at.returns-then-b2-lt128 c).After-from-b1 in let z = byte2 (goal.at.returns-then-b2-lt128 c).After-from-b2 in let g = led_two x y c.if-b0-lt128.false c.if-b1-lt128.false in
    scan.going_of (met g z) c.if-b2-lt128.true (inr c.if-b2-eq0.false) (omega (arith, x.byte, y.byte, z.byte))

pub read_long-requires : goal.read_long-requires
read_long-requires c = (omega arith, led_three (byte0 (goal.at.read_long-requires c).After-from-b0) (byte1 (goal.at.read_long-requires c).After-from-b1) (byte2 (goal.at.read_long-requires c).After-from-b2) c.if-b0-lt128.false c.if-b1-lt128.false c.if-b2-lt128.false)
