-- `groups::read_long` meets its contract.
use Prim.Native.Nat.{◌+◌}
use mathlib.Core.Path.{refl}
use native.Mathlib.Omega.{arith}
use lib.ListN.{drop, length-drop}
use Rattle.groups.proofs.Joining.{byte_in, Long, Highs, first_small, eight, long_of, long_none, top_fits}
use Rattle.groups.proofs.read_long.Goals as goal
use Rattle.groups.proofs.read_long.Goals.{After-from-b9, Then-b8-gt0}

-- what is known once the bytes are read
long : (c : After-from-b9) → Long (drop c.args.at c.args.bytes.now) c.args.first c.from-b3.result c.from-b4.result c.from-b5.result c.from-b6.result c.from-b7.result c.from-b8.result c.from-b9.result
long c =
    let at = c.args.at in
    let bytes = c.args.bytes.now in
    let room = c.requires.0 in
    record {
      led = c.requires.1;
      at3 = byte_in bytes at 3 (at + 3) _ (simp length-drop (omega (arith, room))) refl c.from-b3.ensures (omega (arith, c.type_inv.bytes (at + 3), c.from-b3.ensures));
      at4 = byte_in bytes at 4 (at + 4) _ (simp length-drop (omega (arith, room))) refl c.from-b4.ensures (omega (arith, c.type_inv.bytes (at + 4), c.from-b4.ensures));
      at5 = byte_in bytes at 5 (at + 5) _ (simp length-drop (omega (arith, room))) refl c.from-b5.ensures (omega (arith, c.type_inv.bytes (at + 5), c.from-b5.ensures));
      at6 = byte_in bytes at 6 (at + 6) _ (simp length-drop (omega (arith, room))) refl c.from-b6.ensures (omega (arith, c.type_inv.bytes (at + 6), c.from-b6.ensures));
      at7 = byte_in bytes at 7 (at + 7) _ (simp length-drop (omega (arith, room))) refl c.from-b7.ensures (omega (arith, c.type_inv.bytes (at + 7), c.from-b7.ensures));
      at8 = byte_in bytes at 8 (at + 8) _ (simp length-drop (omega (arith, room))) refl c.from-b8.ensures (omega (arith, c.type_inv.bytes (at + 8), c.from-b8.ensures));
      at9 = byte_in bytes at 9 (at + 9) _ (simp length-drop (omega (arith, room))) refl c.from-b9.ensures (omega (arith, c.type_inv.bytes (at + 9), c.from-b9.ensures));
    }

-- the high bits, in the branch where they are set
highs : (c : Then-b8-gt0) → Highs c.from-b3.result c.from-b4.result c.from-b5.result c.from-b6.result c.from-b7.result
highs c = record {
  set3 = c.if-b3-ge128.true;
  set4 = c.if-b4-ge128.true;
  set5 = c.if-b5-ge128.true;
  set6 = c.if-b6-ge128.true;
  set7 = c.if-b7-ge128.true;
}

pub overflow_mul-top : goal.overflow_mul-top
overflow_mul-top c = let l = long (goal.at.overflow_mul-top c).After-from-b9 in record { fits = omega (arith, top_fits (eight l (highs (goal.at.overflow_mul-top c).Then-b8-gt0)) l.at8 l.at9) }

pub returns-then-top-b9 : goal.returns-then-top-b9
returns-then-top-b9 c = let l = long (goal.at.returns-then-top-b9 c).After-from-b9 in long_none (eight l (highs (goal.at.returns-then-top-b9 c).Then-b8-gt0)) l.at8 l.at9 c.if-top-b9.true

pub join_groups-n-requires : goal.join_groups-n-requires
join_groups-n-requires c =
    let l = long (goal.at.join_groups-n-requires c).After-from-b9 in
    let h = highs (goal.at.join_groups-n-requires c).Then-b8-gt0 in (
      first_small l,
      record { set = h.set3; byte = l.at3.byte },
      record { set = h.set4; byte = l.at4.byte },
      record { set = h.set5; byte = l.at5.byte },
      record { set = h.set6; byte = l.at6.byte },
      record { set = h.set7; byte = l.at7.byte },
      l.at8.byte,
    )

pub returns-then-b8-gt0 : goal.returns-then-b8-gt0
returns-then-b8-gt0 c =
    let l = long (goal.at.returns-then-b8-gt0 c).After-from-b9 in
    rw c.join_groups-n.ensures (long_of (eight l (highs (goal.at.returns-then-b8-gt0 c).Then-b8-gt0)) l.at8 l.at9 c.if-b8-gt0.true c.if-top-b9.false)
