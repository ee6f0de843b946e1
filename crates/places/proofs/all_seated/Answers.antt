-- `places::all_seated` meets its contract: each seat of the ring is a row.
use native.Mathlib.Nat.{lt_of_lt_of_le}
use Rattle.places.proofs.Wraps.{slot_lt}
use Rattle.places.proofs.all_seated.Goals as goal

pub seated-requires : goal.seated-requires
seated-requires c =
    let s = c.requires in
    (s.0, s.1, rw c.wrap.ensures (slot_lt s.2 (lt_of_lt_of_le c.loop-i-test.true s.3)))
