-- `batch::take_call` meets its contract: a turn in the next places.
use Prim.Native.Nat.{◌+◌, ◌-◌}
use native.Mathlib.Omega.{arith}
use Rattle.batch.proofs.Laying.{turn_laid}
use Rattle.batch.proofs.take_call.Goals as goal

pub returns : goal.returns
returns c = turn_laid c.args.answers.now c.args.out_keys.now c.args.out_values.now c.requires.1 (c.args.pairs + 64 - c.args.pairs) (omega arith) c.make_call-reply.ensures c.put_cells.ensures
