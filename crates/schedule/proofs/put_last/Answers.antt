-- `schedule::put_last` meets its contract.
use Rattle.std.proofs.Common.{arith}
use Rattle.schedule.proofs.Turning.{put_nothing}
use Rattle.schedule.proofs.put_last.Goals as goal

pub returns-then-window : goal.returns-then-window
returns-then-window c = put_nothing c.args.window c.args.end _ _ (grind arith)

pub returns-in-More : goal.returns-in-More
returns-in-More c = put_nothing c.args.window c.args.end _ _ (grind arith)
