-- `windows::move_to_front` meets its contract.
use Rattle.std.proofs.Common.{◌-◌, take, drop, arith}
use Rattle.std.proofs.lemmas.Grind.{common_steps, same_number_lists}
use Rattle.windows.proofs.move_to_front.Goals as goal

pub returns : goal.returns
returns c =
    let n = c.args.to - c.args.from in
    same_number_lists (take n c.loop-i.buffer) (take n (drop c.args.from c.args.buffer.now)) (grind (arith, common_steps)) (λ k h. grind (arith, common_steps, c.loop-i.invariant.front k))
