-- `windows::fetch` meets its contract.
use Rattle.std.proofs.Common.{◌≡◌, ◌≤◌, length, take, refl, arith}
use borrow.Author.Tests.{ltb-false}
use Rattle.windows.specs.Windows.{held_in}
use Rattle.windows.proofs.Fetching.{fetched, came}
use Rattle.windows.proofs.fetch.Goals as goal

pub returns : goal.returns
returns g c =
    let moved = c.move_to_front.new.buffer in
    let got = c.read.new.buf in
    let n = c.in_ok-count.count in
    let h = c.if-not-readable.ensures.holds refl in
    let f : take c.count-held.result moved ≡ held_in c.args.window c.args.input.now = rw c.count-held.ensures c.move_to_front.ensures in
    let i : n ≤ length got = omega (arith, c.in_ok-count.ensures.bound) in
    record {
      fetched = fetched c.args.input.now moved got _ c.count-held.ensures h c.move_to_front.auto.buffer f i c.read.auto.buf (omega arith) (omega arith);
      came = (
        rw (came c.args.input.now moved got _ c.count-held.ensures h c.move_to_front.auto.buffer f i c.in-Some.read) c.in_ok-count.ensures.bytes.0,
        λ e. c.in_ok-count.ensures.bytes.1 (omega (arith, ltb-false 0 n e)) (omega arith),
      );
    }
