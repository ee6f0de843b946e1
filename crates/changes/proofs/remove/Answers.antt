-- `changes::remove` meets its contract.
use mathlib.Core.Path.{refl, sym}
use native.Mathlib.Omega.{arith}
use Rattle.changes.specs.Remove.{taken_out}
use Rattle.changes.proofs.Leaving.{take_reaches, take_row, take_sized, take_some}
use Rattle.changes.proofs.Cases.{remove_finds, remove_lacks, remove_holds, rank_is, find_is}
use Rattle.changes.proofs.remove.Goals as goal

pub drop-requires : goal.drop-requires
drop-requires c =
    let h = remove_holds c.requires c.find.ensures c.in-Some.is in
    take_reaches c.args.counter.0 c.requires h

pub put-requires : goal.put-requires
put-requires c =
    let h = remove_holds c.requires c.find.ensures c.in-Some.is in
    rw c.drop.ensures.0 (take_row c.args.counter.0 c.requires h, omega arith)

pub make_pending-requires : goal.make_pending-requires
make_pending-requires c =
    let h = remove_holds c.requires c.find.ensures c.in-Some.is in
    rw (c.put.ensures, c.drop.ensures.0) (take_sized c.args.counter.0 c.requires h, h.node, take_some c.args.counter.0 c.requires h)

pub returns : goal.returns
unfolding taken_out
returns c =
    let a = c.args in
    let r = rank_is a.key c.ranges.key c.rank-rank.ensures in
    let e = find_is _ _ _ a.key c.find.ensures r c.in-Some.is in
    record {
      answer = sym (remove_finds _ _ _ a.key _ e);
      to_rows = rw (c.make_pending.ensures, c.put.ensures, c.drop.ensures.0, r);
      to_buckets = rw (c.drop.ensures.1, r);
    }

pub returns-in_default : goal.returns-in_default
returns-in_default c =
    let a = c.args in
    let r = rank_is a.key c.ranges.key c.rank-rank.ensures in
    let e = find_is _ _ _ a.key c.find.ensures r c.in_default.is in
    record { answer = sym (remove_lacks _ _ _ a.key e); to_rows = refl; to_buckets = refl }
