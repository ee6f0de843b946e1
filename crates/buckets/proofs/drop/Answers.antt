-- `buckets::drop` meets its contract.
use native.Mathlib.Omega.{arith}
use Rattle.buckets.proofs.Chains.{from_below}
use Rattle.buckets.proofs.Framing.{first_out, later_out}
use Rattle.buckets.proofs.drop.Goals as goal

pub cell-after-requires : goal.cell-after-requires
cell-after-requires c = let r = c.before.requires.reached in (omega (arith, from_below _ _ r.ends _ r.met), omega arith)

pub before-p-requires : goal.before-p-requires
before-p-requires c =
    let r = c.before.before.requires.reached in
    (rw (← c.bucket_of-b.ensures.0) at r, c.if-first-n.false)

pub returns-then-first-n : goal.returns-then-first-n
returns-then-first-n c = first_out _ _ _ _ _ c.bucket_of-b.ensures.0 c.cell-after.ensures c.if-first-n.true

pub returns-else-first-n : goal.returns-else-first-n
returns-else-first-n c =
    later_out _ _ _ _ _ c.put.new.rows
    c.bucket_of-b.ensures.0
    c.cell-after.ensures
    c.if-first-n.false
    c.before-p.ensures.0
    c.put.ensures
