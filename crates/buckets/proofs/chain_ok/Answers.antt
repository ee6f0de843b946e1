-- `buckets::chain_ok` meets its contract.
use Rattle.std.proofs.Common.{Some, None, sym, ◌∙◌, arith}
use Rattle.buckets.proofs.Walks.{walk_end, walk_more, start_of}
use Rattle.buckets.proofs.chain_ok.Goals as goal
use Rattle.buckets.proofs.chain_ok.Goals.{then-rest-eq0-via-then-rest-eq0, then-rest-eq0-via-else-rest-eq0+then-node-cap, then-rest-eq0-via-else-rest-eq0+else-node-cap+then-cell-ne-IS_PRESENT, then-rest-eq0-via-else-rest-eq0+else-node-cap+else-cell-ne-IS_PRESENT+then-bucket_of-b}

-- a fine chain starts with a node that passes all four tests
pub returns-then-rest-eq0 : goal.returns-then-rest-eq0
returns-then-rest-eq0 c =
    c.loop-node.invariant None
    (λ xs f l.
    let s = start_of _ _ _ f c.loop-node-test.true in
    let some = s.some in
    let node = s.node in
    elim c.then-rest-eq0.branch [
      | then-rest-eq0-via-then-rest-eq0 w ↦ omega arith
      | then-rest-eq0-via-else-rest-eq0+then-node-cap w ↦ omega arith
      | then-rest-eq0-via-else-rest-eq0+else-node-cap+then-cell-ne-IS_PRESENT w ↦ w.if-cell-ne-IS_PRESENT.true (w.cell.ensures ∙ s.ok.0)
      | then-rest-eq0-via-else-rest-eq0+else-node-cap+else-cell-ne-IS_PRESENT+then-bucket_of-b w ↦ w.if-bucket_of-b.true (w.bucket_of.ensures.0 ∙ s.ok.1)
    ])

pub loop-node-preserved : goal.loop-node-preserved
loop-node-preserved c =
    let v = c.loop-node in
    let p = sym c.cell.ensures ∙ c.if-cell-ne-IS_PRESENT.false in
    let q = sym c.bucket_of.ensures.0 ∙ c.if-bucket_of-b.false in
    rw c.cell-node.ensures (λ w h. v.invariant w (walk_more _ _ _ v.node v.rest (omega arith) (p, q) (omega arith) w h))

pub returns : goal.returns
returns c = c.loop-node.invariant (Some _) (walk_end _ _ _ _ c.loop-node-test.false)
