-- `buckets::buckets_ok` meets its contract.
use Rattle.std.proofs.Common.{◌≡◌, length, arith, rules}
use Rattle.lists.proofs.Answers.{no, over}
use Rattle.buckets.specs.Buckets.{Room}
use Rattle.buckets.proofs.Testing.{test_none, test_more, test_bad, test_says}
use Rattle.buckets.proofs.buckets_ok.Goals as goal

pub loop-b-init : goal.loop-b-init
loop-b-init c = test_none _ _ _ _ c.count_in-left.ensures

pub returns-in_default : goal.returns-in_default
returns-in_default c = no (λ p. test_bad _ _ _ _ c.loop-b-test.true c.loop-b.invariant c.in_default.ensures p.chained)

pub loop-b-preserved : goal.loop-b-preserved
loop-b-preserved c = test_more _ _ _ _ c.loop-b.invariant c.in-Some.ensures

pub returns : goal.returns
returns c =
    let v = c.loop-b in
    let e : v.b ≡ length c.args.buckets.now = omega arith in
    let room : Room c.args.keys.now c.args.rows.now (length c.args.buckets.now) c.args.cap = search rules in
    over (λ h. record { room = room; chained = h }) (λ p. p.chained) (test_says _ _ _ _ room.some v.left (rw e at v.invariant))
