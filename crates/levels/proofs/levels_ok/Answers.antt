-- `levels::levels_ok` meets its contract. The invariant: the levels are linked exactly when what is left from m on is so. The measure is how many nodes may still come.
use Prim.Native.Nat.{◌≤◌, ◌<◌}
use mathlib.Core.Path.{◌≡◌, refl}
use mathlib.Core.List.{◌++◌}
use native.Mathlib.Omega.{arith}
use lib.ListN.{drop, get_or-replicate}
use Rattle.rows.specs.Rows.{heights}
use Rattle.lists.proofs.Answers.{no, failed, passed, over}
use Rattle.levels.specs.Test.{advanced}
use Rattle.levels.proofs.Testing.{filled_advanced, passing_start, passing_many, passing_height, passing_links, passing_on, passing_end}
use Rattle.levels.proofs.levels_ok.Goals as goal
use Rattle.levels.proofs.levels_ok.Goals.{After-follows}

-- the height that was read, and that it is one
known : (c : After-follows)
    →
    let a = c.args in
    let h = heights a.rows.now c.loop-m.m in
    (c.cell-height.result ≡ h) × ((0 < h) × (h ≤ a.levels))
known c =
    let e = c.cell-height.ensures in
    (e, (omega (arith, e, c.if-height-eq0.false), omega (arith, e, c.if-height-levels.false)))

pub loop-m-init : goal.loop-m-init
loop-m-init c = passing_start _ _ _ c.requires _ _ refl (λ k i. get_or-replicate 12 k c.args.cap 0 i) c.link-m.ensures

pub returns-then-left-eq0 : goal.returns-then-left-eq0
returns-then-left-eq0 c = no (passing_many _ _ _ c.requires _ _ _ c.loop-m.invariant c.if-left-eq0.true c.loop-m-test.true)

pub returns-then-height-eq0 : goal.returns-then-height-eq0
returns-then-height-eq0 c = no (λ t. let h = passing_height _ _ _ c.requires _ _ _ c.loop-m.invariant (omega (arith, c.if-left-eq0.false)) c.loop-m-test.true t in omega (arith, h, c.cell-height.ensures, c.then-height-eq0.either))

pub returns-then-not-follows : goal.returns-then-not-follows
returns-then-not-follows c =
    let k = known (goal.at.returns-then-not-follows c).After-follows in
    no (λ t. failed c.follows.ensures c.if-not-follows.true (rw k.0 (passing_links _ _ _ c.requires _ _ _ c.loop-m.invariant (omega (arith, c.if-left-eq0.false)) c.loop-m-test.true t)))

pub loop-m-preserved : goal.loop-m-preserved
loop-m-preserved c =
    let k = known (goal.at.loop-m-preserved c).After-follows in
    let f : c.fill.new.self ++ drop c.cell-height.result c.loop-m.last ≡ advanced c.loop-m.last c.loop-m.m c.cell-height.result =
    rw (c.fill.ensures.after (λ y e. e)) (filled_advanced _ _ _ (omega (arith, c.loop-m.invariant.wide, c.requires.few, k))) in
    rw (c.link-m-in-loop-m.ensures, f, k.0)
    (passing_on _ _ _ c.requires _ _ _ c.loop-m.invariant (omega (arith, c.if-left-eq0.false)) c.loop-m-test.true k.1 (rw k.0 at (passed c.follows.ensures c.if-not-follows.false)))

pub returns : goal.returns
returns c =
    let e = passing_end _ _ _ c.requires _ _ _ c.loop-m.invariant c.loop-m-test.false in
    over e.0 e.1 c.follows-2.ensures
