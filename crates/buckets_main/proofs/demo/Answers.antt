-- `buckets_main::demo` meets its contract.
use mathlib.Core.Path.{sym, ◌∙◌}
use native.Mathlib.Omega.{arith}
use Rattle.buckets.proofs.Finding.{found_at}
use Rattle.buckets.proofs.Keeping.{joinable, on_chain}
use Rattle.buckets_main.proofs.Steps.{row_count, cleared, joined, dropped}
use Rattle.buckets_main.proofs.demo.Goals as goal

pub add-requires : goal.add-requires
add-requires c = joinable _ _ _ _ (cleared _ _ _ _ c.requires c.clear.ensures) 3 (omega arith)

pub put-requires : goal.put-requires
put-requires c = (omega (arith, row_count _ c.requires.rowed), omega arith)

pub find-requires : goal.find-requires
find-requires c = (joined _ _ _ c.requires _ _ _ _ _ c.clear.ensures c.add.ensures c.put.ensures).table

pub returns-then-ne : goal.returns-then-ne
returns-then-ne c =
    let j = joined _ _ _ c.requires _ _ _ _ _ c.clear.ensures c.add.ensures c.put.ensures in
    let e = c.find.ensures ∙ found_at _ _ _ _ j.table _ 3 j.only j.held in
    sym (rw e at c.ne.ensures) ∙ c.if-ne.true

pub drop-requires : goal.drop-requires
drop-requires c = let j = joined _ _ _ c.requires _ _ _ _ _ c.clear.ensures c.add.ensures c.put.ensures in on_chain _ _ _ _ j.table _ 3 j.held

pub put-requires-2 : goal.put-requires-2
put-requires-2 c = (omega (arith, (joined _ _ _ c.requires _ _ _ _ _ c.clear.ensures c.add.ensures c.put.ensures).rowed), omega arith)

pub returns : goal.returns
returns c = c.buckets_ok.ensures.told (dropped _ _ _ _ (joined _ _ _ c.requires _ _ _ _ _ c.clear.ensures c.add.ensures c.put.ensures) _ _ _ c.drop.ensures c.put-2.ensures)
