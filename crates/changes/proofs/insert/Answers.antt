-- `changes::insert` meets its contract: one law for each return.
use Rattle.std.specs.Prelude.{Ok}
use mathlib.Core.Path.{refl, sym, ap, ◌∙◌}
use native.Mathlib.Omega.{arith}
use mir.Syntax.{w64}
use mir.ValLaws.{to_z-of_z}
use Rattle.tables.specs.Tables.{node}
use Rattle.changes.proofs.Cases.{insert_few, insert_sized, insert_linkable, insert_at, spare_is, insert_present, insert_full, insert_takes, rank_is, find_is, some_is, none_is}
use Rattle.changes.proofs.insert.Goals as goal

pub overflow_cast-cap : goal.overflow_cast-cap
overflow_cast-cap c = omega (arith, insert_few c.requires)

pub returns-then-is_some : goal.returns-then-is_some
returns-then-is_some c =
    let a = c.args in
    let r = rank_is a.key c.ranges.key c.rank-rank.ensures in
    let e = find_is _ _ _ a.key c.find.ensures r (some_is _ (sym c.is_some.ensures ∙ c.if-is_some.true)).1 in
    record { answer = sym (insert_present _ _ _ a.key _ e); to_keys = refl; to_values = refl; to_rows = refl; to_buckets = refl }

pub free_count-requires : goal.free_count-requires
free_count-requires c = insert_sized c.requires

pub returns-then-free_count-eq0 : goal.returns-then-free_count-eq0
returns-then-free_count-eq0 c =
    let a = c.args in
    let r = rank_is a.key c.ranges.key c.rank-rank.ensures in
    let e = find_is _ _ _ a.key c.find.ensures r (none_is _ (sym c.is_some.ensures ∙ c.if-is_some.false)) in
    record { answer = sym (insert_full _ _ _ a.key e (sym c.free_count.ensures ∙ c.if-free_count-eq0.true)); to_keys = refl; to_values = refl; to_rows = refl; to_buckets = refl }

pub link_in-n-requires : goal.link_in-n-requires
link_in-n-requires c =
    let a = c.args in
    let some = spare_is _ _ c.free_count.ensures c.if-free_count-eq0.false in
    insert_linkable c.requires a.coin c.levels_of-levels.ensures c.height_of-height.ensures some

pub bounds-keys-at : goal.bounds-keys-at
bounds-keys-at c =
    let some = spare_is _ _ c.free_count.ensures c.if-free_count-eq0.false in
    (insert_at c.requires refl c.link_in-n.ensures.node_is some).0

pub bounds-values-at : goal.bounds-values-at
bounds-values-at c =
    let some = spare_is _ _ c.free_count.ensures c.if-free_count-eq0.false in
    (insert_at c.requires refl c.link_in-n.ensures.node_is some).1

pub returns : goal.returns
returns c =
    let a = c.args in
    let r = rank_is a.key c.ranges.key c.rank-rank.ensures in
    let e = find_is _ _ _ a.key c.find.ensures r (none_is _ (sym c.is_some.ensures ∙ c.if-is_some.false)) in
    let some = spare_is _ _ c.free_count.ensures c.if-free_count-eq0.false in
    let l = c.link_in-n.ensures in
    let n = l.node_is in
    record {
      answer = ap (λ i. Ok (node i)) n ∙ sym (insert_takes _ _ _ a.key e some);
      to_keys = rw r;
      to_values = rw (to_z-of_z w64 a.value c.ranges.value);
      to_rows = rw (l.to_rows, c.height_of-height.ensures, c.levels_of-levels.ensures, r);
      to_buckets = rw (l.to_buckets, n, r);
    }
