-- `changes::link_in` meets its contract: what each step requires is told of the rows that the steps before it left.
use Rattle.changes.specs.Insert.{stitched_in, linked_in}
use Rattle.changes.proofs.Linking.{link_node, link_stitchable, link_joinable, link_sized, link_room}
use Rattle.changes.proofs.link_in.Goals as goal

pub stitch_in-requires : goal.stitch_in-requires
stitch_in-requires c =
    let a = c.args in
    rw (c.draw-n.ensures.0, c.draw-n.ensures.1, c.search-found.ensures) (link_stitchable a.rank a.counter.0 c.requires)

pub add-requires : goal.add-requires
unfolding stitched_in
add-requires c =
    let a = c.args in
    rw (c.stitch_in.ensures, c.draw-n.ensures.0, c.draw-n.ensures.1, c.search-found.ensures) (link_joinable a.rank a.counter.0 c.requires)

pub make_present-requires : goal.make_present-requires
unfolding stitched_in
make_present-requires c =
    let a = c.args in
    rw (c.add.ensures.0, c.stitch_in.ensures, c.draw-n.ensures.0, c.draw-n.ensures.1, c.search-found.ensures)
    (link_sized a.rank a.counter.0 c.requires, link_node a.rank a.counter.0 c.requires, link_room a.rank a.counter.0 c.requires)

pub returns : goal.returns
unfolding linked_in
returns c =
    let d = c.draw-n in
    record {
      node_is = d.ensures.1;
      to_rows = rw (c.make_present.ensures, c.add.ensures.0, c.stitch_in.ensures, d.ensures.0, d.ensures.1, c.search-found.ensures);
      to_buckets = rw (c.add.ensures.1, d.ensures.1);
    }
