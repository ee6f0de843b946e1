-- `buckets::add` meets its contract.
use mathlib.Core.Path.{◌∙◌}
use Rattle.buckets.specs.Changes.{rows_with, buckets_with}
use Rattle.buckets.proofs.add.Goals as goal

pub returns : goal.returns
unfolding rows_with buckets_with
returns c =
    let e = c.bucket_of-b.ensures.0 in
    (c.put.ensures ∙ rw e, rw e)
