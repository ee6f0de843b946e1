-- `listing::put_pairs` meets its contract: the pairs so far are put.
use native.Mathlib.Omega.{arith}
use lib.ListN.{length-append}
use Rattle.std.proofs.lemmas.Slice.Zip.{zip_turn, zip_end}
use Rattle.listing.proofs.Putting.{put_none_lem, put_pair, put_all_pairs}
use Rattle.listing.proofs.put_pairs.Goals as goal

pub loop-key-init : goal.loop-key-init
loop-key-init c = put_none_lem _ _

pub loop-key-preserved : goal.loop-key-preserved
loop-key-preserved c =
    let t = zip_turn c.args.keys.now c.args.values.now c.loop-key.yielded c.into_iter-key-iterator.result c.loop-key.key-iterator c.next.new.self _ (cc) (cc) c.loop-key.yielded_by _ c.in-Some.is c.next.ensures.steps in
    put_pair _ _ _ _ (simp length-append (omega arith)) (omega (arith, t)) t c.loop-key.invariant (omega arith) c.put_spaced-middle.ensures (omega arith) c.put_spaced-next.ensures

pub returns : goal.returns
returns c =
    let n = zip_end c.args.keys.now c.args.values.now c.loop-key.yielded c.into_iter-key-iterator.result c.loop-key.key-iterator c.next.new.self _ (cc) (cc) c.loop-key.yielded_by c.in-None.is c.next.ensures.steps in
    put_all_pairs _ _ n c.loop-key.invariant
