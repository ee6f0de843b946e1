-- `lines::put_lines` meets its contract: five cells come, and are those of the next call.
use mathlib.Core.Path.{ap, ◌∙◌}
use Prim.Native.Nat.{◌+◌, ◌≤◌}
use native.Mathlib.Omega.{arith}
use lib.ListN.{length}
use Rattle.std.specs.Slice.Iter.{chunks_exact_rest, chunks_exact_size}
use Rattle.lines.proofs.Sofar.{five_of, sofar_none, code, answer, next_celled, next_keys, next_values, next_told, next_room, next_number, sofar_next, sofar_ends}
use Rattle.lines.proofs.put_lines.Goals as goal

pub loop-call-init : goal.loop-call-init
loop-call-init c =
    let e = c.into_iter-call-iterator.ensures.into_iter_gives in
    let f = c.chunks_exact-call-items.ensures in
    (ap chunks_exact_size e ∙ f.size, λ hs t. rw (ap chunks_exact_rest e ∙ f.rest) (sofar_none t _ _))

pub pair_count-requires : goal.pair_count-requires
pair_count-requires c =
    let t = c.requires.0.told in
    let s = c.loop-call.invariant.1 _ t in
    let f = five_of c.loop-call.invariant.0 c.in-Some.ensures.steps.1 in
    record { code = code t s f; answer = answer t s f; celled = next_celled t s f }

pub overflow_add-end : goal.overflow_add-end
overflow_add-end c =
    let h : c.loop-call.pairs + c.pair_count.result ≤ length c.args.keys.now =
    (let t = c.requires.0.told in
    let s = c.loop-call.invariant.1 _ t in
    let f = five_of c.loop-call.invariant.0 c.in-Some.ensures.steps.1 in
    next_keys t s f (c.pair_count.ensures _ _ (next_celled t s f))) in
    record { fits = omega (arith, c.well_formed) }

pub overflow_add-number : goal.overflow_add-number
overflow_add-number c =
    let t = c.requires.0.told in
    let s = c.loop-call.invariant.1 _ t in
    let f = five_of c.loop-call.invariant.0 c.in-Some.ensures.steps.1 in
    record { fits = next_number t s f (c.pair_count.ensures _ _ (next_celled t s f)) c.requires.2 }

pub offset_bounds-keys-pairs : goal.offset_bounds-keys-pairs
offset_bounds-keys-pairs c =
    let h : c.loop-call.pairs + c.pair_count.result ≤ length c.args.keys.now =
    (let t = c.requires.0.told in
    let s = c.loop-call.invariant.1 _ t in
    let f = five_of c.loop-call.invariant.0 c.in-Some.ensures.steps.1 in
    next_keys t s f (c.pair_count.ensures _ _ (next_celled t s f))) in
    record { fits = omega (arith, c.well_formed) }

pub slice_bounds-put_transaction-end : goal.slice_bounds-put_transaction-end
slice_bounds-put_transaction-end c =
    let t = c.requires.0.told in
    let s = c.loop-call.invariant.1 _ t in
    let f = five_of c.loop-call.invariant.0 c.in-Some.ensures.steps.1 in
    next_keys t s f (c.pair_count.ensures _ _ (next_celled t s f))

pub offset_bounds-values-pairs : goal.offset_bounds-values-pairs
offset_bounds-values-pairs c =
    let h : c.loop-call.pairs + c.pair_count.result ≤ length c.args.values.now =
    (let t = c.requires.0.told in
    let s = c.loop-call.invariant.1 _ t in
    let f = five_of c.loop-call.invariant.0 c.in-Some.ensures.steps.1 in
    next_values t s f (c.pair_count.ensures _ _ (next_celled t s f))) in
    record { fits = omega (arith, c.well_formed) }

pub slice_bounds-put_transaction-end-in-loop-call : goal.slice_bounds-put_transaction-end-in-loop-call
slice_bounds-put_transaction-end-in-loop-call c =
    let t = c.requires.0.told in
    let s = c.loop-call.invariant.1 _ t in
    let f = five_of c.loop-call.invariant.0 c.in-Some.ensures.steps.1 in
    next_values t s f (c.pair_count.ensures _ _ (next_celled t s f))

pub put_transaction-at-requires : goal.put_transaction-at-requires
put_transaction-at-requires c =
    let t = c.requires.0.told in
    let s = c.loop-call.invariant.1 _ t in
    let f = five_of c.loop-call.invariant.0 c.in-Some.ensures.steps.1 in
    let e = c.pair_count.ensures _ _ (next_celled t s f) in
    (record { code = code t s f; answer = answer t s f; told = next_told t s f e }, next_room t s f e c.requires.1 c.loop-call.auto.out)

pub loop-call-preserved : goal.loop-call-preserved
loop-call-preserved c =
    let v = c.loop-call.invariant in
    let f = five_of v.0 c.in-Some.ensures.steps.1 in (
      c.in-Some.ensures.steps.0 ∙ v.0,
      λ hs t. let s = v.1 hs t in let e = c.pair_count.ensures _ _ (next_celled t s f) in sofar_next t s f e c.requires.1 (c.put_transaction-at.ensures _ _ (next_told t s f e)),
    )

pub returns : goal.returns
returns c = λ hs t. sofar_ends t (c.loop-call.invariant.1 hs t) (omega (arith, c.in-None.ensures.steps.1.0, c.loop-call.invariant.0))
