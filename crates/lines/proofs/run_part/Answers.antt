-- `lines::run_part` meets its contract.
use mathlib.Core.Path.{sym}
use native.Mathlib.Omega.{arith}
use lib.Seq.{length-take-le}
use Rattle.lines.proofs.Parting.{ran_within, ran_cells, ran_ready, ran_printed}
use Rattle.lines.proofs.run_part.Goals as goal

pub overflow_mul-cells : goal.overflow_mul-cells
overflow_mul-cells c = record { fits = omega (arith, ran_cells c.run_list-batch.ensures (record { answers = c.run_list-batch.auto.answers; keys = c.run_list-batch.auto.out_keys; values = c.run_list-batch.auto.out_values }), c.well_formed) }

pub slice_bounds-put_lines-end : goal.slice_bounds-put_lines-end
slice_bounds-put_lines-end c = (ran_within c.run_list-batch.ensures (record { answers = c.run_list-batch.auto.answers; keys = c.run_list-batch.auto.out_keys; values = c.run_list-batch.auto.out_values })).cells

pub slice_bounds-put_lines-end-2 : goal.slice_bounds-put_lines-end-2
slice_bounds-put_lines-end-2 c = sym (length-take-le _ _ (ran_within c.run_list-batch.ensures (record { answers = c.run_list-batch.auto.answers; keys = c.run_list-batch.auto.out_keys; values = c.run_list-batch.auto.out_values })).cells)

pub slice_bounds-put_lines-end-3 : goal.slice_bounds-put_lines-end-3
slice_bounds-put_lines-end-3 c = (ran_within c.run_list-batch.ensures (record { answers = c.run_list-batch.auto.answers; keys = c.run_list-batch.auto.out_keys; values = c.run_list-batch.auto.out_values })).keys

pub slice_bounds-put_lines-end-4 : goal.slice_bounds-put_lines-end-4
slice_bounds-put_lines-end-4 c = sym (length-take-le _ _ (ran_within c.run_list-batch.ensures (record { answers = c.run_list-batch.auto.answers; keys = c.run_list-batch.auto.out_keys; values = c.run_list-batch.auto.out_values })).keys)

pub slice_bounds-put_lines-end-5 : goal.slice_bounds-put_lines-end-5
slice_bounds-put_lines-end-5 c = (ran_within c.run_list-batch.ensures (record { answers = c.run_list-batch.auto.answers; keys = c.run_list-batch.auto.out_keys; values = c.run_list-batch.auto.out_values })).values

pub slice_bounds-put_lines-end-6 : goal.slice_bounds-put_lines-end-6
slice_bounds-put_lines-end-6 c = sym (length-take-le _ _ (ran_within c.run_list-batch.ensures (record { answers = c.run_list-batch.auto.answers; keys = c.run_list-batch.auto.out_keys; values = c.run_list-batch.auto.out_values })).values)

pub put_lines-length-requires : goal.put_lines-length-requires
put_lines-length-requires c = ran_ready c.run_list-batch.ensures _ c.args.out.now (record { answers = c.run_list-batch.auto.answers; keys = c.run_list-batch.auto.out_keys; values = c.run_list-batch.auto.out_values }) c.requires

pub returns : goal.returns
returns c = ran_printed c.run_list-batch.ensures (record { answers = c.run_list-batch.auto.answers; keys = c.run_list-batch.auto.out_keys; values = c.run_list-batch.auto.out_values }) c.put_lines-length.ensures
