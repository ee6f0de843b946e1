-- `lines::put_lines` meets its contract. The invariant: the lines of the calls passed so far, for every history that the cells and the pairs tell.
use mathlib.Core.Path.{◌≡◌}
use mathlib.Core.List.{List}
use Rattle.std.specs.Slice.Iter.{chunks_exact_rest, chunks_exact_size}
use Rattle.model.specs.Calls.{Call, Answer}
use Rattle.lines.specs.Told.{ToldAll}
use Rattle.lines.proofs.Sofar.{Sofar}
use Rattle.lines.proofs.put_lines.Given as goal

abbrev pub invariant-loop-call : goal.invariant-loop-call
invariant-loop-call l =
    (chunks_exact_size l.call-iterator ≡ 5)
    × ((hs : List (Call × Answer)) → ToldAll hs l.cells l.keys l.values → Sofar hs l.before l.initial.out l.out l.at l.number (chunks_exact_rest l.call-iterator) l.pairs)
