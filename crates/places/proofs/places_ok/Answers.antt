-- `places::places_ok` meets its contract: a stack within its bounds is a ring from 0 on.
use Rattle.lists.proofs.Answers.{no, failed, passed, over}
use Rattle.places.proofs.Seats.{as_ring, as_stack}
use Rattle.places.proofs.places_ok.Goals as goal

pub returns-then-all_seated : goal.returns-then-all_seated
returns-then-all_seated c =
    let spare = c.cell-spare.ensures in
    let front = c.cell-front.ensures in
    let few = c.cell-count.ensures in
    let short = rw spare at c.if-spare-cap.false in
    over
    (λ gone. record {
      spares = short;
      idle = as_stack _ _ _ _ _ _ short (passed (rw spare at c.all_seated.ensures) c.if-all_seated.true);
      front = rw front at c.if-front-cap.false;
      few = rw few at c.if-count-cap.false;
      gone = gone;
    })
    (λ P. P.gone)
    (rw (front, few) at c.all_seated-then-all_seated.ensures)

pub returns-else-all_seated : goal.returns-else-all_seated
returns-else-all_seated c =
    rw c.if-all_seated.false (no (λ P. failed (rw c.cell-spare.ensures at c.all_seated.ensures) c.if-all_seated.false (as_ring _ _ _ _ _ _ P.spares P.idle)))
