-- `transactions::read_number` meets its contract.
use mathlib.Core.Path.{◌≡◌, refl, sym, ◌∙◌}
use mathlib.Core.Bool.{true≢false}
use native.Mathlib.Omega.{arith}
use Rattle.std.specs.Prelude.{Err}
use Rattle.groups.specs.declared.Unread.TheVariants.{Malformed}
use Rattle.groups.specs.Groups.{Begun, Neither}
use Rattle.groups.proofs.Standing.{stands_same, stands_begun}
use Rattle.transactions.proofs.read_number.Goals as goal

pub returns-in_default : goal.returns-in_default
returns-in_default c =
    let s = c.in-Ok.ensures in (
      refl,
      record {
        none = λ m k t l. let e = (stands_same s t).0 in omega arith;
        final = λ w b. stands_begun s b;
      },
    )

pub returns-in_default-2 : goal.returns-in_default-2
returns-in_default-2 c =
    let b : Begun _ = rw c.in-Err-CutOff.field-0-is at (c.in-Err-CutOff.ensures) in
    (refl, record { none = λ n len s l. stands_begun s b; final = λ w z. true≢false (sym w ∙ c.if-more.false) })

pub returns-in_default-3 : goal.returns-in_default-3
returns-in_default-3 c =
    let e : c.read.result ≡ Err Malformed = cc in
    let b : Neither _ = rw e at c.read.ensures in
    (refl, record { none = λ n len s l. b.none n len s; final = λ w z. b.over z })
