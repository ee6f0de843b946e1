-- `sizes::remainder_by` meets its contract.
use Rattle.std.proofs.Common.{◌+◌, ◌*◌, ◌%◌, ap, sym, ◌∙◌}
use Rattle.std.proofs.Math.Nat.{add-mod}
use Rattle.std.proofs.lemmas.Nat.{mul-mod_second}
use Rattle.sizes.proofs.remainder_by.Goals as goal

pub returns : goal.returns
returns g c =
    let high = c.args.high in
    let low = c.args.low in
    let m = g.row.M in
    let factor = ap (λ f. (high * f) % m) c.requires.2 ∙ mul-mod_second high 4294967296 m in
    add-mod (high * g.row.FACTOR) low m ∙ ap (λ k. (k + low % m) % m) factor ∙ sym (add-mod (high * 4294967296) low m)
