-- `Date::new` gives the date of these numbers.
use Rattle.std.proofs.Common.{◌≡◌, refl, pos, to_z, of_z, w8, w16, w32, arith, ◌∙◌}
use Rattle.std.proofs.lemmas.Int.{ints}
use Rattle.der_reader.proofs.MomentLaws.{day_made}
use Rattle.der_reader.proofs.moment.day_number.Goals as goal

pub returns-in-Ok-clause-value : goal.returns-in-Ok-clause-value
returns-in-Ok-clause-value c =
    let year : to_z w16 c.args.year ≡ pos c.args.year = omega (arith, ints) in
    let month : to_z w8 c.args.month ≡ pos c.args.month = omega (arith, ints) in
    let day : to_z w8 c.args.day ≡ pos c.args.day = omega (arith, ints) in
    let number : to_z w32 (of_z w32 c.to_unix_epoch_day.result) ≡ c.to_unix_epoch_day.result = omega (arith, ints) in
    day_made c.args.year c.args.month c.args.day _ _ _ c.in-Ok.date _ year month day
    (c.in-Ok.ensures.succeeds.0 refl) c.in-Ok.ensures.value (number ∙ c.to_unix_epoch_day.ensures.value)
