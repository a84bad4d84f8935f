-- How long a call is known again.
use Rattle.std.proofs.Common.{◌≡◌, ℕ, ◌+◌, ◌-◌, ◌≤◌, List, length, Option, Some, None, sym, ap, ◌∙◌, arith}
use Rattle.std.specs.List.{slice_get}
use Rattle.std.specs.Option.{option_map}
use Rattle.passport_claims.specs.Passport.{ClaimsView}
use Rattle.verify_rules.specs.Call.{Reading, passport_in}
use Rattle.verify_rules.specs.Screened.{ScreenedView, iat_or_none, last_of, screened_by}
use Rattle.verify_rules.specs.declared.settings.Settings.{Settings}

iat_by : (o : Option Reading) (p : ClaimsView) → option_map passport_in o ≡ Some p → p.iat ≡ iat_or_none o
iat_by None p e = absurd cc
iat_by (Some one) p e = let same : one.passport ≡ p = cc in ap (λ (x : ClaimsView). x.iat) (sym same)

-- an iat is within the year 9999, and `past` is at most a day
pub last_within : (settings : Settings) (screened : ScreenedView) (count : ℕ) (p : ClaimsView) (iat : ℕ) → screened ≡ screened_by settings screened.readings → count ≡ length screened.readings
    → option_map passport_in (slice_get screened.readings (count - 1)) ≡ Some p → iat ≡ p.iat → iat ≤ 253402300799 → settings.past ≤ 86400 → screened.last ≤ 253402387199
unfolding screened_by
last_within settings screened count p iat is all stands same within past =
    let last : screened.last ≡ iat_or_none (last_of screened.readings) + settings.past = ap (λ (s : ScreenedView). s.last) is in
    let here : iat ≡ iat_or_none (last_of screened.readings) =
    same ∙ iat_by (slice_get screened.readings (count - 1)) p stands ∙ ap (λ k. iat_or_none (slice_get screened.readings (k - 1))) all in
    omega arith

-- what was screened is screened by its own readings
pub by_readings : (settings : Settings) (readings : List Reading) (screened : ScreenedView) → screened ≡ screened_by settings readings → screened ≡ screened_by settings screened.readings
unfolding screened_by
by_readings settings readings screened is = is ∙ ap (screened_by settings) (sym (ap (λ (s : ScreenedView). s.readings) is))
