-- Laws of dates and times of day: the tests say what the definitions say.
use Rattle.std.proofs.Common.{◌≡◌, ℕ, ◌<◌, ◌≤◌, Bool, true, false, cond, ◌&&◌, nat_lt, nat_le, ℤ, pos, Result, Ok, Err, IfErr, refl, sym, ap, subst, ◌∙◌, arith}
use Rattle.std.proofs.lemmas.Bool.Decides.{nat_tests}
use Rattle.std.proofs.lemmas.Int.{ints}
use Rattle.jiff_core.specs.Calendar.{IsDate, days_from_civil, days_in_month}
use Rattle.jiff_core.specs.Date.{IsYmd, epoch_day}
use Rattle.jiff_core.specs.declared.civil.date.Date.{Date}
use Rattle.der_reader.specs.declared.moment.Moment.{Moment}
use Rattle.der_reader.specs.declared.fault.DerFault.{DerFault}
use Rattle.der_reader.specs.Fault.{bad_value}
use Rattle.der_reader.specs.Moment.{IsMoment, is_date, is_moment, day_of, seconds_of, unix_seconds}

-- the five tests of a date whose month has k days
abbrev within : ℕ → ℕ → ℕ → ℕ → Bool
within y m d k = nat_le y 9999 && nat_le 1 m && nat_le m 12 && nat_le 1 d && nat_le d k

within_passes : (y m d k : ℕ) → y ≤ 9999 → 1 ≤ m → m ≤ 12 → 1 ≤ d → d ≤ k → within y m d k ≡ true
within_passes y m d k a b c e f = grind (arith, nat_tests)

within_is : (y m d k : ℕ) → within y m d k ≡ true → (y ≤ 9999) × (1 ≤ m) × (m ≤ 12) × (1 ≤ d) × (d ≤ k)
within_is y m d k h = (grind (arith, nat_tests), grind (arith, nat_tests), grind (arith, nat_tests), grind (arith, nat_tests), grind (arith, nat_tests))

-- the test of a date
pub date_passes : (y m d : ℕ) → IsDate (pos y) (pos m) (pos d) → is_date y m d ≡ true
date_passes y m d h =
    within_passes y m d (days_in_month (pos y) m) (omega (arith, ints)) (omega (arith, ints)) (omega (arith, ints)) (omega (arith, ints)) (omega (arith, ints))

pub date_is : (y m d : ℕ) → is_date y m d ≡ true → IsDate (pos y) (pos m) (pos d)
date_is y m d h =
    let w = within_is y m d (days_in_month (pos y) m) h in
    ((omega (arith, ints), omega (arith, ints)), (omega (arith, ints), omega (arith, ints)), (omega (arith, ints), omega (arith, ints)))

-- the day number of a date that there is
pub day_is : (y m d : ℕ) (n : ℤ) → IsDate (pos y) (pos m) (pos d) → n ≡ days_from_civil (pos y) m d
    → ◌≡◌ {A = Result ℤ DerFault} (Ok n) (day_of y m d)
unfolding day_of
day_is y m d n h e =
    ap (λ n. let r : Result ℤ DerFault = Ok n in r) e
    ∙ ap (λ b. let r : Result ℤ DerFault = cond b (Ok (days_from_civil (pos y) m d)) (Err bad_value) in r) (sym (date_passes y m d h))

-- the same of a date that was made of signed numbers
pub day_made : (y m d : ℕ) (sy sm sd : ℤ) (date : Date) (n : ℤ) → sy ≡ pos y → sm ≡ pos m → sd ≡ pos d
    → IsDate sy sm sd → IsYmd sy sm sd date → n ≡ epoch_day date → ◌≡◌ {A = Result ℤ DerFault} (Ok n) (day_of y m d)
day_made y m d sy sm sd date n ey em ed is ymd e =
    let month : pos date.month ≡ pos m = ymd.1 ∙ em in
    let day : pos date.day ≡ pos d = ymd.2 ∙ ed in
    let m' : date.month ≡ m = cc in
    let d' : date.day ≡ d = cc in
    let year : date.year ≡ pos y = ymd.0 ∙ ey in
    let date_is : IsDate (pos y) (pos m) (pos d) =
    subst (λ sd. IsDate (pos y) (pos m) sd) ed (subst (λ sm. IsDate (pos y) sm sd) em (subst (λ sy. IsDate sy sm sd) ey is)) in
    let number : n ≡ days_from_civil (pos y) m d =
    e ∙ ap (λ sy. days_from_civil sy date.month date.day) year
    ∙ ap (λ m. days_from_civil (pos y) m date.day) m' ∙ ap (λ d. days_from_civil (pos y) m d) d' in
    day_is y m d n date_is number

clock_passes : (b : Bool) (h m s : ℕ) → b ≡ true → h < 24 → m < 60 → s < 60
    → b && nat_lt h 24 && nat_lt m 60 && nat_lt s 60 ≡ true
clock_passes b h m s e k l n = grind (arith, nat_tests)

clock_is : (b : Bool) (h m s : ℕ) → b && nat_lt h 24 && nat_lt m 60 && nat_lt s 60 ≡ true
    → (b ≡ true) × (h < 24) × (m < 60) × (s < 60)
clock_is b h m s e = (grind (arith, nat_tests), grind (arith, nat_tests), grind (arith, nat_tests), grind (arith, nat_tests))

pub moment_passes : (m : Moment) → IsMoment m → is_moment m ≡ true
moment_passes m h =
    clock_passes (is_date m.year m.month m.day) m.hour m.minute m.second (date_passes m.year m.month m.day h.date) h.hour h.minute h.second

pub moment_is : (m : Moment) → is_moment m ≡ true → IsMoment m
moment_is m h =
    let c = clock_is (is_date m.year m.month m.day) m.hour m.minute m.second h in
    record { date = date_is m.year m.month m.day c.0; hour = c.1; minute = c.2; second = c.3 }

-- a moment that there is has these seconds
pub seconds_again : (m : Moment) → IsMoment m → seconds_of m ≡ Ok (unix_seconds m)
unfolding seconds_of
seconds_again m h =
    ap (λ b. let r : Result ℤ DerFault = cond b (Ok (unix_seconds m)) (Err bad_value) in r) (moment_passes m h)

-- seconds that come are those of a moment that there is
pub seconds_found : (m : Moment) (s : ℤ) → seconds_of m ≡ Ok s → IsMoment m × (s ≡ unix_seconds m)
unfolding seconds_of
seconds_found m s e = way (is_moment m) refl e
  where
    way : (b : Bool) → is_moment m ≡ b → ◌≡◌ {A = Result ℤ DerFault} (cond b (Ok (unix_seconds m)) (Err bad_value)) (Ok s) → IsMoment m × (s ≡ unix_seconds m)
    way true is e = (moment_is m is, cc)
    way false is e = cc

-- seconds that don't come have the one fault
pub seconds_fault : (m : Moment) (r : Result ℤ DerFault) → r ≡ seconds_of m → IfErr r (λ f. f ≡ bad_value)
unfolding seconds_of
seconds_fault m (Ok s) e = tt
seconds_fault m (Err f) e = way (is_moment m) e
  where
    way : (b : Bool) → ◌≡◌ {A = Result ℤ DerFault} (Err f) (cond b (Ok (unix_seconds m)) (Err bad_value)) → f ≡ bad_value
    way true e = cc
    way false e = cc
