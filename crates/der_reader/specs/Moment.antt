-- A civil date and a time of day in UTC, and the Unix seconds that it is.
use Rattle.std.specs.Prelude.{ℕ, ◌+◌, ◌*◌, ◌<◌, Bool, ◌&&◌, nat_lt, nat_le, ℤ, pos, ◌+ℤ◌, ◌*ℤ◌, Result, Ok, Err}
use Rattle.std.specs.Prelude.{if◌then◌else◌}
use Rattle.jiff_core.specs.Calendar.{IsDate, days_from_civil, days_in_month}
use Rattle.der_reader.specs.declared.moment.Moment.{Moment}
use Rattle.der_reader.specs.declared.fault.DerFault.{DerFault}
use Rattle.der_reader.specs.Fault.{bad_value}

-- The civil date exists, in a year from 0000 to 9999, and so does the time of day, without a leap second.
pub record IsMoment (m : Moment) : Type 0 where
  pub date : IsDate (pos m.year) (pos m.month) (pos m.day)
  pub hour : m.hour < 24
  pub minute : m.minute < 60
  pub second : m.second < 60

-- the civil day number, counted from 1970-01-01, times 86,400, and the seconds of the day
unfoldable pub unix_seconds : Moment → ℤ
unix_seconds m =
    (days_from_civil (pos m.year) m.month m.day *ℤ pos 86400)
    +ℤ pos (m.hour * 3600 + m.minute * 60 + m.second)

-- whether the calendar has this date, in a year from 0000 to 9999
abbrev pub is_date : ℕ → ℕ → ℕ → Bool
is_date year month day =
    nat_le year 9999 && nat_le 1 month && nat_le month 12
    && nat_le 1 day && nat_le day (days_in_month (pos year) month)

-- the day number of a date
unfoldable pub day_of : ℕ → ℕ → ℕ → Result ℤ DerFault
day_of year month day =
    if is_date year month day then Ok (days_from_civil (pos year) month day) else Err bad_value

-- whether there is this date and this time of day
abbrev pub is_moment : Moment → Bool
is_moment m =
    is_date m.year m.month m.day && nat_lt m.hour 24 && nat_lt m.minute 60 && nat_lt m.second 60

-- the Unix seconds of a moment that there is
unfoldable pub seconds_of : Moment → Result ℤ DerFault
seconds_of m = if is_moment m then Ok (unix_seconds m) else Err bad_value
