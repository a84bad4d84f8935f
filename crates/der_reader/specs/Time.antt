-- UTCTime and GeneralizedTime: X.680, sections 46 and 47, in the form of X.690, sections 11.7 and 11.8 and of
-- RFC 5280, section 4.1.2.5, which have seconds, no fraction and the zone Z.
use Rattle.std.specs.Prelude.{◌≡◌, ℕ, ◌+◌, ◌-◌, ◌*◌, ◌/◌, ◌%◌, ◌<◌, ◌≤◌, Bool, ◌&&◌, ◌==◌, List, [], ◌∷◌, ◌++◌, ◌⊎◌}
use Rattle.std.specs.Prelude.{length, drop, nat_lt, nat_le, slice_index, ℤ, Result, Ok, Err, if◌then◌else◌}
use Rattle.std.specs.Borrow.{Bor}
use Rattle.der_reader.specs.declared.moment.Moment.{Moment}
use Rattle.der_reader.specs.declared.fault.DerFault.{DerFault}
use Rattle.der_reader.specs.Fault.{bad_value}
use Rattle.der_reader.specs.Moment.{IsMoment, unix_seconds, seconds_of}
use Rattle.der_reader.specs.Tags.{utc_time_tag, generalized_time_tag}
use Rattle.lists.specs.Steps.{◌>>=◌}

-- a number below 100 as two decimal digits
abbrev pub two : ℕ → List ℕ
two n = (48 + n / 10) ∷ (48 + n % 10) ∷ []

-- `MMDDhhmmssZ`
abbrev pub text_after_year : Moment → List ℕ
text_after_year m =
    two m.month ++ (two m.day ++ (two m.hour ++ (two m.minute ++ (two m.second ++ 90 ∷ []))))

-- `YYMMDDhhmmssZ`: a year of 50 and above is 19yy, otherwise 20yy (RFC 5280, section 4.1.2.5.1)
pub record UtcTimeText (content : List ℕ) (m : Moment) : Type 0 where
  pub from_1950 : 1950 ≤ m.year
  pub to_2049 : m.year < 2050
  pub text : content ≡ two (m.year % 100) ++ text_after_year m

-- `YYYYMMDDhhmmssZ` (RFC 5280, section 4.1.2.5.2)
pub record GeneralizedTimeText (content : List ℕ) (m : Moment) : Type 0 where
  pub text : content ≡ two (m.year / 100) ++ (two (m.year % 100) ++ text_after_year m)

-- the element of this tag and content is a time, which is so many seconds from 1970
pub record TimeText (tag : ℕ) (content : List ℕ) (seconds : ℤ) : Type 0 where
  pub moment : Moment
  pub exists : IsMoment moment
  pub form : ((tag ≡ utc_time_tag) × UtcTimeText content moment)
      ⊎ ((tag ≡ generalized_time_tag) × GeneralizedTimeText content moment)
  pub value : seconds ≡ unix_seconds moment

-- ---- what the readers compute

-- whether a byte is a decimal digit
abbrev pub is_digit : ℕ → Bool
is_digit byte = nat_le 48 byte && nat_le byte 57

-- the number of the two digits that the text begins with, and what follows them
unfoldable pub two_front : List ℕ → Result (ℕ × List ℕ) DerFault
two_front text =
    if nat_le 2 (length text) && is_digit (slice_index text 0) && is_digit (slice_index text 1)
    then Ok ((slice_index text 0 - 48) * 10 + (slice_index text 1 - 48), drop 2 text)
    else Err bad_value

-- month, day, hour, minute and second of a year, up to the Z at the end
unfoldable pub moment_at : ℕ → List ℕ → Result Moment DerFault
moment_at year text = do
  month ← two_front text
  day ← two_front month.1
  hour ← two_front day.1
  minute ← two_front hour.1
  second ← two_front minute.1
  if (length second.1 == 1) && (slice_index second.1 0 == 90)
      then Ok (record {
        year = year;
        month = month.0;
        day = day.0;
        hour = hour.0;
        minute = minute.0;
        second = second.0;
      })
      else Err bad_value

-- the moment of a UTCTime
unfoldable pub utc_moment : List ℕ → Result Moment DerFault
utc_moment text = do
  year ← two_front text
  moment_at (if nat_lt year.0 50 then 2000 + year.0 else 1900 + year.0) year.1

-- the moment of a GeneralizedTime
unfoldable pub generalized_moment : List ℕ → Result Moment DerFault
generalized_moment text = do
  century ← two_front text
  year ← two_front century.1
  moment_at (century.0 * 100 + year.0) year.1

-- the moment of a time of either form
unfoldable pub moment_of : ℕ → List ℕ → Result Moment DerFault
moment_of tag content =
    if tag == utc_time_tag then utc_moment content
    else (if tag == generalized_time_tag then generalized_moment content else Err bad_value)

-- what `Der::time` reads
unfoldable pub time_of : ℕ → List ℕ → Result ℤ DerFault
time_of tag content = do
  moment ← moment_of tag content
  seconds_of moment

-- two digits that were read, as plain data
abbrev pub two_view : Result (ℕ × Bor (List ℕ)) DerFault → Result (ℕ × List ℕ) DerFault
two_view (Ok found) = Ok (found.0, found.1.now)
two_view (Err fault) = Err fault
