-- The time that a message's header field says (RFC 3261, section 20.17; the three forms of RFC 9110, section 5.6.7, as
-- `httpdate` says them).
use Rattle.std.specs.Prelude.{◌≡◌, ℕ, Bool, List}
use Rattle.httpdate.specs.Date.{IsDateText, unix_secs}
use Rattle.httpdate.specs.declared.date.HttpDate.{HttpDate}
use Rattle.sip_message.specs.FieldNumber.{IsFirst}
use Rattle.sip_message.specs.Message.{FieldView}

-- the text is one of the three forms of a date, which begins at this second of Unix time
pub record ShowsSecond (text : List ℕ) (second : ℕ) : Type 0 where
  pub date : HttpDate
  pub shown : IsDateText text date
  pub second_is : second ≡ unix_secs date

-- the first field with such a name shows this second
pub record IsTimeOf (test : List ℕ → Bool) (fields : List FieldView) (second : ℕ) : Type 0 where
  pub value : List ℕ
  pub first : IsFirst test fields value
  pub shows : ShowsSecond value second
