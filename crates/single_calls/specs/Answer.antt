-- What a call is answered: its lines, and what they come to.
use Rattle.std.specs.Prelude.{ℕ, ◌+◌, Bool, true, false, ◌&&◌, List, [], ◌∷◌, ◌++◌}
use Rattle.log_run.specs.Batch.{BatchAnswerView}

-- what the lines of a call come to: nothing is wrong with it, it breaks a rule, or a file of certificates couldn't be
-- read and a line says so
pub data CallStatus : Type 0 where
  Well : CallStatus
  Broken : CallStatus
  Unread : CallStatus

-- the text of the lines, each with its LF, and what they come to
pub record AnswerView : Type 0 where
  pub text : List ℕ
  pub finding : CallStatus

abbrev pub found_well : CallStatus → Bool
found_well Well = true
found_well Broken = false
found_well Unread = false

-- nothing is wrong with the call
abbrev pub is_well : AnswerView → Bool
is_well answer = found_well answer.finding

abbrev pub found_unread : CallStatus → ℕ
found_unread Well = 0
found_unread Broken = 0
found_unread Unread = 1

-- how many lines of the call say that a file of certificates couldn't be read: at most one
abbrev pub unread_lines : AnswerView → ℕ
unread_lines answer = found_unread answer.finding

-- as a batch of this call alone
abbrev pub written_of : AnswerView → BatchAnswerView
written_of answer = record { text = answer.text; well = is_well answer }

-- ---- of several calls

abbrev pub all_well : List AnswerView → Bool
all_well [] = true
all_well (answer ∷ others) = is_well answer && all_well others

-- the lines of the calls, one after the other
abbrev pub texts_of : List AnswerView → List ℕ
texts_of [] = []
texts_of (answer ∷ others) = answer.text ++ texts_of others

abbrev pub unread_in : List AnswerView → ℕ
unread_in [] = 0
unread_in (answer ∷ others) = unread_lines answer + unread_in others
