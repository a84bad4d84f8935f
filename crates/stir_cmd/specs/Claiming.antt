-- The command `once`: which tickets the input has, and what came of them.
use Rattle.std.specs.Prelude.{◌≡◌, ℕ, ◌⊎◌, List}
use Rattle.std.specs.Io.KnownBytes.{Appends, Consumes, IsAtEnd}
use Rattle.live_desk.specs.declared.claim.LiveClaim.{LiveClaim}
use Rattle.log_run.specs.Ending.{report_status}
use Rattle.once_run.specs.Claims.{AreClaims}
use Rattle.once_run.specs.Lines.{all_won, claim_lines}
use Rattle.once_run.specs.TicketText.{IsBadLine, TicketText}
use Rattle.stir_cmd.specs.Answer.{long_line, refused_input}
use Rattle.stir_cmd.specs.Course.{Course}
use Rattle.stir_cmd.specs.Input.{Answering, answering_by, input_course}
use Rattle.stir_cmd.specs.Outside.{Io, io_in}

-- The bytes are a text of tickets, and this is a line for each, of what came of them on a desk with so many slots a
-- level. The status is 0 if each was won, and else 1
pub record ClaimsTickets (size : ℕ) (bytes text : List ℕ) (status : ℕ) : Type 0 where
  pub tickets : List (List ℕ)
  pub claims : List LiveClaim
  pub read : TicketText bytes tickets
  pub are : AreClaims size tickets claims
  pub lines : text ≡ claim_lines claims
  pub said : status ≡ report_status (all_won claims)

-- the bytes have a bad line, whose number is said
pub record RefusesTickets (bytes text : List ℕ) (status : ℕ) : Type 0 where
  pub number : ℕ
  pub bad : IsBadLine bytes number
  pub line : text ≡ (refused_input number).text
  pub said : status ≡ 5

abbrev pub OnceGives : ℕ → List ℕ → List ℕ → ℕ → Type 0
OnceGives size bytes text status = ClaimsTickets size bytes text status ⊎ RefusesTickets bytes text status

-- more bytes than an input may have
abbrev pub OnceRefuses : List ℕ → ℕ → Type 0
OnceRefuses text status = (text ≡ long_line) × (status ≡ 5)

-- an input of at most 67,108,864 bytes
abbrev pub once_answering : ℕ → Answering
once_answering size = answering_by 67108864 (OnceGives size) OnceRefuses

-- the input was read to its end, its tickets were claimed, and a line for each was written
pub record ClaimedInput (size : ℕ) (before now : Io) (status : ℕ) : Type 0 where
  pub bytes : List ℕ
  pub text : List ℕ
  pub taken : Consumes before.left now.left bytes
  pub ended : IsAtEnd now.left
  pub claims : ClaimsTickets size bytes text status
  pub reported : Appends before.written now.written text

-- what `once` promises
abbrev pub once_course : ℕ → Course
once_course size = record {
  Came = (input_course (once_answering size)).Came;
  Done = λ before now status. ClaimedInput size (io_in before) (io_in now) status;
  Unread = (input_course (once_answering size)).Unread;
  Unwritten = (input_course (once_answering size)).Unwritten;
  Refused = (input_course (once_answering size)).Refused;
  Short = (input_course (once_answering size)).Short;
  Answers = (input_course (once_answering size)).Answers;
  Through = λ before now status. IsAtEnd now.left;
  Says = λ before now status. ClaimedInput size (io_in before) (io_in now) status;
}
