-- Commands over a whole input: it is read to its end, or as far as to show that it is too long, and then one answer
-- comes, a text and a status. `show` is such a command, and `sign`, `divert` and `retarget` are after their files (this
-- project's own rule).
use Rattle.std.specs.Prelude.{◌≡◌, ℕ, ◌+◌, ◌≤◌, ◌<◌, ◌⊎◌, List, length, Option, Some}
use Rattle.std.specs.Io.KnownBytes.{Appends, Consumes, IsAtEnd}
use Rattle.log_run.specs.Ending.{failed_line}
use Rattle.stir_outside.specs.Count.{Rose}
use Rattle.stir_outside.specs.Ending.{EndsAs, memory_line}
use Rattle.stir_cmd.specs.Course.{Course}
use Rattle.stir_cmd.specs.Outside.{Io, Outside, io_in}
use Rattle.stir_cmd.specs.Stopping.{Front, IsQuiet}

-- what such a command answers
pub record Answering : Type 1 where
  -- the most bytes that an input may have
  pub most : ℕ
  -- to an input of these bytes this text and status may be answered
  pub Gives : List ℕ → List ℕ → ℕ → Type 0
  -- .. and to one that is longer
  pub Long : List ℕ → ℕ → Type 0

abbrev pub answering_by : ℕ → (List ℕ → List ℕ → ℕ → Type 0) → (List ℕ → ℕ → Type 0) → Answering
answering_by limit answers refuses = record { most = limit; Gives = answers; Long = refuses }

-- ---- the answers

-- at most so many bytes were taken
pub record TakesAtMost (limit : ℕ) (left left_now : Option (List ℕ)) : Type 0 where
  pub taken : List ℕ
  pub from_front : Consumes left left_now taken
  pub limited : length taken ≤ limit

-- the input was read to its end, is no longer than it may be, and this was answered
pub record Replied (command : Answering) (before now : Io) (text : List ℕ) (status : ℕ) : Type 0 where
  pub bytes : List ℕ
  pub taken : Consumes before.left now.left bytes
  pub ended : IsAtEnd now.left
  pub short : length bytes ≤ command.most
  pub gives : command.Gives bytes text status

-- more bytes were taken than the input may have, and this was answered
pub record RepliedLong (command : Answering) (before now : Io) (text : List ℕ) (status : ℕ) : Type 0 where
  pub bytes : List ℕ
  pub taken : Consumes before.left now.left bytes
  pub more : command.most < length bytes
  pub gives : command.Long text status

abbrev pub IsReply : Answering → Io → Io → List ℕ → ℕ → Type 0
IsReply command before now text status =
    Replied command before now text status ⊎ RepliedLong command before now text status

-- the input couldn't be read
pub record InputFailed (before now : Io) (text : List ℕ) (status : ℕ) : Type 0 where
  pub rose : Rose before.read_faults now.read_faults
  pub line : text ≡ failed_line
  pub said : status ≡ 3

-- memory ran out
pub record InputShort (text : List ℕ) (status : ℕ) : Type 0 where
  pub line : text ≡ memory_line
  pub said : status ≡ 6

abbrev pub IsSaid : Answering → Io → Io → List ℕ → ℕ → Type 0
IsSaid command before now text status =
    IsReply command before now text status ⊎ (InputFailed before now text status ⊎ InputShort text status)

-- what a run came to: of the input no more was taken than the longest and one byte, and the text was written, or a
-- prefix of it
pub record RanInput (command : Answering) (before now : Io) (status : ℕ) : Type 0 where
  pub limited : TakesAtMost (command.most + 1) before.left now.left
  pub text : List ℕ
  pub said : ℕ
  pub says : IsSaid command before now text said
  pub ends : EndsAs before.written now.written before.write_faults now.write_faults status text said

-- ---- the course

-- an answer was written
pub record Answered (command : Answering) (before now : Io) (status : ℕ) : Type 0 where
  pub text : List ℕ
  pub reply : IsReply command before now text status
  pub reported : Appends before.written now.written text

-- 3: the input couldn't be read, and a line says so
pub record FailedInput (before now : Io) : Type 0 where
  pub rose : Rose before.read_faults now.read_faults
  pub reported : Appends before.written now.written failed_line

-- what was to be written
abbrev pub IsText : Answering → Io → Io → List ℕ → Type 0
IsText command before now text = (said : ℕ) × IsSaid command before now text said

-- this status may be answered to these bytes
abbrev pub MayGive : Answering → List ℕ → ℕ → Type 0
MayGive command bytes status = (text : List ℕ) × command.Gives bytes text status

abbrev pub MayRefuse : Answering → ℕ → Type 0
MayRefuse command status = (text : List ℕ) × command.Long text status

-- which status comes, if the bytes of the input are told and nothing fails outside
pub record InputComplete (command : Answering) (before now : Outside) (status : ℕ) : Type 0 where
  pub short : (bytes : List ℕ) → before.left ≡ Some bytes → length bytes ≤ command.most → IsQuiet before now
      → MayGive command bytes status ⊎ (status ≡ 6)
  pub long : (bytes : List ℕ) → before.left ≡ Some bytes → command.most < length bytes → IsQuiet before now
      → MayRefuse command status ⊎ (status ≡ 6)

-- the input was read to its end, or is too long, and is refused for that
abbrev pub InputThrough : Answering → Io → Io → ℕ → Type 0
InputThrough command before now status =
    IsAtEnd now.left ⊎ ((text : List ℕ) × RepliedLong command before now text status)

-- no file was read, and this is what a run came to
pub record CameInput (command : Answering) (before now : Outside) (status : ℕ) : Type 0 where
  pub counts : now.counts ≡ before.counts
  pub ran : RanInput command (io_in before) (io_in now) status

abbrev pub input_course : Answering → Course
input_course command = record {
  Came = CameInput command;
  Done = λ before now status. Answered command (io_in before) (io_in now) status;
  Unread = λ before now. FailedInput (io_in before) (io_in now);
  Unwritten = λ before now. Front before now (IsText command (io_in before) (io_in now));
  Refused = λ before now. Answered command (io_in before) (io_in now) 5;
  Short = λ before now. Appends before.written now.written memory_line;
  Answers = InputComplete command;
  Through = λ before now status. InputThrough command (io_in before) (io_in now) status;
  Says = λ before now status. Answered command (io_in before) (io_in now) status;
}

-- The same of a command that reads files for its answer: what it may answer is said by what is around the program
-- before it and after it.
abbrev pub shelf_course : (Outside → Outside → Answering) → Course
shelf_course command = record {
  Came = λ before now status. RanInput (command before now) (io_in before) (io_in now) status;
  Done = λ before now status. Answered (command before now) (io_in before) (io_in now) status;
  Unread = λ before now. FailedInput (io_in before) (io_in now);
  Unwritten = λ before now. Front before now (IsText (command before now) (io_in before) (io_in now));
  Refused = λ before now. Answered (command before now) (io_in before) (io_in now) 5;
  Short = λ before now. Appends before.written now.written memory_line;
  Answers = λ before now status. InputComplete (command before now) before now status;
  Through = λ before now status. InputThrough (command before now) (io_in before) (io_in now) status;
  Says = λ before now status. Answered (command before now) (io_in before) (io_in now) status;
}
