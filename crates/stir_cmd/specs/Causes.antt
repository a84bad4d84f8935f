-- What a run promises, by its words: the course of the command that they order. Running out of memory alone is free.
use Rattle.std.specs.Prelude.{◌≡◌, ◌⊎◌, ℕ, ◌≤◌, List, codes, Option, Some, None}
use Rattle.std.specs.Io.KnownBytes.{Appends}
use Rattle.stir_outside.specs.Ending.{EndsAs, memory_line}
use Rattle.stir_outside.specs.Count.{NotRisen}
use Rattle.stir_words.specs.Order.{AskBy, DivertBy, DrillBy, ExplainBy, OnceBy, OrderView, RetargetBy, ShowCertificates}
use Rattle.stir_words.specs.Order.{SignBy, VerifyBy}
use Rattle.stir_cmd.specs.Outside.{IsUntouched, Outside}
use Rattle.stir_cmd.specs.Course.{Course}
use Rattle.stir_cmd.specs.Claiming.{once_course}
use Rattle.stir_cmd.specs.Drilling.{drill_course}
use Rattle.stir_cmd.specs.Explained.{ask_course, explain_course}
use Rattle.stir_cmd.specs.Gateway.{gateway_course}
use Rattle.stir_cmd.specs.Showing.{show_course}
use Rattle.stir_cmd.specs.Signing.{diverting_command, sign_course, signing_command}
use Rattle.stir_cmd.specs.Stopping.{Front}
use Rattle.stir_cmd.specs.Verifying.{verify_course}

-- ---- no command

-- the words are refused, and nothing was read
pub record WordsRefused (before now : Outside) (status : ℕ) : Type 0 where
  pub untouched : IsUntouched before now
  pub ends : EndsAs before.written now.written before.write_faults now.write_faults status (codes "words refused\n") 2

-- memory ran out for the words, and nothing was read
pub record WordsShort (before now : Outside) (status : ℕ) : Type 0 where
  pub untouched : IsUntouched before now
  pub ends : EndsAs before.written now.written before.write_faults now.write_faults status memory_line 6

abbrev pub IsRefusal : List ℕ → Type 0
IsRefusal line = (line ≡ codes "words refused\n") ⊎ (line ≡ memory_line)

abbrev pub no_course : Course
no_course = record {
  Came = λ before now status. WordsRefused before now status ⊎ WordsShort before now status;
  Done = λ before now status. ⊥;
  Unread = λ before now. ⊥;
  Unwritten = λ before now. Front before now IsRefusal;
  Refused = λ before now. ⊥;
  Short = λ before now. Appends before.written now.written memory_line;
  Answers = λ before now status. NotRisen before.write_faults now.write_faults → (status ≡ 2) ⊎ (status ≡ 6);
  Through = λ before now status. ⊥;
  Says = λ before now status. ⊥;
}

-- ---- the commands

abbrev pub course_of : OrderView → Course
course_of ShowCertificates = show_course
course_of (VerifyBy verifying) = verify_course verifying
course_of (ExplainBy judging) = explain_course judging
course_of (AskBy words) = ask_course words
course_of (SignBy words) = sign_course (signing_command words)
course_of (DivertBy words) = sign_course (diverting_command words)
course_of (RetargetBy words) = gateway_course words
course_of (DrillBy drilling) = drill_course drilling
course_of (OnceBy claiming) = once_course claiming.size

abbrev pub course : Option OrderView → Course
course None = no_course
course (Some order) = course_of order

-- ---- what a run promises

-- what it came to, by the words
abbrev pub Ran : Option OrderView → Outside → Outside → ℕ → Type 0
Ran order before now status = (course order).Came before now status

-- and memory may have run out for the words, whatever they order
abbrev pub RanOrShort : Option OrderView → Outside → Outside → ℕ → Type 0
RanOrShort order before now status = Ran order before now status ⊎ WordsShort before now status

-- each status with its cause
pub record HasCauses (order : Option OrderView) (before now : Outside) (status : ℕ) : Type 0 where
  pub known : status ≤ 6
  pub done : status ≤ 1 → (course order).Done before now status
  pub words : status ≡ 2 → order ≡ None
  pub read : status ≡ 3 → (course order).Unread before now
  pub write : status ≡ 4 → (course order).Unwritten before now
  pub input : status ≡ 5 → (course order).Refused before now
  pub memory : status ≡ 6 → (course order).Short before now

-- if nothing fails outside, what the words, the files and the input ask for comes, or memory ran out
abbrev pub IsComplete : Option OrderView → Outside → Outside → ℕ → Type 0
IsComplete order before now status = (course order).Answers before now status

-- how much of the input was read if it is done
abbrev pub IsThrough : Option OrderView → Outside → Outside → ℕ → Type 0
IsThrough order before now status = (course order).Through before now status

-- what that means in the words of the command's subject
abbrev pub IsSaid : Option OrderView → Outside → Outside → ℕ → Type 0
IsSaid order before now status = (course order).Says before now status
