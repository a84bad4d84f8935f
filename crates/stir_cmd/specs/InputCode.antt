-- How far a run over a whole input has come: an answer that is to be written.
use Rattle.std.specs.Prelude.{ℕ, ◌≤◌, ◌<◌, ◌⊎◌, List, length, Option, Result, Ok, Err}
use Rattle.stir_outside.specs.Ending.{EndsAs, memory_line}
use Rattle.stir_outside.specs.Status.{status_number}
use Rattle.stir_cmd.specs.Answer.{Reply}
use Rattle.stir_cmd.specs.Input.{Answering, InputShort}

-- an answer is written, and its status given; or there is none since memory ran out, and a line says so
abbrev pub EndsReply : {E : Type 0} → Option (List ℕ) → Option (List ℕ) → ℕ → ℕ → ℕ → Result Reply E → Type 0
EndsReply written written_now writes writes_now result (Ok reply) =
    EndsAs written written_now writes writes_now result reply.text (status_number reply.status)
EndsReply written written_now writes writes_now result (Err wanting) =
    EndsAs written written_now writes writes_now result memory_line 6

-- what is answered to bytes that were taken
abbrev pub IsGiven : Answering → List ℕ → List ℕ → ℕ → Type 0
IsGiven command bytes text status = ((length bytes ≤ command.most) × command.Gives bytes text status)
    ⊎ ((command.most < length bytes) × command.Long text status)

-- it was written, or memory ran out for it
pub record RepliesTo (command : Answering) (bytes : List ℕ) (written written_now : Option (List ℕ))
    (writes writes_now status : ℕ) : Type 0 where
  pub text : List ℕ
  pub said : ℕ
  pub gives : IsGiven command bytes text said ⊎ InputShort text said
  pub ends : EndsAs written written_now writes writes_now status text said
