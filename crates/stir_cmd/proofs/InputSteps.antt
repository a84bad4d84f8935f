-- The steps of a run over a whole input.
use Rattle.std.proofs.Common.{◌≡◌, ℕ, ◌+◌, ◌<◌, ◌≤◌, ◌⊎◌, inl, inr, List, [], length, Option, Result, Ok, Err, IfOk, refl, sym, ap, subst, arith}
use Rattle.std.specs.Io.KnownBytes.{Consumes, IsAtEnd}
use Rattle.stir_outside.specs.Ending.{memory_line}
use Rattle.stir_outside.specs.Status.{status_number}
use Rattle.stir_outside.specs.Told.{Takes}
use Rattle.stir_cmd.specs.Answer.{Reply}
use Rattle.stir_cmd.specs.Input.{Answering, InputShort, IsSaid, RanInput, TakesAtMost}
use Rattle.stir_cmd.specs.InputCode.{EndsReply, IsGiven, RepliesTo}
use Rattle.stir_cmd.specs.Outside.{Io}

-- ---- an answer is written

pub replies : {E : Type 0} (command : Answering) (bytes : List ℕ) (written written_now : Option (List ℕ)) (writes writes_now status : ℕ) (reply : Result Reply E)
    → IfOk reply (λ r. IsGiven command bytes r.text (status_number r.status)) → EndsReply written written_now writes writes_now status reply
    → RepliesTo command bytes written written_now writes writes_now status
replies command bytes written written_now writes writes_now status (Ok reply) gives ends = record { text = reply.text; said = status_number reply.status; gives = inl gives; ends = ends }
replies command bytes written written_now writes writes_now status (Err wanting) gives ends =
    record { text = memory_line; said = 6; gives = inr (record { line = refl; said = refl }); ends = ends }

pub if_given : {E : Type 0} (command : Answering) (bytes : List ℕ) (reply : Result Reply E) → length bytes ≤ command.most → IfOk reply (λ r. command.Gives bytes r.text (status_number r.status))
    → IfOk reply (λ r. IsGiven command bytes r.text (status_number r.status))
if_given command bytes (Ok reply) short gives = inl (short, gives)
if_given command bytes (Err wanting) short gives = tt

-- ---- the input

pub takes_at_most : (most : ℕ) (left left_now : Option (List ℕ)) (bytes : List ℕ) → Takes left left_now [] bytes → length bytes ≤ most + 1 → TakesAtMost (most + 1) left left_now
takes_at_most most left left_now bytes t short = record { taken = t.taken; from_front = t.from_front; limited = omega (arith, ap length t.behind, short) }

taken_is : (left left_now : Option (List ℕ)) (bytes : List ℕ) → Takes left left_now [] bytes → Consumes left left_now bytes
taken_is left left_now bytes t = let same : bytes ≡ t.taken = t.behind in subst (Consumes left left_now) (sym same) t.from_front

said_by : (command : Answering) (before now : Io) (bytes text : List ℕ) (said : ℕ) → Consumes before.left now.left bytes → (length bytes < command.most + 1 → IsAtEnd now.left)
    → IsGiven command bytes text said ⊎ InputShort text said → IsSaid command before now text said
said_by command before now bytes text said taken ended (inl (inl gives)) =
    inl (inl (record { bytes = bytes; taken = taken; ended = ended (omega (arith, gives.0)); short = gives.0; gives = gives.1 }))
said_by command before now bytes text said taken ended (inl (inr gives)) = inl (inr (record { bytes = bytes; taken = taken; more = gives.0; gives = gives.1 }))
said_by command before now bytes text said taken ended (inr short) = inr (inr short)

pub ran_reply : (command : Answering) (before now : Io) (bytes : List ℕ) (status : ℕ) → Takes before.left now.left [] bytes → length bytes ≤ command.most + 1
    → (length bytes < command.most + 1 → IsAtEnd now.left) → RepliesTo command bytes before.written now.written before.write_faults now.write_faults status → RanInput command before now status
ran_reply command before now bytes status t short ended r = record {
  limited = takes_at_most command.most before.left now.left bytes t short;
  text = r.text;
  said = r.said;
  says = said_by command before now bytes r.text r.said (taken_is before.left now.left bytes t) ended r.gives;
  ends = r.ends;
}
