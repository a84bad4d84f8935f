-- What a command over a whole input promises, from what it came to.
use Rattle.std.proofs.Common.{◌≡◌, ℕ, ◌+◌, ◌<◌, ◌≤◌, ◌⊎◌, inl, inr, List, [], ◌++◌, length, Option, Some, None, refl, sym, ◌∙◌, ap, subst, arith, append-nil, length-append}
use Rattle.std.specs.Io.KnownBytes.{Appends, Consumes, IsAtEnd}
use Rattle.stir_outside.proofs.CountLaws.{not_rose}
use Rattle.stir_outside.specs.Ending.{EndsAs, memory_line}
use Rattle.stir_cmd.specs.Input.{Answered, Answering, CameInput, InputComplete, InputThrough, IsReply, IsSaid, MayGive, MayRefuse, RanInput, TakesAtMost, input_course, shelf_course}
use Rattle.stir_cmd.specs.Outside.{Io, IsUntouched, Outside, io_in}
use Rattle.stir_cmd.specs.Stopping.{Ends, IsQuiet}
use Rattle.stir_cmd.proofs.Keeps.{CausesIn, Keeps, KeepsAll}
use Rattle.stir_cmd.proofs.StatusCauses.{at_done, at_input, at_memory, at_read, at_write}

-- what such a command answers ends with 0, 1 or 5
abbrev pub IsAnswer : ℕ → Type 0
IsAnswer status = (status ≤ 1) ⊎ (status ≡ 5)

pub record Decides (command : Answering) : Type 0 where
  pub gives : (bytes text : List ℕ) (status : ℕ) → command.Gives bytes text status → IsAnswer status
  pub refuses : (text : List ℕ) (status : ℕ) → command.Long text status → IsAnswer status

reply_status : (command : Answering) → Decides command → (before now : Io) (text : List ℕ) (status : ℕ) → IsReply command before now text status → IsAnswer status
reply_status command d before now text status (inl r) = d.gives r.bytes text status r.gives
reply_status command d before now text status (inr r) = d.refuses text status r.gives

-- ---- the causes

answered : (command : Answering) (before now : Io) (status said : ℕ) (text : List ℕ) → IsReply command before now text said → status ≡ said → Appends before.written now.written text → Answered command before now status
answered command before now status said text reply e reported =
    record { text = text; reply = subst (λ (n : ℕ). IsReply command before now text n) (sym e) reply; reported = reported }

by_answer : (command : Answering) (before now : Outside) (status : ℕ) → IsAnswer status → Answered command (io_in before) (io_in now) status → CausesIn (input_course command) before now status
by_answer command before now status (inl low) a = at_done status low a
by_answer command before now status (inr five) a = at_input status five (subst (λ (n : ℕ). Answered command (io_in before) (io_in now) n) five a)

by_said : (command : Answering) → Decides command → (before now : Outside) (status said : ℕ) (text : List ℕ) → IsSaid command (io_in before) (io_in now) text said → status ≡ said
    → Appends before.written now.written text → CausesIn (input_course command) before now status
by_said command d before now status said text (inl reply) e reported =
    by_answer command before now status (subst IsAnswer (sym e) (reply_status command d (io_in before) (io_in now) text said reply))
    (answered command (io_in before) (io_in now) status said text reply e reported)
by_said command d before now status said text (inr (inl failed)) e reported =
    at_read status (e ∙ failed.said) (record { rose = failed.rose; reported = subst (Appends before.written now.written) failed.line reported })
by_said command d before now status said text (inr (inr short)) e reported = at_memory status (e ∙ short.said) (subst (Appends before.written now.written) short.line reported)

causes_by : (command : Answering) → Decides command → (before now : Outside) (status said : ℕ) (text : List ℕ) → IsSaid command (io_in before) (io_in now) text said
    → EndsAs before.written now.written before.write_faults now.write_faults status text said → CausesIn (input_course command) before now status
causes_by command d before now status said text says (inl ends) = by_said command d before now status said text says ends.0 ends.1
causes_by command d before now status said text says (inr ends) = at_write status ends.0 (record { rose = ends.1; line = text; says = (said, says); front = ends.2 })

causes : (command : Answering) → Decides command → (before now : Outside) (status : ℕ) → RanInput command (io_in before) (io_in now) status → CausesIn (input_course command) before now status
causes command d before now status ran = causes_by command d before now status ran.said ran.text ran.says ran.ends

-- ---- which status comes

-- what was taken up to the end is all that was left
whole : (left left_now : Option (List ℕ)) (taken bytes : List ℕ) → Consumes left left_now taken → IsAtEnd left_now → left ≡ Some bytes → taken ≡ bytes
whole None left_now taken bytes from ended told = let k : ◌≡◌ {A = Option (List ℕ)} None (Some bytes) = told in absurd cc
whole (Some known) None taken bytes from ended told = absurd from
whole (Some known) (Some rest) taken bytes from ended told =
    let none : rest ≡ [] = ended in
    let same : known ≡ bytes = cc in
    sym (append-nil taken) ∙ sym (ap (λ x. taken ++ x) none) ∙ sym from ∙ same

-- and never more
no_more : (left left_now : Option (List ℕ)) (taken bytes : List ℕ) → Consumes left left_now taken → left ≡ Some bytes → length taken ≤ length bytes
no_more None left_now taken bytes from told = let k : ◌≡◌ {A = Option (List ℕ)} None (Some bytes) = told in absurd cc
no_more (Some known) None taken bytes from told = absurd from
no_more (Some known) (Some rest) taken bytes from told =
    let same : known ≡ bytes = cc in
    let size : length known ≡ length taken + length rest = ap length from ∙ length-append taken rest in
    let known_size : length known ≡ length bytes = ap length same in
    omega (arith, size, known_size)

gives_short : (command : Answering) (before now : Outside) (status said : ℕ) (text bytes : List ℕ) → IsSaid command (io_in before) (io_in now) text said
    → EndsAs before.written now.written before.write_faults now.write_faults status text said → before.left ≡ Some bytes → length bytes ≤ command.most → IsQuiet before now
    → MayGive command bytes status ⊎ (status ≡ 6)
gives_short command before now status said text bytes (inl (inl r)) (inl ends) told short q =
    inl (text, subst (λ (n : ℕ). command.Gives bytes text n) (sym ends.0) (subst (λ (x : List ℕ). command.Gives x text said) (whole before.left now.left r.bytes bytes r.taken r.ended told) r.gives))
gives_short command before now status said text bytes (inl (inr r)) (inl ends) told short q =
    let size = no_more before.left now.left r.bytes bytes r.taken told in absurd (omega (arith, size, short, r.more))
gives_short command before now status said text bytes (inr (inl failed)) (inl ends) told short q = absurd (not_rose before.read_faults now.read_faults q.read_faults failed.rose)
gives_short command before now status said text bytes (inr (inr memory)) (inl ends) told short q = inr (ends.0 ∙ memory.said)
gives_short command before now status said text bytes says (inr ends) told short q = absurd (not_rose before.write_faults now.write_faults q.write_faults ends.1)

gives_long : (command : Answering) (before now : Outside) (status said : ℕ) (text bytes : List ℕ) → IsSaid command (io_in before) (io_in now) text said
    → EndsAs before.written now.written before.write_faults now.write_faults status text said → before.left ≡ Some bytes → command.most < length bytes → IsQuiet before now
    → MayRefuse command status ⊎ (status ≡ 6)
gives_long command before now status said text bytes (inl (inl r)) (inl ends) told long q =
    let size : length r.bytes ≡ length bytes = ap length (whole before.left now.left r.bytes bytes r.taken r.ended told) in absurd (omega (arith, size, long, r.short))
gives_long command before now status said text bytes (inl (inr r)) (inl ends) told long q = inl (text, subst (λ (n : ℕ). command.Long text n) (sym ends.0) r.gives)
gives_long command before now status said text bytes (inr (inl failed)) (inl ends) told long q = absurd (not_rose before.read_faults now.read_faults q.read_faults failed.rose)
gives_long command before now status said text bytes (inr (inr memory)) (inl ends) told long q = inr (ends.0 ∙ memory.said)
gives_long command before now status said text bytes says (inr ends) told long q = absurd (not_rose before.write_faults now.write_faults q.write_faults ends.1)

answers : (command : Answering) (before now : Outside) (status : ℕ) → RanInput command (io_in before) (io_in now) status → InputComplete command before now status
answers command before now status ran = record {
  short = λ bytes told short q. gives_short command before now status ran.said ran.text bytes ran.says ran.ends told short q;
  long = λ bytes told long q. gives_long command before now status ran.said ran.text bytes ran.says ran.ends told long q;
}

-- ---- what was answered, and how much was read

said_low : (command : Answering) (before now : Outside) (status said : ℕ) (text : List ℕ) → IsSaid command (io_in before) (io_in now) text said
    → EndsAs before.written now.written before.write_faults now.write_faults status text said → status ≤ 1 → Answered command (io_in before) (io_in now) status
said_low command before now status said text (inl reply) (inl ends) low = answered command (io_in before) (io_in now) status said text reply ends.0 ends.1
said_low command before now status said text (inr (inl failed)) (inl ends) low = absurd (omega (arith, ends.0, failed.said, low))
said_low command before now status said text (inr (inr memory)) (inl ends) low = absurd (omega (arith, ends.0, memory.said, low))
said_low command before now status said text says (inr ends) low = absurd (omega (arith, ends.0, low))

says : (command : Answering) (before now : Outside) (status : ℕ) → RanInput command (io_in before) (io_in now) status → status ≤ 1 → Answered command (io_in before) (io_in now) status
says command before now status ran low = said_low command before now status ran.said ran.text ran.says ran.ends low

through_by : (command : Answering) (before now : Io) (text : List ℕ) (status : ℕ) → IsReply command before now text status → InputThrough command before now status
through_by command before now text status (inl r) = inl r.ended
through_by command before now text status (inr r) = inr (text, r)

through : (command : Answering) (before now : Outside) (status : ℕ) → RanInput command (io_in before) (io_in now) status → status ≤ 1 → InputThrough command (io_in before) (io_in now) status
through command before now status ran low = let a = says command before now status ran low in through_by command (io_in before) (io_in now) a.text status a.reply

pub keeps_input : (command : Answering) → Decides command → Keeps (input_course command)
keeps_input command d = record {
  causes = λ before now status came. causes command d before now status came.ran;
  answers = λ before now status came. answers command before now status came.ran;
  through = λ before now status came low. through command before now status came.ran low;
  says = λ before now status came low. says command before now status came.ran low;
}

-- .. and so it is if the answer is said by what is around the program
pub keeps_shelf : (command : Outside → Outside → Answering) → ((before now : Outside) → Decides (command before now)) → Keeps (shelf_course command)
keeps_shelf command d = record {
  causes = λ before now status ran. causes (command before now) (d before now) before now status ran;
  answers = λ before now status ran. answers (command before now) before now status ran;
  through = λ before now status ran low. through (command before now) before now status ran low;
  says = λ before now status ran low. says (command before now) before now status ran low;
}

-- ---- memory ran out before anything was read

nothing_taken : (left : Option (List ℕ)) → Consumes left left []
nothing_taken None = tt
nothing_taken (Some bytes) = refl

took_none : (most : ℕ) (left left_now : Option (List ℕ)) → left_now ≡ left → TakesAtMost (most + 1) left left_now
took_none most left left_now same =
    record { taken = []; from_front = subst (λ (now : Option (List ℕ)). Consumes left now []) (sym same) (nothing_taken left); limited = omega arith }

wanting : (command : Answering) (before now : Outside) (status : ℕ) → IsUntouched before now → Ends before now status memory_line 6 → CameInput command before now status
wanting command before now status untouched ends = record {
  counts = untouched.counts;
  ran = record {
    limited = took_none command.most before.left now.left untouched.left;
    text = memory_line;
    said = 6;
    says = inr (inr (record { line = refl; said = refl }));
    ends = ends;
  };
}

pub keeps_whole : (command : Answering) → Decides command → KeepsAll (input_course command)
keeps_whole command d = record { keeps = keeps_input command d; wanting = wanting command }
