-- What a run over the drill's log says, in its words.
use Rattle.std.proofs.Common.{◌≡◌, true, ◌&&◌, List, [], ◌∷◌, ◌++◌, length, Option, refl, sym, ◌∙◌, ap, subst, arith}
use Rattle.call_log.specs.Log.{AreCalls, Passed}
use Rattle.call_log.specs.Entry.{Entry}
use Rattle.drill.specs.Counts.{no_counts, with_all}
use Rattle.drill.specs.declared.counts.Counts.{Counts as Counted}
use Rattle.drill.specs.Command.{AreSilent, DrillBehind, DrillClosed, DrillStopped, closing_text}
use Rattle.drill.specs.Speaking.{AreCounted, drill_words}
use Rattle.drill.specs.declared.command.DrillCommand.{DrillCommand}
use Rattle.log_rounds.proofs.WordsLaws.{are_judged, same_calls}
use Rattle.log_rounds.specs.Judge.{counts_of, outside_counts}
use Rattle.log_rounds.specs.Judged.{StandsAtFirst}
use Rattle.log_rounds.specs.Rounds.{outcomes_in}
use Rattle.log_rounds.specs.Verifier.{AnswersBy, basis_of, config_of, state_of}
use Rattle.log_run.specs.Batch.{Batch, IsCut, all_well, calls_in, texts_in}
use Rattle.log_run.specs.Speaks.{AreBatches, Speaks}
use Rattle.log_run.specs.declared.stop.AnswerError.{AnswerError}
use Rattle.log_run.specs.declared.stop.AnswerError.TheVariants.{Unread, Memory}
use Rattle.replay_law.specs.Law.{FirstOfAll, LegalTogether}
use Rattle.std.specs.declared.alloc.Global.{Global}
use Rattle.std.specs.declared.string.String.{String}
use Rattle.stir_outside.specs.Files.{Counts, Files}

silent_calls : (xs ys : List Batch) → AreSilent xs ys → calls_in xs ≡ calls_in ys
silent_calls [] [] s = refl
silent_calls [] (y ∷ ys) s = absurd s
silent_calls (x ∷ xs) [] s = absurd s
silent_calls (x ∷ xs) (y ∷ ys) s = ap (λ t. t ++ calls_in xs) s.0 ∙ ap (λ t. y.calls ++ t) (silent_calls xs ys s.3)

silent_texts : (xs ys : List Batch) → AreSilent xs ys → texts_in xs ≡ []
silent_texts [] [] s = refl
silent_texts [] (y ∷ ys) s = absurd s
silent_texts (x ∷ xs) [] s = absurd s
silent_texts (x ∷ xs) (y ∷ ys) s = ap (λ t. t ++ texts_in xs) s.1 ∙ silent_texts xs ys s.3

silent_well : (xs ys : List Batch) → AreSilent xs ys → all_well xs ≡ true
silent_well [] [] s = refl
silent_well [] (y ∷ ys) s = absurd s
silent_well (x ∷ xs) [] s = absurd s
silent_well (x ∷ xs) (y ∷ ys) s = ap (λ t. t && all_well xs) s.2 ∙ silent_well xs ys s.3

silent_cut : (xs ys : List Batch) → AreSilent xs ys → IsCut 256 xs → IsCut 256 ys
silent_cut [] [] s c = tt
silent_cut [] (y ∷ ys) s c = absurd s
silent_cut (x ∷ xs) [] s c = absurd s
silent_cut (x ∷ []) (y ∷ []) s c = (omega (arith, c.0, ap length s.0), omega (arith, c.1, ap length s.0))
silent_cut (x ∷ []) (y ∷ z ∷ ys) s c = absurd s.3
silent_cut (x ∷ w ∷ xs) (y ∷ []) s c = absurd s.3
silent_cut (x ∷ w ∷ xs) (y ∷ z ∷ ys) s c = (sym (ap length s.0) ∙ c.0, silent_cut (w ∷ xs) (z ∷ ys) s.3 c.1)

silent_are : (passed : Passed) (xs ys : List Batch) → AreSilent xs ys → AreBatches 256 passed xs → AreBatches 256 passed ys
silent_are passed xs ys s are = record { cut = silent_cut xs ys s are.cut; follow = subst (AreCalls passed) (silent_calls xs ys s) are.follow }

other_stop : {X : Type 0} (text name : String Global) → ◌≡◌ {A = AnswerError} (Unread text name) Memory → X
other_stop text name e = absurd cc

-- the batches before the report was closed
counted_batches : LegalTogether → FirstOfAll → (first now : DrillCommand) (told : Option Files) (passed : Passed) (a b : Counts) (batches : List Batch) → StandsAtFirst (state_of first.verifier a)
    → AreBatches 256 passed batches → (s : DrillBehind first now a b told batches)
    → AreCounted (AnswersBy (basis_of first.verifier) told) (config_of (basis_of first.verifier)) (counts_of (state_of first.verifier a)) (counts_of (state_of now.verifier b)) batches s.judged.so.rounds
counted_batches legal all first now told passed a b batches at_first are s = record {
  calls = silent_calls batches s.said s.silent ∙ same_calls s.said s.judged.so.rounds s.judged.so.are;
  are_judged = are_judged legal all (AnswersBy (basis_of first.verifier) told) (config_of (basis_of first.verifier)) first.verifier.service.chains passed (state_of first.verifier a) (state_of now.verifier b) (state_of now.verifier b)
      s.said at_first.past (omega arith) (omega arith) (silent_are passed batches s.said s.silent are) s.judged.so;
  silent = silent_texts batches s.said s.silent;
  well = silent_well batches s.said s.silent;
}

-- those before memory ran out
stopped_batches : LegalTogether → FirstOfAll → (first now : DrillCommand) (told : Option Files) (passed : Passed) (a b : Counts) (batches : List Batch) (calls : List Entry) (stop : AnswerError) → StandsAtFirst (state_of first.verifier a)
    → AreBatches 256 passed batches → (h : DrillStopped first a b told batches calls stop)
    → AreCounted (AnswersBy (basis_of first.verifier) told) (config_of (basis_of first.verifier)) (counts_of (state_of first.verifier a)) (counts_of (state_of now.verifier b)) batches h.stopped.so.rounds
stopped_batches legal all first now told passed a b batches calls stop at_first are h = record {
  calls = silent_calls batches h.said h.silent ∙ same_calls h.said h.stopped.so.rounds h.stopped.so.are;
  are_judged = are_judged legal all (AnswersBy (basis_of first.verifier) told) (config_of (basis_of first.verifier)) first.verifier.service.chains passed (state_of first.verifier a) (state_of h.stopped.mid h.stopped.counted)
      (state_of now.verifier b) h.said at_first.past h.stopped.shelf_stays (omega arith) (silent_are passed batches h.said h.silent are) h.stopped.so;
  silent = silent_texts batches h.said h.silent;
  well = silent_well batches h.said h.silent;
}

pub drill_speaks : LegalTogether → FirstOfAll → (first now : DrillCommand) (told : Option Files) (passed : Passed) (a b : Counts) → StandsAtFirst (state_of first.verifier a) → first.counts ≡ no_counts
    → Speaks (drill_words (AnswersBy (basis_of first.verifier) told) (config_of (basis_of first.verifier)) passed (outside_counts a.faults 0 a.reads) (outside_counts b.faults 0 b.reads) first.total) passed
    (DrillBehind first now a b told) (λ batches calls stop. DrillStopped first a b told batches calls stop) (λ batches text. DrillClosed first now a b told batches text)
drill_speaks legal all first now told passed a b at_first none = record {
  known = λ batches are s. record { rounds = s.judged.so.rounds; are = counted_batches legal all first now told passed a b batches at_first are s };
  stopped = λ batches calls stop are h. record { rounds = h.stopped.so.rounds; are = stopped_batches legal all first now told passed a b batches calls stop at_first are h };
  stops = λ batches calls text name h. other_stop text name h.stopped.memory;
  closed = λ batches text are c. record { rounds = c.behind.judged.so.rounds; are = counted_batches legal all first now told passed a b batches at_first are c.behind };
  closes = λ batches text c. record {
    rounds = c.behind.judged.so.rounds;
    are = λ are. counted_batches legal all first now told passed a b batches at_first are c.behind;
    text_is = c.text_is ∙ ap (λ (x : Counted). closing_text x now.total) (c.behind.counted ∙ ap (λ (x : Counted). with_all x (outcomes_in c.behind.judged.so.rounds)) none)
        ∙ ap (closing_text (with_all no_counts (outcomes_in c.behind.judged.so.rounds))) c.behind.total;
  };
}
