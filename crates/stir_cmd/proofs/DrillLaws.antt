-- What `drill` promises, from what it came to.
use Rattle.std.proofs.Common.{◌≡◌, ℕ, ◌≤◌, ◌⊎◌, inl, inr, List, [], Option, Some, refl, sym, ◌∙◌, ap, subst, arith}
use Rattle.std.specs.Io.KnownBytes.{Appends}
use Rattle.call_log.specs.Entry.{Entry}
use Rattle.drill.specs.Summary.{summary}
use Rattle.drill.specs.Files.{FilesOf}
use Rattle.drill.specs.declared.files.DrillFiles.{DrillFiles}
use Rattle.drill.specs.Alike.{LegalWhole, OneSummary}
use Rattle.drill.specs.Drilled.{DrillRan, IsSummary, JudgedDrill, WroteSummary, config_on, world_of}
use Rattle.log_rounds.specs.Rounds.{IsApart, outcomes_in}
use Rattle.stir_drill.specs.Calls.{calls_of}
use Rattle.stir_drill.specs.World.{answers_of, chain_map_text, table_text}
use Rattle.stir_outside.specs.Count.{NotRisen}
use Rattle.stir_outside.specs.Ending.{memory_line}
use Rattle.stir_outside.proofs.CountLaws.{not_rose}
use Rattle.stir_words.specs.Order.{DrillBy, DrillingView, OrderView}
use Rattle.verify_rules.specs.SameWorld.{SayTheSame}
use Rattle.verify_service.specs.Causes.{NoneUnasked, NoneUnread}
use Rattle.verify_service.specs.declared.outcome.Outcome.{Outcome}
use Rattle.stir_cmd.specs.Causes.{Ran}
use Rattle.stir_cmd.specs.Drilling.{CameDrill, WroteDrill, drill_course}
use Rattle.stir_cmd.specs.OneSummary.{AreOneSummary, GivesOneSummary, IsDrillApart}
use Rattle.stir_cmd.specs.Outside.{Outside}
use Rattle.stir_cmd.specs.Stopping.{Ends}
use Rattle.stir_cmd.proofs.Keeps.{CausesIn, KeepsAll}
use Rattle.stir_cmd.proofs.SameReadings.{one_answers, one_map, one_ok, one_table}
use Rattle.stir_cmd.proofs.StatusCauses.{at_done, at_memory, at_write}

-- ---- each status

causes : (drilling : DrillingView) (before now : Outside) (status : ℕ) → CameDrill drilling before now status → CausesIn (drill_course drilling) before now status
causes drilling before now status came = by_status came.ran.known
  where
    by_status : (status ≡ 0) ⊎ ((status ≡ 4) ⊎ (status ≡ 6)) → CausesIn (drill_course drilling) before now status
    by_status (inl e) = at_done status (omega (arith, e)) (e, came.ran.done e)
    by_status (inr (inl e)) = at_write status e (came.ran.sink_failed e)
    by_status (inr (inr e)) = at_memory status e (came.ran.short e)

answers : (drilling : DrillingView) (before now : Outside) (status : ℕ) → CameDrill drilling before now status → NotRisen before.write_faults now.write_faults → (status ≡ 0) ⊎ (status ≡ 6)
answers drilling before now status came quiet = by_status came.ran.known
  where
    by_status : (status ≡ 0) ⊎ ((status ≡ 4) ⊎ (status ≡ 6)) → (status ≡ 0) ⊎ (status ≡ 6)
    by_status (inl e) = inl e
    by_status (inr (inl e)) = absurd (not_rose before.write_faults now.write_faults quiet (came.ran.sink_failed e).failed)
    by_status (inr (inr e)) = inr e

wrote : (drilling : DrillingView) (before now : Outside) (status : ℕ) → CameDrill drilling before now status → status ≤ 1 → WroteDrill drilling before now
wrote drilling before now status came low = by_status came.ran.known
  where
    by_status : (status ≡ 0) ⊎ ((status ≡ 4) ⊎ (status ≡ 6)) → WroteDrill drilling before now
    by_status (inl e) = came.ran.done e
    by_status (inr (inl e)) = absurd (omega (arith, e, low))
    by_status (inr (inr e)) = absurd (omega (arith, e, low))

-- memory ran out before the log was made
short : (drilling : DrillingView) (before now : Outside) (status : ℕ) → Ends before now status memory_line 6
    → DrillRan drilling.seed drilling.count drilling.workers before.written now.written before.write_faults now.write_faults status
short drilling before now status (inl ends) = record {
  known = inr (inr ends.0);
  done = λ h. absurd (omega (arith, h, ends.0));
  sink_failed = λ h. absurd (omega (arith, h, ends.0));
  short = λ h. record { text = []; may = inl refl; reported = ends.1 };
}
short drilling before now status (inr ends) = record {
  known = inr (inl ends.0);
  done = λ h. absurd (omega (arith, h, ends.0));
  sink_failed = λ h. record { failed = ends.1; text = []; may = inl refl; end = memory_line; may_end = inr refl; front = ends.2 };
  short = λ h. absurd (omega (arith, h, ends.0));
}

pub keeps_all : (drilling : DrillingView) → KeepsAll (drill_course drilling)
keeps_all drilling = record {
  keeps = record {
    causes = causes drilling;
    answers = answers drilling;
    through = λ before now status came low. came.untouched;
    says = wrote drilling;
  };
  wanting = λ before now status untouched ends. record { untouched = untouched; ran = short drilling before now status ends };
}

-- ---- one summary

same_files : (seed count : ℕ) (mine yours : DrillFiles) → FilesOf seed count mine → FilesOf seed count yours → SayTheSame (world_of mine) (world_of yours)
same_files seed count mine yours a b = record {
  chains = one_map chain_map_text mine.world.chains yours.world.chains a.chains b.chains;
  files = λ name. refl;
  anchors = one_ok mine.world.anchors yours.world.anchors _ a.anchors b.anchors;
  grants = one_table table_text mine.world.table yours.world.table a.table b.table;
  says = one_answers (answers_of seed count) mine.answers yours.answers a.answers b.answers;
}

legal_whole : (seed count workers : ℕ) (outcomes : List Outcome) (judged : JudgedDrill seed count workers outcomes) → IsApart (config_on workers) (calls_of seed count)
    → LegalWhole (world_of judged.files) (config_on workers) judged.rounds
legal_whole seed count workers outcomes judged apart = record {
  legal = judged.legal (subst (λ (calls : List Entry). IsApart (config_on workers) calls) (sym judged.calls) apart);
  read = subst NoneUnread (sym judged.come) judged.read;
  asked = subst NoneUnasked (sym judged.come) judged.asked;
}

one_text : OneSummary → (seed count workers other : ℕ) (text others : List ℕ) → IsApart (config_on workers) (calls_of seed count) → IsSummary seed count workers text
    → IsSummary seed count other others → text ≡ others
one_text law seed count workers other text others apart mine yours =
    let a = mine.judged in
    let b = yours.judged in
    let same : summary (outcomes_in a.rounds) ≡ summary (outcomes_in b.rounds) =
    law (world_of a.files) (world_of b.files) (config_on workers) (config_on other) a.rounds b.rounds (same_files seed count a.files b.files a.files_are b.files_are) refl
    (a.calls ∙ sym b.calls) (legal_whole seed count workers mine.outcomes a apart) (legal_whole seed count other yours.outcomes b apart) in
    mine.says ∙ ap summary (sym a.come) ∙ same ∙ ap summary b.come ∙ sym yours.says

one_drill : OneSummary → (drilling : DrillingView) (workers : ℕ) (before now other other_now : Outside) → IsDrillApart drilling → WroteDrill drilling before now
    → WroteSummary drilling.seed drilling.count workers other.written other_now.written → AreOneSummary before now other other_now
one_drill law drilling workers before now other other_now apart mine yours =
    let same = one_text law drilling.seed drilling.count drilling.workers workers mine.text yours.text apart mine.is yours.is in
    record { text = mine.text; written = mine.reported; other_written = subst (Appends other.written other_now.written) (sym same) yours.reported }

pub gives_one_summary : OneSummary → (order : Option OrderView) (before now : Outside) (status : ℕ) → Ran order before now status → GivesOneSummary order before now status
gives_one_summary law (Some (DrillBy drilling)) before now status came = λ low apart workers other other_now yours.
    one_drill law drilling workers before now other other_now apart (wrote drilling before now status came low) yours
gives_one_summary law other before now status came = _
