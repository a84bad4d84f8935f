-- The command `drill`: a log is made from a seed, judged by the files that are made with it, and summed up.
use Rattle.std.specs.Prelude.{◌≡◌, ◌⊎◌, ℕ}
use Rattle.drill.specs.Drilled.{DrillRan, WroteFront, WroteShort, WroteSummary}
use Rattle.stir_outside.specs.Count.{NotRisen}
use Rattle.stir_words.specs.Order.{DrillingView}
use Rattle.stir_cmd.specs.Course.{Course}
use Rattle.stir_cmd.specs.Outside.{IsUntouched, Outside}

-- what a run of the drill came to: no file and nothing of the input was read
pub record CameDrill (drilling : DrillingView) (before now : Outside) (status : ℕ) : Type 0 where
  pub untouched : IsUntouched before now
  pub ran : DrillRan drilling.seed drilling.count drilling.workers before.written now.written
      before.write_faults now.write_faults status

-- the summary was written, of all calls of the drill and of nothing else
abbrev pub WroteDrill : DrillingView → Outside → Outside → Type 0
WroteDrill drilling before now = WroteSummary drilling.seed drilling.count drilling.workers before.written now.written

-- The status is 0, 4 or 6, and none other. If the sink never failed it is 0, or memory ran out.
abbrev pub drill_course : DrillingView → Course
drill_course drilling = record {
  Came = CameDrill drilling;
  Done = λ before now status. (status ≡ 0) × WroteDrill drilling before now;
  Unread = λ before now. ⊥;
  Unwritten = λ before now. WroteFront drilling.seed drilling.count drilling.workers before.written now.written
      before.write_faults now.write_faults;
  Refused = λ before now. ⊥;
  Short = λ before now. WroteShort drilling.seed drilling.count drilling.workers before.written now.written;
  Answers = λ before now status. NotRisen before.write_faults now.write_faults → (status ≡ 0) ⊎ (status ≡ 6);
  Through = λ before now status. IsUntouched before now;
  Says = λ before now status. WroteDrill drilling before now;
}
