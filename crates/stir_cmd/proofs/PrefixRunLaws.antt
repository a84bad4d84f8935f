-- What a run of `verify` on one worker came to, if it ended with 0, 1, 3 or 5 and no named file has a fault: its rounds, answered in turn, and what it wrote.
use Rattle.std.proofs.Common.{◌≡◌, ◌⊎◌, inl, inr, ℕ, ◌+◌, ◌≤◌, Bool, List, [], ◌++◌, Option, Some, None, IfSome, refl, sym, ◌∙◌, ap, subst, arith, append-nil}
use Rattle.std.specs.Io.KnownBytes.{Appends, Consumes}
use Rattle.std.proofs.lemmas.Option.{none-some, same_Some}
use Rattle.call_log.specs.Entry.{Entry}
use Rattle.call_log.specs.Log.{LogText, Passed, after_all, start}
use Rattle.log_rounds.specs.AllValid.{all_valid}
use Rattle.log_rounds.specs.Handed.{ClosesState, IsHanded}
use Rattle.log_rounds.specs.Judge.{outside_counts}
use Rattle.log_rounds.specs.Judged.{JudgedBatches}
use Rattle.log_rounds.specs.Rounds.{InEach, Round, calls_in, outcomes_in}
use Rattle.log_rounds.specs.Verifier.{AnswersBy}
use Rattle.log_run.specs.Batch.{Batch, IsCut, all_well, calls_in as calls_of, texts_in}
use Rattle.log_run.specs.Ending.{failed_line, refused_line, report_status}
use Rattle.log_run.specs.Reading.{IsFaulty}
use Rattle.log_run.specs.Words.{DoneReport, FailedReport, PartLog, PartReport, StoppedReport}
use Rattle.replay_law.specs.Held.{Held, nothing}
use Rattle.state_text.specs.State.{StateView}
use Rattle.state_text.specs.StateText.{state_text}
use Rattle.stir_files.specs.Event.{event_line}
use Rattle.stir_files.specs.Going.{GoingOf, going_files}
use Rattle.stir_files.specs.Materials.{MaterialsOf, files_of}
use Rattle.stir_files.specs.Named.{NamedFile, Stop, first_fault}
use Rattle.stir_files.specs.declared.going.GoingMaterials.{GoingMaterials}
use Rattle.stir_files.specs.declared.materials.Materials.{Materials}
use Rattle.stir_outside.proofs.CountLaws.{not_risen_behind, not_rose}
use Rattle.stir_outside.specs.Count.{NotRisen}
use Rattle.stir_outside.specs.Files.{Counts, Files}
use Rattle.stir_words.specs.Order.{VerifyingView}
use Rattle.verify_service.specs.Handing.{kept_by}
use Rattle.verify_service.specs.Report.{report}
use Rattle.stir_cmd.specs.Calls.{basis_of, config_by, settings_by, world_by}
use Rattle.stir_cmd.specs.OnePrefix.{EndsSo, HasReport, named_by}
use Rattle.stir_cmd.specs.Outside.{Outside}
use Rattle.stir_cmd.specs.OverFiles.{Behind, OverFiles, over_files}
use Rattle.stir_cmd.specs.OverLog.{log_in}
use Rattle.stir_cmd.specs.Stopping.{FileFailed, FileRefused, HaveNoFault, IsFirstFault}
use Rattle.stir_cmd.specs.Verifying.{going_over, going_words, start_at, verify_from, verify_over, verify_words}
use Rattle.stir_cmd.proofs.PrefixRoundsLaws.{InTurn}

-- ---- what is known

-- a log by itself
pub record FromNothing (passed : Passed) (past : Held) (closing : List ℕ) : Type 0 where
  pub passed_is : passed ≡ start 0 0
  pub past_is : past ≡ nothing
  pub none : closing ≡ []

-- a log that goes on from the state in this file, and what is handed on
pub record FromState (verifying : VerifyingView) (name : List ℕ) (files : Files) (passed : Passed) (past : Held) (calls : List Entry) (next : Held) (closing : List ℕ) : Type 0 where
  pub going : GoingMaterials
  pub stands : GoingOf (Some files) verifying.judging name going
  pub passed_is : passed ≡ start_at going.state
  pub past_is : past ≡ kept_by going.state.kept
  pub state : StateView
  pub handed : IsHanded (config_by (settings_by verifying.judging.settings) verifying.workers) passed calls next state
  pub text_is : closing ≡ state_text state

abbrev pub IsFrom : VerifyingView → Option (List ℕ) → Files → Passed → Held → List Entry → Held → List ℕ → Type 0
IsFrom verifying None files passed past calls next closing = FromNothing passed past closing
IsFrom verifying (Some name) files passed past calls next closing = FromState verifying name files passed past calls next closing

pub record Known (verifying : VerifyingView) (state : Option (List ℕ)) (files : Files) (log : List ℕ) (before now : Outside) (status : ℕ) : Type 0 where
  pub materials : Materials
  pub stands : MaterialsOf (Some files) verifying.judging materials
  pub passed : Passed
  pub past : Held
  pub rounds : List Round
  pub next : Held
  pub turn : InTurn (world_by materials files) (config_by (settings_by verifying.judging.settings) verifying.workers) past rounds next
  pub bytes : List ℕ
  pub rest : List ℕ
  pub log_is : LogText passed bytes (calls_in rounds) rest
  pub closing : List ℕ
  pub from : IsFrom verifying state files passed past (calls_in rounds) next closing
  pub line : List ℕ
  pub ends : EndsSo log now.left bytes (all_valid (outcomes_in rounds)) (after_all passed (calls_in rounds)).place status line
  pub written : Appends before.written now.written (report (passed.number + 1) (outcomes_in rounds) ++ (closing ++ line))

-- ---- from what a run said

told : {X : Type 0} (x : Option X) (y : X) (P : X → Type 0) → x ≡ Some y → IfSome x P → P y
told x y P is holds = subst (λ (o : Option _). IfSome o P) is holds

-- a fault is at the place after the calls
at_place : (passed : Passed) (place : ℕ) (rest : List ℕ) → IsFaulty passed place rest → place ≡ passed.place
at_place passed place rest (inl grammar) = grammar.at
at_place passed place rest (inr (inl backward)) = backward.at
at_place passed place rest (inr (inr many)) = many.at

-- the log's run, as it is seen from the whole run, which read the files before it
pub record LogPart (passed : Passed) (log : List ℕ) (before now : Outside) (status : ℕ) (batches : List Batch) (text : List ℕ) : Type 0 where
  pub bytes : List ℕ
  pub rest : List ℕ
  pub log_is : LogText passed bytes (calls_of batches) rest
  pub line : List ℕ
  pub ends : EndsSo log now.left bytes (all_well batches) (after_all passed (calls_of batches)).place status line
  pub written : Appends before.written now.written (texts_in batches ++ (text ++ line))

module _ (verifying : VerifyingView) (single : verifying.workers ≡ 1) (files : Files) (log : List ℕ) (before now : Outside) (status : ℕ)
    (told_files : before.files ≡ Some files) (told_log : before.left ≡ Some log) (quiet : NotRisen before.counts.faults now.counts.faults) where
  -- whatever the log's run is said to have read, it ended so
  done_part : (passed : Passed) (batches : List Batch) (text : List ℕ) → status ≤ 1 → status ≡ report_status (all_well batches) → IfSome before.left (λ bytes. LogText passed bytes (calls_of batches) [])
      → Appends before.written now.written (texts_in batches ++ text) → LogPart passed log before now status batches text
  done_part passed batches text low said whole written = record {
    bytes = log;
    rest = [];
    log_is = told before.left log (λ bytes. LogText passed bytes (calls_of batches) []) told_log whole;
    line = [];
    ends = inl (record { done = low; said = said; all = refl; none = refl });
    written = subst (λ t. Appends before.written now.written (texts_in batches ++ t)) (sym (append-nil text)) written;
  }

  faulty_part : (passed : Passed) (batches : List Batch) (text : List ℕ) (place : ℕ) → status ≡ 5 → IfSome before.left (λ bytes. PartLog passed bytes (calls_of batches) place)
      → Appends before.written now.written (texts_in batches ++ (text ++ refused_line place)) → LogPart passed log before now status batches text
  faulty_part passed batches text place five part written =
      let p = told before.left log (λ bytes. PartLog passed bytes (calls_of batches) place) told_log part in
      record {
        bytes = log;
        rest = p.rest;
        log_is = p.log;
        line = refused_line place;
        ends = inr (inr (record { refused = five; all = refl; says = ap refused_line (at_place (after_all passed (calls_of batches)) place p.rest p.fault) }));
        written = written;
      }

  failed_part : (passed : Passed) (batches : List Batch) (text taken rest : List ℕ) → status ≡ 3 → Consumes before.left now.left taken → LogText passed taken (calls_of batches) rest
      → Appends before.written now.written (texts_in batches ++ (text ++ failed_line)) → LogPart passed log before now status batches text
  failed_part passed batches text taken rest three consumed is written = record {
    bytes = taken;
    rest = rest;
    log_is = is;
    line = failed_line;
    ends = inr (inl (record { failed = three; taken = subst (λ (x : Option (List ℕ)). Consumes x now.left taken) told_log consumed; says = refl }));
    written = written;
  }

  -- a log by itself
  known_alone : (counts : Counts) (materials : Materials) → before.counts.faults ≤ counts.faults → counts.faults ≤ now.counts.faults → MaterialsOf before.files verifying.judging materials
      → (batches : List Batch)
      → JudgedBatches (AnswersBy (basis_of (settings_by verifying.judging.settings) verifying.workers materials) before.files) (config_by (settings_by verifying.judging.settings) verifying.workers)
      (start 0 0) (outside_counts counts.faults 0 counts.reads) (outside_counts now.counts.faults 0 now.counts.reads) batches
      → (text : List ℕ) → text ≡ [] → LogPart (start 0 0) log before now status batches text → Known verifying None files log before now status
  known_alone counts materials earlier stay stands batches known text none part = record {
    materials = materials;
    stands = subst (λ (x : Option Files). MaterialsOf x verifying.judging materials) told_files stands;
    passed = start 0 0;
    past = nothing;
    rounds = known.rounds;
    next = known.are_settled.past;
    turn = record {
      cut = known.are_judged.cut;
      each = subst (λ (x : Option Files). InEach (AnswersBy (basis_of (settings_by verifying.judging.settings) verifying.workers materials) x) known.rounds) told_files known.are_judged.each;
      settled = known.are_settled.settled;
      in_order = known.are_settled.in_order single;
      aside = record {
        read = known.are_judged.aside.quiet_shelf (not_risen_behind before.counts.faults counts.faults now.counts.faults earlier stay quiet);
        asked = known.are_judged.aside.quiet_provider (record { same = refl; below_last = omega arith });
      };
    };
    bytes = part.bytes;
    rest = part.rest;
    log_is = subst (λ (calls : List Entry). LogText (start 0 0) part.bytes calls part.rest) known.calls part.log_is;
    closing = text;
    from = record { passed_is = refl; past_is = refl; none = none };
    line = part.line;
    ends = subst (λ (good : Bool). EndsSo log now.left part.bytes good (after_all (start 0 0) (calls_in known.rounds)).place status part.line) known.well
        (subst (λ (calls : List Entry). EndsSo log now.left part.bytes (all_well batches) (after_all (start 0 0) calls).place status part.line) known.calls part.ends);
    written = subst (λ t. Appends before.written now.written (t ++ (text ++ part.line))) known.lines part.written;
  }

  -- one that goes on from a state
  known_on : (name : List ℕ) (counts : Counts) (materials : GoingMaterials) → before.counts.faults ≤ counts.faults → counts.faults ≤ now.counts.faults → GoingOf before.files verifying.judging name materials
      → (batches : List Batch) → IsCut 256 batches → (text : List ℕ)
      → ClosesState (AnswersBy (basis_of (settings_by verifying.judging.settings) verifying.workers materials.judging) before.files) (config_by (settings_by verifying.judging.settings) verifying.workers)
      materials.judging.world.chains (kept_by materials.state.kept) (start_at materials.state) (outside_counts counts.faults 0 counts.reads) (outside_counts now.counts.faults 0 now.counts.reads) batches text
      → LogPart (start_at materials.state) log before now status batches text → Known verifying (Some name) files log before now status
  known_on name counts materials earlier stay stands batches cut text closes part =
      let on = closes.on (record { cut = cut; follow = part.log_is.follow }) in
      let going : GoingOf (Some files) verifying.judging name materials = subst (λ (x : Option Files). GoingOf x verifying.judging name materials) told_files stands in
      record {
        materials = materials.judging;
        stands = going.judging;
        passed = start_at materials.state;
        past = kept_by materials.state.kept;
        rounds = closes.rounds;
        next = closes.next;
        turn = record {
          cut = on.cut;
          each = subst (λ (x : Option Files). InEach (AnswersBy (basis_of (settings_by verifying.judging.settings) verifying.workers materials.judging) x) closes.rounds) told_files on.each;
          settled = on.settled;
          in_order = on.in_order single;
          aside = record {
            read = on.aside.quiet_shelf (not_risen_behind before.counts.faults counts.faults now.counts.faults earlier stay quiet);
            asked = on.aside.quiet_provider (record { same = refl; below_last = omega arith });
          };
        };
        bytes = part.bytes;
        rest = part.rest;
        log_is = subst (λ (calls : List Entry). LogText (start_at materials.state) part.bytes calls part.rest) on.calls part.log_is;
        closing = text;
        from = record {
          going = materials;
          stands = going;
          passed_is = refl;
          past_is = refl;
          state = closes.state;
          handed = subst (λ (calls : List Entry). IsHanded (config_by (settings_by verifying.judging.settings) verifying.workers) (start_at materials.state) calls closes.next closes.state) on.calls closes.handed;
          text_is = closes.text_is;
        };
        line = part.line;
        ends = subst (λ (good : Bool). EndsSo log now.left part.bytes good (after_all (start_at materials.state) (calls_in closes.rounds)).place status part.line) on.well
            (subst (λ (calls : List Entry). EndsSo log now.left part.bytes (all_well batches) (after_all (start_at materials.state) calls).place status part.line) on.calls part.ends);
        written = subst (λ t. Appends before.written now.written (t ++ (text ++ part.line))) on.lines part.written;
      }

  -- ---- the endings of a log by itself

  alone_done : status ≤ 1 → Behind (verify_over verifying) before now
      (λ materials mid. DoneReport (verify_words (settings_by verifying.judging.settings) verifying.workers materials mid now) (start 0 0) (log_in mid) (log_in now) status)
      → Known verifying None files log before now status
  alone_done low b =
      known_alone b.counts b.read b.go_on.faults.never_falls b.stay b.stands b.says.batches b.says.answered.known b.says.text b.says.closes.none
      (done_part (start 0 0) b.says.batches b.says.text low b.says.said b.says.log b.says.reported)

  alone_faulty : status ≡ 5 → Behind (verify_over verifying) before now
      (λ materials mid. PartReport (verify_words (settings_by verifying.judging.settings) verifying.workers materials mid now) (start 0 0) (log_in mid) (log_in now))
      → Known verifying None files log before now status
  alone_faulty five b =
      known_alone b.counts b.read b.go_on.faults.never_falls b.stay b.stands b.says.batches b.says.answered.known b.says.text b.says.closes.none
      (faulty_part (start 0 0) b.says.batches b.says.text b.says.place five b.says.part b.says.reported)

  alone_failed : status ≡ 3 → (b : Behind (verify_over verifying) before now
      (λ materials mid. FailedReport (verify_words (settings_by verifying.judging.settings) verifying.workers materials mid now) (start 0 0) (log_in mid) (log_in now)
      ⊎ StoppedReport (verify_words (settings_by verifying.judging.settings) verifying.workers materials mid now) (start 0 0) (log_in mid) (log_in now)))
      → Known verifying None files log before now status
  alone_failed three b =
      elim b.says [
        | inl f ↦ known_alone b.counts b.read b.go_on.faults.never_falls b.stay b.stands f.batches f.answered.known f.text f.closes.none
            (failed_part (start 0 0) f.batches f.text f.taken.taken f.taken.rest three f.taken.consumed f.taken.log f.reported)
        | inr s ↦ absurd s.stopped.stops
      ]

  -- ---- and of one that goes on from a state

  on_done : (name : List ℕ) → status ≤ 1 → Behind (going_over verifying name) before now
      (λ materials mid. DoneReport (going_words (settings_by verifying.judging.settings) verifying.workers materials mid now) (start_at materials.state) (log_in mid) (log_in now) status)
      → Known verifying (Some name) files log before now status
  on_done name low b =
      known_on name b.counts b.read b.go_on.faults.never_falls b.stay b.stands b.says.batches b.says.answered.cut b.says.text b.says.closes
      (done_part (start_at b.read.state) b.says.batches b.says.text low b.says.said b.says.log b.says.reported)

  on_faulty : (name : List ℕ) → status ≡ 5 → Behind (going_over verifying name) before now
      (λ materials mid. PartReport (going_words (settings_by verifying.judging.settings) verifying.workers materials mid now) (start_at materials.state) (log_in mid) (log_in now))
      → Known verifying (Some name) files log before now status
  on_faulty name five b =
      known_on name b.counts b.read b.go_on.faults.never_falls b.stay b.stands b.says.batches b.says.answered.cut b.says.text b.says.closes
      (faulty_part (start_at b.read.state) b.says.batches b.says.text b.says.place five b.says.part b.says.reported)

  on_failed : (name : List ℕ) → status ≡ 3 → (b : Behind (going_over verifying name) before now
      (λ materials mid. FailedReport (going_words (settings_by verifying.judging.settings) verifying.workers materials mid now) (start_at materials.state) (log_in mid) (log_in now)
      ⊎ StoppedReport (going_words (settings_by verifying.judging.settings) verifying.workers materials mid now) (start_at materials.state) (log_in mid) (log_in now)))
      → Known verifying (Some name) files log before now status
  on_failed name three b =
      elim b.says [
        | inl f ↦ known_on name b.counts b.read b.go_on.faults.never_falls b.stay b.stands f.batches f.answered.cut f.text f.closes
            (failed_part (start_at b.read.state) f.batches f.text f.taken.taken f.taken.rest three f.taken.consumed f.taken.log f.reported)
        | inr s ↦ absurd s.stopped.stops
      ]

  -- ---- the named files

  none_failed : (named : List NamedFile) → FileFailed named before now → ⊥
  none_failed named (stop, is, rose, stops) = not_rose before.counts.faults now.counts.faults quiet rose

  none_refused : (named : List NamedFile) → first_fault files named ≡ None → FileRefused named before now → ⊥
  none_refused named none (stop, inside, stops) =
      elim (subst (λ (x : Option Files). IsFirstFault x named stop) told_files stops.at.first) [
        | inl found ↦ none-some stop (sym none ∙ found)
        | inr outside ↦ inside outside
      ]

  -- ---- the whole

  pub known_from : (state : Option (List ℕ)) → first_fault files (named_by verifying.judging state) ≡ None → (status ≤ 1 → (verify_from verifying state).Done before now status)
      → (status ≡ 3 → (verify_from verifying state).Unread before now) → (status ≡ 5 → (verify_from verifying state).Refused before now) → HasReport status
      → Known verifying state files log before now status
  known_from None none done unread refused (inl low) = alone_done low (done low)
  known_from None none done unread refused (inr (inl three)) =
      elim (unread three) [ inl failed ↦ absurd (none_failed (files_of verifying.judging) failed) | inr b ↦ alone_failed three b ]
  known_from None none done unread refused (inr (inr five)) =
      elim (refused five) [ inl file ↦ absurd (none_refused (files_of verifying.judging) none file) | inr b ↦ alone_faulty five b ]
  known_from (Some name) none done unread refused (inl low) = on_done name low (done low)
  known_from (Some name) none done unread refused (inr (inl three)) =
      elim (unread three) [ inl failed ↦ absurd (none_failed (going_files verifying.judging name) failed) | inr b ↦ on_failed name three b ]
  known_from (Some name) none done unread refused (inr (inr five)) =
      elim (refused five) [ inl file ↦ absurd (none_refused (going_files verifying.judging name) none file) | inr b ↦ on_faulty name five b ]

  -- ---- a named file that is refused

  -- the run went on after the files, though one has a fault
  none_behind : (over : OverFiles) (Says : over.Read → Outside → Type 0) (stop : Stop) → first_fault files over.named ≡ Some stop → Behind over before now Says → ⊥
  none_behind over Says stop found b =
      let none : first_fault files over.named ≡ None = subst (λ (x : Option Files). HaveNoFault x over.named) told_files b.no_fault in
      none-some stop (sym none ∙ found)

  file_line : (named : List NamedFile) (stop : Stop) → first_fault files named ≡ Some stop → FileRefused named before now → Appends before.written now.written (event_line stop.name stop.fault)
  file_line named stop found (other, inside, stops) =
      elim (subst (λ (x : Option Files). IsFirstFault x named other) told_files stops.at.first) [
        | inl first ↦ subst (λ (s : Stop). Appends before.written now.written (event_line s.name s.fault)) (same_Some other stop (sym first ∙ found)) stops.reported
        | inr outside ↦ absurd (inside outside)
      ]

  abbrev IsStopped : Stop → Type 0
  IsStopped stop = (status ≡ 5) × Appends before.written now.written (event_line stop.name stop.fault)

  stopped_over : (over : OverFiles) (stop : Stop) → first_fault files over.named ≡ Some stop → (status ≤ 1 → (over_files over).Done before now status)
      → (status ≡ 3 → (over_files over).Unread before now) → (status ≡ 5 → (over_files over).Refused before now) → HasReport status → IsStopped stop
  stopped_over over stop found done unread refused (inl low) = absurd (none_behind over _ stop found (done low))
  stopped_over over stop found done unread refused (inr (inl three)) =
      elim (unread three) [ inl failed ↦ absurd (none_failed over.named failed) | inr b ↦ absurd (none_behind over _ stop found b) ]
  stopped_over over stop found done unread refused (inr (inr five)) =
      elim (refused five) [ inl file ↦ (five, file_line over.named stop found file) | inr b ↦ absurd (none_behind over _ stop found b) ]

  pub stopped_from : (state : Option (List ℕ)) (stop : Stop) → first_fault files (named_by verifying.judging state) ≡ Some stop → (status ≤ 1 → (verify_from verifying state).Done before now status)
      → (status ≡ 3 → (verify_from verifying state).Unread before now) → (status ≡ 5 → (verify_from verifying state).Refused before now) → HasReport status → IsStopped stop
  stopped_from None stop found done unread refused ended = stopped_over (verify_over verifying) stop found done unread refused ended
  stopped_from (Some name) stop found done unread refused ended = stopped_over (going_over verifying name) stop found done unread refused ended
