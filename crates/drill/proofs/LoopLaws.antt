-- The loop over the drill's log, by a verifier that has judged nothing, and what it came to.
use Rattle.std.proofs.Common.{◌≡◌, ◌≤◌, ℕ, List, [], Option, Some, subst}
use Rattle.call_log.proofs.LogLaws.{no_longer, one_log}
use Rattle.call_log.specs.Log.{LogText, start}
use Rattle.drill.proofs.CountLaws.{calls_are, summary_is}
use Rattle.drill.specs.Files.{FilesOf}
use Rattle.drill.specs.declared.files.DrillFiles.{DrillFiles}
use Rattle.drill.proofs.RunLaws.{ran_by}
use Rattle.drill.specs.Drilled.{DrillRan, drill_settings}
use Rattle.drill.specs.Speaking.{drill_words}
use Rattle.log_rounds.specs.Judge.{outside_counts}
use Rattle.log_rounds.specs.Verifier.{AnswersBy, JudgeBasis, config_of}
use Rattle.log_run.specs.Streams.{streams}
use Rattle.log_run.specs.Words.{LogSays, run_state}
use Rattle.stir_drill.specs.Calls.{calls_of, log_of}
use Rattle.stir_drill.specs.World.{shelf}
use Rattle.stir_outside.specs.Files.{Files}

-- by what the drill is judged
abbrev pub drill_basis : DrillFiles → ℕ → JudgeBasis
drill_basis files workers = record { settings = drill_settings; materials = files.world; answers = files.answers; workers = workers }

-- what is said of a log that is judged by this basis, and by the files of this shelf
abbrev pub SaysBy : (reads reads_now : ℕ) (written written_now left_now : Option (List ℕ)) (faults faults_now status : ℕ) → JudgeBasis → Files → List ℕ → ℕ → Type 0
SaysBy reads reads_now written written_now left_now faults faults_now status basis files log total =
    LogSays (drill_words (AnswersBy basis (Some files)) (config_of basis) (start 0 0) (outside_counts 0 0 reads) (outside_counts 0 0 reads_now) total) (start 0 0)
    (run_state (Some log) (streams 0 written faults)) (run_state left_now (streams 0 written_now faults_now)) status

pub ran_loop : (seed count workers : ℕ) → count ≤ 100000 → (files : DrillFiles) → FilesOf seed count files → LogText (start 0 0) (log_of seed count) (calls_of seed count) [] → (reads reads_now : ℕ)
    (written written_now left_now : Option (List ℕ)) (faults faults_now status : ℕ) (basis : JudgeBasis) (told : Files) (log : List ℕ) (total : ℕ) → basis ≡ drill_basis files workers → told ≡ shelf.files → log ≡ log_of seed count → total ≡ count
    → SaysBy reads reads_now written written_now left_now faults faults_now status basis told log total → DrillRan seed count workers written written_now faults faults_now status
ran_loop seed count workers few files files_are whole reads reads_now written written_now left_now faults faults_now status basis told log total same told_is log_is total_is says =
    let by_basis : SaysBy reads reads_now written written_now left_now faults faults_now status (drill_basis files workers) told log total =
    subst (λ (x : JudgeBasis). SaysBy reads reads_now written written_now left_now faults faults_now status x told log total) same says in
    let by_shelf : SaysBy reads reads_now written written_now left_now faults faults_now status (drill_basis files workers) shelf.files log total =
    subst (λ (x : Files). SaysBy reads reads_now written written_now left_now faults faults_now status (drill_basis files workers) x log total) told_is by_basis in
    let by_log : SaysBy reads reads_now written written_now left_now faults faults_now status (drill_basis files workers) shelf.files (log_of seed count) total =
    subst (λ (x : List ℕ). SaysBy reads reads_now written written_now left_now faults faults_now status (drill_basis files workers) shelf.files x total) log_is by_shelf in
    ran_by one_log no_longer summary_is calls_are seed count workers few files files_are whole reads reads_now written written_now left_now faults faults_now status
    (subst (λ (x : ℕ). SaysBy reads reads_now written written_now left_now faults faults_now status (drill_basis files workers) shelf.files (log_of seed count) x) total_is by_log)
