-- A course over named files keeps what it promises if the course after them does.
use Rattle.std.proofs.Common.{◌≡◌, ℕ, ◌≤◌, ◌⊎◌, inl, inr, Some, None, arith}
use Rattle.stir_files.specs.Named.{first_fault}
use Rattle.stir_outside.specs.Files.{Files}
use Rattle.stir_cmd.specs.Outside.{Outside}
use Rattle.stir_cmd.specs.OverFiles.{Behind, OverFiles, counted, over_files}
use Rattle.stir_cmd.specs.Stopping.{AnswersFault, IsQuiet}
use Rattle.stir_cmd.proofs.Keeps.{CausesIn, Keeps, KeepsAll}
use Rattle.stir_cmd.proofs.StopLaws.{early_causes, early_fault, early_high, early_six, no_such}

-- another thing that is said of the same run
pub saying : (over : OverFiles) (before now : Outside) (P Q : over.Read → Outside → Type 0) (b : Behind over before now P) → Q b.read (counted before b.counts) → Behind over before now Q
saying over before now P Q b says = record {
  read = b.read;
  stands = b.stands;
  no_fault = b.no_fault;
  counts = b.counts;
  go_on = b.go_on;
  reads = b.reads;
  stay = b.stay;
  says = says;
}

-- the course of each that may be read keeps what it promises
abbrev pub KeepsEach : OverFiles → Type 0
KeepsEach over = (read : over.Read) → Keeps (over.course read)

abbrev pub RanBehind : OverFiles → Outside → Outside → ℕ → Type 0
RanBehind over before now status = Behind over before now (λ read mid. (over.course read).Came mid now status)

-- a run that ended with 0 or 1 went on after the files
pub behind_files : (over : OverFiles) (before now : Outside) (status : ℕ) → (over_files over).Came before now status → status ≤ 1 → RanBehind over before now status
behind_files over before now status (inl b) low = b
behind_files over before now status (inr early) low = absurd (omega (arith, low, early_high over.named before now status early))

causes : (over : OverFiles) → KeepsEach over → (before now : Outside) (status : ℕ) → (over_files over).Came before now status → CausesIn (over_files over) before now status
causes over keeps before now status (inl b) =
    let c = (keeps b.read).causes (counted before b.counts) now status b.says in
    record {
      known = c.known;
      done = λ h. saying over before now _ _ b (c.done h);
      words = c.words;
      read = λ h. inr (saying over before now _ _ b (c.read h));
      write = λ h. inr (saying over before now _ _ b (c.write h));
      input = λ h. inr (saying over before now _ _ b (c.input h));
      memory = λ h. inr (saying over before now _ _ b (c.memory h));
    }
causes over keeps before now status (inr early) =
    early_causes over.named before now status (λ failed. inl failed) (λ front. inl front) (λ refused. inl refused) (λ short. inl short) early

fault : (over : OverFiles) (before now : Outside) (status : ℕ) → (over_files over).Came before now status → AnswersFault over.named before now status
fault over before now status (inl b) files stop told found q = absurd (no_such over.named before.files files stop told b.no_fault found)
fault over before now status (inr early) files stop told found q = early_fault over.named before now status early files stop told found q

none : (over : OverFiles) → KeepsEach over → (before now : Outside) (status : ℕ) → (over_files over).Came before now status → (files : Files) → before.files ≡ Some files → first_fault files over.named ≡ None
    → IsQuiet before now → Behind over before now (λ read mid. (over.course read).Answers mid now status) ⊎ (status ≡ 6)
none over keeps before now status (inl b) files told good q = inl (saying over before now _ _ b ((keeps b.read).answers (counted before b.counts) now status b.says))
none over keeps before now status (inr early) files told good q = inr (early_six over.named before now status files early told good q)

pub over_keeps : (over : OverFiles) → KeepsEach over → KeepsAll (over_files over)
over_keeps over keeps = record {
  keeps = record {
    causes = causes over keeps;
    answers = λ before now status came. record { fault = fault over before now status came; none = none over keeps before now status came };
    through = λ before now status came low.
        let b = behind_files over before now status came low in
        saying over before now _ _ b ((keeps b.read).through (counted before b.counts) now status b.says low);
    says = λ before now status came low.
        let b = behind_files over before now status came low in
        saying over before now _ _ b ((keeps b.read).says (counted before b.counts) now status b.says low);
  };
  wanting = λ before now status untouched ends. inr (inr (record { stays = record { left = untouched.left; read_faults = untouched.read_faults }; ends = ends }));
}
