-- How often `verify` reads files: what was read of the log are its first calls, so the bound of these is one of all.
use Rattle.std.proofs.Common.{◌≡◌, ℕ, ◌+◌, ◌≤◌, inl, inr, List, [], ◌∷◌, ◌++◌, Option, Some, None, refl, sym, ◌∙◌, ap, subst, arith, append-nil, append_assoc}
use Rattle.std.specs.Io.KnownBytes.{Consumes}
use Rattle.call_log.specs.Entry.{Entry, entry_text}
use Rattle.call_log.specs.HandsOut.{OneLog}
use Rattle.call_log.specs.Log.{AreCalls, IsNext, LogText, NoEntry, Passed, after, after_all, entry_texts, start}
use Rattle.cert_store.specs.Files.{Files as ChainFiles}
use Rattle.cert_store.specs.declared.world.World.{World as Told}
use Rattle.log_rounds.proofs.FewLaws.{fewer_named}
use Rattle.log_rounds.specs.Reads.{ReadsFirst, ReadsNamed}
use Rattle.log_run.proofs.ReadLaws.{read_nothing}
use Rattle.stir_files.specs.Going.{GoingOf}
use Rattle.stir_files.specs.Materials.{MaterialsOf}
use Rattle.stir_files.specs.declared.going.GoingMaterials.{GoingMaterials}
use Rattle.stir_files.specs.declared.materials.Materials.{Materials}
use Rattle.stir_outside.specs.Files.{Files}
use Rattle.stir_words.specs.Order.{VerifyingView}
use Rattle.verify_rules.specs.declared.settings.Settings.{Settings}
use Rattle.verify_service.specs.Handing.{IsRestored}
use Rattle.verify_service.specs.Service.{IsNew, ServiceView}
use Rattle.stir_cmd.specs.Calls.{settings_by}
use Rattle.stir_cmd.specs.FewReads.{FewReadsFrom, ReadsFewFrom, ReadsLog}
use Rattle.stir_cmd.specs.Outside.{IfTold, Outside}
use Rattle.stir_cmd.specs.Verifying.{start_at}
use Rattle.stir_cmd.proofs.GoingSteps.{same_start}

-- ---- calls with which a log begins

-- a place with room for one call alone
abbrev last_at : Passed → Passed
last_at passed = record { number = passed.number; moment = passed.moment; count = 999999; place = passed.place }

one_text : (passed : Passed) (call : Entry) (behind : List ℕ) → IsNext passed call → LogText (last_at passed) (entry_text call ++ behind) (call ∷ []) behind
one_text passed call behind next = record {
  text = ap (λ t. t ++ behind) (sym (append-nil (entry_text call)));
  follow = (
    record { room = omega arith; numbered = next.numbered; not_backward = next.not_backward; moment_within = next.moment_within; length_within = next.length_within },
    tt,
  );
  longest = λ other more is_next text. let room = is_next.room in absurd (omega arith);
}

one_call : OneLog → (passed : Passed) (call other : Entry) (behind more : List ℕ) → IsNext passed call → IsNext passed other → entry_text call ++ behind ≡ entry_text other ++ more → (call ≡ other) × (behind ≡ more)
one_call law passed call other behind more next there same =
    let one = law (last_at passed) (entry_text call ++ behind) (call ∷ []) (other ∷ []) behind more (one_text passed call behind next)
    (subst (λ bytes. LogText (last_at passed) bytes (other ∷ []) more) (sym same) (one_text passed other more there)) in
    let both : call ∷ [] ≡ other ∷ [] = one.0 in
    (cc, one.1)

pub begins_by : OneLog → (passed : Passed) (all calls : List Entry) (rest behind : List ℕ) → AreCalls passed all → NoEntry (after_all passed all) rest → AreCalls passed calls
    → entry_texts all ++ rest ≡ entry_texts calls ++ behind → (more : List Entry) × (all ≡ calls ++ more)
begins_by law passed all [] rest behind a none b e = (all, refl)
begins_by law passed [] (c ∷ cs) rest behind a none b e = absurd (none c (entry_texts cs ++ behind) b.0 (e ∙ append_assoc (entry_text c) (entry_texts cs) behind))
begins_by law passed (d ∷ ds) (c ∷ cs) rest behind a none b e =
    let k = one_call law passed d c (entry_texts ds ++ rest) (entry_texts cs ++ behind) a.0 b.0 (sym (append_assoc (entry_text d) (entry_texts ds) rest) ∙ e ∙ append_assoc (entry_text c) (entry_texts cs) behind) in
    let Follow : Entry → Type 0 = λ x. AreCalls (after passed x) cs in
    let t = begins_by law (after passed d) ds cs rest behind a.1 none (subst Follow (sym k.0) b.1) k.1 in
    let first : d ≡ c = k.0 in
    let others : ds ≡ cs ++ t.0 = t.1 in
    (t.0, cc)

-- what is said of the calls that were read is said of all that the log has
reads_by : OneLog → (settings : Settings) (chains : ChainFiles) (passed : Passed) (bytes : List ℕ) (mid_left : Option (List ℕ)) (read all : List Entry) (rest : List ℕ) (reads now : ℕ) → AreCalls passed read
    → Consumes (Some bytes) mid_left (entry_texts read) → LogText passed bytes all rest → ReadsNamed settings chains read reads now → ReadsNamed settings chains all reads now
reads_by law settings chains passed bytes None read all rest reads now follow consumed log few = absurd consumed
reads_by law settings chains passed bytes (Some behind) read all rest reads now follow consumed log few =
    let more = begins_by law passed all read rest behind log.follow log.longest follow (sym log.text ∙ consumed) in
    subst (λ calls. ReadsNamed settings chains calls reads now) (sym more.1) (fewer_named settings chains read more.0 reads now few)

log_reads : OneLog → (settings : Settings) (chains : ChainFiles) (passed : Passed) (bytes : List ℕ) (reads mid now : ℕ) → mid ≤ reads → ReadsFirst settings chains passed (Some bytes) mid now
    → ReadsLog settings chains passed bytes reads now
log_reads law settings chains passed bytes reads mid now least r calls rest texts log have =
    let few = reads_by law settings chains passed bytes r.first.mid_left r.calls calls rest mid now r.first.read.follow r.first.read.consumed log r.few texts have in
    omega (arith, few, least)

-- ---- what the steps say of it

-- nothing was read of the log
pub reads_none : (settings : Settings) (chains : ChainFiles) (passed : Passed) (left : Option (List ℕ)) (reads : ℕ) → ReadsFirst settings chains passed left reads reads
reads_none settings chains passed left reads = record {
  calls = [];
  first = record { mid = passed; mid_left = left; read = read_nothing passed left };
  few = λ texts have. omega arith;
}

-- by a new service
pub reads_new : (settings : Settings) (told : Told) (service : ServiceView) (passed : Passed) (left : Option (List ℕ)) (reads now : ℕ) → IsNew settings told service
    → ReadsFirst service.settings service.chains passed left reads now → ReadsFirst settings told.chains passed left reads now
reads_new settings told service passed left reads now new r =
    subst (λ (x : Settings). ReadsFirst x told.chains passed left reads now) new.settings_are (subst (λ (x : ChainFiles). ReadsFirst service.settings x passed left reads now) new.chains r)

-- by one that was restored
pub reads_restored : (settings : Settings) (materials : GoingMaterials) (service : ServiceView) (call moment : ℕ) (left : Option (List ℕ)) (reads now : ℕ)
    → IsRestored settings materials.judging.world materials.state service
    → call ≡ materials.state.call → moment ≡ materials.state.moment → ReadsFirst service.settings service.chains (start call moment) left reads now
    → ReadsFirst settings materials.judging.world.chains (start_at materials.state) left reads now
reads_restored settings materials service call moment left reads now restored number last r =
    subst (λ (x : Passed). ReadsFirst settings materials.judging.world.chains x left reads now) (same_start materials.state call moment number last)
    (subst (λ (x : Settings). ReadsFirst x materials.judging.world.chains (start call moment) left reads now) restored.settings_are
    (subst (λ (x : ChainFiles). ReadsFirst service.settings x (start call moment) left reads now) restored.chains r))

-- ---- of the whole run

-- what holds of any files and bytes that are told
if_told : (files : Option Files) (left : Option (List ℕ)) (P : Files → List ℕ → Type 0) → ((told : Files) (bytes : List ℕ) → files ≡ Some told → left ≡ Some bytes → P told bytes) → IfTold files left P
if_told None left P each = tt
if_told (Some files) None P each = tt
if_told (Some files) (Some bytes) P each = each files bytes refl refl

-- none but the named files were read
pub few_named : (verifying : VerifyingView) (before now : Outside) → now.counts.reads ≤ before.counts.reads + 4 → FewReadsFrom verifying None before now
few_named verifying before now few = if_told before.files before.left (ReadsFewFrom verifying None before now) (λ told bytes files left. inl few)

pub few_named_on : (verifying : VerifyingView) (name : List ℕ) (before now : Outside) → now.counts.reads ≤ before.counts.reads + 5 → FewReadsFrom verifying (Some name) before now
few_named_on verifying name before now few = if_told before.files before.left (ReadsFewFrom verifying (Some name) before now) (λ told bytes files left. inl few)

-- by the settings of the words, of the log that was there
log_reads_by : OneLog → (settings given : Settings) (chains : ChainFiles) (passed : Passed) (left : Option (List ℕ)) (bytes : List ℕ) (reads mid now : ℕ) → left ≡ Some bytes → mid ≤ reads → settings ≡ given
    → ReadsFirst settings chains passed left mid now → ReadsLog given chains passed bytes reads now
log_reads_by law settings given chains passed left bytes reads mid now is least same first =
    subst (λ (x : Settings). ReadsLog x chains passed bytes reads now) same
    (log_reads law settings chains passed bytes reads mid now least (subst (λ (x : Option (List ℕ)). ReadsFirst settings chains passed x mid now) is first))

pub few_alone : OneLog → (verifying : VerifyingView) (before now : Outside) (mid : ℕ) (settings : Settings) (materials : Materials) → MaterialsOf before.files verifying.judging materials
    → mid ≤ before.counts.reads + 4 → settings ≡ settings_by verifying.judging.settings → ReadsFirst settings materials.world.chains (start 0 0) before.left mid now.counts.reads
    → FewReadsFrom verifying None before now
few_alone law verifying before now mid settings materials stands four given reads = if_told before.files before.left (ReadsFewFrom verifying None before now) (λ told bytes files left. inr (record {
  materials = materials;
  stands = subst (λ (x : Option Files). MaterialsOf x verifying.judging materials) files stands;
  reads = log_reads_by law settings _ materials.world.chains (start 0 0) before.left bytes (before.counts.reads + 4) mid now.counts.reads left four given reads;
}))

pub few_on : OneLog → (verifying : VerifyingView) (name : List ℕ) (before now : Outside) (mid : ℕ) (settings : Settings) (materials : GoingMaterials) → GoingOf before.files verifying.judging name materials
    → mid ≤ before.counts.reads + 5 → settings ≡ settings_by verifying.judging.settings → ReadsFirst settings materials.judging.world.chains (start_at materials.state) before.left mid now.counts.reads
    → FewReadsFrom verifying (Some name) before now
few_on law verifying name before now mid settings materials stands five given reads = if_told before.files before.left (ReadsFewFrom verifying (Some name) before now) (λ told bytes files left. inr (record {
  materials = materials;
  stands = subst (λ (x : Option Files). GoingOf x verifying.judging name materials) files stands;
  reads = log_reads_by law settings _ materials.judging.world.chains (start_at materials.state) before.left bytes (before.counts.reads + 5) mid now.counts.reads left five given reads;
}))

-- ---- by the words

pub few_is_alone : (verifying : VerifyingView) (state : Option (List ℕ)) (before now : Outside) → state ≡ None → FewReadsFrom verifying None before now → FewReadsFrom verifying state before now
few_is_alone verifying state before now is few = subst (λ (x : Option (List ℕ)). FewReadsFrom verifying x before now) (sym is) few

pub few_is_on : (verifying : VerifyingView) (state : Option (List ℕ)) (name : List ℕ) (before now : Outside) → state ≡ Some name → FewReadsFrom verifying (Some name) before now
    → FewReadsFrom verifying state before now
few_is_on verifying state name before now is few = subst (λ (x : Option (List ℕ)). FewReadsFrom verifying x before now) (sym is) few
