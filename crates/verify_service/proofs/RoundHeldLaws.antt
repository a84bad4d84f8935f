-- What a round has read, asked and held, from what is known of it.
use Rattle.std.proofs.Common.{◌≡◌, ℕ, ◌+◌, ◌≤◌, ◌<◌, Bool, true, false, not, List, [], filter, length, is_some, Option, sym, ap, ◌∙◌, subst, arith}
use Rattle.std.specs.List.{list_any}
use Rattle.call_log.specs.Entry.{Entry}
use Rattle.cert_store.specs.ChainMap.{listed}
use Rattle.cert_store.specs.Files.{Files as ChainFiles}
use Rattle.cert_store.specs.Holding.{Chains, Holding, chain_of}
use Rattle.cert_store.specs.Rules.{Says}
use Rattle.cert_store.specs.Using.{AreAmong, HeldUnless, IsOnce, has, names}
use Rattle.cert_store.specs.declared.world.World.{World as Materials}
use Rattle.stir_outside.specs.Count.{AtMost}
use Rattle.stir_outside.specs.Files.{Counts, Files}
use Rattle.verify_rules.specs.States.{State, have}
use Rattle.verify_rules.specs.declared.settings.Settings.{Settings}
use Rattle.call_judging.specs.Chains.{is_unasked}
use Rattle.verify_service.specs.Judging.{EachPair}
use Rattle.verify_service.specs.Needed.{all_named, named, needed, round_texts, touch_all}
use Rattle.verify_service.specs.Carrying.{own_passports}
use Rattle.verify_service.specs.Reads.{AreUsed, HasAsked, HasJudged, ReadsFew, StaysHeld, certificates_in, unheld}
use Rattle.verify_service.specs.Kept.{Kept}
use Rattle.verify_service.specs.RoundRead.{HasAskedOwn, IsKnownRight, RoundReads, StoresAll, own_of, texts_of, used_in}
use Rattle.verify_service.specs.Screening.{IsReady}
use Rattle.verify_service.specs.declared.screening.ReadyCall.{ReadyCall}
use Rattle.verify_service.proofs.JudgedChainLaws.{judged_among, judged_certificates, judged_chains, judged_count, judged_once, judged_pair}
use Rattle.verify_service.proofs.FewLaws.{once_each}
use Rattle.verify_service.proofs.ListLaws.{each_length}
use Rattle.verify_service.proofs.OwnLaws.{own_chains, own_each, own_passports_are}
use Rattle.verify_service.proofs.RoundThereLaws.{TheseLaw}
use Rattle.verify_service.proofs.StoreAllLaws.{all_capacity, pair_known}
use Rattle.verify_service.proofs.TouchLaws.{HeldAreUsed, SameLaw, TouchedOthersLaw, all_unless, needed_named, needed_parts, pair_held, touch_chains, touch_stays}
use Rattle.verify_service.proofs.UnheldLaws.{CacheLaws, all_few}
use Rattle.verify_service.proofs.TestLaws.{or_left, or_right}

abbrev pub NamedLaw : Type 0
NamedLaw = (settings : Settings) (entries : List Entry) (calls : List ReadyCall) → EachPair (IsReady settings) entries calls → all_named calls ≡ named settings entries

-- ---- the texts that are used

held_used : (files : ChainFiles) (held : Chains) (texts used : List (List ℕ)) → AreUsed files held texts used → HeldAreUsed held texts used
held_used files held texts used all x given stands = all x given (or_right (is_some (listed files x)) (is_some (chain_of x held)) stands)

needed_used : TheseLaw → (files : ChainFiles) (held : Chains) (texts used : List (List ℕ)) → AreUsed files held texts used → AreAmong (round_texts files held texts) used
needed_used law files held texts used all x is =
    let so = needed_named files held texts x (sym (law files held texts x) ∙ is) in
    all x so.1 (or_left (is_some (listed files x)) (is_some (chain_of x held)) (needed_parts files held x so.0).0)

-- ---- held

four : (n : ℕ) (held now : Holding) → now.capacity ≡ held.capacity → held.capacity ≡ n → now.capacity ≡ n
four n held now same is = same ∙ is

pub stays_held : CacheLaws → TheseLaw → SameLaw → TouchedOthersLaw → (materials : Materials) (calls : List ReadyCall) (texts : List (List ℕ)) (states : List State) (held now : Holding)
    (kept : Kept) → all_named calls ≡ texts → held.capacity ≡ 4096 → StoresAll (texts_of materials held.entries calls) states (used_in calls held) now [] kept
    → StaysHeld materials.chains texts held now
stays_held laws these same touched materials calls texts states held now kept named_are capacity stores = record {
  stays = λ used z all so.
      let uses : AreUsed materials.chains held.entries (all_named calls) used = subst (λ (ts : List (List ℕ)). AreUsed materials.chains held.entries ts used) (sym named_are) all in
      let first : HeldUnless held.capacity used z (touch_all (all_named calls) held.entries) =
      touch_stays same touched held.capacity used (all_named calls) held.entries (held_used materials.chains held.entries (all_named calls) used uses) z
      (subst (λ n. HeldUnless n used z held.entries) (sym capacity) so) in
      subst (λ n. HeldUnless n used z now.entries) (four 4096 held now (all_capacity (texts_of materials held.entries calls) states (used_in calls held) now [] kept stores) capacity)
      (all_unless laws used (texts_of materials held.entries calls) states (used_in calls held) now [] kept
      (needed_used these materials.chains held.entries (all_named calls) used uses) stores z first);
}

-- ---- judged

pub has_judged : CacheLaws → TheseLaw → NamedLaw → (told : Option Files) (materials : Materials) (says : Says) (settings : Settings) (entries : List Entry) (calls : List ReadyCall)
    (counts counts_now : Counts) (count : ℕ) (asks asks_mid asks_now faults faults_mid : ℕ → ℕ) (held now : Holding) (kept : Kept) (unread : List (List ℕ))
    → EachPair (IsReady settings) entries calls → held.capacity ≡ 4096
    → (reads : RoundReads told materials says calls counts counts_now (λ states. (w : ℕ) → w < count → HasAskedOwn w count (asks w) (asks_mid w) (faults w) (faults_mid w) states) held now kept)
    → ((x : List ℕ) → has x unread ≡ true → has x (names (judged_chains (texts_of materials held.entries calls) reads.states)) ≡ false)
    → ((w : ℕ) → w < count → asks_now w ≤ asks_mid w + own_passports count w calls (length calls))
    → HasJudged told materials says (named settings entries) unread held now counts.reads counts_now.reads
    (λ judged. (w : ℕ) → w < count → HasAsked judged (own_of w count 0 (round_texts materials.chains held.entries (named settings entries)))
    (named settings (own_of w count 0 entries)) (asks w) (asks_now w))
has_judged laws these named_law told materials says settings entries calls counts counts_now count asks asks_mid asks_now faults faults_mid held now kept unread ready capacity reads apart further =
    let mine = texts_of materials held.entries calls in
    let states = reads.states in
    let right = reads.known.knows.right in
    let size : length states ≡ length mine = each_length (IsKnownRight told materials says) mine states right in
    let counted = judged_count mine states size in
    let named_are : all_named calls ≡ named settings entries = named_law settings entries calls ready in
    let are : mine ≡ round_texts materials.chains held.entries (named settings entries) = ap (round_texts materials.chains held.entries) named_are in
    let once : IsOnce mine = once_each [] (needed materials.chains held.entries (all_named calls)) tt in
    record {
      judged = judged_chains mine states;
      once = judged_once mine states once;
      among = subst (AreAmong (names (judged_chains mine states))) are (judged_among mine states);
      right = λ x one is. (pair_known (IsKnownRight told materials says) mine states x (have one) right (judged_pair mine states x one is)).right;
      read = (let most = reads.known.knows.reads in omega arith);
      counted = subst (λ n. AtMost n counts.reads counts_now.reads) counted reads.known.knows.judged.most;
      apart = apart;
      asked = λ w less. subst (λ ts. HasAsked (judged_chains mine states) (own_of w count 0 ts) (named settings (own_of w count 0 entries)) (asks w) (asks_now w)) are (asked_by w less);
      kept = λ x one is answered used all.
          subst (λ n. HeldUnless n used x now.entries)
          (four 4096 held now (all_capacity mine states (used_in calls held) now [] kept reads.stores) capacity)
          (pair_held laws used mine states (used_in calls held) now [] kept
          (needed_used these materials.chains held.entries (all_named calls) used (subst (λ (ts : List (List ℕ)). AreUsed materials.chains held.entries ts used) (sym named_are) all))
          reads.stores x one (judged_pair mine states x one is) answered);
    }
  where
    asked_by : (w : ℕ) → w < count → HasAsked (judged_chains (texts_of materials held.entries calls) reads.states) (own_of w count 0 (texts_of materials held.entries calls))
        (named settings (own_of w count 0 entries)) (asks w) (asks_now w)
    asked_by w less =
        let mine = texts_of materials held.entries calls in
        let states = reads.states in
        let right = reads.known.knows.right in
        let once : IsOnce mine = once_each [] (needed materials.chains held.entries (all_named calls)) tt in
        let sizes : length (own_of w count 0 states) ≡ length (own_of w count 0 mine) =
        each_length (IsKnownRight told materials says) (own_of w count 0 mine) (own_of w count 0 states) (own_each (IsKnownRight told materials says) w count 0 mine states right) in
        let first = (reads.known.own w less).asked in
        let certificates = judged_certificates (own_of w count 0 mine) (own_of w count 0 states) sizes in
        let same = ap certificates_in (own_chains w count mine states once) in
        let second = further w less in
        let passports = own_passports_are count w calls in
        let named_own = ap length (named_law settings (own_of w count 0 entries) (own_of w count 0 calls) (own_each (IsReady settings) w count 0 entries calls ready)) in
        record { most = omega arith }

-- ---- read few

names_same : CacheLaws → SameLaw → (texts : List (List ℕ)) (held : Chains) (x : List ℕ) → has x (names (touch_all texts held)) ≡ has x (names held)
names_same laws same texts held x = laws.named x (touch_all texts held) ∙ ap is_some (touch_chains same texts held x) ∙ sym (laws.named x held)

unheld_same : (texts held now : List (List ℕ)) → ((x : List ℕ) → has x now ≡ has x held) → unheld texts now ≡ unheld texts held
unheld_same texts held now same = ap (λ (p : List ℕ → Bool). length (filter p texts)) (λ i x. not (same x i))

pub reads_few : CacheLaws → TheseLaw → SameLaw → NamedLaw → (told : Option Files) (materials : Materials) (says : Says) (settings : Settings) (entries : List Entry) (calls : List ReadyCall)
    (counts counts_now : Counts) (Own : List State → Type 0) (held now : Holding) (kept : Kept) → EachPair (IsReady settings) entries calls → held.capacity ≡ 4096
    → (reads : RoundReads told materials says calls counts counts_now Own held now kept) → list_any is_unasked reads.states ≡ false
    → ReadsFew settings materials.chains entries (names held.entries) (names now.entries) counts.reads counts_now.reads
reads_few laws these same named_law told materials says settings entries calls counts counts_now Own held now kept ready capacity reads quiet all texts =
    let mine = texts_of materials held.entries calls in
    let states = reads.states in
    let mid = touch_all (all_named calls) held.entries in
    let named_are : all_named calls ≡ named settings entries = named_law settings entries calls ready in
    let in_all : AreAmong mine all = λ x is.
    let so = needed_named materials.chains held.entries (all_named calls) x (sym (these materials.chains held.entries (all_named calls) x) ∙ is) in
    texts.named x (sym (ap (has x) named_are) ∙ so.1) (needed_parts materials.chains held.entries x so.0).0 in
    let names_in : AreAmong (names mid) all = λ x is. texts.held_among x (sym (names_same laws same (all_named calls) held.entries x) ∙ is) in
    let none : (z : List ℕ) → has z mine ≡ true → has z (names mid) ≡ false = λ z is.
    let so = needed_named materials.chains held.entries (all_named calls) z (sym (these materials.chains held.entries (all_named calls) z) ∙ is) in
    names_same laws same (all_named calls) held.entries z ∙ laws.named z held.entries ∙ (needed_parts materials.chains held.entries z so.0).1 in
    let room : length all ≤ held.capacity = subst (λ n. length all ≤ n) (sym capacity) texts.few in
    let few = all_few laws all mine states (used_in calls held) now [] kept in_all names_in room (once_each [] (needed materials.chains held.entries (all_named calls)) tt) none quiet
    reads.stores in
    record {
      fewer = (let counted = few.reads in let most = reads.known.knows.reads in
          let start = unheld_same all (names held.entries) (names mid) (names_same laws same (all_named calls) held.entries) in omega arith);
      among = few.among;
    }
