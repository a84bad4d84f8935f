-- All that a round says of its calls and its chains, from what it prepared and carried out.
use Rattle.std.proofs.Common.{◌≡◌, ℕ, ◌+◌, ◌*◌, ◌≤◌, ◌<◌, ◌%◌, Bool, true, false, List, [], ◌∷◌, length, Option, Some, mod-lt, refl, sym, ap, ◌∙◌, subst, arith, length-append}
use Rattle.call_log.specs.Entry.{Entry}
use Rattle.cert_store.specs.Holding.{AreAnswered, Holding}
use Rattle.cert_store.specs.Rules.{Says}
use Rattle.cert_store.specs.Using.{AreAmong, names}
use Rattle.cert_store.specs.declared.world.World.{World as Materials}
use Rattle.replay_law.specs.Held.{Held}
use Rattle.replay_law.specs.Round.{RoundSettled, round_of}
use Rattle.stir_outside.specs.Count.{AtMost, NotRisen, Rose}
use Rattle.stir_outside.specs.Files.{Counts, Files}
use Rattle.stir_outside.proofs.CountLaws.{not_risen_before, not_risen_behind, not_rose}
use Rattle.verify_rules.specs.declared.settings.Settings.{Settings}
use Rattle.verify_service.specs.Carrying.{AreSaid, HasAnswered, out_at, own_open}
use Rattle.verify_service.specs.Carried.{AreRuled}
use Rattle.call_judging.specs.Causes.{HasCauseIf}
use Rattle.verify_service.specs.Causes.{NoneUnasked, NoneUnread, UnaskedIsCounted, UnreadIsCounted, is_unasked_passport, unasked_texts, unread_texts}
use Rattle.verify_service.specs.Judging.{EachPair, IsJudgedWhere, call_in}
use Rattle.verify_service.specs.Kept.{Kept}
use Rattle.verify_service.specs.Needed.{all_named, named, named_by, round_texts, x5u_of}
use Rattle.verify_service.specs.Ready.{Basis, Provided}
use Rattle.verify_service.specs.Reads.{HasAsked, HasJudged, ReadsFew, StaysHeld}
use Rattle.verify_service.specs.RightChains.{AreRightHeld}
use Rattle.verify_service.specs.RoundRead.{HasAskedOwn, RoundReads, own_of}
use Rattle.verify_service.specs.Rows.{EachOwed, RoundLegal, rows_of}
use Rattle.verify_service.specs.Screening.{IsReady, readings_in}
use Rattle.verify_service.specs.Service.{AreJudged, HoldsRight, IsSameConfig, ServiceView, held_texts, materials_of, texts_in, world_of}
use Rattle.verify_service.specs.declared.outcome.Outcome.{Outcome}
use Rattle.verify_service.specs.declared.screening.ReadyCall.{ReadyCall}
use Rattle.verify_service.specs.declared.screening.Screening.{Screening}
use Rattle.verify_service.specs.declared.screening.Screening.TheVariants.{Open, Refused, Passed}
use Rattle.verify_service.proofs.AsideLaws.{FieldLaw, IsAsideIn}
use Rattle.verify_service.proofs.EachCallLaws.{each_aside}
use Rattle.call_judging.proofs.ListLaws.{mapped_length}
use Rattle.verify_service.proofs.ListLaws.{each_length}
use Rattle.verify_service.proofs.OwnLaws.{own_each, own_passports_are}
use Rattle.verify_service.proofs.RoundAsideLaws.{JoinedLaw, NoMoreLaw, none_failed, none_unasked, none_unread, unasked_among, unasked_counted, unread_apart, unread_counted}
use Rattle.verify_service.proofs.RoundHeldLaws.{NamedLaw, has_judged, reads_few, stays_held}
use Rattle.verify_service.proofs.RoundLaws.{all_judged, materials_same}
use Rattle.verify_service.proofs.RoundThereLaws.{TheseLaw}
use Rattle.verify_service.proofs.TouchLaws.{SameLaw, TouchedOthersLaw}
use Rattle.verify_service.proofs.UnheldLaws.{CacheLaws}

-- the laws that a round rests on
pub record RoundLaws : Type 0 where
  pub field : FieldLaw
  pub these : TheseLaw
  pub joined : JoinedLaw
  pub named : NamedLaw
  pub same : SameLaw
  pub touched : TouchedOthersLaw
  pub no_more : NoMoreLaw
  pub cache : CacheLaws

-- What was prepared of a round, and how its calls were answered: by workers whose providers were asked so often, and failed so often, before the round,
-- when it was prepared, and after it.
pub record RoundParts (told : Option Files) (service : ServiceView) (says : Says) (entries : List Entry) (calls : List ReadyCall) (counts counts_now : Counts) (count : ℕ)
    (asks asks_mid faults faults_mid : ℕ → ℕ) (by : ℕ → Provided) (on : Basis) (now : Holding) (kept : Kept) (outs : List Outcome) : Type 0 where
  pub capacity : service.held.capacity ≡ 4096
  pub some : 0 < count
  pub ready : EachPair (IsReady service.settings) entries calls
  pub reads : RoundReads told (materials_of service) says calls counts counts_now
      (λ states. (w : ℕ) → w < count → HasAskedOwn w count (asks w) (asks_mid w) (faults w) (faults_mid w) states) service.held now kept
  pub right : AreRightHeld told (materials_of service) says now.entries kept
  pub answered : AreAnswered now.entries
  pub size : length outs ≡ length calls
  pub held_are : on.held ≡ now.entries
  pub kept_are : on.kept ≡ kept
  pub materials_are : on.materials ≡ materials_of service
  pub said : AreSaid on by count calls outs
  pub each : (w : ℕ) → w < count → HasAnswered on (by w) calls count w outs
  pub ruled : AreRuled on service.settings entries (λ w. (by w).says) count outs
  pub agree : (w : ℕ) → w < count → (by w).says ≡ says
  pub asks_are : (w : ℕ) → w < count → (by w).asks ≡ asks_mid w
  pub faults_are : (w : ℕ) → w < count → (by w).faults ≡ faults_mid w
  pub faults_stay : (w : ℕ) → w < count → faults w ≤ faults_mid w

module _ (laws : RoundLaws) (told : Option Files) (service : ServiceView) (says : Says) (entries : List Entry) (calls : List ReadyCall) (counts counts_now : Counts) (count : ℕ)
    (asks asks_mid faults faults_mid : ℕ → ℕ) (by : ℕ → Provided) (on : Basis) (now : Holding) (kept : Kept) (outs : List Outcome)
    (parts : RoundParts told service says entries calls counts counts_now count asks asks_mid faults faults_mid by on now kept outs) where
  pub counted : length outs ≡ length entries
  counted = parts.size ∙ each_length (IsReady service.settings) entries calls parts.ready

  named_are : all_named calls ≡ named service.settings entries
  named_are = laws.named service.settings entries calls parts.ready

  texts_are : round_texts service.chains service.held.entries (all_named calls) ≡ texts_in service entries
  texts_are = ap (round_texts service.chains service.held.entries) named_are

  aside : EachPair (IsAsideIn kept now.entries) calls outs
  aside =
      subst (λ (k : Kept). EachPair (IsAsideIn k now.entries) calls outs) parts.kept_are
      (subst (λ hs. EachPair (IsAsideIn on.kept hs) calls outs) parts.held_are (each_aside on by calls count outs parts.said parts.size))

  pub judged : AreJudged told service says entries outs
  judged =
      all_judged told service says entries outs
      (subst (λ (m : Materials). EachPair (λ entry outcome. IsJudgedWhere told m says (call_in service.settings entry) outcome) entries outs) parts.materials_are
      (parts.ruled.judged told says parts.agree
      (subst (λ (m : Materials). AreRightHeld told m says on.held on.kept) (sym parts.materials_are)
      (subst (λ (k : Kept). AreRightHeld told (materials_of service) says on.held k) (sym parts.kept_are)
      (subst (λ hs. AreRightHeld told (materials_of service) says hs kept) (sym parts.held_are) parts.right)))))

  pub owed : EachOwed service.settings entries outs
  owed = parts.ruled.owed

  pub unread : UnreadIsCounted service.settings entries counts.faults counts_now.faults outs
  unread =
      unread_counted laws.field laws.no_more laws.joined told (materials_of service) says service.settings entries calls counts counts_now count asks asks_mid faults faults_mid service.held now kept outs
      parts.ready parts.reads aside

  pub quiet_shelf : NotRisen counts.faults counts_now.faults → NoneUnread outs
  quiet_shelf stayed =
      none_unread laws.field laws.no_more laws.joined told (materials_of service) says service.settings entries calls counts counts_now count asks asks_mid faults faults_mid service.held now kept outs
      parts.ready parts.reads aside counted stayed

  pub among : AreAmong (unasked_texts service.settings entries outs) (texts_in service entries)
  among =
      subst (λ ts. AreAmong (unasked_texts service.settings entries outs) ts) texts_are
      (unasked_among laws.field laws.no_more laws.joined told (materials_of service) says service.settings entries calls counts counts_now count asks asks_mid faults faults_mid service.held now kept outs
      parts.ready parts.reads aside parts.answered)

  pub unasked : (w : ℕ) → w < count → UnaskedIsCounted service.settings entries (own_of w count 0 (texts_in service entries)) (own_of w count 0 outs) (faults w) (by w).faults_now outs
  unasked w less =
      subst (λ ts. UnaskedIsCounted service.settings entries (own_of w count 0 ts) (own_of w count 0 outs) (faults w) (by w).faults_now outs) texts_are
      (unasked_counted laws.field laws.no_more laws.joined told (materials_of service) says service.settings entries calls counts counts_now count asks asks_mid faults faults_mid service.held now kept outs
      parts.ready parts.reads aside parts.answered w (by w).faults_now less parts.size
      (subst (λ n. AtMost (own_open count w outs (length calls)) n (by w).faults_now) (parts.faults_are w less) (parts.each w less).unasked))

  mid_stays : ((w : ℕ) → w < count → NotRisen (faults w) (by w).faults_now) → (w : ℕ) → w < count → NotRisen (faults w) (faults_mid w)
  mid_stays stayed w less =
      not_risen_before (faults w) (faults_mid w) (by w).faults_now (parts.faults_stay w less)
      (subst (λ n. n ≤ (by w).faults_now) (parts.faults_are w less) (parts.each w less).faults_stay) (stayed w less)

  pub quiet : ((w : ℕ) → w < count → NotRisen (faults w) (by w).faults_now) → NoneUnasked outs
  quiet stayed =
      none_unasked laws.field laws.no_more laws.joined told (materials_of service) says service.settings entries calls counts counts_now count asks asks_mid faults faults_mid service.held now kept outs
      parts.ready parts.reads aside parts.answered parts.some counted (mid_stays stayed)
      (λ at less. let w = at % count in let within : w < count = mod-lt at parts.some in
      own_none (is_unasked_passport (out_at outs at)) w within
      ((parts.each w within).cause at (let size = parts.size in omega arith) refl))
    where
      own_none : (b : Bool) (w : ℕ) → w < count → HasCauseIf b (by w).faults (by w).faults_now → b ≡ false
      own_none true w within cause =
          absurd (not_rose (faults_mid w) (by w).faults_now
          (not_risen_behind (faults w) (faults_mid w) (by w).faults_now (parts.faults_stay w within)
          (subst (λ n. n ≤ (by w).faults_now) (parts.faults_are w within) (parts.each w within).faults_stay) (stayed w within))
          (subst (λ n. Rose n (by w).faults_now) (parts.faults_are w within) (cause refl)))
      own_none false w within cause = refl

  pub judges : HasJudged told (materials_of service) says (named service.settings entries) (unread_texts service.settings entries outs) service.held now counts.reads counts_now.reads
      (λ judged. (w : ℕ) → w < count → HasAsked judged (own_of w count 0 (texts_in service entries)) (named service.settings (own_of w count 0 entries)) (asks w) (by w).asks_now)
  judges =
      has_judged laws.cache laws.these laws.named told (materials_of service) says service.settings entries calls counts counts_now count asks asks_mid (λ w. (by w).asks_now) faults faults_mid service.held now
      kept (unread_texts service.settings entries outs) parts.ready parts.capacity parts.reads
      (unread_apart laws.field laws.no_more laws.joined told (materials_of service) says service.settings entries calls counts counts_now count asks asks_mid faults faults_mid service.held now kept outs
      parts.ready parts.reads aside laws.cache.named)
      (λ w less. let most = (parts.each w less).asks_most in let same = parts.asks_are w less in omega arith)

  -- a worker's provider is asked at most once for each PASSporT of the worker's calls
  pub passports : (w : ℕ) → w < count → (by w).asks_now ≤ asks_mid w + length (named service.settings (own_of w count 0 entries))
  passports w less =
      let most = (parts.each w less).asks_most in
      let same = parts.asks_are w less in
      let own = own_passports_are count w calls in
      let named_own = ap length (laws.named service.settings (own_of w count 0 entries) (own_of w count 0 calls) (own_each (IsReady service.settings) w count 0 entries calls parts.ready)) in
      omega arith

  pub stays : StaysHeld service.chains (named service.settings entries) service.held now
  stays =
      stays_held laws.cache laws.these laws.same laws.touched (materials_of service) calls (named service.settings entries) parts.reads.states service.held now kept named_are parts.capacity
      parts.reads.stores

  pub few : ((w : ℕ) → w < count → NotRisen (faults w) (by w).faults_now) → ReadsFew service.settings service.chains entries (held_texts service) (names now.entries) counts.reads counts_now.reads
  few stayed =
      reads_few laws.cache laws.these laws.same laws.named told (materials_of service) says service.settings entries calls counts counts_now _ service.held now kept parts.ready parts.capacity parts.reads
      (none_failed laws.field laws.no_more laws.joined told (materials_of service) says service.settings entries calls counts counts_now count asks asks_mid faults faults_mid service.held now kept outs
      parts.ready parts.reads aside parts.some (mid_stays stayed))

-- ---- before the calls are judged

named_few : (call : ReadyCall) → length (readings_in call.screening) ≤ 9 → length (named_by call.screening) ≤ 9
named_few call few = by call.screening few
  where
    by : (screening : Screening) → length (readings_in screening) ≤ 9 → length (named_by screening) ≤ 9
    by Open most = omega arith
    by (Refused refused) most = omega arith
    by (Passed screened) most = let same = mapped_length x5u_of screened.readings in omega arith

pub named_most : (settings : Settings) (entries : List Entry) (calls : List ReadyCall) → EachPair (IsReady settings) entries calls → length (all_named calls) ≤ 9 * length entries
named_most settings [] [] ready = omega arith
named_most settings [] (call ∷ calls) ready = absurd ready
named_most settings (entry ∷ entries) [] ready = absurd ready
named_most settings (entry ∷ entries) (call ∷ calls) ready =
    let both = length-append (named_by call.screening) (all_named calls) in
    let one = named_few call ready.0.few in
    let others = named_most settings entries calls ready.1 in
    omega arith

-- what the service holds is right, if what it has inside is
pub right_after : (told told_now : Option Files) (service : ServiceView) (says says_now : Says) (world : Materials) (held now : Holding) → told_now ≡ told → says_now ≡ says
    → world ≡ materials_of service → held ≡ service.held → (AreRightHeld told world says held.entries [] → AreRightHeld told world says now.entries []) → HoldsRight told says service
    → AreRightHeld told_now world says_now now.entries []
right_after told told_now service says says_now world held now same_told same_says same_world same_held law right =
    subst (λ (t : Option Files). AreRightHeld t world says_now now.entries []) (sym same_told)
    (subst (λ (s : Says). AreRightHeld told world s now.entries []) (sym same_says)
    (law (subst (λ (m : Materials). AreRightHeld told m says held.entries []) (sym same_world)
    (subst (λ (h : Holding). AreRightHeld told (materials_of service) says h.entries []) (sym same_held) right))))

-- if the shelf tells its files, the outcomes are legal
pub legal_by : (told : Option Files) (service : ServiceView) (says : Says) (files : Files) (past next : Held) (entries : List Entry) (outcomes : List Outcome) → told ≡ Some files
    → length outcomes ≡ length entries → AreJudged told service says entries outcomes → RoundSettled past (round_of (rows_of service.settings entries outcomes)) next
    → RoundLegal service.settings (world_of service files says) past entries outcomes next
legal_by told service says files past next entries outcomes same counted judged settled =
    record { counted = counted; judged = subst (λ (t : Option Files). AreJudged t service says entries outcomes) same judged; settled = settled }

-- what a service holds is right, if what it held before is and all but its past stays
pub holds_same : (told : Option Files) (says says_now : Says) (service now : ServiceView) → says_now ≡ says → IsSameConfig service now → now.held ≡ service.held → HoldsRight told says service
    → HoldsRight told says_now now
holds_same told says says_now service now same_says config same_held right =
    subst (λ (s : Says). AreRightHeld told (materials_of now) s now.held.entries []) (sym same_says)
    (subst (λ (h : Holding). AreRightHeld told (materials_of now) says h.entries []) (sym same_held)
    (subst (λ (m : Materials). AreRightHeld told m says service.held.entries []) (sym (materials_same service now (materials_of now) config refl refl refl)) right))
