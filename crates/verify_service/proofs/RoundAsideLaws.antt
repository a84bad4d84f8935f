-- A call of a round is set aside only for a fault outside that was counted: of the shelf, or of the provider of the worker whose text or call it is.
use Rattle.std.proofs.Common.{◌≡◌, ℕ, suc, ◌≤◌, ◌<◌, ◌||◌, inl, inr, Bool, true, false, cond, List, [], ◌∷◌, filter, length, is_some, Option, Some, None, refl, sym, ap, ◌∙◌, subst, arith}
use Rattle.std.specs.List.{list_any}
use Rattle.call_log.specs.Entry.{Entry}
use Rattle.cert_store.specs.Holding.{AreAnswered, Chains, Holding, chain_of}
use Rattle.cert_store.specs.Judged.{JudgedView}
use Rattle.cert_store.specs.Asking.{is_failed}
use Rattle.cert_store.specs.Rules.{Says}
use Rattle.cert_store.specs.Using.{AreAmong, IsOnce, has, names}
use Rattle.cert_store.specs.declared.world.World.{World as Materials}
use Rattle.stir_outside.specs.Count.{AtMost, NotRisen}
use Rattle.stir_outside.specs.Files.{Counts, Files}
use Rattle.stir_outside.proofs.CountLaws.{both_at_most, not_rose}
use Rattle.verify_rules.specs.States.{State, have, unread}
use Rattle.verify_rules.specs.declared.settings.Settings.{Settings}
use Rattle.verify_service.specs.Carrying.{out_at, own_open}
use Rattle.verify_service.specs.Causes.{NoneUnasked, NoneUnread, UnaskedIsCounted, UnreadIsCounted, is_unasked as outcome_unasked, is_unasked_passport, is_unread as outcome_unread, joined, unasked_texts, unread_texts}
use Rattle.call_judging.specs.Chains.{is_unasked, is_unread}
use Rattle.verify_service.specs.Judging.{EachPair}
use Rattle.verify_service.specs.Kept.{Kept}
use Rattle.verify_service.specs.Needed.{all_named, needed}
use Rattle.verify_service.specs.RoundRead.{HasAskedOwn, IsKnownRight, RoundReads, own_of, texts_of, used_in}
use Rattle.verify_service.specs.Screening.{IsReady}
use Rattle.verify_service.specs.declared.outcome.Outcome.{Outcome}
use Rattle.verify_service.specs.declared.screening.ReadyCall.{ReadyCall}
use Rattle.verify_service.proofs.AsideLaws.{FieldLaw, IsAsideIn, IsKeptFailed, all_unasked, all_unread, unasked_once, unasked_some, unread_once, unread_some}
use Rattle.verify_service.proofs.FewLaws.{once_each}
use Rattle.verify_service.proofs.JudgedChainLaws.{judged_chains, judged_pair}
use Rattle.verify_service.proofs.OwnLaws.{has_itself, none_own, once_some, own_each, own_open_is, own_pair, pair_among, some_among}
use Rattle.verify_service.proofs.StoreAllLaws.{IsPair, picked, picked_count, picked_has, round_kept}
use Rattle.verify_service.proofs.TestLaws.{false_is_not_true, or_right}

abbrev pub NoMoreLaw : Type 0
NoMoreLaw = (texts others : List (List ℕ)) → IsOnce texts → AreAmong texts others → length texts ≤ length others

abbrev pub JoinedLaw : Type 0
JoinedLaw = (text : List ℕ) (texts : List (List ℕ)) → IsOnce texts → IsOnce (joined text texts)

at_most_less : (m n before now : ℕ) → m ≤ n → AtMost n before now → AtMost m before now
at_most_less m n before now less (inl most) = inl (omega arith)
at_most_less m n before now less (inr last) = inr last

-- ---- some, or none

any_by : {X : Type 0} → (b : Bool) (x : X) (ps : List X) (c : Bool) → (1 ≤ length ps → c ≡ true) → 1 ≤ length (cond b (x ∷ ps) ps) → (b || c) ≡ true
any_by true x ps c law some = refl
any_by false x ps c law some = law some

some_any : {X : Type 0} → (p : X → Bool) (xs : List X) → 1 ≤ length (filter p xs) → list_any p xs ≡ true
some_any p [] some = absurd (omega arith)
some_any p (x ∷ xs) some = any_by (p x) x (filter p xs) (list_any p xs) (some_any p xs) some

none_by : (b : Bool) (P : Type 0) → (b ≡ true → P) → (P → ⊥) → b ≡ false
none_by true P law never = absurd (never (law refl))
none_by false P law never = refl

first_has : (xs : List (List ℕ)) → 1 ≤ length xs → (x : List ℕ) × (has x xs ≡ true)
first_has [] some = absurd (omega arith)
first_has (x ∷ xs) some = (x, has_itself x xs)

pair_any : (p : State → Bool) (x : List ℕ) (s : State) (texts : List (List ℕ)) (states : List State) → IsPair x s texts states → p s ≡ true → list_any p states ≡ true
pair_any p x s [] states pair is = absurd pair
pair_any p x s (t ∷ ts) [] pair is = absurd pair
pair_any p x s (t ∷ ts) (u ∷ us) (inl here) is = ap (λ b. b || list_any p us) (sym (ap p here.1) ∙ is)
pair_any p x s (t ∷ ts) (u ∷ us) (inr later) is = or_right (p u) (list_any p us) (pair_any p x s ts us later is)

none_filter : (p : Outcome → Bool) (outs : List Outcome) → ((at : ℕ) → at < length outs → p (out_at outs at) ≡ false) → length (filter p outs) ≡ 0
none_filter p [] none = refl
none_filter p (o ∷ outs) none = ap (λ b. length (cond b (o ∷ filter p outs) (filter p outs))) (none 0 (omega arith)) ∙ none_filter p outs (λ at less. none (suc at) (omega arith))

-- a text has one state
not_once : (x y : List ℕ) (s : State) (texts : List (List ℕ)) (states : List State) → x ≡ y → IsPair x s texts states → has y texts ≡ false → ⊥
not_once x y s texts states same pair none = false_is_not_true (sym none ∙ (ap (λ z. has z texts) (sym same) ∙ pair_among x s texts states pair))

pair_one : (x : List ℕ) (s t : State) (texts : List (List ℕ)) (states : List State) → IsOnce texts → IsPair x s texts states → IsPair x t texts states → s ≡ t
pair_one x s t [] states once one other = absurd one
pair_one x s t (y ∷ ys) [] once one other = absurd one
pair_one x s t (y ∷ ys) (u ∷ us) once (inl a) (inl b) = a.1 ∙ sym b.1
pair_one x s t (y ∷ ys) (u ∷ us) once (inl a) (inr b) = absurd (not_once x y t ys us a.0 b once.0)
pair_one x s t (y ∷ ys) (u ∷ us) once (inr a) (inl b) = absurd (not_once x y s ys us b.0 a once.0)
pair_one x s t (y ∷ ys) (u ∷ us) once (inr a) (inr b) = pair_one x s t ys us once.1 a b

not_unread : (one : JudgedView) → have one ≡ unread → ⊥
not_unread one e = cc

-- ---- a round on so many workers

module _ (field : FieldLaw) (no_more : NoMoreLaw) (joined_law : JoinedLaw) (told : Option Files) (materials : Materials) (says : Says) (settings : Settings) (entries : List Entry)
    (calls : List ReadyCall) (counts counts_now : Counts) (count : ℕ) (asks asks_mid faults faults_mid : ℕ → ℕ) (held now : Holding) (kept : Kept) (outs : List Outcome)
    (ready : EachPair (IsReady settings) entries calls)
    (reads : RoundReads told materials says calls counts counts_now (λ states. (w : ℕ) → w < count → HasAskedOwn w count (asks w) (asks_mid w) (faults w) (faults_mid w) states) held now kept)
    (aside : EachPair (IsAsideIn kept now.entries) calls outs) where
  abbrev pub texts : List (List ℕ)
  texts = texts_of materials held.entries calls

  pub texts_once : IsOnce texts
  texts_once = once_each [] (needed materials.chains held.entries (all_named calls)) tt

  -- ---- files that weren't read

  unread_few : length (unread_texts settings entries outs) ≤ length (filter is_unread reads.states)
  unread_few =
      subst (λ n. length (unread_texts settings entries outs) ≤ n) (picked_count (IsKnownRight told materials says) is_unread texts reads.states reads.known.knows.right)
      (no_more (unread_texts settings entries outs) (picked is_unread texts reads.states) (unread_once joined_law settings entries outs)
      (λ x is. picked_has is_unread texts reads.states x unread
      (round_kept texts reads.states (used_in calls held) now kept reads.stores x unread (all_unread field now.entries kept settings entries calls outs ready aside x is)) refl))

  pub unread_counted : UnreadIsCounted settings entries counts.faults counts_now.faults outs
  unread_counted = at_most_less (length (unread_texts settings entries outs)) (length (filter is_unread reads.states)) counts.faults counts_now.faults unread_few reads.known.knows.unread.most

  pub none_unread : length outs ≡ length entries → NotRisen counts.faults counts_now.faults → NoneUnread outs
  none_unread same stayed =
      none_by (list_any outcome_unread outs) (1 ≤ length (filter is_unread reads.states))
      (λ is. let some = unread_some settings entries outs same is in let few = unread_few in omega arith)
      (λ some. not_rose counts.faults counts_now.faults stayed (reads.known.knows.unread.cause (some_any is_unread reads.states some)))

  -- the chain of a text at which a call is unread wasn't judged
  pub unread_apart : ((x : List ℕ) (entries : Chains) → has x (names entries) ≡ is_some (chain_of x entries)) → (x : List ℕ)
      → has x (unread_texts settings entries outs) ≡ true → has x (names (judged_chains texts reads.states)) ≡ false
  unread_apart named x is = named x (judged_chains texts reads.states) ∙ by (chain_of x (judged_chains texts reads.states)) refl
    where
      by : (found : Option JudgedView) → chain_of x (judged_chains texts reads.states) ≡ found → is_some found ≡ false
      by None found = refl
      by (Some one) found =
          let pair = round_kept texts reads.states (used_in calls held) now kept reads.stores x unread (all_unread field now.entries kept settings entries calls outs ready aside x is) in
          absurd (not_unread one (pair_one x (have one) unread texts reads.states texts_once (judged_pair texts reads.states x one found) pair))

  -- ---- questions that failed

  -- the chain of the text was judged, and a question of it failed
  record IsPairFailed (x : List ℕ) : Type 0 where
    judged : JudgedView
    pair : IsPair x (have judged) texts reads.states
    failed : is_failed judged.asked ≡ true

  failed_pair : AreAnswered now.entries → (x : List ℕ) → has x (unasked_texts settings entries outs) ≡ true → IsPairFailed x
  failed_pair answered x is =
      let one : IsKeptFailed kept x = all_unasked field now.entries kept settings answered entries calls outs ready aside x is in
      record { judged = one.judged; pair = round_kept texts reads.states (used_in calls held) now kept reads.stores x (have one.judged) one.kept_is; failed = one.failed }

  -- each text at which the signature of a certificate is left open is one of the round's
  pub unasked_among : AreAnswered now.entries → AreAmong (unasked_texts settings entries outs) texts
  unasked_among answered x is = let one = failed_pair answered x is in pair_among x (have one.judged) texts reads.states one.pair

  abbrev pub own_texts : ℕ → List (List ℕ)
  own_texts w = own_of w count 0 texts

  failed_few : AreAnswered now.entries → (w : ℕ) → length (filter (λ x. has x (own_texts w)) (unasked_texts settings entries outs)) ≤ length (filter is_unasked (own_of w count 0 reads.states))
  failed_few answered w =
      let mine = filter (λ x. has x (own_texts w)) (unasked_texts settings entries outs) in
      let states = own_of w count 0 reads.states in
      subst (λ n. length mine ≤ n)
      (picked_count (IsKnownRight told materials says) is_unasked (own_texts w) states
      (own_each (IsKnownRight told materials says) w count 0 texts reads.states reads.known.knows.right))
      (no_more mine (picked is_unasked (own_texts w) states) (once_some (λ x. has x (own_texts w)) (unasked_texts settings entries outs) (unasked_once joined_law settings entries outs))
      (λ x is. let both = some_among (λ y. has y (own_texts w)) x (unasked_texts settings entries outs) is in
      let one = failed_pair answered x both.0 in
      picked_has is_unasked (own_texts w) states x (have one.judged) (own_pair w count 0 texts reads.states x (have one.judged) texts_once one.pair both.1) one.failed))

  pub unasked_counted : AreAnswered now.entries → (w faults_now : ℕ) → w < count → length outs ≡ length calls → AtMost (own_open count w outs (length calls)) (faults_mid w) faults_now
      → UnaskedIsCounted settings entries (own_texts w) (own_of w count 0 outs) (faults w) faults_now outs
  unasked_counted answered w faults_now less same own =
      both_at_most (length (filter (λ x. has x (own_texts w)) (unasked_texts settings entries outs))) (length (filter is_unasked_passport (own_of w count 0 outs))) (faults w) (faults_mid w) faults_now
      (at_most_less (length (filter (λ x. has x (own_texts w)) (unasked_texts settings entries outs))) (length (filter is_unasked (own_of w count 0 reads.states))) (faults w) (faults_mid w)
      (failed_few answered w) (reads.known.own w less).failed.most)
      (subst (λ n. AtMost n (faults_mid w) faults_now) (ap (own_open count w outs) (sym same) ∙ own_open_is count w outs) own)

  -- if no provider failed, no question did
  pub none_failed : 0 < count → ((w : ℕ) → w < count → NotRisen (faults w) (faults_mid w)) → list_any is_unasked reads.states ≡ false
  none_failed some stayed =
      none_own is_unasked count 0 reads.states some (λ w less. none_by (list_any is_unasked (own_of w count 0 reads.states)) (list_any is_unasked (own_of w count 0 reads.states) ≡ true)
      (λ is. is) (λ is. not_rose (faults w) (faults_mid w) (stayed w less) ((reads.known.own w less).failed.cause is)))

  pub none_unasked : AreAnswered now.entries → 0 < count → length outs ≡ length entries → ((w : ℕ) → w < count → NotRisen (faults w) (faults_mid w))
      → ((at : ℕ) → at < length outs → is_unasked_passport (out_at outs at) ≡ false) → NoneUnasked outs
  none_unasked answered some same stayed own =
      none_by (list_any outcome_unasked outs) (1 ≤ length (unasked_texts settings entries outs))
      (λ is. let any = unasked_some settings entries outs same is in let none = none_filter is_unasked_passport outs own in omega arith)
      (λ any. let first = first_has (unasked_texts settings entries outs) any in
      let one = failed_pair answered first.0 first.1 in
      false_is_not_true (sym (none_failed some stayed) ∙ pair_any is_unasked first.0 (have one.judged) texts reads.states one.pair one.failed))
