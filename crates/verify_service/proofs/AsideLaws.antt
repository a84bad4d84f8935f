-- A call is set aside only for a chain that the round keeps: for at most as many different texts as there are such chains.
use Rattle.std.proofs.Common.{◌≡◌, ℕ, zero, suc, ◌+◌, ◌≤◌, ◌==◌, ◌||◌, ◌⊎◌, inl, inr, Bool, true, false, cond, List, [], ◌∷◌, length, filter, Option, Some, None, refl, sym, ap, ◌∙◌, subst, arith}
use Rattle.std.proofs.lemmas.Bool.Decides.{nat_tests}
use Rattle.std.specs.List.{list_any, slice_get}
use Rattle.std.specs.Str.{bytes_eq}
use Rattle.call_log.specs.Entry.{Entry}
use Rattle.cert_store.specs.Asking.{is_failed}
use Rattle.cert_store.specs.Holding.{AreAnswered, Chains, chain_of}
use Rattle.cert_store.specs.Judged.{JudgedView}
use Rattle.cert_store.specs.Using.{IsOnce, has}
use Rattle.verify_rules.specs.Call.{Call, Reading, in_call_order}
use Rattle.verify_rules.specs.Causes.{IsUnknownAt}
use Rattle.verify_rules.specs.Screened.{ScreenedView, screened_by}
use Rattle.verify_rules.specs.States.{State, have, unread}
use Rattle.verify_rules.specs.Verdict.{IsLeftOpen}
use Rattle.verify_rules.specs.declared.refusal.Place.{Place}
use Rattle.verify_rules.specs.declared.settings.Settings.{Settings}
use Rattle.verify_service.specs.Aside.{IsAsideFor}
use Rattle.verify_service.specs.Causes.{is_passport, is_unasked, is_unasked_passport, is_unread, joined, unasked_texts, unread_texts, with_unasked, with_unread, x5u_at, x5u_in}
use Rattle.verify_service.specs.Judging.{EachPair, call_in}
use Rattle.verify_service.specs.Kept.{Kept, kept_state, state_at, state_by, states_for}
use Rattle.verify_service.specs.Screening.{IsReady, IsScreening, readings_in}
use Rattle.verify_service.specs.declared.outcome.Outcome.{Outcome}
use Rattle.verify_service.specs.declared.outcome.Outcome.TheVariants.{Valid, Refused, Replay, Unread, Unasked}
use Rattle.verify_service.specs.declared.screening.ReadyCall.{ReadyCall}
use Rattle.verify_service.specs.declared.screening.Screening.{Screening}
use Rattle.verify_service.specs.declared.screening.Screening.TheVariants as screenings
use Rattle.verify_service.proofs.ListLaws.{map_at}
use Rattle.verify_service.proofs.TestLaws.{false_is_not_true, same_text}

-- ---- the text at a place

-- two PASSporTs of one field are one and the same
abbrev pub OneField : List Reading → Type 0
OneField readings = (at other : ℕ) (one second : Reading) → slice_get readings at ≡ Some one → slice_get readings other ≡ Some second → one.mark.field ≡ second.mark.field → one ≡ second

first_by : (one : Reading) (here : Reading) (others : List Reading) (bad : Place) (b : Bool) → (one.mark.field == bad.field) ≡ b → here.mark.field ≡ bad.field
    → (one.mark.field ≡ here.mark.field → one ≡ here) → (b ≡ false → x5u_in others bad ≡ here.passport.x5u) → cond b one.passport.x5u (x5u_in others bad) ≡ here.passport.x5u
first_by one here others bad true is same law later =
    let field : one.mark.field ≡ bad.field = grind (arith, nat_tests) in
    ap (λ (r : Reading). r.passport.x5u) (law (field ∙ sym same))
first_by one here others bad false is same law later = later refl

itself : (n : ℕ) → (n == n) ≡ true
itself n = grind (arith, nat_tests)

text_at : (readings : List Reading) → OneField readings → (at : ℕ) (here : Reading) (bad : Place) → slice_get readings at ≡ Some here → here.mark.field ≡ bad.field
    → x5u_in readings bad ≡ here.passport.x5u
text_at [] law at here bad is same = absurd cc
text_at (one ∷ others) law zero here bad is same =
    first_by one here others bad (one.mark.field == bad.field) refl same (λ field. law 0 0 one here refl is field)
    (λ not. absurd (false_is_not_true (sym not ∙ ap (λ n. n == bad.field) (ap (λ (r : Reading). r.mark.field) (law 0 0 one here refl is (one_here one here is)) ∙ same) ∙ itself bad.field)))
  where
    one_here : (a b : Reading) → slice_get (a ∷ []) 0 ≡ Some b → a.mark.field ≡ b.mark.field
    one_here a b e = cc
text_at (one ∷ others) law (suc at) here bad is same =
    first_by one here others bad (one.mark.field == bad.field) refl same (λ field. law 0 (suc at) one here refl is field)
    (λ not. text_at others (λ i j a b x y. law (suc i) (suc j) a b x y) at here bad is same)

-- ---- a chain that the round keeps

unread_kept : (kept : Kept) (held : Chains) (x5u : List ℕ) (o : Option State) (p : Option JudgedView) → kept_state x5u kept ≡ o → state_by o p ≡ unread → kept_state x5u kept ≡ Some unread
unread_kept kept held x5u (Some state) p is same = is ∙ ap (λ (s : State). Some s) same
unread_kept kept held x5u None (Some judged) is same = absurd cc
unread_kept kept held x5u None None is same = absurd cc

have_same : (one other : JudgedView) → have one ≡ have other → one ≡ other
have_same one other e = cc

failed_kept : (kept : Kept) (held : Chains) (x5u : List ℕ) (judged : JudgedView) (o : Option State) (p : Option JudgedView) → kept_state x5u kept ≡ o → chain_of x5u held ≡ p
    → AreAnswered held → is_failed judged.asked ≡ true → state_by o p ≡ have judged → kept_state x5u kept ≡ Some (have judged)
failed_kept kept held x5u judged (Some state) p is at answered failed same = is ∙ ap (λ (s : State). Some s) same
failed_kept kept held x5u judged None (Some other) is at answered failed same =
    let one : other ≡ judged = have_same other judged same in
    absurd (false_is_not_true (sym (answered x5u judged (at ∙ ap (λ (j : JudgedView). Some j) one)) ∙ failed))
failed_kept kept held x5u judged None None is at answered failed same = absurd cc

-- what it means that a text is one of a round's that are unread, or asked in vain
abbrev pub IsKeptUnread : Kept → List ℕ → Type 0
IsKeptUnread kept x5u = kept_state x5u kept ≡ Some unread

pub record IsKeptFailed (kept : Kept) (x5u : List ℕ) : Type 0 where
  pub judged : JudgedView
  pub kept_is : kept_state x5u kept ≡ Some (have judged)
  pub failed : is_failed judged.asked ≡ true

unread_at : (kept : Kept) (held : Chains) (readings : List Reading) (bad : Place) → OneField readings → IsUnknownAt readings (states_for kept held readings) bad
    → IsKeptUnread kept (x5u_in readings bad)
unread_at kept held readings bad law unknown =
    let x5u = unknown.here.passport.x5u in
    let state : unread ≡ state_at kept held unknown.here = map_at (state_at kept held) readings unknown.at unknown.here unread unknown.is unknown.chain in
    subst (IsKeptUnread kept) (sym (text_at readings law unknown.at unknown.here bad unknown.is (sym (ap (λ (p : Place). p.field) unknown.stands))))
    (unread_kept kept held x5u (kept_state x5u kept) (chain_of x5u held) refl (sym state))

failed_at : (kept : Kept) (held : Chains) (readings : List Reading) (bad : Place) → OneField readings → AreAnswered held → IsLeftOpen readings (states_for kept held readings) bad
    → IsKeptFailed kept (x5u_in readings bad)
failed_at kept held readings bad law answered left =
    let x5u = left.here.passport.x5u in
    let state : have left.judged ≡ state_at kept held left.here = map_at (state_at kept held) readings left.at left.here (have left.judged) left.is left.chain in
    let failed : is_failed left.judged.asked ≡ true = ap is_failed left.failed in
    subst (IsKeptFailed kept) (sym (text_at readings law left.at left.here bad left.is (sym (ap (λ (p : Place). p.field) left.place))))
    (record { judged = left.judged; kept_is = failed_kept kept held x5u left.judged (kept_state x5u kept) (chain_of x5u held) refl refl answered failed (sym state); failed = failed })

-- ---- one call

abbrev pub FieldLaw : Type 0
FieldLaw = (call : Call) (at other : ℕ) (one second : Reading) → slice_get (in_call_order call) at ≡ Some one → slice_get (in_call_order call) other ≡ Some second
    → one.mark.field ≡ second.mark.field → one ≡ second

-- the PASSporTs of a call that was screened are those of the call of the log
readings_are : (call : Call) (screening : Screening) → IsScreening call screening → (readings_in screening ≡ in_call_order call) ⊎ (readings_in screening ≡ [])
unfolding screened_by
readings_are call screenings.Open is = inr refl
readings_are call (screenings.Refused refused) is = inr refl
readings_are call (screenings.Passed screened) is = inl (ap (λ (s : ScreenedView). s.readings) is.1)

none_unknown : (states : List State) (bad : Place) → IsUnknownAt [] states bad → ⊥
none_unknown states bad unknown = not unknown.here unknown.is
  where
    not : (r : Reading) → slice_get [] unknown.at ≡ Some r → ⊥
    not r e = cc

none_open : (states : List State) (bad : Place) → IsLeftOpen [] states bad → ⊥
none_open states bad left = not left.here left.is
  where
    not : (r : Reading) → slice_get [] left.at ≡ Some r → ⊥
    not r e = cc

unread_call : FieldLaw → (kept : Kept) (held : Chains) (call : Call) (screening : Screening) (bad : Place) → IsScreening call screening
    → IsUnknownAt (readings_in screening) (states_for kept held (readings_in screening)) bad → IsKeptUnread kept (x5u_at call bad)
unfolding x5u_at
unread_call law kept held call screening bad is unknown = elim (readings_are call screening is) [
  | inl same ↦ unread_at kept held (in_call_order call) bad (law call) (subst (λ (rs : List Reading). IsUnknownAt rs (states_for kept held rs) bad) same unknown)
  | inr none ↦ absurd (none_unknown [] bad (subst (λ (rs : List Reading). IsUnknownAt rs (states_for kept held rs) bad) none unknown))
]

failed_call : FieldLaw → (kept : Kept) (held : Chains) (call : Call) (screening : Screening) (bad : Place) → AreAnswered held → IsScreening call screening
    → IsLeftOpen (readings_in screening) (states_for kept held (readings_in screening)) bad → IsKeptFailed kept (x5u_at call bad)
unfolding x5u_at
failed_call law kept held call screening bad answered is left = elim (readings_are call screening is) [
  | inl same ↦ failed_at kept held (in_call_order call) bad (law call) answered (subst (λ (rs : List Reading). IsLeftOpen rs (states_for kept held rs) bad) same left)
  | inr none ↦ absurd (none_open [] bad (subst (λ (rs : List Reading). IsLeftOpen rs (states_for kept held rs) bad) none left))
]

-- ---- all calls

joined_has : (x t : List ℕ) (ts : List (List ℕ)) → has x (joined t ts) ≡ true → (x ≡ t) ⊎ (has x ts ≡ true)
joined_has x t ts is = by (list_any (bytes_eq t) ts) is
  where
    first : (b : Bool) → bytes_eq x t ≡ b → (b || has x ts) ≡ true → (x ≡ t) ⊎ (has x ts ≡ true)
    first true same given = inl (same_text x t same)
    first false same given = inr given

    by : (b : Bool) → has x (cond b ts (t ∷ ts)) ≡ true → (x ≡ t) ⊎ (has x ts ≡ true)
    by true given = inr given
    by false given = first (bytes_eq x t) refl given

-- what a call is set aside for, by what is known of its chains
abbrev pub IsAsideIn : Kept → Chains → ReadyCall → Outcome → Type 0
IsAsideIn kept held call outcome = IsAsideFor (readings_in call.screening) kept held outcome

module _ (field : FieldLaw) (held : Chains) (kept : Kept) (settings : Settings) where
  unread_one : (entry : Entry) (call : ReadyCall) (outcome : Outcome) (texts : List (List ℕ)) → IsReady settings entry call → IsAsideIn kept held call outcome
      → (x : List ℕ) → has x (with_unread (call_in settings entry) outcome texts) ≡ true → IsKeptUnread kept x ⊎ (has x texts ≡ true)
  unread_one entry call Valid texts ready aside x given = inr given
  unread_one entry call (Refused refused) texts ready aside x given = inr given
  unread_one entry call (Replay winner) texts ready aside x given = inr given
  unread_one entry call (Unasked bad) texts ready aside x given = inr given
  unread_one entry call (Unread bad) texts ready aside x given = elim (joined_has x (x5u_at (call_in settings entry) bad) texts given) [
    | inl here ↦ inl (subst (IsKeptUnread kept) (sym here) (unread_call field kept held (call_in settings entry) call.screening bad ready.screening aside))
    | inr later ↦ inr later
  ]

  pub all_unread : (entries : List Entry) (calls : List ReadyCall) (outcomes : List Outcome) → EachPair (IsReady settings) entries calls
      → EachPair (IsAsideIn kept held) calls outcomes → (x : List ℕ) → has x (unread_texts settings entries outcomes) ≡ true → IsKeptUnread kept x
  all_unread [] [] outcomes ready aside x given = absurd (false_is_not_true given)
  all_unread [] (call ∷ calls) outcomes ready aside x given = absurd ready
  all_unread (entry ∷ entries) [] outcomes ready aside x given = absurd ready
  all_unread (entry ∷ entries) (call ∷ calls) [] ready aside x given = absurd aside
  all_unread (entry ∷ entries) (call ∷ calls) (outcome ∷ outcomes) ready aside x given =
      elim (unread_one entry call outcome (unread_texts settings entries outcomes) ready.0 aside.0 x given) [
        | inl here ↦ here
        | inr later ↦ all_unread entries calls outcomes ready.1 aside.1 x later
      ]

  failed_one : AreAnswered held → (entry : Entry) (call : ReadyCall) (bad : Place) (texts : List (List ℕ)) → IsReady settings entry call
      → IsLeftOpen (readings_in call.screening) (states_for kept held (readings_in call.screening)) bad ⊎ (bad.part ≡ 0) → (x : List ℕ) (b : Bool) → is_passport bad ≡ b
      → has x (cond b texts (joined (x5u_at (call_in settings entry) bad) texts)) ≡ true → IsKeptFailed kept x ⊎ (has x texts ≡ true)
  failed_one answered entry call bad texts ready aside x true own given = inr given
  failed_one answered entry call bad texts ready (inr none) x false own given = absurd (false_is_not_true (sym own ∙ ap (λ n. n == 0) none))
  failed_one answered entry call bad texts ready (inl left) x false own given = elim (joined_has x (x5u_at (call_in settings entry) bad) texts given) [
    | inl here ↦ inl (subst (IsKeptFailed kept) (sym here) (failed_call field kept held (call_in settings entry) call.screening bad answered ready.screening left))
    | inr later ↦ inr later
  ]

  unasked_one : AreAnswered held → (entry : Entry) (call : ReadyCall) (outcome : Outcome) (texts : List (List ℕ)) → IsReady settings entry call
      → IsAsideIn kept held call outcome → (x : List ℕ) → has x (with_unasked (call_in settings entry) outcome texts) ≡ true → IsKeptFailed kept x ⊎ (has x texts ≡ true)
  unasked_one answered entry call Valid texts ready aside x given = inr given
  unasked_one answered entry call (Refused refused) texts ready aside x given = inr given
  unasked_one answered entry call (Replay winner) texts ready aside x given = inr given
  unasked_one answered entry call (Unread bad) texts ready aside x given = inr given
  unasked_one answered entry call (Unasked bad) texts ready aside x given = failed_one answered entry call bad texts ready aside x (is_passport bad) refl given

  pub all_unasked : AreAnswered held → (entries : List Entry) (calls : List ReadyCall) (outcomes : List Outcome) → EachPair (IsReady settings) entries calls
      → EachPair (IsAsideIn kept held) calls outcomes → (x : List ℕ) → has x (unasked_texts settings entries outcomes) ≡ true → IsKeptFailed kept x
  all_unasked answered [] [] outcomes ready aside x given = absurd (false_is_not_true given)
  all_unasked answered [] (call ∷ calls) outcomes ready aside x given = absurd ready
  all_unasked answered (entry ∷ entries) [] outcomes ready aside x given = absurd ready
  all_unasked answered (entry ∷ entries) (call ∷ calls) [] ready aside x given = absurd aside
  all_unasked answered (entry ∷ entries) (call ∷ calls) (outcome ∷ outcomes) ready aside x given =
      elim (unasked_one answered entry call outcome (unasked_texts settings entries outcomes) ready.0 aside.0 x given) [
        | inl here ↦ here
        | inr later ↦ all_unasked answered entries calls outcomes ready.1 aside.1 x later
      ]

-- ---- each text once

unread_once_one : (call : Call) (outcome : Outcome) (texts : List (List ℕ)) → ((t : List ℕ) (ts : List (List ℕ)) → IsOnce ts → IsOnce (joined t ts)) → IsOnce texts
    → IsOnce (with_unread call outcome texts)
unread_once_one call Valid texts law once = once
unread_once_one call (Refused refused) texts law once = once
unread_once_one call (Replay winner) texts law once = once
unread_once_one call (Unread bad) texts law once = law (x5u_at call bad) texts once
unread_once_one call (Unasked bad) texts law once = once

pub unread_once : ((t : List ℕ) (ts : List (List ℕ)) → IsOnce ts → IsOnce (joined t ts)) → (settings : Settings) (entries : List Entry) (outcomes : List Outcome)
    → IsOnce (unread_texts settings entries outcomes)
unread_once law settings [] outcomes = tt
unread_once law settings (entry ∷ entries) [] = tt
unread_once law settings (entry ∷ entries) (outcome ∷ outcomes) =
    unread_once_one (call_in settings entry) outcome (unread_texts settings entries outcomes) law (unread_once law settings entries outcomes)

unasked_by : (b : Bool) (t : List ℕ) (texts : List (List ℕ)) → ((t : List ℕ) (ts : List (List ℕ)) → IsOnce ts → IsOnce (joined t ts)) → IsOnce texts → IsOnce (cond b texts (joined t texts))
unasked_by true t texts law once = once
unasked_by false t texts law once = law t texts once

unasked_once_one : (call : Call) (outcome : Outcome) (texts : List (List ℕ)) → ((t : List ℕ) (ts : List (List ℕ)) → IsOnce ts → IsOnce (joined t ts)) → IsOnce texts
    → IsOnce (with_unasked call outcome texts)
unasked_once_one call Valid texts law once = once
unasked_once_one call (Refused refused) texts law once = once
unasked_once_one call (Replay winner) texts law once = once
unasked_once_one call (Unread bad) texts law once = once
unasked_once_one call (Unasked bad) texts law once = unasked_by (is_passport bad) (x5u_at call bad) texts law once

pub unasked_once : ((t : List ℕ) (ts : List (List ℕ)) → IsOnce ts → IsOnce (joined t ts)) → (settings : Settings) (entries : List Entry) (outcomes : List Outcome)
    → IsOnce (unasked_texts settings entries outcomes)
unasked_once law settings [] outcomes = tt
unasked_once law settings (entry ∷ entries) [] = tt
unasked_once law settings (entry ∷ entries) (outcome ∷ outcomes) =
    unasked_once_one (call_in settings entry) outcome (unasked_texts settings entries outcomes) law (unasked_once law settings entries outcomes)

-- ---- none

joined_some : (t : List ℕ) (ts : List (List ℕ)) → 1 ≤ length (joined t ts)
joined_some t ts = by ts (list_any (bytes_eq t) ts) refl
  where
    by : (ts : List (List ℕ)) (b : Bool) → list_any (bytes_eq t) ts ≡ b → 1 ≤ length (cond b ts (t ∷ ts))
    by [] true is = absurd (false_is_not_true is)
    by (x ∷ xs) true is = omega arith
    by xs false is = omega arith

unread_some_one : (call : Call) (outcome : Outcome) (texts : List (List ℕ)) → (is_unread outcome ≡ true) ⊎ (1 ≤ length texts) → 1 ≤ length (with_unread call outcome texts)
unread_some_one call Valid texts (inl is) = absurd (false_is_not_true is)
unread_some_one call Valid texts (inr some) = some
unread_some_one call (Refused refused) texts (inl is) = absurd (false_is_not_true is)
unread_some_one call (Refused refused) texts (inr some) = some
unread_some_one call (Replay winner) texts (inl is) = absurd (false_is_not_true is)
unread_some_one call (Replay winner) texts (inr some) = some
unread_some_one call (Unread bad) texts some = joined_some (x5u_at call bad) texts
unread_some_one call (Unasked bad) texts (inl is) = absurd (false_is_not_true is)
unread_some_one call (Unasked bad) texts (inr some) = some

first_or : (b c : Bool) (P : Type 0) → (c ≡ true → P) → (b || c) ≡ true → (b ≡ true) ⊎ P
first_or true c P law is = inl refl
first_or false c P law is = inr (law is)

-- if some call is unread, there is such a text
pub unread_some : (settings : Settings) (entries : List Entry) (outcomes : List Outcome) → length outcomes ≡ length entries → list_any is_unread outcomes ≡ true
    → 1 ≤ length (unread_texts settings entries outcomes)
unread_some settings [] [] same is = absurd (false_is_not_true is)
unread_some settings [] (outcome ∷ outcomes) same is = absurd (omega arith)
unread_some settings (entry ∷ entries) [] same is = absurd (omega arith)
unread_some settings (entry ∷ entries) (outcome ∷ outcomes) same is =
    unread_some_one (call_in settings entry) outcome (unread_texts settings entries outcomes)
    (first_or (is_unread outcome) (list_any is_unread outcomes) (1 ≤ length (unread_texts settings entries outcomes)) (unread_some settings entries outcomes (omega arith)) is)

passport_by : (b : Bool) (t : List ℕ) (texts : List (List ℕ)) (o : Outcome) (others : List Outcome) → 1 ≤ length (cond b texts (joined t texts)) + length (cond b (o ∷ others) others)
passport_by true t texts o others = omega arith
passport_by false t texts o others = let some = joined_some t texts in omega arith

unasked_some_one : (call : Call) (outcome : Outcome) (texts : List (List ℕ)) (outcomes : List Outcome) → (is_unasked outcome ≡ true) ⊎ (1 ≤ length texts + length outcomes)
    → 1 ≤ length (with_unasked call outcome texts) + length (cond (is_unasked_passport outcome) (outcome ∷ outcomes) outcomes)
unasked_some_one call Valid texts outcomes (inl is) = absurd (false_is_not_true is)
unasked_some_one call Valid texts outcomes (inr some) = some
unasked_some_one call (Refused refused) texts outcomes (inl is) = absurd (false_is_not_true is)
unasked_some_one call (Refused refused) texts outcomes (inr some) = some
unasked_some_one call (Replay winner) texts outcomes (inl is) = absurd (false_is_not_true is)
unasked_some_one call (Replay winner) texts outcomes (inr some) = some
unasked_some_one call (Unread bad) texts outcomes (inl is) = absurd (false_is_not_true is)
unasked_some_one call (Unread bad) texts outcomes (inr some) = some
unasked_some_one call (Unasked bad) texts outcomes some = passport_by (is_passport bad) (x5u_at call bad) texts (Unasked bad) outcomes

pub unasked_some : (settings : Settings) (entries : List Entry) (outcomes : List Outcome) → length outcomes ≡ length entries → list_any is_unasked outcomes ≡ true
    → 1 ≤ length (unasked_texts settings entries outcomes) + length (filter is_unasked_passport outcomes)
unasked_some settings [] [] same is = absurd (false_is_not_true is)
unasked_some settings [] (outcome ∷ outcomes) same is = absurd (omega arith)
unasked_some settings (entry ∷ entries) [] same is = absurd (omega arith)
unasked_some settings (entry ∷ entries) (outcome ∷ outcomes) same is =
    unasked_some_one (call_in settings entry) outcome (unasked_texts settings entries outcomes) (filter is_unasked_passport outcomes)
    (first_or (is_unasked outcome) (list_any is_unasked outcomes) (1 ≤ length (unasked_texts settings entries outcomes) + length (filter is_unasked_passport outcomes))
    (unasked_some settings entries outcomes (omega arith)) is)
