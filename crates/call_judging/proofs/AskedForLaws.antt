-- A question is asked for a call exactly if a PASSporT of it asks it.
use Rattle.std.proofs.Common.{◌≡◌, ◌↔◌, ◌⊎◌, ℕ, zero, suc, ◌-◌, Bool, true, false, ◌&&◌, cond, List, [], ◌∷◌, ◌++◌, is_none, Option, Some, None, option_to_list, inl, inr, refl, sym, ap, arith}
use Rattle.std.specs.List.{slice_get}
use Rattle.std.proofs.lemmas.Bool.{and_parts}
use Rattle.std.proofs.lemmas.Option.{same_Some}
use Rattle.cert_store.specs.Asking.{Keys}
use Rattle.cert_store.specs.Judged.{JudgedView}
use Rattle.cert_store.specs.Questions.{kept_question, questions_from, questions_of, with_key}
use Rattle.cert_store.specs.Rules.{QuestionView}
use Rattle.verify_rules.proofs.FirstLaws.{none_broken, none_first}
use Rattle.verify_rules.specs.Call.{Call, Reading, in_call_order}
use Rattle.verify_rules.specs.Rules.{HoldAll, early_rules, first}
use Rattle.verify_rules.specs.States.{State, have, long, no_chain, unread}
use Rattle.verify_rules.specs.World.{World, certificate_rules, truth_for, truths}
use Rattle.verify_rules.specs.declared.refusal.Refusal.{Refusal}
use Rattle.x509_profile.specs.View.{CertView}
use Rattle.call_judging.specs.AskedFor.{AsksChain, AsksOwn, IsAmong, IsAskedFor, SomeOf, of_chain, of_passport}
use Rattle.call_judging.specs.CallQuestions.{call_questions, chain_questions, chains_questions, has_authority, late_questions, own_question, own_questions, questions_over, under_leaf}

-- ---- lists of questions

pub among_left : (x : QuestionView) (xs ys : List QuestionView) → IsAmong x xs → IsAmong x (xs ++ ys)
among_left x [] ys h = absurd h
among_left x (y ∷ xs) ys (inl e) = inl e
among_left x (y ∷ xs) ys (inr h) = inr (among_left x xs ys h)

pub among_right : (x : QuestionView) (xs ys : List QuestionView) → IsAmong x ys → IsAmong x (xs ++ ys)
among_right x [] ys h = h
among_right x (y ∷ xs) ys h = inr (among_right x xs ys h)

pub among_either : (x : QuestionView) (xs ys : List QuestionView) → IsAmong x (xs ++ ys) → IsAmong x xs ⊎ IsAmong x ys
among_either x [] ys h = inr h
among_either x (y ∷ xs) ys (inl e) = inl (inl e)
among_either x (y ∷ xs) ys (inr h) = elim (among_either x xs ys h) [
  | inl a ↦ inl (inr a)
  | inr b ↦ inr b
]

-- ---- the questions of a chain

abbrev AtPlace : List CertView → Keys → QuestionView → Type 0
AtPlace certificates keys x = (place : ℕ) × (kept_question (slice_get certificates place) (slice_get keys place) ≡ Some x)

one_of : (x : QuestionView) (o : Option QuestionView) → IsAmong x (option_to_list o) → o ≡ Some x
one_of x None h = absurd h
one_of x (Some y) (inl e) = ap (λ (q : QuestionView). Some q) (sym e)
one_of x (Some y) (inr h) = absurd h

of_one : (x : QuestionView) (o : Option QuestionView) → o ≡ Some x → IsAmong x (option_to_list o)
of_one x None e = absurd (cc)
of_one x (Some y) e = inl (sym (same_Some y x e))

placed : (certificates : List CertView) (keys : Keys) (x : QuestionView) → IsAmong x (questions_from certificates keys) → AtPlace certificates keys x
placed [] keys x h = absurd h
placed (c ∷ above) [] x h = absurd h
placed (c ∷ above) (key ∷ keys) x h = elim (among_either x (option_to_list (with_key c key)) (questions_from above keys) h) [
  | inl here ↦ (0, one_of x (with_key c key) here)
  | inr later ↦ let k = placed above keys x later in (suc k.0, k.1)
]

none_kept : (certificate : Option CertView) (x : QuestionView) → kept_question certificate None ≡ Some x → ⊥
none_kept None x h = cc h
none_kept (Some c) x h = cc h

at_place : (certificates : List CertView) (keys : Keys) (x : QuestionView) (place : ℕ) → kept_question (slice_get certificates place) (slice_get keys place) ≡ Some x
    → IsAmong x (questions_from certificates keys)
at_place [] keys x place h = absurd (cc)
at_place (c ∷ above) [] x place h = absurd (none_kept (slice_get (c ∷ above) place) x h)
at_place (c ∷ above) (key ∷ keys) x zero h = among_left x (option_to_list (with_key c key)) (questions_from above keys) (of_one x (with_key c key) h)
at_place (c ∷ above) (key ∷ keys) x (suc place) h =
    among_right x (option_to_list (with_key c key)) (questions_from above keys) (at_place above keys x place h)

-- ---- of a PASSporT's chain

no_value : (o : Option ℕ) → is_none o ≡ true → o ≡ None
no_value None h = refl
no_value (Some n) h = absurd (cc)

-- three tests together
all_none : (judged : JudgedView) → has_authority judged ≡ true → (judged.profile ≡ None) × (judged.shape ≡ None) × (judged.authority ≡ None)
all_none judged h =
    let parts = and_parts (is_none judged.profile) (is_none judged.shape && is_none judged.authority) h in
    let others = and_parts (is_none judged.shape) (is_none judged.authority) parts.1 in
    (no_value judged.profile parts.0, no_value judged.shape others.0, no_value judged.authority others.1)

chain_by : (world : World) (x : QuestionView) (one : Reading) (judged : JudgedView) (t : Bool) → truth_for world one ≡ have judged → has_authority judged ≡ t
    → IsAmong x (cond t (questions_of judged) []) → AsksChain world x one
unfolding questions_of
chain_by world x one judged false known has h = absurd h
chain_by world x one judged true known has h =
    let none = all_none judged has in
    let k = placed judged.certificates judged.keys x h in
    let back : suc k.0 - 1 ≡ k.0 = omega arith in
    record {
      judged = judged;
      known = known;
      profile = none.0;
      shape = none.1;
      authority = none.2;
      number = suc k.0;
      some = omega arith;
      asks = rw back k.1;
    }

chain_found : (world : World) (x : QuestionView) (one : Reading) (state : State) → truth_for world one ≡ state → IsAmong x (chain_questions state) → AsksChain world x one
chain_found world x one (have judged) known h = chain_by world x one judged (has_authority judged) known refl h
chain_found world x one no_chain known h = absurd h
chain_found world x one long known h = absurd h
chain_found world x one unread known h = absurd h

chain_again : (world : World) (x : QuestionView) (one : Reading) → AsksChain world x one → IsAmong x (chain_questions (truth_for world one))
unfolding questions_of
chain_again world x one is =
    let tested : has_authority is.judged ≡ true = rw (is.profile, is.shape, is.authority) refl in
    rw (is.known, tested) (at_place is.judged.certificates is.judged.keys x (is.number - 1) is.asks)

chains_found : (world : World) (x : QuestionView) (readings : List Reading) → IsAmong x (chains_questions (truths world readings)) → SomeOf (AsksChain world x) readings
chains_found world x [] h = absurd h
chains_found world x (one ∷ others) h = elim (among_either x (chain_questions (truth_for world one)) (chains_questions (truths world others)) h) [
  | inl here ↦ inl (chain_found world x one (truth_for world one) refl here)
  | inr later ↦ inr (chains_found world x others later)
]

chains_again : (world : World) (x : QuestionView) (readings : List Reading) → SomeOf (AsksChain world x) readings → IsAmong x (chains_questions (truths world readings))
chains_again world x [] h = absurd h
chains_again world x (one ∷ others) (inl is) = among_left x (chain_questions (truth_for world one)) (chains_questions (truths world others)) (chain_again world x one is)
chains_again world x (one ∷ others) (inr later) = among_right x (chain_questions (truth_for world one)) (chains_questions (truths world others)) (chains_again world x others later)

-- ---- of a PASSporT itself

leaf_found : (world : World) (x : QuestionView) (one : Reading) (judged : JudgedView) (leaf : Option CertView) → truth_for world one ≡ have judged
    → slice_get judged.certificates 0 ≡ leaf → IsAmong x (under_leaf one leaf) → AsksOwn world x one
leaf_found world x one judged None known is h = absurd h
leaf_found world x one judged (Some leaf) known is (inl e) = record { judged = judged; known = known; leaf = leaf; first = is; asks = e }
leaf_found world x one judged (Some leaf) known is (inr h) = absurd h

own_found : (world : World) (x : QuestionView) (one : Reading) (state : State) → truth_for world one ≡ state → IsAmong x (own_question one state) → AsksOwn world x one
own_found world x one (have judged) known h = leaf_found world x one judged (slice_get judged.certificates 0) known refl h
own_found world x one no_chain known h = absurd h
own_found world x one long known h = absurd h
own_found world x one unread known h = absurd h

own_again : (world : World) (x : QuestionView) (one : Reading) → AsksOwn world x one → IsAmong x (own_question one (truth_for world one))
own_again world x one is = rw (is.known, is.first) (inl is.asks)

owns_found : (world : World) (x : QuestionView) (readings : List Reading) → IsAmong x (own_questions readings (truths world readings)) → SomeOf (AsksOwn world x) readings
owns_found world x [] h = absurd h
owns_found world x (one ∷ others) h = elim (among_either x (own_question one (truth_for world one)) (own_questions others (truths world others)) h) [
  | inl here ↦ inl (own_found world x one (truth_for world one) refl here)
  | inr later ↦ inr (owns_found world x others later)
]

owns_again : (world : World) (x : QuestionView) (readings : List Reading) → SomeOf (AsksOwn world x) readings → IsAmong x (own_questions readings (truths world readings))
owns_again world x [] h = absurd h
owns_again world x (one ∷ others) (inl is) = among_left x (own_question one (truth_for world one)) (own_questions others (truths world others)) (own_again world x one is)
owns_again world x (one ∷ others) (inr later) = among_right x (own_question one (truth_for world one)) (own_questions others (truths world others)) (owns_again world x others later)

-- ---- of a call

late_by : (world : World) (call : Call) (x : QuestionView) (late : Option Refusal) → HoldAll early_rules call → first (certificate_rules world) call ≡ late
    → IsAmong x (questions_over (is_none late) (in_call_order call) (truths world (in_call_order call))) → IsAskedFor world call x
late_by world call x None early is h =
    elim (among_either x (chains_questions (truths world (in_call_order call))) (own_questions (in_call_order call) (truths world (in_call_order call))) h) [
      | inl chain ↦ of_chain early (chains_found world x (in_call_order call) chain)
      | inr own ↦ of_passport early (none_broken (certificate_rules world) call is) (owns_found world x (in_call_order call) own)
    ]
late_by world call x (Some refused) early is h =
    elim (among_either x (chains_questions (truths world (in_call_order call))) [] h) [
      | inl chain ↦ of_chain early (chains_found world x (in_call_order call) chain)
      | inr none ↦ absurd none
    ]

call_by : (world : World) (call : Call) (x : QuestionView) (early : Option Refusal) → first early_rules call ≡ early
    → IsAmong x (cond (is_none early) (late_questions world (is_none (first (certificate_rules world) call)) (in_call_order call)) []) → IsAskedFor world call x
call_by world call x None is h = late_by world call x (first (certificate_rules world) call) (none_broken early_rules call is) refl h
call_by world call x (Some refused) is h = absurd h

pub call_found : (world : World) (call : Call) (x : QuestionView) → IsAmong x (call_questions world call) → IsAskedFor world call x
unfolding call_questions
call_found world call x h = call_by world call x (first early_rules call) refl h

pub call_again : (world : World) (call : Call) (x : QuestionView) → IsAskedFor world call x → IsAmong x (call_questions world call)
unfolding call_questions
call_again world call x (of_chain early is) =
    rw (none_first early_rules call early)
    (among_left x (chains_questions (truths world (in_call_order call))) _ (chains_again world x (in_call_order call) is))
call_again world call x (of_passport early chains is) =
    rw (none_first early_rules call early, none_first (certificate_rules world) call chains)
    (among_right x (chains_questions (truths world (in_call_order call))) (own_questions (in_call_order call) (truths world (in_call_order call))) (owns_again world x (in_call_order call) is))

pub asked_for_where : (world : World) (call : Call) (x : QuestionView) → IsAmong x (call_questions world call) ↔ IsAskedFor world call x
asked_for_where world call x = (call_found world call x, call_again world call x)
