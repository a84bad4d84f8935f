-- One PASSporT more of those whose own questions are listed.
use Rattle.std.proofs.Common.{◌≡◌, ℕ, zero, suc, ◌+◌, ◌<◌, ◌≤◌, List, [], ◌∷◌, ◌++◌, length, drop, map, Option, Some, inl, inr, refl, ◌∙◌, ap, arith}
use Rattle.std.specs.List.{slice_get}
use Rattle.std.specs.Option.{option_map, option_to_list}
use Rattle.std.proofs.lemmas.Option.{same_Some, slice_get_cases}
use Rattle.cert_store.specs.Questions.{seen}
use Rattle.cert_store.specs.Rules.{QuestionView}
use Rattle.cert_store.specs.declared.judged.Question.{Question}
use Rattle.verify_rules.specs.Call.{Reading}
use Rattle.verify_rules.specs.States.{State}
use Rattle.call_judging.specs.CallQuestions.{own_question, own_questions}
use Rattle.call_judging.specs.Steps.{OwnUpTo}
use Rattle.call_judging.proofs.ListSteps.{more_left, no_more}

step : (readings : List Reading) (states : List State) (i : ℕ) (one : Reading) (state : State) → slice_get readings i ≡ Some one → slice_get states i ≡ Some state
    → own_questions (drop i readings) (drop i states) ≡ own_question one state ++ own_questions (drop (suc i) readings) (drop (suc i) states)
step [] states i one state is known = absurd (cc)
step (r ∷ readings) [] i one state is known = absurd (cc)
step (r ∷ readings) (s ∷ states) zero one state is known =
    ap (λ (x : Reading). own_question x s ++ own_questions readings states) (same_Some r one is) ∙ ap (λ (x : State). own_question one x ++ own_questions readings states) (same_Some s state known)
step (r ∷ readings) (s ∷ states) (suc i) one state is known = step readings states i one state is known

past_all : (readings : List Reading) (states : List State) (i : ℕ) → length readings ≤ i → own_questions (drop i readings) states ≡ []
past_all [] states zero past = refl
past_all [] states (suc i) past = refl
past_all (r ∷ readings) states zero past = absurd (omega arith)
past_all (r ∷ readings) states (suc i) past = past_all readings states i (omega arith)

pub none_yet : (readings : List Reading) (states : List State) → OwnUpTo readings states [] 0
none_yet readings states = record { left = refl }

more_of : (readings : List Reading) (states : List State) (mid now : List Question) (i : ℕ) (one : Reading) (state : State) (question : Option Question)
    → OwnUpTo readings states mid i → slice_get readings i ≡ Some one → slice_get states i ≡ Some state → option_to_list (option_map seen question) ≡ own_question one state
    → map seen now ≡ map seen mid ++ option_to_list (option_map seen question) → OwnUpTo readings states now (i + 1)
more_of readings states mid now i one state question so is known asks pushed =
    let next : suc i ≡ i + 1 = omega arith in
    let split : own_questions (drop i readings) (drop i states) ≡ own_question one state ++ own_questions (drop (i + 1) readings) (drop (i + 1) states) =
    step readings states i one state is known ∙ ap (λ n. own_question one state ++ own_questions (drop n readings) (drop n states)) next in
    record { left = more_left (map seen mid) (map seen now) _ (own_question one state) _ _ split so.left (pushed ∙ ap (λ (x : List QuestionView). map seen mid ++ x) asks) }

pub one_more : (readings : List Reading) (states : List State) (mid now : List Question) (i : ℕ) (state : State) (question : Option Question) → OwnUpTo readings states mid i
    → i < length readings → slice_get states i ≡ Some state → ((one : Reading) → slice_get readings i ≡ Some one → option_to_list (option_map seen question) ≡ own_question one state)
    → map seen now ≡ map seen mid ++ option_to_list (option_map seen question) → OwnUpTo readings states now (i + 1)
one_more readings states mid now i state question so within known asks pushed =
    elim (slice_get_cases readings i).1 [
      | inl (one, inside, is, at) ↦ more_of readings states mid now i one state question so is known (asks one is) pushed
      | inr (past, none) ↦ absurd (omega (arith, within, past))
    ]

pub all_there : (readings : List Reading) (states : List State) (asked : List Question) (i : ℕ) → OwnUpTo readings states asked i → length readings ≤ i
    → map seen asked ≡ own_questions readings states
all_there readings states asked i so past =
    no_more (map seen asked) (own_questions (drop i readings) (drop i states)) _ (past_all readings (drop i states) i past) so.left
