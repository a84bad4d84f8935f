-- One certificate more of those whose questions are listed.
use Rattle.std.proofs.Common.{◌≡◌, ℕ, zero, suc, ◌+◌, ◌-◌, ◌<◌, ◌≤◌, List, [], ◌∷◌, ◌++◌, length, drop, map, Option, Some, None, refl, sym, ◌∙◌, ap, append-nil, arith}
use Rattle.std.specs.Option.{option_map, option_to_list}
use Rattle.std.specs.List.{slice_get}
use Rattle.std.proofs.lemmas.List.{drop_all, map-append}
use Rattle.x509_profile.specs.View.{CertView}
use Rattle.cert_store.proofs.QuestionLaws.{kept_none}
use Rattle.cert_store.specs.Asking.{Keys}
use Rattle.cert_store.specs.Judged.{JudgedView}
use Rattle.cert_store.specs.Questions.{kept_question, question_at, questions_from, questions_of, seen}
use Rattle.cert_store.specs.Rules.{QuestionView}
use Rattle.cert_store.specs.declared.judged.Question.{Question}
use Rattle.call_judging.specs.Steps.{ChainUpTo}
use Rattle.call_judging.proofs.ListSteps.{more_left, no_more}

-- ---- a question, if there is one

pub added_none : (asked : List Question) (one : Option Question) → one ≡ None → map seen asked ≡ map seen asked ++ option_to_list (option_map seen one)
added_none asked one none = rw none (sym (append-nil (map seen asked)))

pub added_some : (asked now : List Question) (question : Question) (one : Option Question) → one ≡ Some question → now ≡ asked ++ question ∷ []
    → map seen now ≡ map seen asked ++ option_to_list (option_map seen one)
added_some asked now question one some pushed = ap (map seen) pushed ∙ map-append seen asked (question ∷ []) ∙ rw some refl

-- ---- those of a chain

without_keys : (chain : List CertView) → questions_from chain [] ≡ []
without_keys [] = refl
without_keys (c ∷ above) = refl

-- the question at an index, and those of the certificates after it
step : (chain : List CertView) (keys : Keys) (i : ℕ) → i < length chain
    → questions_from (drop i chain) (drop i keys) ≡ option_to_list (kept_question (slice_get chain i) (slice_get keys i)) ++ questions_from (drop (suc i) chain) (drop (suc i) keys)
step [] keys i within = absurd (omega arith)
step (c ∷ above) [] zero within = sym (without_keys above)
step (c ∷ above) [] (suc i) within =
    without_keys (drop i above)
    ∙ sym (ap (λ (o : Option QuestionView). option_to_list o ++ questions_from (drop (suc i) above) []) (kept_none (slice_get above i)) ∙ without_keys (drop (suc i) above))
step (c ∷ above) (key ∷ keys) zero within = refl
step (c ∷ above) (key ∷ keys) (suc i) within = step above keys i (omega arith)

pub none_yet : (judged : JudgedView) → ChainUpTo judged [] 0
unfolding questions_of
none_yet judged = record { left = refl }

pub one_more : (judged : JudgedView) (mid now : List Question) (i : ℕ) (one : Option Question) → ChainUpTo judged mid i → i < length judged.certificates
    → option_map seen one ≡ question_at judged (i + 1) → map seen now ≡ map seen mid ++ option_to_list (option_map seen one) → ChainUpTo judged now (i + 1)
one_more judged mid now i one so within is pushed =
    let next : suc i ≡ i + 1 = omega arith in
    let here : i ≡ i + 1 - 1 = omega arith in
    let this : List QuestionView = option_to_list (question_at judged (i + 1)) in
    let split : questions_from (drop i judged.certificates) (drop i judged.keys) ≡ this ++ questions_from (drop (i + 1) judged.certificates) (drop (i + 1) judged.keys) =
    step judged.certificates judged.keys i within
    ∙ ap (λ n. option_to_list (kept_question (slice_get judged.certificates n) (slice_get judged.keys n)) ++ questions_from (drop (suc i) judged.certificates) (drop (suc i) judged.keys)) here
    ∙ ap (λ n. this ++ questions_from (drop n judged.certificates) (drop n judged.keys)) next in
    record { left = more_left (map seen mid) (map seen now) _ this _ _ split so.left (pushed ∙ ap (λ (o : Option QuestionView). map seen mid ++ option_to_list o) is) }

pub all_there : (judged : JudgedView) (asked : List Question) (i : ℕ) → ChainUpTo judged asked i → length judged.certificates ≤ i → map seen asked ≡ questions_of judged
all_there judged asked i so past =
    no_more (map seen asked) (questions_from (drop i judged.certificates) (drop i judged.keys)) _
    (ap (λ (c : List CertView). questions_from c (drop i judged.keys)) (drop_all i judged.certificates past)) so.left
