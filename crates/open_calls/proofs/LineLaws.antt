-- Lines of one list of questions after another.
use Rattle.std.proofs.Common.{◌≡◌, ℕ, zero, suc, ◌+◌, ◌<◌, ◌≤◌, List, [], ◌∷◌, ◌++◌, drop, get_or, length, map, append_assoc, append-nil, refl, sym, ◌∙◌, ap, arith}
use Rattle.std.proofs.lemmas.List.{drop_all}
use Rattle.cert_store.specs.Questions.{seen}
use Rattle.cert_store.specs.declared.judged.Question.{Question}
use Rattle.cert_store.specs.Rules.{QuestionView}
use Rattle.call_judging.proofs.AskLineLaws.{lines_append}
use Rattle.call_judging.specs.AskLines.{ask_line, ask_lines}

-- one list of questions more
pub more_lines : (mid now all : List ℕ) (this rest whole : List QuestionView) → whole ≡ this ++ rest → mid ++ ask_lines whole ≡ all → now ≡ mid ++ ask_lines this
    → now ++ ask_lines rest ≡ all
more_lines mid now all this rest whole split left pushed =
    ap (λ (x : List ℕ). x ++ ask_lines rest) pushed ∙ append_assoc mid (ask_lines this) (ask_lines rest)
    ∙ ap (λ (x : List ℕ). mid ++ x) (sym (lines_append this rest)) ∙ ap (λ (q : List QuestionView). mid ++ ask_lines q) (sym split) ∙ left

pub no_more : (now all : List ℕ) (rest : List QuestionView) → rest ≡ [] → now ++ ask_lines rest ≡ all → now ≡ all
no_more now all rest none left = sym (append-nil now) ∙ sym (ap (λ (q : List QuestionView). now ++ ask_lines q) none) ∙ left

-- ---- of a list, question by question

step : (questions : List Question) (i : ℕ) (d : Question) → i < length questions → map seen (drop i questions) ≡ seen (get_or questions i d) ∷ map seen (drop (suc i) questions)
step [] i d within = absurd (omega arith)
step (question ∷ questions) zero d within = refl
step (question ∷ questions) (suc i) d within = step questions i d (omega arith)

pub one_more : (questions : List Question) (i : ℕ) (question d : Question) (mid now all : List ℕ) → mid ++ ask_lines (map seen (drop i questions)) ≡ all → i < length questions
    → question ≡ get_or questions i d → now ≡ mid ++ ask_line (seen question) → now ++ ask_lines (map seen (drop (i + 1) questions)) ≡ all
one_more questions i question d mid now all left within is pushed =
    let next : suc i ≡ i + 1 = omega arith in
    let split : map seen (drop i questions) ≡ (seen question ∷ []) ++ map seen (drop (i + 1) questions) =
    step questions i d within ∙ ap (λ q. seen q ∷ map seen (drop (suc i) questions)) (sym is) ∙ ap (λ n. seen question ∷ map seen (drop n questions)) next in
    more_lines mid now all (seen question ∷ []) (map seen (drop (i + 1) questions)) (map seen (drop i questions)) split left
    (pushed ∙ ap (λ (l : List ℕ). mid ++ l) (sym (append-nil (ask_line (seen question)))))

pub all_added : (questions : List Question) (i : ℕ) (now all : List ℕ) → now ++ ask_lines (map seen (drop i questions)) ≡ all → length questions ≤ i → now ≡ all
all_added questions i now all left past = no_more now all (map seen (drop i questions)) (ap (map seen) (drop_all i questions past)) left

-- ---- those of chains, and others after them

pub both_lines : (start mid text : List ℕ) (chains own : List QuestionView) → start ≡ [] → mid ≡ start ++ ask_lines chains → text ≡ mid ++ ask_lines own → text ≡ ask_lines (chains ++ own)
both_lines start mid text chains own begins first is =
    is ∙ ap (λ (x : List ℕ). x ++ ask_lines own) (first ∙ ap (λ (x : List ℕ). x ++ ask_lines chains) begins) ∙ sym (lines_append chains own)
