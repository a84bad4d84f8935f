-- Laws of the bytes of questions.
use Rattle.std.proofs.Common.{◌≡◌, ℕ, ◌<◌, ◌≤◌, List, [], ◌∷◌, ◌++◌, ◌+◌, zero, suc, length, map, drop, get_or, append-nil, refl, sym, ◌∙◌, ap, arith}
use Rattle.std.proofs.lemmas.List.{append_assoc, drop_all}
use Rattle.cert_store.specs.Questions.{seen}
use Rattle.cert_store.specs.declared.judged.Question.{Question}
use Rattle.stir_c.specs.QuestionBytes.{question_bytes, questions_bytes}

-- the parts of a question, added one after another
pub three_added : (old a b c : List ℕ) → ((old ++ a) ++ b) ++ c ≡ old ++ (a ++ (b ++ c))
three_added old a b c = append_assoc (old ++ a) b c ∙ append_assoc old a (b ++ c)

step : (questions : List Question) (i : ℕ) (d : Question) → i < length questions → map seen (drop i questions) ≡ seen (get_or questions i d) ∷ map seen (drop (suc i) questions)
step [] i d within = absurd (omega arith)
step (question ∷ questions) zero d within = refl
step (question ∷ questions) (suc i) d within = step questions i d (omega arith)

pub one_more : (questions : List Question) (i : ℕ) (question d : Question) (mid now all : List ℕ) → mid ++ questions_bytes (map seen (drop i questions)) ≡ all → i < length questions
    → question ≡ get_or questions i d → now ≡ mid ++ question_bytes (seen question) → now ++ questions_bytes (map seen (drop (i + 1) questions)) ≡ all
one_more questions i question d mid now all left within is pushed =
    let next : suc i ≡ i + 1 = omega arith in
    let rest : List ℕ = questions_bytes (map seen (drop (i + 1) questions)) in
    let split : questions_bytes (map seen (drop i questions)) ≡ question_bytes (seen question) ++ rest =
    ap questions_bytes (step questions i d within) ∙ ap (λ q. question_bytes (seen q) ++ questions_bytes (map seen (drop (suc i) questions))) (sym is)
    ∙ ap (λ n. question_bytes (seen question) ++ questions_bytes (map seen (drop n questions))) next in
    ap (λ (x : List ℕ). x ++ rest) pushed ∙ append_assoc mid (question_bytes (seen question)) rest ∙ ap (λ (x : List ℕ). mid ++ x) (sym split) ∙ left

pub all_added : (questions : List Question) (i : ℕ) (now all : List ℕ) → now ++ questions_bytes (map seen (drop i questions)) ≡ all → length questions ≤ i → now ≡ all
all_added questions i now all left past =
    sym (append-nil now) ∙ sym (ap (λ (q : List Question). now ++ questions_bytes (map seen q)) (drop_all i questions past)) ∙ left
