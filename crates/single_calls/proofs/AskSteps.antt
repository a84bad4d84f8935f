-- One question more of those whose lines are written.
use Rattle.std.proofs.Common.{◌≡◌, ℕ, zero, suc, ◌+◌, ◌<◌, ◌≤◌, List, [], ◌∷◌, ◌++◌, get_or, length, map, take, refl, sym, ◌∙◌, ap, subst, arith}
use Rattle.std.proofs.lemmas.List.{map-append, take_all}
use Rattle.cert_store.specs.Questions.{seen}
use Rattle.cert_store.specs.declared.judged.Question.{Question}
use Rattle.single_calls.specs.Reading.{Lines}
use Rattle.single_calls.specs.Steps.{AskedUpTo}
use Rattle.single_calls.specs.Written.{Writes}
use Rattle.single_calls.proofs.WriteLaws.{writes_both, writes_none}

step : (questions : List Question) (i : ℕ) (d : Question) → i < length questions → take (suc i) questions ≡ take i questions ++ get_or questions i d ∷ []
step [] i d within = absurd (omega arith)
step (question ∷ questions) zero d within = refl
step (question ∷ questions) (suc i) d within = ap (λ (x : List Question). question ∷ x) (step questions i d (omega arith))

pub none_yet : (questions : List Question) (before : Lines) → AskedUpTo questions before before 0
none_yet questions before = record { writes = writes_none before.held before.text }

pub one_more : (questions : List Question) (before mid now : Lines) (i : ℕ) (question d : Question) → AskedUpTo questions before mid i → i < length questions
    → question ≡ get_or questions i d → Writes mid.held now.held mid.text now.text (seen question ∷ []) → AskedUpTo questions before now (i + 1)
one_more questions before mid now i question d so within is more =
    let next : suc i ≡ i + 1 = omega arith in
    let split : map seen (take (i + 1) questions) ≡ map seen (take i questions) ++ seen question ∷ [] =
    ap (λ n. map seen (take n questions)) (sym next) ∙ ap (map seen) (step questions i d within)
    ∙ map-append seen (take i questions) (get_or questions i d ∷ []) ∙ ap (λ q. map seen (take i questions) ++ seen q ∷ []) (sym is) in
    record {
      writes = subst (Writes before.held now.held before.text now.text) (sym split)
          (writes_both before.held mid.held now.held before.text mid.text now.text (map seen (take i questions)) (seen question ∷ []) so.writes more);
    }

pub all_written : (questions : List Question) (before now : Lines) (i : ℕ) → AskedUpTo questions before now i → length questions ≤ i
    → Writes before.held now.held before.text now.text (map seen questions)
all_written questions before now i so past =
    subst (Writes before.held now.held before.text now.text) (ap (map seen) (take_all i questions past)) so.writes
