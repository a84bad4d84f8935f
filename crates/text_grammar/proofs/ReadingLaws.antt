-- A reading stops at a line exactly if that line is refused after the ones before it.
use Rattle.std.proofs.Common.{◌≡◌, ℕ, List, [], ◌∷◌, ◌++◌, Option, Some, None, Ok, Err, refl, ap, ◌∙◌}
use Rattle.text_grammar.specs.ReadLines.{go_on, read_lines, Refuses}

later : {S : Type 0} (take : S → List ℕ → Option S) (line : ℕ × List ℕ) (lines : List (ℕ × List ℕ)) (state next : S) (number : ℕ)
    → take state line.1 ≡ Some next → Refuses take lines next number → Refuses take (line ∷ lines) state number
later take line lines state next number e r = record {
  before = line ∷ r.before;
  line = r.line;
  behind = r.behind;
  reached = r.reached;
  split = ap (λ (ls : List (ℕ × List ℕ)). line ∷ ls) r.split;
  read = ap (λ (o : Option _). go_on o line.0 (λ s. read_lines take r.before s)) e ∙ r.read;
  refused = r.refused;
}

stopped_by : {S : Type 0} (take : S → List ℕ → Option S) (line : ℕ × List ℕ) (lines : List (ℕ × List ℕ)) (state : S) (number : ℕ) (k : Option S) → take state line.1 ≡ k
    → ((next : S) → read_lines take lines next ≡ Err number → Refuses take lines next number)
    → go_on k line.0 (λ next. read_lines take lines next) ≡ Err number → Refuses take (line ∷ lines) state number
stopped_by take line lines state number None e below h =
    let same : line.0 ≡ number = cc in
    record { before = []; line = line.1; behind = lines; reached = state; split = ap (λ n. (n, line.1) ∷ lines) same; read = refl; refused = e }
stopped_by take line lines state number (Some next) e below h = later take line lines state next number e (below next h)

pub refuses_found : {S : Type 0} (take : S → List ℕ → Option S) (lines : List (ℕ × List ℕ)) (state : S) (number : ℕ) → read_lines take lines state ≡ Err number → Refuses take lines state number
refuses_found take [] state number h = absurd cc
refuses_found take (line ∷ lines) state number h = stopped_by take line lines state number (take state line.1) refl (λ next. refuses_found take lines next number) h

over_by : {S : Type 0} (take : S → List ℕ → Option S) (line : ℕ × List ℕ) (before more : List (ℕ × List ℕ)) (reached : S) (k : Option S)
    → ((next : S) → read_lines take before next ≡ Ok reached → read_lines take (before ++ more) next ≡ read_lines take more reached)
    → go_on k line.0 (λ next. read_lines take before next) ≡ Ok reached → go_on k line.0 (λ next. read_lines take (before ++ more) next) ≡ read_lines take more reached
over_by take line before more reached None below h = absurd cc
over_by take line before more reached (Some next) below h = below next h

-- the lines before are read, and the others after them
pub read_over : {S : Type 0} (take : S → List ℕ → Option S) (before more : List (ℕ × List ℕ)) (state reached : S) → read_lines take before state ≡ Ok reached
    → read_lines take (before ++ more) state ≡ read_lines take more reached
read_over take [] more state reached h = let same : state ≡ reached = cc in ap (λ s. read_lines take more s) same
read_over take (line ∷ before) more state reached h = over_by take line before more reached (take state line.1) (λ next. read_over take before more next reached) h

pub refuses_again : {S : Type 0} (take : S → List ℕ → Option S) (lines : List (ℕ × List ℕ)) (state : S) (number : ℕ) → Refuses take lines state number → read_lines take lines state ≡ Err number
refuses_again take lines state number r =
    ap (λ (ls : List (ℕ × List ℕ)). read_lines take ls state) r.split
    ∙ read_over take r.before ((number, r.line) ∷ r.behind) state r.reached r.read
    ∙ ap (λ o. go_on o number (λ next. read_lines take r.behind next)) r.refused
