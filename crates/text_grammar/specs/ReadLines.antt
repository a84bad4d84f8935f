-- What a file says line by line, up to its first bad line.
use Rattle.std.specs.Prelude.{◌≡◌, ℕ, List, [], ◌∷◌, ◌++◌, Option, Some, None, Result, Ok, Err}

abbrev pub go_on : {S : Type 0} → Option S → ℕ → (S → Result S ℕ) → Result S ℕ
go_on None number more = Err number
go_on (Some state) number more = more state

-- the state that the lines lead to one after another, or the number of the first line that is refused there
abbrev pub read_lines : {S : Type 0} → (S → List ℕ → Option S) → List (ℕ × List ℕ) → S → Result S ℕ
read_lines take [] state = Ok state
read_lines take (line ∷ more) state = go_on (take state line.1) line.0 (λ next. read_lines take more next)

-- the lines before it are read, and the line of this number is refused after them
pub record Refuses {S : Type 0} (take : S → List ℕ → Option S) (lines : List (ℕ × List ℕ)) (state : S)
    (number : ℕ) : Type 0 where
  pub before : List (ℕ × List ℕ)
  pub line : List ℕ
  pub behind : List (ℕ × List ℕ)
  pub reached : S
  pub split : lines ≡ before ++ (number, line) ∷ behind
  pub read : read_lines take before state ≡ Ok reached
  pub refused : take reached line ≡ None
