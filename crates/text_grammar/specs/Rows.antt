-- A file each line of which says a row, and what holds its rows (this project's own rule). A row may be refused given
-- those before it, as one that repeats another.
use Rattle.std.specs.Prelude.{◌≡◌, ℕ, Bool, true, false, List, [], ◌∷◌, ◌++◌, Option, Some, None, option_and_then}
use Rattle.std.specs.Prelude.{Result, if◌then◌else◌}
use Rattle.std.specs.Bool.{MatchBool}
use Rattle.text_grammar.specs.ReadLines.{read_lines}

-- one row more; a line that says none is bad, and so is one whose row is refused given those before it
abbrev pub one_row : {R : Type 0} → (List ℕ → Option R) → (List R → R → Bool) → List R → List ℕ → Option (List R)
one_row row_of is_refused rows line =
    option_and_then (λ row. if is_refused rows row then None else Some (rows ++ row ∷ [])) (row_of line)

-- none of the rows is refused given those before it
abbrev pub EachFits : {R : Type 0} → (List R → R → Bool) → List R → List R → Type 0
EachFits is_refused before [] = Unit {0}
EachFits is_refused before (row ∷ rows) =
    (is_refused before row ≡ false) × EachFits is_refused (before ++ row ∷ []) rows

-- a row was added to what holds those before it, or it is refused given them
abbrev pub Adds : {R H : Type 0} → (List R → R → Bool) → (List R → H → Type 0) → H → H → R → Bool → Type 0
Adds {R} is_refused Holds old new row added = (rows : List R) → Holds rows old
    → MatchBool added ((is_refused rows row ≡ false) × Holds (rows ++ row ∷ []) new) (is_refused rows row ≡ true)

-- the rows with that of a line more are held
pub record HoldsMore {R H : Type 0} (add : List R → List ℕ → Option (List R)) (Holds : List R → H → Type 0)
    (rows : List R) (line : List ℕ) (held : H) : Type 0 where
  pub more : List R
  pub added : add rows line ≡ Some more
  pub holds : Holds more held

-- a line was added, or it is bad
abbrev pub AddsLine : {R H : Type 0} → (List R → List ℕ → Option (List R)) → (List R → H → Type 0) → H
    → H → List ℕ → Bool → Type 0
AddsLine {R} add Holds old new line added = (rows : List R) → Holds rows old
    → MatchBool added (HoldsMore add Holds rows line new) (add rows line ≡ None)

-- the rows read so far are held, and the lines that are left lead on from them to what all lines give
pub record Reached {R H : Type 0} (add : List R → List ℕ → Option (List R)) (Holds : List R → H → Type 0)
    (given : Result (List R) ℕ) (lines : List (ℕ × List ℕ)) (held : H) : Type 0 where
  pub rows : List R
  pub holds : Holds rows held
  pub reads : read_lines add lines rows ≡ given
