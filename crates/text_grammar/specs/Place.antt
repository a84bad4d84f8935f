-- Where a text that isn't in a grammar stops being the beginning of one that is (this project's own rule for the places
-- of faults).
use Rattle.std.specs.Prelude.{ℕ, ◌≤◌, ◌<◌, List, ◌++◌, length, take}

-- Some text of the grammar begins so.
pub record Begins (F : Type 0) (N : F → List ℕ → Type 0) (front : List ℕ) : Type 0 where
  pub value : F
  pub more : List ℕ
  pub text : N value (front ++ more)

-- The place is the length of the longest prefix of the text with which a text of the grammar begins.
pub record IsPlace (F : Type 0) (N : F → List ℕ → Type 0) (text : List ℕ) (place : ℕ) : Type 0 where
  pub within : place ≤ length text
  pub begins : Begins F N (take place text)
  pub longest : (m : ℕ) → place < m → m ≤ length text → Begins F N (take m text) → ⊥
