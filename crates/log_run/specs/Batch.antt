-- Calls of a log that are answered together, and what is written of them.
use Rattle.std.specs.Prelude.{◌≡◌, ℕ, ◌≤◌, Bool, true, ◌&&◌, List, [], ◌∷◌, ◌++◌, length}
use Rattle.call_log.specs.Entry.{Entry}

-- the lines, whole and each with its LF, and whether nothing is wrong
pub record BatchAnswerView : Type 0 where
  pub text : List ℕ
  pub well : Bool

pub record Batch : Type 0 where
  pub calls : List Entry
  pub answer : BatchAnswerView

abbrev pub batch_of : List Entry → BatchAnswerView → Batch
batch_of calls answer = record { calls = calls; answer = answer }

-- ---- of several batches

abbrev pub calls_in : List Batch → List Entry
calls_in [] = []
calls_in (batch ∷ others) = batch.calls ++ calls_in others

abbrev pub texts_in : List Batch → List ℕ
texts_in [] = []
texts_in (batch ∷ others) = batch.answer.text ++ texts_in others

abbrev pub all_well : List Batch → Bool
all_well [] = true
all_well (batch ∷ others) = batch.answer.well && all_well others

-- ---- the cut

abbrev pub AllFull : ℕ → List Batch → Type 0
AllFull most [] = Unit {0}
AllFull most (batch ∷ others) = (length batch.calls ≡ most) × AllFull most others

-- each batch has so many calls, but the last, which may have fewer, and has one
abbrev pub IsCut : ℕ → List Batch → Type 0
IsCut most [] = Unit {0}
IsCut most (batch ∷ []) = (1 ≤ length batch.calls) × (length batch.calls ≤ most)
IsCut most (batch ∷ next ∷ others) = (length batch.calls ≡ most) × IsCut most (next ∷ others)
