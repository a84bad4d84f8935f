-- What a reader of the code gives, against a reader on lists.
use Rattle.std.specs.Prelude.{List, ℕ, Option, Some, Result}
use denote.Ref.{Bor}
use Rattle.text_grammar.specs.declared.Stop.{Stop}
use Rattle.text_grammar.specs.Reading.{Read}
use Rattle.lists.specs.Given as given

-- where a reader stops
abbrev pub stop_view : Stop → Option (List ℕ)
stop_view stop = Some stop.left.now

-- What was read, seen by view, is what the reader on lists gives, and it stops where that one does.
abbrev pub Gives : {X Y : Type 0} → (X → Y) → Result X Stop → Read Y → Type 0
Gives view result read = given.Gives stop_view view result read

abbrev pub slice_view : Bor (List ℕ) → List ℕ
slice_view s = s.now

-- a piece, and what comes after it
abbrev pub split_view : Bor (List ℕ) × Bor (List ℕ) → List ℕ × List ℕ
split_view s = (s.0.now, s.1.now)
