-- A reading step by step, up to its first fault.
use Rattle.std.specs.Prelude.{Result, Ok, Err}

-- the next step, at what this one gave; else its fault
infixl 10 ◌>>=◌
abbrev pub ◌>>=◌ : {A B E : Type 0} → Result A E → (A → Result B E) → Result B E
(Ok x) >>= next = next x
(Err fault) >>= next = Err fault
