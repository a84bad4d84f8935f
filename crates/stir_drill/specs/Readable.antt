-- How long the entries of the log are.
use Rattle.std.specs.Prelude.{ℕ, ◌≤◌, List, [], ◌∷◌, length}
use Rattle.call_log.specs.Entry.{Entry, entry_text}

-- the entry of each of the calls has at most so many bytes
abbrev pub AreUpTo : ℕ → List Entry → Type 0
AreUpTo most [] = Unit {0}
AreUpTo most (call ∷ others) = (length (entry_text call) ≤ most) × AreUpTo most others
