-- The questions whose lines were written.
use Rattle.std.specs.Prelude.{◌≡◌, ℕ, Bool, ◌&&◌, List, ◌++◌}
use Rattle.std.specs.List.{list_any}
use Rattle.std.specs.Str.{bytes_eq}
use Rattle.cert_store.specs.Rules.{QuestionView}
use Rattle.call_judging.specs.AskLines.{ask_lines}
use Rattle.single_calls.specs.Asks.{fresh, was_asked}
use Rattle.single_calls.specs.declared.written.Triple.{Triple}

abbrev pub same_triple : Triple → Triple → Bool
same_triple a b = bytes_eq a.key b.key && (bytes_eq a.digest b.digest && bytes_eq a.signature b.signature)

abbrev pub triple_of : QuestionView → Triple
triple_of asked = record { key = asked.key; digest = asked.digest; signature = asked.signature }

abbrev pub is_held : List Triple → QuestionView → Bool
is_held held asked = list_any (same_triple (triple_of asked)) held

-- exactly these questions are held
abbrev pub Holds : List Triple → List QuestionView → Type 0
Holds held before = (asked : QuestionView) → is_held held asked ≡ was_asked before asked

-- The lines of these questions were written after the text, except for those that were written before; and the
-- questions are held now.
pub record Writes (held held_now : List Triple) (text text_now : List ℕ) (questions : List QuestionView) : Type 0 where
  pub holds : (before : List QuestionView) → Holds held before → Holds held_now (before ++ questions)
  pub lines : (before : List QuestionView) → Holds held before → text_now ≡ text ++ ask_lines (fresh before questions)
