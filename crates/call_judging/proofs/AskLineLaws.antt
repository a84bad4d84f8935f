-- The lines of one list of questions after another.
use Rattle.std.proofs.Common.{◌≡◌, ℕ, List, [], ◌∷◌, ◌++◌, append_assoc, refl, sym, ◌∙◌, ap}
use Rattle.cert_store.specs.Rules.{QuestionView}
use Rattle.call_judging.specs.AskLines.{ask_line, ask_lines}

pub lines_append : (xs ys : List QuestionView) → ask_lines (xs ++ ys) ≡ ask_lines xs ++ ask_lines ys
lines_append [] ys = refl
lines_append (x ∷ xs) ys = ap (λ (l : List ℕ). ask_line x ++ l) (lines_append xs ys) ∙ sym (append_assoc (ask_line x) (ask_lines xs) (ask_lines ys))
