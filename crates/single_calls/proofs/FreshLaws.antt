-- What is asked for one list of questions after another.
use Rattle.std.proofs.Common.{◌≡◌, Bool, true, false, List, [], ◌∷◌, ◌++◌, append_assoc, append-nil, sym, ◌∙◌, ap}
use Rattle.cert_store.specs.Rules.{QuestionView}
use Rattle.call_judging.proofs.AskLineLaws.{lines_append}
use Rattle.call_judging.specs.AskLines.{ask_lines}
use Rattle.single_calls.specs.Asks.{fresh, unless_asked, was_asked}

front_of : (t : Bool) (asked : QuestionView) (all front back : List QuestionView) → all ≡ front ++ back → unless_asked t asked all ≡ unless_asked t asked front ++ back
front_of true asked all front back e = e
front_of false asked all front back e = ap (λ (x : List QuestionView). asked ∷ x) e

pub fresh_append : (before xs ys : List QuestionView) → fresh before (xs ++ ys) ≡ fresh before xs ++ fresh (before ++ xs) ys
fresh_append before [] ys = ap (λ (b : List QuestionView). fresh b ys) (sym (append-nil before))
fresh_append before (x ∷ xs) ys =
    front_of (was_asked before x) x (fresh (before ++ x ∷ []) (xs ++ ys)) (fresh (before ++ x ∷ []) xs) (fresh (before ++ x ∷ xs) ys)
    (fresh_append (before ++ x ∷ []) xs ys ∙ ap (λ (b : List QuestionView). fresh (before ++ x ∷ []) xs ++ fresh b ys) (append_assoc before (x ∷ []) xs))

-- the lines of both
pub fresh_lines : (before xs ys : List QuestionView) → ask_lines (fresh before (xs ++ ys)) ≡ ask_lines (fresh before xs) ++ ask_lines (fresh (before ++ xs) ys)
fresh_lines before xs ys = ap ask_lines (fresh_append before xs ys) ∙ lines_append (fresh before xs) (fresh (before ++ xs) ys)
