-- How far the lines of a file were read, and what is held of their rows: one line more, a bad line, and at the end.
use Rattle.std.proofs.Common.{◌≡◌, ℕ, true, false, List, [], ◌∷◌, Option, Some, None, Result, Ok, Err, sym, ap, ◌∙◌}
use Rattle.text_grammar.specs.ReadLines.{go_on, read_lines}
use Rattle.text_grammar.specs.Rows.{AddsLine, Reached}

-- what is left gives the same after a line
reads_on : {R : Type 0} (add : List R → List ℕ → Option (List R)) (given : Result (List R) ℕ) (lines more : List (ℕ × List ℕ)) (line : ℕ × List ℕ) (rows : List R) (k : Option (List R))
    → lines ≡ line ∷ more → add rows line.1 ≡ k → read_lines add lines rows ≡ given → go_on k line.0 (λ next. read_lines add more next) ≡ given
reads_on add given lines more line rows k e a h =
    sym (ap (λ (ls : List (ℕ × List ℕ)). read_lines add ls rows) e ∙ ap (λ (o : Option (List _)). go_on o line.0 (λ next. read_lines add more next)) a) ∙ h

pub one_more : {R H : Type 0} (add : List R → List ℕ → Option (List R)) (Holds : List R → H → Type 0) (given : Result (List R) ℕ) (lines more : List (ℕ × List ℕ)) (number : ℕ) (line : List ℕ) (old new : H)
    → lines ≡ (number, line) ∷ more → AddsLine add Holds old new line true → Reached add Holds given lines old → Reached add Holds given more new
one_more add Holds given lines more number line old new e adds reached =
    let a = adds reached.rows reached.holds in
    record { rows = a.more; holds = a.holds; reads = reads_on add given lines more (number, line) reached.rows (Some a.more) e a.added reached.reads }

pub bad_line : {R H : Type 0} (add : List R → List ℕ → Option (List R)) (Holds : List R → H → Type 0) (given : Result (List R) ℕ) (lines more : List (ℕ × List ℕ)) (number : ℕ) (line : List ℕ) (old new : H)
    → lines ≡ (number, line) ∷ more → AddsLine add Holds old new line false → Reached add Holds given lines old → given ≡ Err number
bad_line add Holds given lines more number line old new e adds reached =
    sym (reads_on add given lines more (number, line) reached.rows None e (adds reached.rows reached.holds) reached.reads)

pub all_given : {R H : Type 0} (add : List R → List ℕ → Option (List R)) (Holds : List R → H → Type 0) (given : Result (List R) ℕ) (lines : List (ℕ × List ℕ)) (held : H)
    → lines ≡ [] → (reached : Reached add Holds given lines held) → given ≡ Ok reached.rows
all_given add Holds given lines held e reached = sym reached.reads ∙ ap (λ (ls : List (ℕ × List ℕ)). read_lines add ls reached.rows) e
