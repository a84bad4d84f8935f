-- The lines of a text file (this project's own rule).
use Rattle.std.specs.Prelude.{ℕ, Bool, true, not, ◌==◌, List, [], ◌∷◌, filter}
use Rattle.std.specs.List.{enumerate_from}
use Rattle.std.specs.Str.Lines.{lines}

-- every line of the text, without its end: a line ends at an LF, and one CR directly before that is dropped; the last
-- line may lack its LF, and a CR that it ends with is then its own. After a last LF there is no further line
abbrev pub file_lines : List ℕ → List (List ℕ)
file_lines text = lines text

-- a line that says nothing: it is empty, or it begins with `;`
abbrev pub is_passed_over : List ℕ → Bool
is_passed_over [] = true
is_passed_over (first ∷ more) = first == 59

-- the lines that say something, each with its number; the first line of the text has the number `first`, and each line
-- counts
abbrev pub numbered_from : ℕ → List ℕ → List (ℕ × List ℕ)
numbered_from first text = filter (λ line. not (is_passed_over line.1)) (enumerate_from first (file_lines text))

-- the same of a whole file, whose lines count from 1
abbrev pub text_lines : List ℕ → List (ℕ × List ℕ)
text_lines text = numbered_from 1 text
