-- The first line of a text, and the rest of it.
use Rattle.std.proofs.Common.{◌≡◌, ℕ, ◌<◌, Bool, true, false, ◌==◌, List, [], ◌∷◌, ◌++◌, length, take, drop, refl, ap, ◌∙◌, arith}
use Rattle.std.specs.Str.Lines.{lines_of_parts, strip_carriage_return}
use Rattle.std.proofs.lemmas.List.Splits.{length-slice_split}
use Rattle.std.proofs.lemmas.Bool.Decides.{nat_tests}
use Rattle.std.proofs.Math.Seq.{take-length, drop-length}
use Rattle.text_grammar.specs.Cut.{lacks}
use Rattle.text_grammar.proofs.Parts.{split_at_byte, split_none, split_first_of}
use Rattle.text_grammar.specs.FileLines.{file_lines}

lines_by : (front : List ℕ) (parts : List (List ℕ)) → 0 < length parts → lines_of_parts (front ∷ parts) ≡ strip_carriage_return front ∷ lines_of_parts parts
lines_by front [] some = absurd (omega arith)
lines_by front (part ∷ parts) some = refl

-- a part that another follows is a line
lines_more : (front rest : List ℕ) → lines_of_parts (front ∷ split_at_byte 10 rest) ≡ strip_carriage_return front ∷ lines_of_parts (split_at_byte 10 rest)
lines_more front rest = lines_by front (split_at_byte 10 rest) (omega (arith, length-slice_split (λ b. b == 10) rest))

pub first_of : (text front rest : List ℕ) → text ≡ front ++ 10 ∷ rest → lacks 10 front ≡ true → file_lines text ≡ strip_carriage_return front ∷ file_lines rest
first_of text front rest e h = ap lines_of_parts (split_first_of 10 text front rest e h) ∙ lines_more front rest

last_by : (text : List ℕ) (b : Bool) → (length text == 0) ≡ b → 0 < length text → lines_of_parts (text ∷ []) ≡ text ∷ []
last_by text true e some = absurd (grind (arith, nat_tests))
last_by text false e some = rw e refl

last_line : (text : List ℕ) → lacks 10 text ≡ true → 0 < length text → file_lines text ≡ text ∷ []
last_line text h some = ap lines_of_parts (split_none 10 text h) ∙ last_by text (length text == 0) refl some

-- what comes after the last LF is a line as it is, and nothing follows it
pub last_of : (text front back : List ℕ) → lacks 10 text ≡ true → 0 < length text → front ≡ take (length text) text → back ≡ drop (length text) text
    → file_lines text ≡ front ∷ file_lines back
last_of text front back h some f b =
    let e : front ≡ text = f ∙ take-length text in
    let k : back ≡ [] = b ∙ drop-length text in
    rw (e, k) (last_line text h some)
