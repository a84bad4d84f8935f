-- The first line of a text is what comes before its first LF, and that LF.
use Rattle.std.proofs.Common.{◌≡◌, ℕ, suc, ◌+◌, ◌<◌, Bool, true, false, ◌==◌, List, [], ◌∷◌, ◌++◌, length, take, drop, refl, ap, ◌∙◌, arith}
use Rattle.std.proofs.Math.Seq.{take-length, drop-length}
use lib.Seq.{drop-append-add}
use Rattle.text_grammar.specs.Cut.{lacks}
use Rattle.lists.proofs.Bytes.{no_byte}
use Rattle.state_text.specs.Lines.{ended_lines}

line_by : (b : ℕ) (bs rest : List ℕ) (t : Bool) → (b == 10) ≡ t → (lacks 10 bs ≡ true → ended_lines (bs ++ 10 ∷ rest) ≡ (bs ++ 10 ∷ []) ∷ ended_lines rest)
    → lacks 10 (b ∷ bs) ≡ true → ended_lines (b ∷ (bs ++ 10 ∷ rest)) ≡ (b ∷ (bs ++ 10 ∷ [])) ∷ ended_lines rest
line_by b bs rest true e below h = let k = rw e at h in absurd (cc)
line_by b bs rest false e below h = let k = rw e at h in let here = below k in rw (e, here) refl

-- a line is taken off with its LF
pub line_taken : (front rest : List ℕ) → lacks 10 front ≡ true → ended_lines (front ++ 10 ∷ rest) ≡ (front ++ 10 ∷ []) ∷ ended_lines rest
line_taken [] rest h = refl
line_taken (b ∷ bs) rest h = line_by b bs rest (b == 10) refl (line_taken bs rest) h

last_by : (b : ℕ) (bs : List ℕ) (t : Bool) → (b == 10) ≡ t → ((0 < length bs) → lacks 10 bs ≡ true → ended_lines bs ≡ bs ∷ []) → lacks 10 (b ∷ bs) ≡ true → ended_lines (b ∷ bs) ≡ (b ∷ bs) ∷ []
last_by b bs true e below h = let k = rw e at h in absurd (cc)
last_by b [] false e below h = rw e refl
last_by b (c ∷ cs) false e below h = let k = rw e at h in let here = below (omega arith) k in rw (e, here) refl

-- a last line without an LF
pub last_line : (text : List ℕ) → 0 < length text → lacks 10 text ≡ true → ended_lines text ≡ text ∷ []
last_line [] some h = absurd (omega arith)
last_line (b ∷ bs) some h = last_by b bs (b == 10) refl (last_line bs) h

pub first_is : (text front rest line back : List ℕ) → text ≡ front ++ 10 ∷ rest → lacks 10 front ≡ true → line ≡ take (length front + 1) text → back ≡ drop (length front + 1) text
    → ended_lines text ≡ line ∷ ended_lines back
first_is text front rest line back e h l b =
    let taken : take (length front + 1) (front ++ 10 ∷ rest) ≡ front ++ 10 ∷ [] = front_of front rest in
    let behind : drop (length front + 1) (front ++ 10 ∷ rest) ≡ rest = drop-append-add front (10 ∷ rest) 1 in
    let one : line ≡ front ++ 10 ∷ [] = l ∙ ap (take (length front + 1)) e ∙ taken in
    let two : back ≡ rest = b ∙ ap (drop (length front + 1)) e ∙ behind in
    rw (e, one, two) (line_taken front rest h)
  where
    front_of : (front rest : List ℕ) → take (length front + 1) (front ++ 10 ∷ rest) ≡ front ++ 10 ∷ []
    front_of [] rest = refl
    front_of (b ∷ bs) rest = let e : suc (length bs) + 1 ≡ suc (length bs + 1) = omega arith in rw e (ap (λ x. b ∷ x) (front_of bs rest))

pub last_is : (text line back : List ℕ) → lacks 10 text ≡ true → 0 < length text → line ≡ take (length text) text → back ≡ drop (length text) text
    → ended_lines text ≡ line ∷ ended_lines back
last_is text line back h some l b =
    let one : line ≡ text = l ∙ take-length text in
    let two : back ≡ [] = b ∙ drop-length text in
    rw (one, two) (last_line text some h)

pub none_is : (text : List ℕ) → (length text == 0) ≡ true → ended_lines text ≡ []
none_is text e = ap ended_lines (no_byte text e)
