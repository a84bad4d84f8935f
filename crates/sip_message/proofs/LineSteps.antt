-- The next line is what comes before the first LF, and it continues a field exactly if its first byte is blank.
use Rattle.std.proofs.Common.{◌≡◌, ℕ, suc, ◌+◌, ◌-◌, Bool, true, false, ◌==◌, cond, List, [], ◌∷◌, ◌++◌, length, take, get_or, refl, ap, ◌∙◌, arith}
use Rattle.std.specs.Str.Lines.{strip_carriage_return}
use Rattle.std.proofs.lemmas.Bool.Decides.{nat_tests}
use Rattle.std.proofs.lemmas.List.{length-append}
use Rattle.text_grammar.specs.Cut.{lacks}
use Rattle.text_grammar.specs.Line.{pieces}
use Rattle.text_grammar.specs.Bytes.{is_blank}
use Rattle.sip_message.specs.Lines.{is_continuation, lines_from}

none_by : (b : ℕ) (bs : List ℕ) (t : Bool) → (b == 10) ≡ t → (lacks 10 bs ≡ true → pieces bs ≡ []) → lacks 10 (b ∷ bs) ≡ true → pieces (b ∷ bs) ≡ []
none_by b bs true e below h = let k = rw e at h in absurd (cc)
none_by b bs false e below h = let k = rw e at h in let none = below k in rw (e, none) refl

pieces_none : (bytes : List ℕ) → lacks 10 bytes ≡ true → pieces bytes ≡ []
pieces_none [] h = refl
pieces_none (b ∷ bs) h = none_by b bs (b == 10) refl (pieces_none bs) h

first_by : (b : ℕ) (bs rest : List ℕ) (t : Bool) → (b == 10) ≡ t → (lacks 10 bs ≡ true → pieces (bs ++ 10 ∷ rest) ≡ bs ∷ pieces rest)
    → lacks 10 (b ∷ bs) ≡ true → pieces (b ∷ (bs ++ 10 ∷ rest)) ≡ (b ∷ bs) ∷ pieces rest
first_by b bs rest true e below h = let k = rw e at h in absurd (cc)
first_by b bs rest false e below h = let k = rw e at h in let here = below k in rw (e, here) refl

pub pieces_first : (front rest : List ℕ) → lacks 10 front ≡ true → pieces (front ++ 10 ∷ rest) ≡ front ∷ pieces rest
pieces_first [] rest h = refl
pieces_first (b ∷ bs) rest h = first_by b bs rest (b == 10) refl (pieces_first bs rest) h

-- the lines of bytes with an LF
pub line_taken : (place : ℕ) (bytes piece rest : List ℕ) → bytes ≡ piece ++ 10 ∷ rest → lacks 10 piece ≡ true
    → lines_from place (pieces bytes) ≡ record { place = place; text = strip_carriage_return piece } ∷ lines_from (place + length piece + 1) (pieces rest)
line_taken place bytes piece rest e h = ap (λ x. lines_from place (pieces x)) e ∙ ap (lines_from place) (pieces_first piece rest h)

-- their sizes
pub line_size : (bytes piece rest : List ℕ) → bytes ≡ piece ++ 10 ∷ rest → length bytes ≡ length piece + 1 + length rest
line_size bytes piece rest e = omega (arith, ap length e, length-append piece (10 ∷ rest))

-- without one there is none
pub none_left : (place : ℕ) (bytes : List ℕ) → lacks 10 bytes ≡ true → lines_from place (pieces bytes) ≡ []
none_left place bytes h = ap (lines_from place) (pieces_none bytes h)

-- ---- the first byte

one_byte : (b : ℕ) (t : Bool) → (b == 13) ≡ t → is_continuation (cond t [] (b ∷ [])) ≡ is_blank b
one_byte b true e = let same : b ≡ 13 = grind (arith, nat_tests) in rw same refl
one_byte b false e = refl

more_bytes : (b c : ℕ) (cs : List ℕ) (t : Bool) → is_continuation (cond t (take (length (b ∷ c ∷ cs) - 1) (b ∷ c ∷ cs)) (b ∷ c ∷ cs)) ≡ is_blank b
more_bytes b c cs true = let e : length (b ∷ c ∷ cs) - 1 ≡ suc (length cs) = omega arith in rw e refl
more_bytes b c cs false = refl

pub stripped_first : (b : ℕ) (bs : List ℕ) → is_continuation (strip_carriage_return (b ∷ bs)) ≡ is_blank b
stripped_first b [] = one_byte b (b == 13) refl
stripped_first b (c ∷ cs) = more_bytes b c cs (get_or (b ∷ c ∷ cs) (length (b ∷ c ∷ cs) - 1) 0 == 13)
