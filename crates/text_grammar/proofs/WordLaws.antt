-- The words of a line that was cut at its spaces one by one.
use Rattle.std.proofs.Common.{◌≡◌, ℕ, ◌≤◌, Bool, true, false, ◌&&◌, nat_le, ◌==◌, cond, List, [], ◌∷◌, ◌++◌, length, Option, None, refl, sym, ap, ◌∙◌, arith}
use Rattle.std.proofs.lemmas.List.Splits.{length-slice_split}
use Rattle.std.proofs.lemmas.Bool.Decides.{nat_tests}
use Rattle.text_grammar.specs.Cut.{lacks}
use Rattle.text_grammar.specs.LineWords.{parts, none_empty, line_words}
use Rattle.text_grammar.proofs.Parts.{split_none, split_first_of}

-- two to four parts, or none
abbrev chosen : List (List ℕ) → Option (List (List ℕ))
chosen ps = cond (nat_le 2 (length ps) && nat_le (length ps) 4) (none_empty ps) None

chosen_of : (line : List ℕ) (ps : List (List ℕ)) → parts line ≡ ps → line_words line ≡ chosen ps
unfolding line_words
chosen_of line ps e = ap chosen e

abbrev Cut : List ℕ → List ℕ → List ℕ → Type 0
Cut text front rest = (text ≡ front ++ 32 ∷ rest) × (lacks 32 front ≡ true)

more : (text front rest : List ℕ) → Cut text front rest → parts text ≡ front ∷ parts rest
more text front rest c = split_first_of 32 text front rest c.0 c.1

pub one_part : (line : List ℕ) → lacks 32 line ≡ true → None ≡ line_words line
one_part line h = sym (chosen_of line (line ∷ []) (split_none 32 line h))

pub two_parts : (line a b : List ℕ) → line ≡ a ++ 32 ∷ b → lacks 32 a ≡ true → lacks 32 b ≡ true → line_words line ≡ none_empty (a ∷ b ∷ [])
two_parts line a b e x z = chosen_of line (a ∷ b ∷ []) (more line a b (e, x) ∙ ap (λ (ps : List (List ℕ)). a ∷ ps) (split_none 32 b z))

pub three_parts : (line a others b c : List ℕ) → line ≡ a ++ 32 ∷ others → lacks 32 a ≡ true → others ≡ b ++ 32 ∷ c → lacks 32 b ≡ true → lacks 32 c ≡ true
    → line_words line ≡ none_empty (a ∷ b ∷ c ∷ [])
three_parts line a others b c e x f y z = chosen_of line (a ∷ b ∷ c ∷ []) (more line a others (e, x) ∙ ap (λ (ps : List (List ℕ)). a ∷ ps) (more others b c (f, y))
    ∙ ap (λ (ps : List (List ℕ)). a ∷ b ∷ ps) (split_none 32 c z))

four : (line a others b more_text c last : List ℕ) → Cut line a others → Cut others b more_text → Cut more_text c last → parts line ≡ a ∷ b ∷ c ∷ parts last
four line a others b more_text c last x y z = more line a others x ∙ ap (λ (ps : List (List ℕ)). a ∷ ps) (more others b more_text y) ∙ ap (λ (ps : List (List ℕ)). a ∷ b ∷ ps) (more more_text c last z)

pub four_parts : (line a others b more_text c last : List ℕ) → line ≡ a ++ 32 ∷ others → lacks 32 a ≡ true → others ≡ b ++ 32 ∷ more_text → lacks 32 b ≡ true
    → more_text ≡ c ++ 32 ∷ last → lacks 32 c ≡ true → lacks 32 last ≡ true → line_words line ≡ none_empty (a ∷ b ∷ c ∷ last ∷ [])
four_parts line a others b more_text c last e x f y g z w =
    chosen_of line (a ∷ b ∷ c ∷ last ∷ []) (four line a others b more_text c last (e, x) (f, y) (g, z) ∙ ap (λ (ps : List (List ℕ)). a ∷ b ∷ c ∷ ps) (split_none 32 last w))

too_many : (ps : List (List ℕ)) (t : Bool) → nat_le (length ps) 4 ≡ t → 5 ≤ length ps → chosen ps ≡ None
too_many ps true e h = absurd (grind (arith, nat_tests))
too_many ps false e h = let two : nat_le 2 (length ps) ≡ true = grind (arith, nat_tests) in rw (two, e) refl

pub more_parts : (line a others b more_text c last d e : List ℕ) → line ≡ a ++ 32 ∷ others → lacks 32 a ≡ true → others ≡ b ++ 32 ∷ more_text → lacks 32 b ≡ true
    → more_text ≡ c ++ 32 ∷ last → lacks 32 c ≡ true → last ≡ d ++ 32 ∷ e → lacks 32 d ≡ true → None ≡ line_words line
more_parts line a others b more_text c last d e p x q y r z s w =
    let all : parts line ≡ a ∷ b ∷ c ∷ d ∷ parts e = four line a others b more_text c last (p, x) (q, y) (r, z) ∙ ap (λ (ps : List (List ℕ)). a ∷ b ∷ c ∷ ps) (more last d e (s, w)) in
    sym (chosen_of line (a ∷ b ∷ c ∷ d ∷ parts e) all ∙ too_many (a ∷ b ∷ c ∷ d ∷ parts e) _ refl (omega (arith, length-slice_split (λ b. b == 32) e)))
