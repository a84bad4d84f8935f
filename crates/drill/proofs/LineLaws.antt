-- The lines of the summary, as they are written.
use Rattle.std.proofs.Common.{◌≡◌, ℕ, List, [], ◌∷◌, ◌++◌, refl, ap, ◌∙◌, append_assoc}
use Rattle.std.specs.Fmt.{decimal}
use Rattle.drill.specs.Summary.{count_line}

pub line_spelled : (text word : List ℕ) (count : ℕ) → (((text ++ word) ++ 32 ∷ []) ++ decimal count) ++ 10 ∷ [] ≡ text ++ count_line word count
line_spelled text word count = simp append_assoc refl

seven : (a b c d e f g : List ℕ) → (((((a ++ b) ++ c) ++ d) ++ e) ++ f) ++ g ≡ a ++ (b ++ (c ++ (d ++ (e ++ (f ++ g)))))
seven a b c d e f g = simp append_assoc refl

pub seven_lines : (none one two three four five six all a b c d e f g : List ℕ) → none ≡ [] → one ≡ none ++ a → two ≡ one ++ b → three ≡ two ++ c → four ≡ three ++ d → five ≡ four ++ e → six ≡ five ++ f
    → all ≡ six ++ g → all ≡ a ++ (b ++ (c ++ (d ++ (e ++ (f ++ g)))))
seven_lines none one two three four five six all a b c d e f g is0 is1 is2 is3 is4 is5 is6 is7 =
    is7 ∙ ap (λ x. x ++ g) (is6 ∙ ap (λ x. x ++ f) (is5 ∙ ap (λ x. x ++ e) (is4 ∙ ap (λ x. x ++ d) (is3 ∙ ap (λ x. x ++ c) (is2 ∙ ap (λ x. x ++ b) (is1 ∙ ap (λ x. x ++ a) is0))))))
    ∙ seven a b c d e f g
