-- The lines of a report, as they are written.
use Rattle.std.proofs.Common.{◌≡◌, ℕ, suc, ◌+◌, ◌<◌, ◌≤◌, List, [], ◌∷◌, ◌++◌, drop, length, codes, get_or, refl, sym, ap, ◌∙◌, append_assoc, append-nil, arith, drop-cons}
use Rattle.std.specs.Fmt.{decimal}
use Rattle.std.proofs.lemmas.List.{drop_all}
use Rattle.live_desk.specs.declared.claim.LiveClaim.{LiveClaim}
use Rattle.once_run.specs.Lines.{claim_line, full_text, lines_from}

pub line_spelled : (text after : List ℕ) (number : ℕ) → (text ++ decimal number) ++ after ≡ text ++ (decimal number ++ after)
line_spelled text after number = append_assoc text (decimal number) after

pub level_spelled : (text : List ℕ) (level : ℕ) → ((text ++ codes " full ") ++ decimal level) ++ 10 ∷ [] ≡ text ++ full_text level
level_spelled text level = simp append_assoc refl

pub lines_more : (claims : List LiveClaim) (text now : List ℕ) (i : ℕ) (d : LiveClaim) → i < length claims → now ≡ text ++ claim_line (i + 1) (get_or claims i d)
    → now ++ lines_from (i + 1 + 1) (drop (i + 1) claims) ≡ text ++ lines_from (i + 1) (drop i claims)
lines_more claims text now i d within n =
    let next : i + 1 + 1 ≡ suc (i + 1) = omega arith in
    let later : i + 1 ≡ suc i = omega arith in
    ap (λ k. now ++ lines_from k (drop (i + 1) claims)) next ∙ ap (λ k. now ++ lines_from (suc (i + 1)) (drop k claims)) later
    ∙ ap (λ x. x ++ lines_from (suc (i + 1)) (drop (suc i) claims)) n
    ∙ append_assoc text (claim_line (i + 1) (get_or claims i d)) (lines_from (suc (i + 1)) (drop (suc i) claims))
    ∙ ap (λ x. text ++ lines_from (i + 1) x) (sym (drop-cons claims i d within))

pub lines_done : (claims : List LiveClaim) (text : List ℕ) (i : ℕ) → length claims ≤ i → text ++ lines_from (i + 1) (drop i claims) ≡ text
lines_done claims text i end = ap (λ x. text ++ lines_from (i + 1) x) (drop_all i claims end) ∙ append-nil text
