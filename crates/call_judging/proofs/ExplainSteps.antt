-- One line more of the rules that are met.
use Rattle.std.proofs.Common.{◌≡◌, ℕ, zero, suc, ◌+◌, ◌<◌, ◌≤◌, List, [], ◌∷◌, ◌++◌, drop, get_or, length, append_assoc, append-nil, refl, sym, ◌∙◌, ap, arith}
use Rattle.std.proofs.lemmas.List.{drop_all}
use Rattle.call_judging.specs.Explain.{ok_line, ok_lines}

step : (number : ℕ) (rules : List ℕ) (i d : ℕ) → i < length rules → ok_lines number (drop i rules) ≡ ok_line number (get_or rules i d) ++ ok_lines number (drop (suc i) rules)
unfolding ok_lines
step number [] i d within = absurd (omega arith)
step number (rule ∷ rules) zero d within = refl
step number (rule ∷ rules) (suc i) d within = step number rules i d (omega arith)

pub lines_more : (number : ℕ) (rules : List ℕ) (i rule d : ℕ) (text now all : List ℕ) → text ++ ok_lines number (drop i rules) ≡ all → i < length rules → rule ≡ get_or rules i d
    → now ≡ text ++ ok_line number rule → now ++ ok_lines number (drop (i + 1) rules) ≡ all
lines_more number rules i rule d text now all left within is pushed =
    let next : suc i ≡ i + 1 = omega arith in
    let rest : List ℕ = ok_lines number (drop (i + 1) rules) in
    ap (λ (x : List ℕ). x ++ rest) (pushed ∙ ap (λ n. text ++ ok_line number n) is)
    ∙ append_assoc text (ok_line number (get_or rules i d)) rest
    ∙ ap (λ n. text ++ (ok_line number (get_or rules i d) ++ ok_lines number (drop n rules))) (sym next)
    ∙ ap (λ (x : List ℕ). text ++ x) (sym (step number rules i d within)) ∙ left

pub lines_done : (number : ℕ) (rules : List ℕ) (i : ℕ) (text all : List ℕ) → text ++ ok_lines number (drop i rules) ≡ all → length rules ≤ i → text ≡ all
unfolding ok_lines
lines_done number rules i text all left past =
    sym (append-nil text) ∙ sym (ap (λ (x : List ℕ). text ++ ok_lines number x) (drop_all i rules past)) ∙ left
