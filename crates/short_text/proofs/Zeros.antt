-- What is written over the first of the zeros leaves the zeros after it.
use Rattle.std.proofs.Common.{◌≡◌, ℕ, List, ◌++◌, length, drop, replicate, ap, ◌∙◌}
use Rattle.std.proofs.lemmas.List.{drop-replicate}
use Rattle.short_text.specs.Filled.{filled}

pub zeros_behind : (size : ℕ) (text written : List ℕ) → written ≡ text → written ++ drop (length text) (replicate {A = ℕ} size 0) ≡ filled size text
zeros_behind size text written e =
    ap (λ w. w ++ drop (length text) (replicate {A = ℕ} size 0)) e
    ∙ ap (λ zeros. text ++ zeros) (drop-replicate (length text) size 0)
