-- What is kept of a text, and of a prefix of it.
use Rattle.std.proofs.Common.{◌≡◌, ℕ, ◌+◌, ◌<◌, ◌≤◌, Bool, true, cond, List, ◌++◌, length, get_or, take, drop, arith, ap, sym, ◌∙◌, length-append}
use Rattle.std.specs.List.{filter}
use Rattle.std.proofs.lemmas.List.Elements.{filter-append}
use Rattle.std.proofs.lemmas.List.{take-append-drop}
use Rattle.std.proofs.lemmas.List.Filters.{length-filter_more}

-- a prefix keeps no more than the whole
front_keeps_less : (p : ℕ → Bool) (text : List ℕ) (n : ℕ) → length (filter p (take n text)) ≤ length (filter p text)
front_keeps_less p text n =
    let split : filter p text ≡ filter p (take n text) ++ filter p (drop n text) = ap (filter p) (sym (take-append-drop n text)) ∙ filter-append p (take n text) (drop n text) in
    omega (arith, ap length split, length-append (filter p (take n text)) (filter p (drop n text)))

-- a byte that is kept after a prefix: the whole keeps more than the prefix
pub front_and_one : (p : ℕ → Bool) (text : List ℕ) (i : ℕ) → i < length text → p (get_or text i 0) ≡ true
    → length (filter p (take i text)) < length (filter p text)
front_and_one p text i inside keeps =
    let more : length (filter p (take (i + 1) text)) ≡ length (filter p (take i text)) + cond (p (get_or text i 0)) 1 0
    = length-filter_more p text i 0 inside in
    let one : length (filter p (take (i + 1) text)) ≡ length (filter p (take i text)) + 1
    = more ∙ ap (λ b. length (filter p (take i text)) + cond b 1 0) keeps in
    omega (arith, one, front_keeps_less p text (i + 1))
