-- Each rule has the response code of its row.
use Rattle.std.proofs.Common.{◌≡◌, ℕ, ◌==◌, Bool, true, List, [], ◌∷◌, refl, ◌∙◌, ap, arith}
use Rattle.std.specs.List.{list_all}
use Rattle.std.proofs.lemmas.Bool.{and_parts}
use Rattle.std.proofs.lemmas.Bool.Decides.{nat_tests}
use Rattle.verify_rules.specs.Code.{HasCode, IsByRows, code_of, code_rows}

abbrev is_coded : ℕ × ℕ → Bool
is_coded row = code_of row.0 == row.1

equal : (a b : ℕ) → (a == b) ≡ true → a ≡ b
equal a b same = grind (arith, nat_tests)

by_rows : (rows : List (ℕ × ℕ)) (rule : ℕ) → list_all is_coded rows ≡ true → IsByRows rows rule (code_of rule)
by_rows [] rule all = tt
by_rows (row ∷ others) rule all =
    let parts = and_parts (is_coded row) (list_all is_coded others) all in
    ((λ same. ap code_of same ∙ equal (code_of row.0) row.1 parts.0), by_rows others rule parts.1)

pub has_code : (rule : ℕ) → HasCode rule (code_of rule)
unfolding HasCode
has_code rule = by_rows code_rows rule refl
