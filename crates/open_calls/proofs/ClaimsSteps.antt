-- One PASSporT more of those whose claims are written.
use Rattle.std.proofs.Common.{◌≡◌, ℕ, zero, suc, ◌+◌, ◌<◌, ◌≤◌, List, [], ◌∷◌, ◌++◌, append_assoc, append-nil, length, drop, Some, inl, inr, sym, ◌∙◌, ap, arith}
use Rattle.std.specs.List.{slice_get}
use Rattle.std.proofs.lemmas.List.{drop_all}
use Rattle.std.proofs.lemmas.Option.{same_Some, slice_get_cases}
use Rattle.verify_rules.specs.Call.{Reading}
use Rattle.open_calls.specs.Claims.{claims_line, claims_lines}
use Rattle.open_calls.specs.Steps.{ClaimsUpTo}

step : (readings : List Reading) (i : ℕ) (one : Reading) → slice_get readings i ≡ Some one → claims_lines (drop i readings) ≡ claims_line one ++ claims_lines (drop (suc i) readings)
step [] i one is = absurd (cc)
step (r ∷ readings) zero one is = ap (λ (x : Reading). claims_line x ++ claims_lines readings) (same_Some r one is)
step (r ∷ readings) (suc i) one is = step readings i one is

pub none_yet : (readings : List Reading) (text : List ℕ) → text ≡ [] → ClaimsUpTo readings text 0
none_yet readings text is = record { left = ap (λ (t : List ℕ). t ++ claims_lines readings) is }

more_of : (readings : List Reading) (mid now : List ℕ) (i : ℕ) (one : Reading) → ClaimsUpTo readings mid i → slice_get readings i ≡ Some one → now ≡ mid ++ claims_line one
    → ClaimsUpTo readings now (i + 1)
more_of readings mid now i one so is pushed =
    let next : suc i ≡ i + 1 = omega arith in
    let split : claims_lines (drop i readings) ≡ claims_line one ++ claims_lines (drop (i + 1) readings) = step readings i one is ∙ ap (λ n. claims_line one ++ claims_lines (drop n readings)) next in
    record {
      left = ap (λ (t : List ℕ). t ++ claims_lines (drop (i + 1) readings)) pushed ∙ append_assoc mid (claims_line one) (claims_lines (drop (i + 1) readings))
          ∙ ap (λ (t : List ℕ). mid ++ t) (sym split) ∙ so.left;
    }

pub one_more : (readings : List Reading) (mid now : List ℕ) (i : ℕ) → ClaimsUpTo readings mid i → i < length readings
    → ((one : Reading) → slice_get readings i ≡ Some one → now ≡ mid ++ claims_line one) → ClaimsUpTo readings now (i + 1)
one_more readings mid now i so within more =
    elim (slice_get_cases readings i).1 [
      | inl (one, inside, is, at) ↦ more_of readings mid now i one so is (more one is)
      | inr (past, none) ↦ absurd (omega (arith, within, past))
    ]

pub all_written : (readings : List Reading) (now : List ℕ) (i : ℕ) → ClaimsUpTo readings now i → length readings ≤ i → now ≡ claims_lines readings
all_written readings now i so past = sym (append-nil now) ∙ ap (λ (t : List ℕ). now ++ t) (sym (ap claims_lines (drop_all i readings past))) ∙ so.left
