-- The response code of each rule (RFC 3261, section 21.4.1: 400; RFC 8224, section 6.2.2: 403, 428, 436, 437 and 438).
use Rattle.std.specs.Prelude.{◌≡◌, ⊤, ℕ, ◌==◌, Bool, ◌||◌, ◌&&◌, nat_le, List, [], ◌∷◌, if◌then◌else◌}

-- a certificate that can't be trusted or doesn't allow what is claimed, or an algorithm that isn't judged
abbrev pub is_unsupported : ℕ → Bool
is_unsupported rule = rule == 5 || (nat_le 11 rule && nat_le rule 15) || rule == 17 || rule == 19

-- 400 the request, 428 no Identity, 403 an old one, 436 a certificate that isn't there, 437 one that can't be trusted,
-- 438 an Identity that can't be used
abbrev pub code_of : ℕ → ℕ
code_of rule =
    if rule == 1 then 400 else if rule == 2 || rule == 4 then 428 else if rule == 9 then 403 else if rule == 10 then 436
    else if is_unsupported rule then 437 else 438

-- ---- the same, rule by rule

-- each row for this rule has this code
abbrev pub IsByRows : List (ℕ × ℕ) → ℕ → ℕ → Type 0
IsByRows [] rule code = ⊤
IsByRows (row ∷ others) rule code = (rule ≡ row.0 → code ≡ row.1) × IsByRows others rule code

-- each rule from 1 to 19, of which 18 is the one on replay, and its response code
abbrev pub code_rows : List (ℕ × ℕ)
code_rows = (1, 400) ∷ (2, 428) ∷ (3, 438) ∷ (4, 428) ∷ (5, 437) ∷ (6, 438) ∷ (7, 438) ∷ (8, 438) ∷ (9, 403) ∷ (10, 436)
    ∷ (11, 437) ∷ (12, 437) ∷ (13, 437) ∷ (14, 437) ∷ (15, 437) ∷ (16, 438) ∷ (17, 437) ∷ (18, 438) ∷ (19, 437) ∷ []

-- the rule has this code
unfoldable pub HasCode : ℕ → ℕ → Type 0
HasCode rule code = IsByRows code_rows rule code
