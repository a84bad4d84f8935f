-- The judged PASSporTs as they are kept.
use Rattle.std.proofs.Common.{◌≡◌, ℕ, zero, suc, ◌-◌, ◌<◌, ◌≤◌, List, [], ◌∷◌, ◌++◌, length, map, take, drop, get_or, Some, refl, sym, ◌∙◌, ap, arith}
use Rattle.std.specs.List.{slice_get}
use Rattle.std.proofs.lemmas.List.{length-map, map-append, take_rest}
use Rattle.verify_rules.specs.Call.{Reading, passport_in, passports_of}
use Rattle.verify_rules.specs.Screened.{judged_seen}
use Rattle.verify_rules.specs.declared.judged_passport.JudgedPassport.{JudgedPassport}

pub kept_more : (kept : List JudgedPassport) (one : JudgedPassport) → map judged_seen (kept ++ one ∷ []) ≡ map judged_seen kept ++ judged_seen one ∷ []
kept_more kept one = map-append judged_seen kept (one ∷ [])

pub kept_length : (kept : List JudgedPassport) → length (map judged_seen kept) ≡ length kept
kept_length kept = length-map kept judged_seen

pub kept_at : (kept : List JudgedPassport) (i : ℕ) (one : JudgedPassport) → i < length kept → slice_get (map judged_seen kept) i ≡ Some (judged_seen (get_or kept i one))
kept_at [] i one within = absurd (omega arith)
kept_at (first ∷ kept) zero one within = refl
kept_at (first ∷ kept) (suc i) one within = kept_at kept i one (omega arith)

pub within_kept : (kept : List JudgedPassport) (readings : List Reading) (i : ℕ) → map judged_seen kept ≡ readings → i < length readings → i < length kept
within_kept kept readings i is within = let same : length kept ≡ length readings = sym (kept_length kept) ∙ ap length is in omega (arith, same)

pub kept_some : (kept : List JudgedPassport) (readings : List Reading) → map judged_seen kept ≡ readings → 1 ≤ length readings → 1 ≤ length kept
kept_some kept readings is some = within_kept kept readings 0 is some

-- ---- the links

links_are : (kept : List JudgedPassport) → map judged_seen (drop 1 kept) ≡ drop 1 (map judged_seen kept)
links_are [] = refl
links_are (one ∷ kept) = refl

behind_first : (readings : List Reading) → passports_of (drop 1 readings) ≡ drop 1 (passports_of readings)
behind_first [] = refl
behind_first (one ∷ readings) = refl

pub links_kept : (kept : List JudgedPassport) (readings : List Reading) → map judged_seen kept ≡ readings
    → passports_of (map judged_seen (take (length kept - 1) (drop 1 kept))) ≡ drop 1 (passports_of readings)
links_kept kept readings is =
    ap (λ (rest : List JudgedPassport). passports_of (map judged_seen rest)) (take_rest kept 1) ∙ ap passports_of (links_are kept)
    ∙ behind_first (map judged_seen kept) ∙ ap (λ (seen : List Reading). drop 1 (passports_of seen)) is

pub links_length : (kept : List JudgedPassport) → length (passports_of (map judged_seen kept)) ≡ length kept
links_length kept = length-map (map judged_seen kept) passport_in ∙ kept_length kept

pub links_within : (kept : List JudgedPassport) (i : ℕ) → i < length (passports_of (map judged_seen kept)) → i < length kept
links_within kept i within = omega (arith, links_length kept)

pub links_at : (kept : List JudgedPassport) (i : ℕ) (one : JudgedPassport) → i < length kept
    → slice_get (passports_of (map judged_seen kept)) i ≡ Some (get_or kept i one).claims
links_at [] i one within = absurd (omega arith)
links_at (first ∷ kept) zero one within = refl
links_at (first ∷ kept) (suc i) one within = links_at kept i one (omega arith)
