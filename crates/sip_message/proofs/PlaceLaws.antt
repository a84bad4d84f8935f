-- A fault's place is at most the length of the bytes.
use Rattle.std.proofs.Common.{◌≡◌, ℕ, ◌+◌, ◌≤◌, ◌==◌, nat_le, Bool, true, false, ◌&&◌, cond, List, [], ◌∷◌, ◌++◌, length, filter, Some, refl, ap, ◌∙◌, sym, arith}
use Rattle.std.specs.List.{list_all}
use Rattle.std.proofs.lemmas.Bool.Decides.{nat_tests}
use Rattle.std.proofs.lemmas.List.Folds.{list_all-append}
use Rattle.text_grammar.specs.Line.{onto_first, pieces}
use Rattle.sip_message.specs.declared.fault.FormFault.{FormFault}
use Rattle.sip_message.specs.Form.{FormOf, place_of_surplus, size, start_line, header_line, no_line, no_end, from, to}
use Rattle.sip_message.specs.Group.{Begins, Group, lines_of_groups}
use Rattle.sip_message.specs.Lines.{LineView, lines_from, lines_of}
use Rattle.std.proofs.lemmas.Bool.{and_parts}
use Rattle.std.proofs.lemmas.Option.{same_Some}

-- ---- the places of lines

unfoldable pub total : List (List ℕ) → ℕ
total [] = 0
total (piece ∷ others) = length piece + 1 + total others

onto_total : (b : ℕ) (ps : List (List ℕ)) → total (onto_first b ps) ≤ total ps + 1
unfolding total
onto_total b [] = omega arith
onto_total b (p ∷ ps) = omega arith

total_by : (b : ℕ) (bs : List ℕ) (t : Bool) → total (pieces bs) ≤ length bs → total (cond t ([] ∷ pieces bs) (onto_first b (pieces bs))) ≤ length (b ∷ bs)
unfolding total
total_by b bs true below = omega arith
total_by b bs false below = omega (arith, onto_total b (pieces bs))

pub total_pieces : (bytes : List ℕ) → total (pieces bytes) ≤ length bytes
unfolding total
total_pieces [] = omega arith
total_pieces (b ∷ bs) = total_by b bs (b == 10) (total_pieces bs)

abbrev pub are_within : ℕ → List LineView → Bool
are_within most lines = list_all (λ (line : LineView). nat_le line.place most) lines

lines_within : (most place : ℕ) (ps : List (List ℕ)) → place + total ps ≤ most → are_within most (lines_from place ps) ≡ true
unfolding total
lines_within most place [] h = refl
lines_within most place (p ∷ ps) h =
    let here : nat_le place most ≡ true = grind (arith, nat_tests) in
    let next : (place + length p + 1) + total ps ≤ most = omega arith in
    rw (here, lines_within most (place + length p + 1) ps next) refl

pub within : (bytes : List ℕ) → are_within (length bytes) (lines_of bytes) ≡ true
within bytes = lines_within (length bytes) 0 (pieces bytes) (omega (arith, total_pieces bytes))

-- ---- the places of groups

abbrev groups_within : ℕ → List Group → Bool
groups_within most groups = list_all (λ (group : Group). nat_le group.first.place most) groups

parted : (most : ℕ) (xs ys : List LineView) → are_within most (xs ++ ys) ≡ true → (are_within most xs ≡ true) × (are_within most ys ≡ true)
parted most xs ys h = and_parts (are_within most xs) (are_within most ys) (sym (list_all-append (λ (line : LineView). nat_le line.place most) xs ys) ∙ h)

groups_by : (most : ℕ) (group : Group) (others : List Group) → (are_within most (lines_of_groups others) ≡ true → groups_within most others ≡ true)
    → are_within most (group.first ∷ (group.continued ++ lines_of_groups others)) ≡ true → groups_within most (group ∷ others) ≡ true
groups_by most group others below h =
    let t = and_parts (nat_le group.first.place most) (are_within most (group.continued ++ lines_of_groups others)) h in
    rw (t.0, below (parted most group.continued (lines_of_groups others) t.1).1) refl

from_lines : (most : ℕ) (groups : List Group) → are_within most (lines_of_groups groups) ≡ true → groups_within most groups ≡ true
from_lines most [] h = refl
from_lines most (group ∷ others) h = groups_by most group others (from_lines most others) h

filtered_by : (most : ℕ) (test : Group → Bool) (group : Group) (others : List Group) (t : Bool) → test group ≡ t
    → (groups_within most others ≡ true → groups_within most (filter test others) ≡ true) → groups_within most (group ∷ others) ≡ true → groups_within most (filter test (group ∷ others)) ≡ true
filtered_by most test group others true e below h = let b = and_parts (nat_le group.first.place most) (groups_within most others) h in rw (e, b.0) (below b.1)
filtered_by most test group others false e below h = rw e (below (and_parts (nat_le group.first.place most) (groups_within most others) h).1)

filtered : (most : ℕ) (test : Group → Bool) (groups : List Group) → groups_within most groups ≡ true → groups_within most (filter test groups) ≡ true
filtered most test [] h = refl
filtered most test (group ∷ others) h = filtered_by most test group others (test group) refl (filtered most test others) h

surplus_within : (most end place : ℕ) (groups : List Group) → end ≤ most → groups_within most groups ≡ true → place_of_surplus end groups ≡ Some place → place ≤ most
surplus_within most end place [] h g e = let s = same_Some end place e in omega arith
surplus_within most end place (one ∷ []) h g e = absurd cc
surplus_within most end place (one ∷ second ∷ others) h g e =
    let s = same_Some second.first.place place e in
    let t = and_parts (nat_le one.first.place most) (nat_le second.first.place most && groups_within most others) g in
    let u : nat_le second.first.place most ≡ true = (and_parts (nat_le second.first.place most) (groups_within most others) t.1).0 in
    let v : second.first.place ≤ most = grind (arith, nat_tests) in
    omega arith

-- ---- the places of faults

record Within (bytes : List ℕ) (groups : List Group) (line : LineView) : Type 0 where
  line_ok : line.place ≤ length bytes
  groups_ok : groups_within (length bytes) groups ≡ true

begun : (bytes method uri : List ℕ) (groups : List Group) (line : LineView) (others : List LineView) → Begins bytes method uri groups (line ∷ others) → Within bytes groups line
begun bytes method uri groups line others b =
    let all : are_within (length bytes) (b.start ∷ (lines_of_groups groups ++ line ∷ others)) ≡ true = ap (are_within (length bytes)) (sym b.lines) ∙ within bytes in
    let t = and_parts (nat_le b.start.place (length bytes)) (are_within (length bytes) (lines_of_groups groups ++ line ∷ others)) all in
    let p = parted (length bytes) (lines_of_groups groups) (line ∷ others) t.1 in
    let u : nat_le line.place (length bytes) ≡ true = (and_parts (nat_le line.place (length bytes)) (are_within (length bytes) others) p.1).0 in
    record { line_ok = grind (arith, nat_tests); groups_ok = from_lines (length bytes) groups p.0 }

placed : (found made : FormFault) (most : ℕ) → found ≡ made → made.place ≤ most → found.place ≤ most
placed found made most e h = let p = ap (λ (f : FormFault). f.place) e in omega arith

pub place_within : (bytes : List ℕ) (found : FormFault) → FormOf bytes found → found.place ≤ length bytes
place_within bytes found (size long e) = placed found _ (length bytes) e (omega arith)
place_within bytes found (start_line short first others l none e) = placed found _ (length bytes) e (omega arith)
place_within bytes found (header_line method uri groups bad behind b i e) = placed found _ (length bytes) e (begun bytes method uri groups bad behind b).line_ok
place_within bytes found (no_line short l e) = placed found _ (length bytes) e (omega arith)
place_within bytes found (no_end method uri groups b e) = placed found _ (length bytes) e (omega arith)
place_within bytes found (from method uri groups empty body b n place s e) =
    let w = begun bytes method uri groups empty body b in
    placed found _ (length bytes) e (surplus_within (length bytes) empty.place place _ w.line_ok (filtered (length bytes) _ groups w.groups_ok) s)
place_within bytes found (to method uri groups empty body b n one place s e) =
    let w = begun bytes method uri groups empty body b in
    placed found _ (length bytes) e (surplus_within (length bytes) empty.place place _ w.line_ok (filtered (length bytes) _ groups w.groups_ok) s)
