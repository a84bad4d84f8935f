-- How many codes and numbers the rows give with one more, and whether they are within the limits.
use Rattle.std.proofs.Common.{rules, tests, ◌≡◌, ℕ, ◌+◌, ◌≤◌, Bool, true, false, not, ◌||◌, nat_le, nat_lt, cond, List, [], ◌∷◌, ◌++◌, map, length, Decides, refl, sym, ap, ◌∙◌, arith}
use Rattle.std.specs.Cmp.Lexicographic.{nat_list_eq_equiv}
use Rattle.std.specs.Set.{is_member, distinct_count, unique_keys}
use Rattle.std.specs.Str.{bytes_eq}
use Rattle.std.proofs.lemmas.Bool.Decides.{nat_tests, Decides-like, Decides-or}
use Rattle.std.proofs.lemmas.List.{map-append}
use Rattle.std.proofs.lemmas.List.Folds.{list_any-append}
use Rattle.std.proofs.lemmas.List.Sums.{sum_by-append}
use Rattle.std.proofs.lemmas.Slice.Eq.{bytes_eq-Decides}
use Rattle.std.proofs.lemmas.Map.Steps.{list_any_congr}
use Rattle.tn_auth_list.specs.CodeTable.{code_count, given_count, is_all, is_within, Names}
use Rattle.tn_auth_list.specs.declared.table_rows.Row.{Row}

-- ---- how many codes are named with one row more

abbrev pub codes_of : List Row → List (List ℕ)
codes_of rows = map (λ row. row.code) rows

-- a key more is counted if it is new
count_push : (xs : List (List ℕ)) (x : List ℕ) → distinct_count bytes_eq (xs ++ x ∷ []) ≡ distinct_count bytes_eq xs + cond (is_member bytes_eq xs x) 0 1
count_push [] x = refl
count_push (y ∷ xs) x = rw (list_any-append (bytes_eq y) xs (x ∷ []), nat_list_eq_equiv.symm x y)
    (by (is_member bytes_eq xs y) (bytes_eq y x) (is_member bytes_eq xs x) (unique_keys bytes_eq (xs ++ x ∷ [])) (list_any_congr nat_list_eq_equiv y x xs) (count_push xs x))
  where
    by : (named same found : Bool) (more : List (List ℕ)) → (same ≡ true → named ≡ found) → length more ≡ distinct_count bytes_eq xs + cond found 0 1
        → length (cond (named || (same || false)) more (y ∷ more)) ≡ length (cond named (unique_keys bytes_eq xs) (y ∷ unique_keys bytes_eq xs)) + cond (same || found) 0 1
    by true true found more alike h = let known = sym (alike refl) in rw known at h
    by true false found more alike h = h
    by false true found more alike h = let new = sym (alike refl) in let one = rw new at h in omega arith
    by false false found more alike h = omega arith

pub codes_push : (rows : List Row) (row : Row) → code_count (rows ++ row ∷ []) ≡ code_count rows + cond (is_member bytes_eq (codes_of rows) row.code) 0 1
codes_push rows row = ap (distinct_count bytes_eq) (map-append (λ (r : Row). r.code) rows (row ∷ [])) ∙ count_push (codes_of rows) row.code

pub given_push : (rows : List Row) (row : Row) → given_count (rows ++ row ∷ []) ≡ given_count rows + cond (is_all row.gives) 0 1
given_push rows row = let more = sum_by-append (λ (r : Row). cond (not (is_all r.gives)) 1 0) rows (row ∷ []) in grind (arith, nat_tests, more)

-- a code is among those of the rows exactly if some row names it
pub named : (rows : List Row) (code : List ℕ) → Decides (is_member bytes_eq (codes_of rows) code) (Names rows code)
named [] code = (λ e. absurd cc, λ n. absurd n)
named (row ∷ rows) code = Decides-or _ _ (Decides-like _ (λ e. sym e) (λ e. sym e) (bytes_eq-Decides code row.code)) (named rows code)

-- ---- the limits

-- the limits hold by number exactly if the test says so
pub limits : (rows : List Row) → Decides (is_within rows) ((code_count rows ≤ 20000) × (given_count rows ≤ 200000))
unfolding is_within
limits rows = search (rules, tests)

-- one more fits, or what counts nothing
pub fits : (n more most : ℕ) (free : Bool) → more ≡ n + cond free 0 1 → n ≤ most → (nat_lt n most || free) ≡ nat_le more most
fits n more most free e h = grind (arith, nat_tests)
