-- Options that are known and come at most once: seen from the beginning, and seen from the end.
use Rattle.std.proofs.Common.{◌≡◌, ℕ, Bool, true, false, not, ◌&&◌, ◌||◌, List, [], ◌∷◌, ◌++◌, refl, sym, ◌∙◌, ap}
use Rattle.std.specs.Cmp.Lexicographic.{nat_list_eq_equiv}
use Rattle.std.specs.Str.{bytes_eq}
use Rattle.stir_words.specs.Options.{Pair}
use Rattle.stir_words.specs.Table.{Known, are_known, has, is_known}

-- each is an option of the table, and none after it has its name
abbrev pub known_once : List Known → List Pair → Bool
known_once table [] = true
known_once table (pair ∷ pairs) = is_known table pair.name && (not (has pair.name pairs) && known_once table pairs)

-- none has the name of one that was seen
abbrev apart : List Pair → List Pair → Bool
apart seen [] = true
apart seen (pair ∷ pairs) = not (has pair.name seen) && apart seen pairs

has_first : (name : List ℕ) (pair : Pair) (pairs : List Pair) (t : Bool) → bytes_eq pair.name name ≡ t → has name (pair ∷ pairs) ≡ (t || has name pairs)
has_first name pair pairs true e = rw e refl
has_first name pair pairs false e = rw e refl

or_assoc : (a b c : Bool) → (a || (b || c)) ≡ ((a || b) || c)
or_assoc true b c = refl
or_assoc false b c = refl

or_false : (a : Bool) → a ≡ (a || false)
or_false true = refl
or_false false = refl

has_last : (name : List ℕ) (seen : List Pair) (pair : Pair) → has name (seen ++ pair ∷ []) ≡ (has name seen || bytes_eq pair.name name)
has_last name [] pair = has_first name pair [] (bytes_eq pair.name name) refl ∙ sym (or_false (bytes_eq pair.name name))
has_last name (first ∷ seen) pair =
    has_first name first (seen ++ pair ∷ []) (bytes_eq first.name name) refl
    ∙ ap (λ b. bytes_eq first.name name || b) (has_last name seen pair)
    ∙ or_assoc (bytes_eq first.name name) (has name seen) (bytes_eq pair.name name)
    ∙ ap (λ b. b || bytes_eq pair.name name) (sym (has_first name first seen (bytes_eq first.name name) refl))

-- neither of two and both of others, in another order
swapped : (s e a h : Bool) → (not (s || e) && (a && not h)) ≡ ((not s && a) && not (e || h))
swapped true e a h = refl
swapped false true true h = refl
swapped false true false h = refl
swapped false false a h = refl

apart_more : (seen : List Pair) (pair : Pair) (pairs : List Pair) → apart (seen ++ pair ∷ []) pairs ≡ (apart seen pairs && not (has pair.name pairs))
apart_more seen pair [] = refl
apart_more seen pair (first ∷ pairs) =
    let same : bytes_eq pair.name first.name ≡ bytes_eq first.name pair.name = nat_list_eq_equiv.symm pair.name first.name in
    ap (λ b. not b && apart (seen ++ pair ∷ []) pairs) (has_last first.name seen pair ∙ ap (λ b. has first.name seen || b) same)
    ∙ ap (λ b. not (has first.name seen || bytes_eq first.name pair.name) && b) (apart_more seen pair pairs)
    ∙ swapped (has first.name seen) (bytes_eq first.name pair.name) (apart seen pairs) (has pair.name pairs)
    ∙ ap (λ b. (not (has first.name seen) && apart seen pairs) && not b) (sym (has_first pair.name first pairs (bytes_eq first.name pair.name) refl))

none_of : (b : Bool) → (b && false) ≡ false
none_of true = refl
none_of false = refl

regrouped : (k n o a h : Bool) → (k && (n && (o && (a && h)))) ≡ ((k && (h && o)) && (n && a))
regrouped false n o a h = refl
regrouped true false o a true = sym (none_of o)
regrouped true false o a false = refl
regrouped true true true true true = refl
regrouped true true true true false = refl
regrouped true true true false true = refl
regrouped true true true false false = refl
regrouped true true false a true = refl
regrouped true true false a false = refl

-- seen from the beginning, each name is looked for among those before it
same_known : (table : List Known) (seen pairs : List Pair) → are_known table seen pairs ≡ (known_once table pairs && apart seen pairs)
same_known table seen [] = refl
same_known table seen (pair ∷ pairs) =
    ap (λ b. is_known table pair.name && (not (has pair.name seen) && b))
    (same_known table (seen ++ pair ∷ []) pairs ∙ ap (λ b. known_once table pairs && b) (apart_more seen pair pairs))
    ∙ regrouped (is_known table pair.name) (not (has pair.name seen)) (known_once table pairs) (apart seen pairs) (not (has pair.name pairs))

apart_none : (pairs : List Pair) → apart [] pairs ≡ true
apart_none [] = refl
apart_none (pair ∷ pairs) = apart_none pairs

pub and_true : (b : Bool) → (b && true) ≡ b
and_true true = refl
and_true false = refl

-- if nothing was seen before, both ways are one
pub known_first : (table : List Known) (pairs : List Pair) → are_known table [] pairs ≡ known_once table pairs
known_first table pairs = same_known table [] pairs ∙ ap (λ b. known_once table pairs && b) (apart_none pairs) ∙ and_true (known_once table pairs)
