-- How many texts there are at most: each of them once among others, those that a round reads, and those that it uses.
use Rattle.std.proofs.Common.{◌≡◌, ℕ, suc, ◌+◌, ◌≤◌, Bool, true, false, cond, not, ◌||◌, ◌&&◌, List, [], ◌∷◌, ◌++◌, filter, length, is_some, refl, sym, ap, ◌∙◌, subst, arith}
use Rattle.std.proofs.Math.Bool.{or-false}
use Rattle.std.specs.Cmp.Lexicographic.{nat_list_eq_equiv}
use Rattle.std.specs.List.{list_any}
use Rattle.std.specs.Str.{bytes_eq}
use Rattle.cert_store.specs.ChainMap.{listed}
use Rattle.cert_store.specs.Files.{Files}
use Rattle.cert_store.specs.Holding.{Chains, chain_of}
use Rattle.verify_service.specs.Causes.{joined}
use Rattle.cert_store.specs.Using.{IsOnce, has}
use Rattle.verify_service.specs.Needed.{is_needed, needed, once}
use Rattle.verify_service.specs.RightChains.{held_count}
use Rattle.verify_service.proofs.TestLaws.{false_is_not_true}

-- ---- one more, unless it is one of them, before all others or after them

once_by : (text : List ℕ) (texts : List (List ℕ)) (b : Bool) → has text texts ≡ b → IsOnce texts → IsOnce (cond b texts (text ∷ texts))
once_by text texts true is once = once
once_by text texts false is once = (is, once)

pub once_joined : (text : List ℕ) (texts : List (List ℕ)) → IsOnce texts → IsOnce (joined text texts)
once_joined text texts once = once_by text texts (has text texts) refl once

pub has_more : (z x : List ℕ) (xs : List (List ℕ)) → has z (xs ++ x ∷ []) ≡ (has z xs || bytes_eq z x)
has_more z x [] = or-false (bytes_eq z x)
has_more z x (y ∷ ys) = has_by (bytes_eq z y) (has z (ys ++ x ∷ [])) (has z ys) (bytes_eq z x) (has_more z x ys)
  where
    has_by : (b c d e : Bool) → c ≡ (d || e) → (b || c) ≡ ((b || d) || e)
    has_by true c d e same = refl
    has_by false c d e same = same

or_parts : (b c : Bool) → (b || c) ≡ false → (b ≡ false) × (c ≡ false)
or_parts true c none = absurd (false_is_not_true (sym none))
or_parts false c none = (refl, none)

none_more : (z x : List ℕ) (xs : List (List ℕ)) → has z xs ≡ false → bytes_eq x z ≡ false → has z (xs ++ x ∷ []) ≡ false
none_more z x xs none apart = has_more z x xs ∙ ap (λ b. b || bytes_eq z x) none ∙ nat_list_eq_equiv.symm z x ∙ apart

once_push : (x : List ℕ) (xs : List (List ℕ)) → has x xs ≡ false → IsOnce xs → IsOnce (xs ++ x ∷ [])
once_push x [] none once = (refl, tt)
once_push x (y ∷ ys) none once =
    let parts = or_parts (bytes_eq x y) (has x ys) none in
    (none_more y x ys once.0 parts.0, once_push x ys parts.1 once.1)

each_by : (b : Bool) (x : List ℕ) (found xs : List (List ℕ)) → has x found ≡ b → IsOnce found → (IsOnce found → IsOnce (once found xs))
    → (IsOnce (found ++ x ∷ []) → IsOnce (once (found ++ x ∷ []) xs)) → IsOnce (cond b (once found xs) (once (found ++ x ∷ []) xs))
each_by true x found xs is each here other = here each
each_by false x found xs is each here other = other (once_push x found is each)

pub once_each : (found xs : List (List ℕ)) → IsOnce found → IsOnce (once found xs)
once_each found [] each = each
once_each found (x ∷ xs) each = each_by (has x found) x found xs refl each (once_each found xs) (once_each (found ++ x ∷ []) xs)

-- ---- held and needed

apart_counts : {X : Type 0} (b c : Bool) (x : X) (ps qs : List X) (n : ℕ) → (b ≡ true → c ≡ false) → length ps + length qs ≤ n → length (cond b (x ∷ ps) ps) + length (cond c (x ∷ qs) qs) ≤ suc n
apart_counts true c x ps qs n apart most = let none : c ≡ false = apart refl in subst (λ t. suc (length ps) + length (cond t (x ∷ qs) qs) ≤ suc n) (sym none) (omega arith)
apart_counts false true x ps qs n apart most = omega arith
apart_counts false false x ps qs n apart most = omega arith

and_none : (b : Bool) → (b && false) ≡ false
and_none true = refl
and_none false = refl

not_needed : (files : Files) (held : Chains) (x : List ℕ) → is_some (chain_of x held) ≡ true → is_needed files held x ≡ false
not_needed files held x is = ap (λ b. is_some (listed files x) && not b) is ∙ and_none (is_some (listed files x))

-- those that are held and those that are needed are no more than all
pub counts_apart : (files : Files) (held : Chains) (texts : List (List ℕ)) → held_count held texts + length (needed files held texts) ≤ length texts
counts_apart files held [] = omega arith
counts_apart files held (x ∷ xs) =
    apart_counts (is_some (chain_of x held)) (is_needed files held x) x (filter (λ x. is_some (chain_of x held)) xs) (needed files held xs) (length xs) (not_needed files held x)
    (counts_apart files held xs)

once_most_by : (b : Bool) (f xs : List (List ℕ)) (x : List ℕ) → length (once f xs) ≤ length f + length xs → length (once (f ++ x ∷ []) xs) ≤ length (f ++ x ∷ []) + length xs
    → length (f ++ x ∷ []) ≡ length f + 1 → length (cond b (once f xs) (once (f ++ x ∷ []) xs)) ≤ length f + suc (length xs)
once_most_by true f xs x one other size = omega arith
once_most_by false f xs x one other size = omega arith

pushed : (f : List (List ℕ)) (x : List ℕ) → length (f ++ x ∷ []) ≡ length f + 1
pushed [] x = refl
pushed (y ∷ f) x = let more = pushed f x in omega arith

pub once_most : (f xs : List (List ℕ)) → length (once f xs) ≤ length f + length xs
once_most f [] = omega arith
once_most f (x ∷ xs) = once_most_by (list_any (bytes_eq x) f) f xs x (once_most f xs) (once_most (f ++ x ∷ []) xs) (pushed f x)
