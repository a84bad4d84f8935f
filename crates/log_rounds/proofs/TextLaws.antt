-- The texts that a round has to read: each once, and none whose chain is held.
use Rattle.std.proofs.Common.{◌≡◌, ℕ, ◌≤◌, ◌⊎◌, inl, inr, Bool, true, false, cond, not, ◌||◌, ◌&&◌, List, [], ◌∷◌, ◌++◌, filter, length, is_some, refl, sym, ◌∙◌, ap}
use Rattle.std.specs.Cmp.Lexicographic.{bytes_decides, nat_list_eq_equiv}
use Rattle.std.specs.Str.{bytes_eq}
use Rattle.cert_store.proofs.OnceLaws.{no_more}
use Rattle.cert_store.proofs.UsingLaws.{named_held}
use Rattle.cert_store.specs.ChainMap.{listed}
use Rattle.cert_store.specs.Files.{Files as ChainFiles}
use Rattle.cert_store.specs.Holding.{Chains, chain_of}
use Rattle.cert_store.specs.Using.{IsOnce, has, names}
use Rattle.verify_service.specs.Needed.{is_needed, needed, once, round_texts}
use Rattle.verify_service.specs.Reads.{unheld}

same_text : (a b : List ℕ) → bytes_eq a b ≡ true → a ≡ b
same_text a b e = (bytes_decides a b).0 e

-- ---- each once

none_more : (z x : List ℕ) (xs : List (List ℕ)) → has z xs ≡ false → bytes_eq x z ≡ false → has z (xs ++ x ∷ []) ≡ false
none_more z x [] none apart = ap (λ b. b || false) (nat_list_eq_equiv.symm z x ∙ apart)
none_more z x (y ∷ ys) none apart = by (bytes_eq z y) (has z ys) (has z (ys ++ x ∷ [])) (λ n. none_more z x ys n apart) none
  where
    by : (b c d : Bool) → (c ≡ false → d ≡ false) → (b || c) ≡ false → (b || d) ≡ false
    by true c d law is = is
    by false c d law is = law is

or_parts : (b c : Bool) → (b || c) ≡ false → (b ≡ false) × (c ≡ false)
or_parts true c none = absurd (cc)
or_parts false c none = (refl, none)

once_push : (x : List ℕ) (xs : List (List ℕ)) → has x xs ≡ false → IsOnce xs → IsOnce (xs ++ x ∷ [])
once_push x [] none each = (refl, tt)
once_push x (y ∷ ys) none each =
    let parts = or_parts (bytes_eq x y) (has x ys) none in
    (none_more y x ys each.0 parts.0, once_push x ys parts.1 each.1)

each_by : (b : Bool) (x : List ℕ) (found xs : List (List ℕ)) → has x found ≡ b → IsOnce found → (IsOnce found → IsOnce (once found xs))
    → (IsOnce (found ++ x ∷ []) → IsOnce (once (found ++ x ∷ []) xs)) → IsOnce (cond b (once found xs) (once (found ++ x ∷ []) xs))
each_by true x found xs is each here other = here each
each_by false x found xs is each here other = other (once_push x found is each)

once_each : (found xs : List (List ℕ)) → IsOnce found → IsOnce (once found xs)
once_each found [] each = each
once_each found (x ∷ xs) each = each_by (has x found) x found xs refl each (once_each found xs) (once_each (found ++ x ∷ []) xs)

-- ---- none that isn't there

in_pushed : (z x : List ℕ) (xs : List (List ℕ)) → has z (xs ++ x ∷ []) ≡ true → (has z xs ≡ true) ⊎ (bytes_eq z x ≡ true)
in_pushed z x [] is = inr (by (bytes_eq z x) is)
  where
    by : (b : Bool) → (b || false) ≡ true → b ≡ true
    by true is = refl
    by false is = is
in_pushed z x (y ∷ ys) is = by (bytes_eq z y) (has z ys) (has z (ys ++ x ∷ [])) (in_pushed z x ys) is
  where
    by : (b c d : Bool) → (d ≡ true → (c ≡ true) ⊎ (bytes_eq z x ≡ true)) → (b || d) ≡ true → ((b || c) ≡ true) ⊎ (bytes_eq z x ≡ true)
    by true c d law is = inl refl
    by false c d law is = law is

or_front : (b c : Bool) → b ≡ true → (b || c) ≡ true
or_front b c is = ap (λ t. t || c) is

or_behind : (b c : Bool) → c ≡ true → (b || c) ≡ true
or_behind true c is = refl
or_behind false c is = is

once_by : (b : Bool) (z x : List ℕ) (found xs : List (List ℕ)) → (has z (once found xs) ≡ true → (has z found ≡ true) ⊎ (has z xs ≡ true))
    → (has z (once (found ++ x ∷ []) xs) ≡ true → (has z (found ++ x ∷ []) ≡ true) ⊎ (has z xs ≡ true)) → has z (cond b (once found xs) (once (found ++ x ∷ []) xs)) ≡ true
    → (has z found ≡ true) ⊎ ((bytes_eq z x || has z xs) ≡ true)
once_by true z x found xs here other is = behind (here is)
  where
    behind : (has z found ≡ true) ⊎ (has z xs ≡ true) → (has z found ≡ true) ⊎ ((bytes_eq z x || has z xs) ≡ true)
    behind (inl f) = inl f
    behind (inr o) = inr (or_behind (bytes_eq z x) (has z xs) o)
once_by false z x found xs here other is = behind (other is)
  where
    first : (has z found ≡ true) ⊎ (bytes_eq z x ≡ true) → (has z found ≡ true) ⊎ ((bytes_eq z x || has z xs) ≡ true)
    first (inl f) = inl f
    first (inr e) = inr (or_front (bytes_eq z x) (has z xs) e)

    behind : (has z (found ++ x ∷ []) ≡ true) ⊎ (has z xs ≡ true) → (has z found ≡ true) ⊎ ((bytes_eq z x || has z xs) ≡ true)
    behind (inl f) = first (in_pushed z x found f)
    behind (inr o) = inr (or_behind (bytes_eq z x) (has z xs) o)

in_once : (z : List ℕ) (found xs : List (List ℕ)) → has z (once found xs) ≡ true → (has z found ≡ true) ⊎ (has z xs ≡ true)
in_once z found [] is = inl is
in_once z found (x ∷ xs) is = once_by (has x found) z x found xs (in_once z found xs) (in_once z (found ++ x ∷ []) xs) is

from_none : (z : List ℕ) (xs : List (List ℕ)) → (has z [] ≡ true) ⊎ (has z xs ≡ true) → has z xs ≡ true
from_none z xs (inl none) = absurd (cc)
from_none z xs (inr is) = is

-- ---- those that pass a test

filtered_by : (p : List ℕ → Bool) (z x : List ℕ) (xs : List (List ℕ)) (b : Bool) → p x ≡ b → (has z (filter p xs) ≡ true → (p z ≡ true) × (has z xs ≡ true)) → (c : Bool) → bytes_eq z x ≡ c
    → has z (cond b (x ∷ filter p xs) (filter p xs)) ≡ true → (p z ≡ true) × ((bytes_eq z x || has z xs) ≡ true)
filtered_by p z x xs true of_x more true same h = (ap p (same_text z x same) ∙ of_x, or_front (bytes_eq z x) (has z xs) same)
filtered_by p z x xs true of_x more false same h = let so = more (sym (ap (λ t. t || has z (filter p xs)) same) ∙ h) in (so.0, or_behind (bytes_eq z x) (has z xs) so.1)
filtered_by p z x xs false of_x more c same h = let so = more h in (so.0, or_behind (bytes_eq z x) (has z xs) so.1)

in_filtered : (p : List ℕ → Bool) (z : List ℕ) (xs : List (List ℕ)) → has z (filter p xs) ≡ true → (p z ≡ true) × (has z xs ≡ true)
in_filtered p z [] h = absurd (cc)
in_filtered p z (x ∷ xs) h = filtered_by p z x xs (p x) refl (in_filtered p z xs) (bytes_eq z x) refl h

filters_by : (p : List ℕ → Bool) (z x : List ℕ) (xs : List (List ℕ)) (b : Bool) → p x ≡ b → p z ≡ true → (has z xs ≡ true → has z (filter p xs) ≡ true) → (c : Bool) → bytes_eq z x ≡ c
    → (bytes_eq z x || has z xs) ≡ true → has z (cond b (x ∷ filter p xs) (filter p xs)) ≡ true
filters_by p z x xs true of_x of_z more true same h = or_front (bytes_eq z x) (has z (filter p xs)) same
filters_by p z x xs true of_x of_z more false same h = or_behind (bytes_eq z x) (has z (filter p xs)) (more (sym (ap (λ t. t || has z xs) same) ∙ h))
filters_by p z x xs false of_x of_z more true same h = let wrong : false ≡ true = sym of_x ∙ ap p (sym (same_text z x same)) ∙ of_z in absurd (cc)
filters_by p z x xs false of_x of_z more false same h = more (sym (ap (λ t. t || has z xs) same) ∙ h)

in_filter : (p : List ℕ → Bool) (z : List ℕ) (xs : List (List ℕ)) → p z ≡ true → has z xs ≡ true → has z (filter p xs) ≡ true
in_filter p z [] of_z h = absurd (cc)
in_filter p z (x ∷ xs) of_z h = filters_by p z x xs (p x) refl of_z (in_filter p z xs of_z) (bytes_eq z x) refl h

-- ---- the bound

and_parts : (b c : Bool) → (b && c) ≡ true → (b ≡ true) × (c ≡ true)
and_parts true c is = (refl, is)
and_parts false c is = absurd (cc)

-- the texts of a round are no more than those that aren't held, of any that have them
pub texts_unheld : (chains : ChainFiles) (held : Chains) (named texts : List (List ℕ)) → ((x5u : List ℕ) → has x5u named ≡ true → is_some (listed chains x5u) ≡ true → has x5u texts ≡ true)
    → length (round_texts chains held named) ≤ unheld texts (names held)
texts_unheld chains held named texts have =
    no_more (round_texts chains held named) (filter (λ x5u. not (has x5u (names held))) texts) (once_each [] (needed chains held named) tt)
    (λ z is.
    let so = in_filtered (is_needed chains held) z named (from_none z (needed chains held named) (in_once z [] (needed chains held named) is)) in
    let parts = and_parts (is_some (listed chains z)) (not (is_some (chain_of z held))) so.0 in
    in_filter (λ x5u. not (has x5u (names held))) z texts (ap not (named_held z held) ∙ parts.1) (have z so.1 parts.0))
