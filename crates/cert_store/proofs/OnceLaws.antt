-- Texts of which none is another are no more than those that they are among.
use Rattle.std.proofs.Common.{◌≡◌, ℕ, suc, ◌≤◌, Bool, true, false, cond, ◌||◌, List, [], ◌∷◌, length, refl, sym, ap, ◌∙◌, arith}
use Rattle.std.specs.Cmp.Lexicographic.{nat_list_eq_equiv}
use Rattle.std.specs.Str.{bytes_eq}
use Rattle.cert_store.proofs.CacheLaws.{false_is_not_true, same_text}
use Rattle.cert_store.specs.Using.{IsOnce, has}

abbrev without : List ℕ → List (List ℕ) → List (List ℕ)
without x [] = []
without x (y ∷ ys) = cond (bytes_eq x y) ys (y ∷ without x ys)

less_by : (x y : List ℕ) (ys : List (List ℕ)) (b : Bool) → (has x ys ≡ true → suc (length (without x ys)) ≡ length ys) → (b || has x ys) ≡ true
    → suc (length (cond b ys (y ∷ without x ys))) ≡ suc (length ys)
less_by x y ys true more is = refl
less_by x y ys false more is = ap suc (more is)

one_less : (x : List ℕ) (ys : List (List ℕ)) → has x ys ≡ true → suc (length (without x ys)) ≡ length ys
one_less x [] is = absurd (false_is_not_true is)
one_less x (y ∷ ys) is = less_by x y ys (bytes_eq x y) (one_less x ys) is

still_by : (z x y : List ℕ) (ys : List (List ℕ)) → bytes_eq z x ≡ false → (b : Bool) → bytes_eq x y ≡ b → (has z ys ≡ true → has z (without x ys) ≡ true)
    → (bytes_eq z y || has z ys) ≡ true → has z (cond b ys (y ∷ without x ys)) ≡ true
still_by z x y ys apart true same more is =
    let other : bytes_eq z y ≡ false = ap (bytes_eq z) (sym (same_text x y same)) ∙ apart in
    sym (ap (λ b. b || has z ys) other) ∙ is
still_by z x y ys apart false same more is = or_by (bytes_eq z y) (has z ys) (has z (without x ys)) more is
  where
    or_by : (b c d : Bool) → (c ≡ true → d ≡ true) → (b || c) ≡ true → (b || d) ≡ true
    or_by true c d law is = refl
    or_by false c d law is = law is

still : (z x : List ℕ) (ys : List (List ℕ)) → bytes_eq z x ≡ false → has z ys ≡ true → has z (without x ys) ≡ true
still z x [] apart is = absurd (false_is_not_true is)
still z x (y ∷ ys) apart is = still_by z x y ys apart (bytes_eq x y) refl (still z x ys apart) is

apart_from : (z x : List ℕ) (xs : List (List ℕ)) → has x xs ≡ false → has z xs ≡ true → (b : Bool) → bytes_eq z x ≡ b → bytes_eq z x ≡ false
apart_from z x xs none some false is = is
apart_from z x xs none some true is = absurd (false_is_not_true (sym none ∙ ap (λ t. has t xs) (sym (same_text z x is)) ∙ some))

after_one : (z x : List ℕ) (xs : List (List ℕ)) → has z xs ≡ true → (b : Bool) → bytes_eq z x ≡ b → (bytes_eq z x || has z xs) ≡ true
after_one z x xs some true is = ap (λ b. b || has z xs) is
after_one z x xs some false is = ap (λ b. b || has z xs) is ∙ some

pub no_more : (xs ys : List (List ℕ)) → IsOnce xs → ((z : List ℕ) → has z xs ≡ true → has z ys ≡ true) → length xs ≤ length ys
no_more [] ys once among = omega arith
no_more (x ∷ xs) ys once among =
    let here : has x ys ≡ true = among x (ap (λ b. b || has x xs) (nat_list_eq_equiv.refl x)) in
    let less = one_less x ys here in
    let rest : length xs ≤ length (without x ys) = no_more xs (without x ys) once.1
    (λ z some. still z x ys (apart_from z x xs once.0 some (bytes_eq z x) refl) (among z (after_one z x xs some (bytes_eq z x) refl))) in
    omega arith
