-- What the tests of a link say in words: that it repeats a number, that the order may start with it, that a number is one of some.
use Rattle.std.proofs.Common.{◌≡◌, ℕ, zero, suc, ◌-◌, ◌<◌, Bool, true, not, ◌⊎◌, inl, inr, List, [], ◌∷◌, length, get_or, Option, Some, None, refl, sym, ap, subst, arith}
use Rattle.std.specs.Prelude.{Contains, is_some}
use Rattle.std.specs.Bool.{Decides}
use Rattle.std.specs.Str.{bytes_eq}
use Rattle.std.proofs.lemmas.Bool.{cases_order, or_cases, or_left, or_right}
use Rattle.passport_claims.specs.Passport.{ClaimsView}
use Rattle.passport_claims.specs.Links.{IsOneOf, dest_at, div_at}
use Rattle.passport_claims.specs.Order.{IsCalled}
use Rattle.passport_claims.specs.OrderFault.{MayStart, OfNone, Repeats}
use Rattle.passport_claims.specs.OrderReading.{calls, calls_one_of, first_from, is_one_of, is_twin, leads_to, may_start, repeats}
use Rattle.passport_claims.proofs.FirstLaws.{Says, equal_bytes, first_means, none_means}
use Rattle.lists.proofs.Bytes.{bytes_same}

-- ---- that it repeats a number

Twin : List ClaimsView → ℕ → ℕ → Type 0
Twin links link other = (div_at links other ≡ div_at links link) ⊎ (dest_at links other ≡ dest_at links link)

twin_says : (links : List ClaimsView) (link count : ℕ) → Says (Twin links link) (is_twin links link) count
unfolding is_twin Twin
twin_says links link count = record {
  tells = λ other is. (
    λ e. elim (or_cases (bytes_eq (div_at links other) (div_at links link)) (bytes_eq (dest_at links other) (dest_at links link)) e) [
      | inl same ↦ inl (bytes_same (div_at links other) (div_at links link) same)
      | inr same ↦ inr (bytes_same (dest_at links other) (dest_at links link) same)
    ],
    λ h. elim h [
      | inl same ↦ or_left (bytes_eq (div_at links other) (div_at links link)) (bytes_eq (dest_at links other) (dest_at links link)) (equal_bytes (div_at links other) (div_at links link) same)
      | inr same ↦ or_right (bytes_eq (div_at links other) (div_at links link)) (bytes_eq (dest_at links other) (dest_at links link)) (equal_bytes (dest_at links other) (dest_at links link) same)
    ],
  );
}

-- one was found exactly if there is one
some_says : (Holds : ℕ → Type 0) (test : ℕ → Bool) (count : ℕ) (found : Option ℕ) → Says Holds test count → first_from test 1 count ≡ found
    → Decides (is_some found) ((other : ℕ) × IsOneOf count other × Holds other)
some_says Holds test count None s e = (λ t. absurd cc, λ h. absurd (none_means Holds test count s e h.0 h.1 h.2))
some_says Holds test count (Some other) s e = (λ t. let f = first_means Holds test count other s e in (other, f.is, f.holds), λ h. refl)

repeats_by : (links : List ClaimsView) (link : ℕ) → Decides (is_some (first_from (is_twin links link) 1 (link - 1))) ((other : ℕ) × IsOneOf (link - 1) other × Twin links link other)
repeats_by links link = some_says (Twin links link) (is_twin links link) (link - 1) (first_from (is_twin links link) 1 (link - 1)) (twin_says links link (link - 1)) refl

pub repeats_says : (links : List ClaimsView) (count : ℕ) → Says (Repeats links) (repeats links) count
unfolding repeats Twin
repeats_says links count = record {
  tells = λ link is.
      let own = bytes_eq (div_at links link) (dest_at links link) in
      let twin = is_some (first_from (is_twin links link) 1 (link - 1)) in (
        λ e. elim (or_cases own twin e) [
          | inl same ↦ inl (bytes_same (div_at links link) (dest_at links link) same)
          | inr t ↦ inr ((repeats_by links link).0 t)
        ],
        λ h. elim h [
          | inl same ↦ or_left own twin (equal_bytes (div_at links link) (dest_at links link) same)
          | inr t ↦ or_right own twin ((repeats_by links link).1 t)
        ],
      );
}

-- ---- that the order may start with it

leads_says : (links : List ClaimsView) (number : List ℕ) (count : ℕ) → Says (λ other. dest_at links other ≡ number) (leads_to links number) count
unfolding leads_to
leads_says links number count = record { tells = λ other is. (bytes_same (dest_at links other) number, equal_bytes (dest_at links other) number) }

none_says : (Holds : ℕ → Type 0) (test : ℕ → Bool) (count : ℕ) (found : Option ℕ) → Says Holds test count → first_from test 1 count ≡ found
    → Decides (not (is_some found)) (OfNone Holds count)
none_says Holds test count None s e = (λ t. none_means Holds test count s e, λ h. refl)
none_says Holds test count (Some other) s e = (λ t. absurd cc, λ h. let f = first_means Holds test count other s e in absurd (h other f.is f.holds))

pub start_says : (links : List ClaimsView) (count : ℕ) → Says (MayStart links) (may_start links) count
unfolding may_start
start_says links count = record {
  tells = λ link is.
      none_says (λ other. dest_at links other ≡ div_at links link) (leads_to links (div_at links link)) (length links)
      (first_from (leads_to links (div_at links link)) 1 (length links)) (leads_says links (div_at links link) (length links)) refl;
}

-- ---- links that repeat no number

pub record Distinct (links : List ClaimsView) : Type 0 where
  pub own : (link : ℕ) → IsOneOf (length links) link → div_at links link ≡ dest_at links link → ⊥
  pub divs : (one other : ℕ) → IsOneOf (length links) one → IsOneOf (length links) other → div_at links one ≡ div_at links other → one ≡ other
  pub dests : (one other : ℕ) → IsOneOf (length links) one → IsOneOf (length links) other → dest_at links one ≡ dest_at links other → one ≡ other

before : (count one other : ℕ) → IsOneOf count one → one < other → IsOneOf (other - 1) one
before count one other is less = record { low = is.low; high = omega (arith, less) }

pub distinct : (links : List ClaimsView) → OfNone (Repeats links) (length links) → Distinct links
distinct links none = record {
  own = λ link is e. none link is (inl e);
  divs = λ one other is at e. elim (cases_order one other) [
    | inl same ↦ same
    | inr (inl less) ↦ absurd (none other at (inr (one, before (length links) one other is less, inl e)))
    | inr (inr more) ↦ absurd (none one is (inr (other, before (length links) other one at more, inl (sym e))))
  ];
  dests = λ one other is at e. elim (cases_order one other) [
    | inl same ↦ same
    | inr (inl less) ↦ absurd (none other at (inr (one, before (length links) one other is less, inr e)))
    | inr (inr more) ↦ absurd (none one is (inr (other, before (length links) other one at more, inr (sym e))))
  ];
}

earlier : (links : List ClaimsView) (link other : ℕ) → IsOneOf (length links) link → IsOneOf (link - 1) other → IsOneOf (length links) other
earlier links link other is at = let high = at.high in let most = is.high in record { low = at.low; high = omega (arith, high, most) }

not_itself : (link other : ℕ) → IsOneOf (link - 1) other → other ≡ link → ⊥
not_itself link other at same = let high = at.high in let low = at.low in omega (arith, high, low, same)

pub not_repeated : (links : List ClaimsView) → Distinct links → OfNone (Repeats links) (length links)
not_repeated links d = λ link is repeat. elim repeat [
  | inl own ↦ d.own link is own
  | inr (other, at, twin) ↦ elim twin [
    | inl same ↦ not_itself link other at (d.divs other link (earlier links link other is at) is same)
    | inr same ↦ not_itself link other at (d.dests other link (earlier links link other is at) is same)
  ]
]

-- ---- that a number is one of some

first_of_them : (number other : List ℕ) (numbers : List (List ℕ)) → other ≡ number → Contains (other ∷ numbers) number
first_of_them number other numbers same = (0, omega arith, same)

pub one_means : (numbers : List (List ℕ)) (number : List ℕ) → is_one_of numbers number ≡ true → Contains numbers number
one_means [] number e = absurd cc
one_means (other ∷ numbers) number e = elim (or_cases (bytes_eq other number) (is_one_of numbers number) e) [
  | inl same ↦ first_of_them number other numbers (bytes_same other number same)
  | inr later ↦ let c = one_means numbers number later in let inside = c.1 in (suc c.0, omega (arith, inside), c.2)
]

one_at : (numbers : List (List ℕ)) (number : List ℕ) (place : ℕ) → place < length numbers → get_or numbers place number ≡ number → is_one_of numbers number ≡ true
one_at [] number place inside is = absurd (omega (arith, inside))
one_at (other ∷ numbers) number zero inside is = or_left (bytes_eq other number) (is_one_of numbers number) (equal_bytes other number is)
one_at (other ∷ numbers) number (suc place) inside is =
    or_right (bytes_eq other number) (is_one_of numbers number) (one_at numbers number place (omega (arith, inside)) is)

pub means_one : (numbers : List (List ℕ)) (number : List ℕ) → Contains numbers number → is_one_of numbers number ≡ true
means_one numbers number c = one_at numbers number c.0 c.1 c.2

pub calls_means : (called : Option (List ℕ)) (number : List ℕ) → Decides (calls called number) (called ≡ Some number)
calls_means None number = (λ e. absurd cc, λ e. absurd cc)
calls_means (Some called) number = (
  λ e. ap (λ n. Some n) (bytes_same called number e),
  λ e. let same : called ≡ number = cc in equal_bytes called number same,
)

pub called_means : (dests : List (List ℕ)) (called : Option (List ℕ)) → Decides (calls_one_of dests called) (IsCalled dests called)
called_means dests None = (λ e. absurd cc, λ h. let none = h.1 in absurd cc)
called_means dests (Some called) = (
  λ e. (called, refl, one_means dests called e),
  λ h. let is : called ≡ h.0 = let e = h.1 in cc in means_one dests called (subst (Contains dests) (sym is) h.2),
)
