-- The first number that passes a test: the steps of a loop that looks for it, what is known of what was found, and what is found.
use Rattle.std.proofs.Common.{◌≡◌, ℕ, zero, suc, ◌+◌, ◌-◌, ◌<◌, ◌≤◌, Bool, true, false, not, cond, inl, inr, List, Option, Some, None, refl, sym, ap, ◌∙◌, subst, arith}
use Rattle.std.specs.Bool.{Decides}
use Rattle.std.specs.Str.{bytes_eq}
use Rattle.std.proofs.lemmas.Bool.{both_ways, cases_Bool, cases_lt, cases_order}
use Rattle.std.proofs.lemmas.Slice.Eq.{bytes_eq-Decides}
use Rattle.passport_claims.specs.Passport.{ClaimsView}
use Rattle.passport_claims.specs.Links.{IsOneOf, dest_at, div_at}
use Rattle.passport_claims.specs.Order.{is_among}
use Rattle.passport_claims.specs.OrderFault.{IsFirst, OfNone}
use Rattle.passport_claims.specs.OrderReading.{first_from, is_left, leads_from, leads_to}

-- ---- the steps

one_more : (test : ℕ → Bool) (number room : ℕ) (t : Bool) → test number ≡ t → first_from test number (suc room) ≡ cond t (Some number) (first_from test (suc number) room)
unfolding first_from
one_more test number room t e = ap (λ b. cond b (Some number) (first_from test (suc number) room)) e

room_left : (number end : ℕ) → number < end → end - number ≡ suc (end - (number + 1))
room_left number end h = omega arith

pub first_here : (test : ℕ → Bool) (number end : ℕ) → number < end → test number ≡ true → first_from test number (end - number) ≡ Some number
first_here test number end h t = ap (first_from test number) (room_left number end h) ∙ one_more test number (end - (number + 1)) true t

pub first_passed : (test : ℕ → Bool) (number end : ℕ) → number < end → test number ≡ false
    → first_from test number (end - number) ≡ first_from test (number + 1) (end - (number + 1))
first_passed test number end h t =
    let next : suc number ≡ number + 1 = omega arith in
    ap (first_from test number) (room_left number end h) ∙ one_more test number (end - (number + 1)) false t
    ∙ ap (λ n. first_from test n (end - (number + 1))) next

none_there : (test : ℕ → Bool) (number room : ℕ) → room ≡ 0 → first_from test number room ≡ None
unfolding first_from
none_there test number zero e = refl
none_there test number (suc room) e = absurd (omega arith)

pub first_done : (test : ℕ → Bool) (number end : ℕ) → end ≤ number → first_from test number (end - number) ≡ None
first_done test number end h = none_there test number (end - number) (omega arith)

pub leads_to_is : (links : List ClaimsView) (number : List ℕ) (link : ℕ) → leads_to links number link ≡ bytes_eq (dest_at links link) number
unfolding leads_to
leads_to_is links number link = refl

pub leads_from_is : (links : List ClaimsView) (number : List ℕ) (link : ℕ) → leads_from links number link ≡ bytes_eq (div_at links link) number
unfolding leads_from
leads_from_is links number link = refl

pub is_left_is : (turn : List ℕ) (link : ℕ) → is_left turn link ≡ not (is_among link turn)
unfolding is_left
is_left_is turn link = refl

-- ---- what was found

-- the first number from this one on, of so many, that passes the test
pub record Found (test : ℕ → Bool) (number room found : ℕ) : Type 0 where
  pub low : number ≤ found
  pub high : found < number + room
  pub here : test found ≡ true
  pub before : (other : ℕ) → number ≤ other → other < found → test other ≡ false

found_here : (test : ℕ → Bool) (number room found : ℕ) → test number ≡ true → number ≡ found → Found test number (suc room) found
found_here test number room found t same = record {
  low = omega (arith, same);
  high = omega (arith, same);
  here = subst (λ n. test n ≡ true) same t;
  before = λ other l k. absurd (omega (arith, same, l, k));
}

passed_one : (test : ℕ → Bool) (number : ℕ) → test number ≡ false → (other : ℕ) → number ≤ other → (suc number ≤ other → test other ≡ false) → test other ≡ false
passed_one test number t other l rest = elim (cases_order number other) [
  | inl same ↦ subst (λ n. test n ≡ false) same t
  | inr (inl less) ↦ rest (omega (arith, less))
  | inr (inr more) ↦ absurd (omega (arith, l, more))
]

found_later : (test : ℕ → Bool) (number room found : ℕ) → test number ≡ false → Found test (suc number) room found → Found test number (suc room) found
found_later test number room found t f = record {
  low = omega (arith, f.low);
  high = omega (arith, f.high);
  here = f.here;
  before = λ other l k. passed_one test number t other l (λ m. f.before other m k);
}

pub first_some : (test : ℕ → Bool) (number room found : ℕ) → first_from test number room ≡ Some found → Found test number room found
unfolding first_from
first_some test number zero found h = absurd cc
first_some test number (suc room) found h =
    let rest = first_some test (suc number) room found in
    elim (cases_Bool (test number)) [
      | inl t ↦ let e : ◌≡◌ {A = Option ℕ} (Some number) (Some found) = sym (one_more test number room true t) ∙ h in found_here test number room found t cc
      | inr t ↦ found_later test number room found t (rest (sym (one_more test number room false t) ∙ h))
    ]

pub first_none : (test : ℕ → Bool) (number room : ℕ) → first_from test number room ≡ None → (other : ℕ) → number ≤ other → other < number + room → test other ≡ false
unfolding first_from
first_none test number zero h other l k = absurd (omega (arith, l, k))
first_none test number (suc room) h other l k =
    let rest = first_none test (suc number) room in
    elim (cases_Bool (test number)) [
      | inl t ↦ let e : ◌≡◌ {A = Option ℕ} (Some number) None = sym (one_more test number room true t) ∙ h in absurd cc
      | inr t ↦ passed_one test number t other l (λ m. rest (sym (one_more test number room false t) ∙ h) other m (omega (arith, k)))
    ]

-- and what is so is found
pub first_is : (test : ℕ → Bool) (number room found : ℕ) → Found test number room found → first_from test number room ≡ Some found
first_is test number zero found f = absurd (omega (arith, f.low, f.high))
first_is test number (suc room) found f =
    let rest = first_is test (suc number) room found in
    elim (cases_lt number found) [
      | inl less ↦ one_more test number room false (f.before number (omega arith) less)
          ∙ rest (record { low = omega (arith, less); high = omega (arith, f.high); here = f.here; before = λ other l k. f.before other (omega (arith, l)) k })
      | inr past ↦ let same : found ≡ number = omega (arith, past, f.low) in
          one_more test number room true (subst (λ n. test n ≡ true) same f.here) ∙ ap (λ n. Some n) (sym same)
    ]

pub first_isnt : (test : ℕ → Bool) (number room : ℕ) → ((other : ℕ) → number ≤ other → other < number + room → test other ≡ false) → first_from test number room ≡ None
unfolding first_from
first_isnt test number zero h = refl
first_isnt test number (suc room) h =
    one_more test number room false (h number (omega arith) (omega arith))
    ∙ first_isnt test (suc number) room (λ other l k. h other (omega (arith, l)) (omega (arith, k)))

-- ---- the same in words, of the links of which there are so many

-- of each link the test says the same as these words
pub record Says (Holds : ℕ → Type 0) (test : ℕ → Bool) (count : ℕ) : Type 0 where
  pub tells : (link : ℕ) → IsOneOf count link → Decides (test link) (Holds link)

failed : (Holds : ℕ → Type 0) (test : ℕ → Bool) (count link : ℕ) → Says Holds test count → IsOneOf count link → test link ≡ false → Holds link → ⊥
failed Holds test count link s is f h = both_ways (test link) f ((s.tells link is).1 h)

pub none_means : (Holds : ℕ → Type 0) (test : ℕ → Bool) (count : ℕ) → Says Holds test count → first_from test 1 count ≡ None → OfNone Holds count
none_means Holds test count s e = λ link is h. failed Holds test count link s is (first_none test 1 count e link is.low (omega (arith, is.high))) h

pub first_means : (Holds : ℕ → Type 0) (test : ℕ → Bool) (count link : ℕ) → Says Holds test count → first_from test 1 count ≡ Some link → IsFirst Holds count link
first_means Holds test count link s e =
    let f = first_some test 1 count link e in
    let is : IsOneOf count link = record { low = f.low; high = omega (arith, f.high) } in
    record {
      is = is;
      holds = (s.tells link is).0 f.here;
      before = λ other o h. failed Holds test count other s (record { low = o.low; high = omega (arith, o.high, f.low, f.high) })
          (f.before other o.low (omega (arith, o.high, f.low))) h;
    }

pub not_so : (t : Bool) → (t ≡ true → ⊥) → t ≡ false
not_so true h = absurd (h refl)
not_so false h = refl

pub means_none : (Holds : ℕ → Type 0) (test : ℕ → Bool) (count : ℕ) → Says Holds test count → OfNone Holds count → first_from test 1 count ≡ None
means_none Holds test count s none =
    first_isnt test 1 count (λ link l k. let is : IsOneOf count link = record { low = l; high = omega (arith, k) } in
    not_so (test link) (λ t. none link is ((s.tells link is).0 t)))

pub means_first : (Holds : ℕ → Type 0) (test : ℕ → Bool) (count link : ℕ) → Says Holds test count → IsFirst Holds count link → first_from test 1 count ≡ Some link
means_first Holds test count link s f =
    let most = f.is.high in
    first_is test 1 count link (record {
      low = f.is.low;
      high = omega (arith, most);
      here = (s.tells link f.is).1 f.holds;
      before = λ other l k. not_so (test other) (λ t.
          f.before other (record { low = l; high = omega (arith, k) }) ((s.tells other (record { low = l; high = omega (arith, k, most) })).0 t));
    })

-- a test that only one link passes finds it
pub only_one : (test : ℕ → Bool) (count link : ℕ) → IsOneOf count link → test link ≡ true → ((other : ℕ) → IsOneOf count other → test other ≡ true → other ≡ link)
    → first_from test 1 count ≡ Some link
only_one test count link is t only = first_is test 1 count link (record {
  low = is.low;
  high = omega (arith, is.high);
  here = t;
  before = λ other l k. not_so (test other) (λ u. let same : other ≡ link = only other (record { low = l; high = omega (arith, k, is.high) }) u in omega (arith, same, k));
})

-- and after it there is none
pub none_more : (test : ℕ → Bool) (count link : ℕ) → IsOneOf count link → ((other : ℕ) → IsOneOf count other → test other ≡ true → other ≡ link)
    → first_from test (link + 1) (count - link) ≡ None
none_more test count link is only = first_isnt test (link + 1) (count - link) (λ other l k. not_so (test other) (λ u.
    let same : other ≡ link = only other (record { low = omega (arith, l); high = omega (arith, k, is.high) }) u in omega (arith, same, l)))

-- ---- numbers

pub equal_bytes : (a b : List ℕ) → a ≡ b → bytes_eq a b ≡ true
equal_bytes a b e = (bytes_eq-Decides a b).1 e
