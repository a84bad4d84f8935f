-- Lists of links without a link twice: how long they are, what follows what in them, and which is the last.
use Rattle.std.proofs.Common.{◌≡◌, ℕ, zero, suc, ◌==◌, ◌+◌, ◌<◌, ◌≤◌, true, ◌||◌, cond, ◌⊎◌, inl, inr, List, [], ◌∷◌, length, refl, sym, ap, ◌∙◌, subst, arith}
use Rattle.std.specs.List.{range_with_len}
use Rattle.std.proofs.lemmas.Bool.{both_ways, cases_Bool, cases_eq, cases_lt, eq-eqb, eqb-true, ne_eqb, or_cases, or_right}
use Rattle.std.proofs.lemmas.List.FromFn.{length-range_with_len}
use Rattle.passport_claims.specs.Links.{AreWithin, IsOneOf}
use Rattle.passport_claims.specs.Order.{NoneTwice, is_among, last_of}

-- ---- what is among a list

pub among_first : (link other : ℕ) (turn : List ℕ) → other ≡ link → is_among link (other ∷ turn) ≡ true
among_first link other turn e = ap (λ t. t || is_among link turn) (eq-eqb other link e)

pub among_later : (link other : ℕ) (turn : List ℕ) → is_among link turn ≡ true → is_among link (other ∷ turn) ≡ true
among_later link other turn e = or_right (other == link) (is_among link turn) e

pub among_cases : (link other : ℕ) (turn : List ℕ) → is_among link (other ∷ turn) ≡ true → (other ≡ link) ⊎ (is_among link turn ≡ true)
among_cases link other turn e = elim (or_cases (other == link) (is_among link turn) e) [
  | inl same ↦ inl (eqb-true other link same)
  | inr later ↦ inr later
]

pub within_among : (count : ℕ) (turn : List ℕ) (link : ℕ) → AreWithin count turn → is_among link turn ≡ true → IsOneOf count link
within_among count [] link within e = absurd cc
within_among count (other ∷ turn) link within e = elim (among_cases link other turn e) [
  | inl same ↦ subst (IsOneOf count) same within.0
  | inr later ↦ within_among count turn link within.1 later
]

-- ---- how long it is

-- the list without the first place of the link
without : ℕ → List ℕ → List ℕ
without link [] = []
without link (other ∷ turn) = cond (other == link) turn (other ∷ without link turn)

shorter : (link : ℕ) (turn : List ℕ) → is_among link turn ≡ true → suc (length (without link turn)) ≡ length turn
unfolding without
shorter link [] e = absurd cc
shorter link (other ∷ turn) e = elim (cases_eq other link) [
  | inl same ↦ rw (eq-eqb other link same) refl
  | inr apart ↦ elim (among_cases link other turn e) [
    | inl same ↦ absurd (apart same)
    | inr later ↦ rw (ne_eqb other link apart) (ap suc (shorter link turn later))
  ]
]

stays : (link gone : ℕ) (turn : List ℕ) → (link ≡ gone → ⊥) → is_among link turn ≡ true → is_among link (without gone turn) ≡ true
unfolding without
stays link gone [] apart e = absurd cc
stays link gone (other ∷ turn) apart e = elim (cases_eq other gone) [
  | inl same ↦ elim (among_cases link other turn e) [
    | inl here ↦ absurd (apart (sym here ∙ same))
    | inr later ↦ rw (eq-eqb other gone same) later
  ]
  | inr differs ↦ elim (among_cases link other turn e) [
    | inl here ↦ rw (ne_eqb other gone differs) (among_first link other (without gone turn) here)
    | inr later ↦ rw (ne_eqb other gone differs) (among_later link other (without gone turn) (stays link gone turn apart later))
  ]
]

-- each link of the one list is in the other
Among : List ℕ → List ℕ → Type 0
Among some all = (link : ℕ) → is_among link some ≡ true → is_among link all ≡ true

no_longer : (some all : List ℕ) → NoneTwice some → Among some all → length some ≤ length all
unfolding Among
no_longer [] all once within = omega arith
no_longer (link ∷ some) all once within =
    let here : is_among link all ≡ true = within link (among_first link link some refl) in
    let rest : length some ≤ length (without link all) = no_longer some (without link all) once.1 (λ other e.
    stays other link all (λ same. once.0 (subst (λ l. is_among l some ≡ true) same e)) (within other (among_later other link some e))) in
    omega (arith, shorter link all here, rest)

-- all links of which there are so many, from this one on
ranged : (from count link : ℕ) → is_among link (range_with_len from count) ≡ true → (from ≤ link) × (link < from + count)
ranged from zero link e = absurd cc
ranged from (suc count) link e = elim (among_cases link from (range_with_len (from + 1) count) e) [
  | inl same ↦ (omega (arith, same), omega (arith, same))
  | inr later ↦ let r = ranged (from + 1) count link later in (omega (arith, r.0), omega (arith, r.1))
]

in_range : (from count link : ℕ) → from ≤ link → link < from + count → is_among link (range_with_len from count) ≡ true
in_range from zero link l k = absurd (omega (arith, l, k))
in_range from (suc count) link l k = elim (cases_lt from link) [
  | inl less ↦ among_later link from (range_with_len (from + 1) count) (in_range (from + 1) count link (omega (arith, less)) (omega (arith, k)))
  | inr past ↦ among_first link from (range_with_len (from + 1) count) (omega (arith, l, past))
]

range_once : (from count : ℕ) → NoneTwice (range_with_len from count)
range_once from zero = tt
range_once from (suc count) =
    (λ e. let r = ranged (from + 1) count from e in let low = r.0 in absurd (omega (arith, low)), range_once (from + 1) count)

-- a list in which each link is has as many entries at least
pub no_fewer : (count : ℕ) (turn : List ℕ) → ((link : ℕ) → IsOneOf count link → is_among link turn ≡ true) → count ≤ length turn
unfolding Among
no_fewer count turn each =
    let k = no_longer (range_with_len 1 count) turn (range_once 1 count) (λ link e. let r = ranged 1 count link e in
    let high = r.1 in each link (record { low = r.0; high = omega (arith, high) })) in
    omega (arith, k, length-range_with_len 1 count)

-- a list of as many links, none twice, has each
pub has_each : (count : ℕ) (turn : List ℕ) → AreWithin count turn → NoneTwice turn → length turn ≡ count → (link : ℕ) → IsOneOf count link → is_among link turn ≡ true
unfolding Among
has_each count turn within once long link is = elim (cases_Bool (is_among link turn)) [
  | inl e ↦ e
  | inr none ↦
      let k = no_longer (link ∷ turn) (range_with_len 1 count) ((λ e. both_ways (is_among link turn) none e), once) (λ other e. elim (among_cases other link turn e) [
        | inl same ↦ let low = is.low in let high = is.high in in_range 1 count other (omega (arith, same, low)) (omega (arith, same, high))
        | inr later ↦ let o = within_among count turn other within later in in_range 1 count other o.low (let high = o.high in omega (arith, high))
      ]) in
      absurd (omega (arith, k, length-range_with_len 1 count, long))
]

-- ---- what follows what

-- the one link comes right before the other in this list, of which the first is given by itself
abbrev pub Next : ℕ → List ℕ → ℕ → ℕ → Type 0
Next first [] one other = ⊥
Next first (second ∷ later) one other = ((one ≡ first) × (other ≡ second)) ⊎ Next second later one other

pub next_first : (first : ℕ) (later : List ℕ) (one other : ℕ) → Next first later one other → is_among one (first ∷ later) ≡ true
next_first first [] one other next = absurd next
next_first first (second ∷ later) one other (inl (e, f)) = among_first one first (second ∷ later) (sym e)
next_first first (second ∷ later) one other (inr next) = among_later one first (second ∷ later) (next_first second later one other next)

pub next_second : (first : ℕ) (later : List ℕ) (one other : ℕ) → Next first later one other → is_among other later ≡ true
next_second first [] one other next = absurd next
next_second first (second ∷ later) one other (inl (a, b)) = among_first other second later (sym b)
next_second first (second ∷ later) one other (inr next) = among_later other second later (next_second second later one other next)

pub next_of : (first : ℕ) (later : List ℕ) (other : ℕ) → is_among other later ≡ true → (one : ℕ) × Next first later one other
next_of first [] other e = absurd cc
next_of first (second ∷ later) other e = elim (among_cases other second later e) [
  | inl same ↦ (first, inl (refl, sym same))
  | inr further ↦ let n = next_of second later other further in (n.0, inr n.1)
]

-- one thing alone follows another
pub next_unique : (first : ℕ) (later : List ℕ) (one a b : ℕ) → NoneTwice (first ∷ later) → Next first later one a → Next first later one b → a ≡ b
next_unique first [] one a b once x y = absurd x
next_unique first (second ∷ later) one a b once (inl (e, f)) (inl (g, h)) = f ∙ sym h
next_unique first (second ∷ later) one a b once (inl (e, f)) (inr y) =
    absurd (once.0 (subst (λ l. is_among l (second ∷ later) ≡ true) e (next_first second later one b y)))
next_unique first (second ∷ later) one a b once (inr x) (inl (g, h)) =
    absurd (once.0 (subst (λ l. is_among l (second ∷ later) ≡ true) g (next_first second later one a x)))
next_unique first (second ∷ later) one a b once (inr x) (inr y) = next_unique second later one a b once.1 x y

-- nothing follows itself
pub next_differs : (first : ℕ) (later : List ℕ) (one : ℕ) → NoneTwice (first ∷ later) → Next first later one one → ⊥
next_differs first [] one once x = x
next_differs first (second ∷ later) one once (inl (e, f)) = once.0 (among_first first second later (sym f ∙ e))
next_differs first (second ∷ later) one once (inr x) = next_differs second later one once.1 x

-- ---- the last

pub last_among : (first : ℕ) (later : List ℕ) → is_among (last_of first later) (first ∷ later) ≡ true
last_among first [] = among_first first first [] refl
last_among first (second ∷ later) = among_later (last_of second later) first (second ∷ later) (last_among second later)

pub none_behind_last : (first : ℕ) (later : List ℕ) (other : ℕ) → NoneTwice (first ∷ later) → Next first later (last_of first later) other → ⊥
none_behind_last first [] other once x = x
none_behind_last first (second ∷ later) other once (inl (e, f)) = once.0 (subst (λ l. is_among l (second ∷ later) ≡ true) e (last_among second later))
none_behind_last first (second ∷ later) other once (inr x) = none_behind_last second later other once.1 x

-- each but the last is followed by one
pub next_there : (first : ℕ) (later : List ℕ) (one : ℕ) → is_among one (first ∷ later) ≡ true → (one ≡ last_of first later) ⊎ ((other : ℕ) × Next first later one other)
next_there first [] one e = elim (among_cases one first [] e) [
  | inl same ↦ inl (sym same)
  | inr none ↦ absurd cc
]
next_there first (second ∷ later) one e = elim (among_cases one first (second ∷ later) e) [
  | inl same ↦ inr (second, inl (sym same, refl))
  | inr further ↦ elim (next_there second later one further) [
    | inl last ↦ inl last
    | inr (other, x) ↦ inr (other, inr x)
  ]
]
