-- Where a call has been, by its PASSporTs one after another.
use Rattle.std.proofs.Common.{◌≡◌, ℕ, zero, suc, ◌+◌, ◌<◌, ◌≤◌, Bool, true, false, ◌||◌, List, [], ◌∷◌, length, drop, Some, refl, sym, ◌∙◌, ap, arith, inl, inr}
use Rattle.std.specs.List.{list_any, slice_get}
use Rattle.std.specs.Option.{option_map}
use Rattle.std.specs.Str.{bytes_eq}
use Rattle.std.proofs.lemmas.Bool.{or_cases, or_left, or_right}
use Rattle.std.proofs.lemmas.List.{drop_all}
use Rattle.lists.proofs.Bytes.{bytes_same, same_bytes}
use Rattle.tn_values.specs.Local.{LocalView}
use Rattle.sip_message.specs.Accessors.{target_number, to_number}
use Rattle.sip_message.specs.Message.{MessageView}
use Rattle.passport_claims.specs.Links.{dest_of, div_of}
use Rattle.passport_claims.specs.Passport.{ClaimsView}
use Rattle.verify_rules.specs.Call.{Reading, called_by, facts_of, passport_in}
use Rattle.retarget.specs.Onward.{HasBeenAt, has_been_at, is_at, led, start, undiverted}

-- ---- the number that is called

pub called_first : (local : LocalView) (message : MessageView) (readings : List Reading) → length readings ≡ 1
    → called_by (facts_of local message) (drop 1 readings) ≡ to_number message local
called_first local message [] e = absurd (omega (arith, e))
called_first local message (origin ∷ []) e = refl
called_first local message (origin ∷ link ∷ links) e = absurd (omega (arith, e))

pub called_later : (local : LocalView) (message : MessageView) (readings : List Reading) → 1 ≤ length readings → (length readings ≡ 1 → ⊥)
    → called_by (facts_of local message) (drop 1 readings) ≡ target_number message local
called_later local message [] some e = absurd (omega (arith, some))
called_later local message (origin ∷ []) some e = absurd (e refl)
called_later local message (origin ∷ link ∷ links) some e = refl

-- ---- a number

pub been_undiverted : (earlier number : List ℕ) (readings : List Reading) → length readings ≡ 1 → has_been_at earlier number (drop 1 readings) ≡ bytes_eq earlier number
been_undiverted earlier number [] e = absurd (omega (arith, e))
been_undiverted earlier number (origin ∷ []) e = refl
been_undiverted earlier number (origin ∷ link ∷ links) e = absurd (omega (arith, e))

pub has_second : (readings : List Reading) → 1 ≤ length readings → (length readings ≡ 1 → ⊥) → 1 < length readings
has_second readings some e = omega (arith, some, e)

pub been_diverted : (earlier number : List ℕ) (readings : List Reading) (link : ClaimsView) (from behind : Bool) → option_map passport_in (slice_get readings 1) ≡ Some link
    → from ≡ bytes_eq (div_of link) number → behind ≡ list_any (is_at number) (drop 1 readings) → (from || behind) ≡ has_been_at earlier number (drop 1 readings)
been_diverted earlier number [] link from behind e s l = absurd cc
been_diverted earlier number (origin ∷ []) link from behind e s l = absurd cc
been_diverted earlier number (origin ∷ first ∷ later) link from behind e s l =
    let same : first.passport ≡ link = cc in
    ap (λ b. b || behind) s ∙ ap (λ b. bytes_eq (div_of link) number || b) l
    ∙ ap (λ p. bytes_eq (div_of p) number || list_any (is_at number) (first ∷ later)) (sym same)

-- ---- one diversion after another

step : (number : List ℕ) (readings : List Reading) (i : ℕ) (link : ClaimsView) → option_map passport_in (slice_get readings i) ≡ Some link
    → list_any (is_at number) (drop i readings) ≡ (bytes_eq (dest_of link) number || list_any (is_at number) (drop (suc i) readings))
step number [] zero link e = absurd cc
step number [] (suc i) link e = absurd cc
step number (reading ∷ readings) zero link e =
    let same : reading.passport ≡ link = cc in ap (λ p. bytes_eq (dest_of p) number || list_any (is_at number) readings) same
step number (reading ∷ readings) (suc i) link e = step number readings i link e

pub dest_more : (number dest : List ℕ) (readings : List Reading) (i : ℕ) (link : ClaimsView) (all : Bool) → option_map passport_in (slice_get readings i) ≡ Some link
    → dest ≡ dest_of link → bytes_eq dest number ≡ false → list_any (is_at number) (drop i readings) ≡ all → list_any (is_at number) (drop (i + 1) readings) ≡ all
dest_more number dest readings i link all e is other left =
    let behind : i + 1 ≡ suc i = omega arith in
    ap (λ k. list_any (is_at number) (drop k readings)) behind
    ∙ sym (ap (λ b. b || list_any (is_at number) (drop (suc i) readings)) (ap (λ d. bytes_eq d number) (sym is) ∙ other))
    ∙ sym (step number readings i link e) ∙ left

pub dest_here : (number dest : List ℕ) (readings : List Reading) (i : ℕ) (link : ClaimsView) (all : Bool) → option_map passport_in (slice_get readings i) ≡ Some link
    → dest ≡ dest_of link → bytes_eq dest number ≡ true → list_any (is_at number) (drop i readings) ≡ all → true ≡ all
dest_here number dest readings i link all e is same left =
    sym (ap (λ b. b || list_any (is_at number) (drop (suc i) readings)) (ap (λ d. bytes_eq d number) (sym is) ∙ same))
    ∙ sym (step number readings i link e) ∙ left

pub dest_done : (number : List ℕ) (readings : List Reading) (i : ℕ) (all : Bool) → length readings ≤ i → list_any (is_at number) (drop i readings) ≡ all → false ≡ all
dest_done number readings i all end left = sym (ap (list_any (is_at number)) (drop_all i readings end)) ∙ left

-- ---- the test decides it

abbrev Led : List ℕ → List Reading → Type 0
Led number links = (at : ℕ) × (link : Reading) × (slice_get links at ≡ Some link) × (dest_of link.passport ≡ number)

later_led : (number : List ℕ) (link : Reading) (links : List Reading) → Led number links → Led number (link ∷ links)
later_led number link links (at, one, is, same) = (suc at, one, is, same)

pub led_by : (number : List ℕ) (links : List Reading) → list_any (is_at number) links ≡ true → Led number links
led_by number [] h = absurd cc
led_by number (link ∷ links) h = elim (or_cases (is_at number link) (list_any (is_at number) links) h) [
  | inl here ↦ (0, link, refl, bytes_same (dest_of link.passport) number here)
  | inr later ↦ later_led number link links (led_by number links later)
]

pub led_is : (number : List ℕ) (links : List Reading) (at : ℕ) (link : Reading) → slice_get links at ≡ Some link → dest_of link.passport ≡ number
    → list_any (is_at number) links ≡ true
led_is number [] zero link is same = absurd cc
led_is number [] (suc at) link is same = absurd cc
led_is number (one ∷ links) zero link is same =
    let here : one ≡ link = cc in
    or_left (is_at number one) (list_any (is_at number) links) (ap (λ (r : Reading). is_at number r) here ∙ ap (λ d. bytes_eq d number) same ∙ same_bytes number)
led_is number (one ∷ links) (suc at) link is same = or_right (is_at number one) (list_any (is_at number) links) (led_is number links at link is same)

pub been_by : (earlier number : List ℕ) (links : List Reading) → has_been_at earlier number links ≡ true → HasBeenAt earlier number links
been_by earlier number [] h = undiverted refl (bytes_same earlier number h)
been_by earlier number (first ∷ later) h = elim (or_cases (bytes_eq (div_of first.passport) number) (list_any (is_at number) (first ∷ later)) h) [
  | inl here ↦ start first refl (bytes_same (div_of first.passport) number here)
  | inr others ↦ let l = led_by number (first ∷ later) others in led l.0 l.1 l.2 l.3
]

pub been_is : (earlier number : List ℕ) (links : List Reading) → HasBeenAt earlier number links → has_been_at earlier number links ≡ true
been_is earlier number [] (undiverted e same) = ap (λ d. bytes_eq d number) same ∙ same_bytes number
been_is earlier number [] (start first is same) = absurd cc
been_is earlier number [] (led zero link is same) = absurd cc
been_is earlier number [] (led (suc at) link is same) = absurd cc
been_is earlier number (one ∷ later) (undiverted e same) = absurd cc
been_is earlier number (one ∷ later) (start first is same) =
    let here : one ≡ first = cc in
    or_left (bytes_eq (div_of one.passport) number) (list_any (is_at number) (one ∷ later))
    (ap (λ (r : Reading). bytes_eq (div_of r.passport) number) here ∙ ap (λ d. bytes_eq d number) same ∙ same_bytes number)
been_is earlier number (one ∷ later) (led at link is same) =
    or_right (bytes_eq (div_of one.passport) number) (list_any (is_at number) (one ∷ later)) (led_is number (one ∷ later) at link is same)
