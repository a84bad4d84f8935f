-- PASSporTs kept in message order and seen in chain order.
use Rattle.std.proofs.Common.{◌≡◌, ℕ, zero, suc, ◌+◌, ◌-◌, ◌<◌, ◌≤◌, List, [], ◌∷◌, length, map, take, get_or, Option, Some, None, refl, sym, ◌∙◌, ap, arith}
use Rattle.std.specs.List.{slice_get}
use Rattle.std.specs.Option.{option_map}
use Rattle.std.proofs.lemmas.List.{get_or-take, length-map}
use Rattle.passport_claims.specs.Passport.{ClaimsView}
use Rattle.verify_rules.specs.Call.{Reading, in_turn, passport_in}
use Rattle.verify_rules.specs.Screened.{IsTurned, ScreenedView, digest_in, iat_or_none, last_of}

-- ---- lists

at_map : (f : ℕ → Reading) (ts : List ℕ) (j : ℕ) → j < length ts → slice_get (map f ts) j ≡ Some (f (get_or ts j 0))
at_map f [] j within = absurd (omega arith)
at_map f (t ∷ ts) zero within = refl
at_map f (t ∷ ts) (suc j) within = at_map f ts j (omega arith)

at_default : (items : List Reading) (k : ℕ) (d r : Reading) → slice_get items k ≡ Some r → get_or items k d ≡ r
at_default [] zero d r e = absurd cc
at_default [] (suc k) d r e = absurd cc
at_default (item ∷ items) zero d r e = cc
at_default (item ∷ items) (suc k) d r e = at_default items k d r e

turn_length : (readings : List Reading) (turn : List ℕ) → 1 ≤ length readings → length (in_turn readings turn) ≡ length turn + 1
turn_length [] turn some = absurd (omega arith)
turn_length (origin ∷ others) turn some = let same = length-map turn (λ k. get_or (origin ∷ others) k origin) in omega (arith, same)

turn_first : (readings : List Reading) (turn : List ℕ) (r : Reading) → slice_get readings 0 ≡ Some r → slice_get (in_turn readings turn) 0 ≡ Some r
turn_first [] turn r e = absurd cc
turn_first (origin ∷ others) turn r e = e

turn_at : (readings : List Reading) (turn : List ℕ) (j k : ℕ) (r : Reading) → j < length turn → k ≡ get_or turn j 0 → slice_get readings k ≡ Some r
    → slice_get (in_turn readings turn) (suc j) ≡ Some r
turn_at [] turn j zero r within is e = absurd cc
turn_at [] turn j (suc k) r within is e = absurd cc
turn_at (origin ∷ others) turn j k r within is e =
    at_map (λ link. get_or (origin ∷ others) link origin) turn j within ∙ ap (λ x. Some (get_or (origin ∷ others) x origin)) (sym is)
    ∙ ap (λ x. Some x) (at_default (origin ∷ others) k origin r e)

-- ---- what is seen of what is kept

abbrev pub seen : List Reading → ℕ → List ℕ → ℕ → ScreenedView
seen readings links turn last = record { readings = in_turn readings (take links turn); last = last }

pub turned_count : (readings : List Reading) (links : ℕ) (turn : List ℕ) (last : ℕ) (v : ScreenedView) → seen readings links turn last ≡ v → IsTurned readings links turn
    → links + 1 ≡ length v.readings
turned_count readings links turn last v is turned =
    let all = turn_length readings (take links turn) (omega (arith, turned.all)) in
    let same : length (in_turn readings (take links turn)) ≡ length v.readings = ap (λ (x : ScreenedView). length x.readings) is in
    omega (arith, all, same, turned.turns)

pub turned_first : (readings : List Reading) (links : ℕ) (turn : List ℕ) (last : ℕ) (v : ScreenedView) (i : ℕ) (r : Reading) → seen readings links turn last ≡ v → slice_get readings 0 ≡ Some r → i ≡ 0
    → slice_get v.readings i ≡ Some r
turned_first readings links turn last v i r is e first =
    ap (λ k. slice_get v.readings k) first ∙ sym (ap (λ (x : ScreenedView). slice_get x.readings 0) is) ∙ turn_first readings (take links turn) r e

pub turned_low : (readings : List Reading) (links : ℕ) (turn : List ℕ) → IsTurned readings links turn → 0 < length readings
turned_low readings links turn turned = omega (arith, turned.all)

pub turned_some : (readings : List Reading) (links : ℕ) (turn : List ℕ) (last : ℕ) (v : ScreenedView) (i : ℕ) → seen readings links turn last ≡ v → IsTurned readings links turn → i < length v.readings
    → (i ≡ 0 → ⊥) → i - 1 < 8
turned_some readings links turn last v i is turned within later =
    let count = turned_count readings links turn last v is turned in omega (arith, count, turned.few, within)

pub turned_within : (readings : List Reading) (links : ℕ) (turn : List ℕ) (last : ℕ) (v : ScreenedView) (i k : ℕ) → seen readings links turn last ≡ v → IsTurned readings links turn → i < length v.readings
    → (i ≡ 0 → ⊥) → k ≡ get_or turn (i - 1) 0 → k < length readings
turned_within readings links turn last v i k is turned within later at =
    let count = turned_count readings links turn last v is turned in
    let one = turned.each (i - 1) (omega (arith, count, within, later)) in omega (arith, one.high, at, turned.all)

pub turned_at : (readings : List Reading) (links : ℕ) (turn : List ℕ) (last : ℕ) (v : ScreenedView) (i k : ℕ) (r : Reading) → seen readings links turn last ≡ v → IsTurned readings links turn
    → slice_get readings k ≡ Some r → (i ≡ 0 → ⊥) → i < length v.readings → k ≡ get_or turn (i - 1) 0 → slice_get v.readings i ≡ Some r
turned_at readings links turn last v i k r is turned e later within at =
    let count = turned_count readings links turn last v is turned in
    let low : i - 1 < links = omega (arith, count, within, later) in
    let next : i ≡ suc (i - 1) = omega (arith, later) in
    let here : k ≡ get_or (take links turn) (i - 1) 0 = at ∙ sym (get_or-take links turn (i - 1) 0 low) in
    ap (λ n. slice_get v.readings n) next ∙ sym (ap (λ (x : ScreenedView). slice_get x.readings (suc (i - 1))) is)
    ∙ turn_at readings (take links turn) (i - 1) k r (omega (arith, turned.turns, low)) here e

-- ---- the last one

pub last_digest : (readings : List Reading) (count i : ℕ) (digest : List ℕ) → count ≡ length readings → i ≡ count - 1 → option_map digest_in (slice_get readings i) ≡ Some digest
    → option_map digest_in (last_of readings) ≡ Some digest
last_digest readings count i digest all at e =
    let same : length readings - 1 ≡ i = omega (arith, all, at) in ap (λ k. option_map digest_in (slice_get readings k)) same ∙ e

iat_by : (o : Option Reading) (p : ClaimsView) → option_map passport_in o ≡ Some p → p.iat ≡ iat_or_none o
iat_by None p e = absurd cc
iat_by (Some one) p e = let same : one.passport ≡ p = cc in ap (λ (x : ClaimsView). x.iat) (sym same)

pub last_iat_is : (readings : List Reading) (count : ℕ) (p : ClaimsView) (iat : ℕ) → count ≡ length readings → option_map passport_in (slice_get readings (count - 1)) ≡ Some p → iat ≡ p.iat
    → iat ≡ iat_or_none (last_of readings)
last_iat_is readings count p iat all e is =
    is ∙ iat_by (slice_get readings (count - 1)) p e ∙ ap (λ k. iat_or_none (slice_get readings (k - 1))) all
