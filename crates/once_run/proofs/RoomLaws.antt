-- There is room for all tickets if they are of at most as many kinds as a level has slots.
use Rattle.std.proofs.Common.{◌≡◌, ◌≢◌, ℕ, zero, suc, ◌-◌, ◌<◌, ◌≤◌, nat_lt, List, length, Some, sym, ap, ◌∙◌, arith, slice_get, if◌then◌else◌}
use Rattle.std.proofs.lemmas.Bool.Decides.{nat_tests}
use Rattle.std.proofs.lemmas.Option.{same_Some, slice_get_within}
use mathlib.Core.Logic.{dite}
use native.Mathlib.Decide.{dec_lt, ℕ_discrete}
use Rattle.live_desk.specs.declared.claim.LiveClaim.{LiveClaim}
use Rattle.live_desk.specs.declared.claim.LiveClaim.TheVariants.{Full}
use Rattle.once_run.specs.Claims.{AreAmong, AreClaims, HasOthers, Line, pieces_up_to}

-- ---- more numbers than places for them

-- a place, after the place `gap` was taken out
abbrev closed : ℕ → ℕ → ℕ
closed gap n = if nat_lt n gap then n else n - 1

closed_below : (k gap n : ℕ) → gap < suc k → n < suc k → n ≢ gap → closed gap n < k
closed_below k gap n in_gap in_n apart = grind (arith, nat_tests)

closed_one : (gap m n : ℕ) → m ≢ gap → n ≢ gap → closed gap m ≡ closed gap n → m ≡ n
closed_one gap m n apart_m apart_n same = grind (arith, nat_tests)

-- one number more than there are places can't have a place each
no_places : (k : ℕ) (f : ℕ → ℕ) → ((n : ℕ) → n < suc k → f n < k) → ((m n : ℕ) → m < suc k → n < suc k → f m ≡ f n → m ≡ n) → ⊥
no_places zero f below one = let none = below 0 (omega arith) in omega arith
no_places (suc k) f below one =
    let other : (n : ℕ) → n < suc k → f n ≢ f (suc k) = λ n less same. let is : n ≡ suc k = one n (suc k) (omega arith) (omega arith) same in omega arith in
    no_places k (λ n. closed (f (suc k)) (f n))
    (λ n less. closed_below k (f (suc k)) (f n) (below (suc k) (omega arith)) (below n (omega arith)) (other n less))
    (λ m n less_m less_n same. one m n (omega arith) (omega arith) (closed_one (f (suc k)) (f m) (f n) (other m less_m) (other n less_n) same))

-- ---- tickets

module _ (size : ℕ) (tickets : List (List ℕ)) (claims : List LiveClaim) (kinds : List (List ℕ)) (among : AreAmong tickets kinds) (few : length kinds ≤ size)
    (place : ℕ) (ticket : List ℕ) (level : ℕ) (line : Line tickets claims place ticket (Full level)) (others : HasOthers size tickets claims ticket level) where
  -- the tickets of the other lines, and after them the one whose line is full
  nth : (n : ℕ) → Dec (n < size) → List ℕ
  nth n (yes less) = (others.other n less).own
  nth n (no more) = ticket

  kind_of : (n : ℕ) (d : Dec (n < size)) → (k : ℕ) × (slice_get kinds k ≡ Some (nth n d))
  unfolding nth
  kind_of n (yes less) = among (others.other n less).place (others.other n less).own (others.other n less).line.0
  kind_of n (no more) = among place ticket line.0

  apart : (m n : ℕ) (d : Dec (m < size)) (e : Dec (n < size)) → m < suc size → n < suc size → nth m d ≡ nth n e → m ≢ n → ⊥
  unfolding nth
  apart m n (yes x) (yes y) in_m in_n same differ = others.apart m n x y differ (ap (pieces_up_to level) same)
  apart m n (yes x) (no y) in_m in_n same differ = (others.other m x).differs (ap (pieces_up_to level) same)
  apart m n (no x) (yes y) in_m in_n same differ = (others.other n y).differs (ap (pieces_up_to level) (sym same))
  apart m n (no x) (no y) in_m in_n same differ = differ (omega arith)

  kind_at : ℕ → ℕ
  kind_at n = (kind_of n (dec_lt n size)).0

  alike : (m n : ℕ) (d : Dec (m < size)) (e : Dec (n < size)) → (kind_of m d).0 ≡ (kind_of n e).0 → nth m d ≡ nth n e
  alike m n d e same = same_Some (nth m d) (nth n e) (sym (kind_of m d).1 ∙ (ap (slice_get kinds) same ∙ (kind_of n e).1))

  one_kind : (m n : ℕ) → m < suc size → n < suc size → kind_at m ≡ kind_at n → m ≡ n
  unfolding kind_at
  one_kind m n in_m in_n same =
      dite (ℕ_discrete m n)
      (λ is. is)
      (λ differ. absurd (apart m n (dec_lt m size) (dec_lt n size) in_m in_n (alike m n (dec_lt m size) (dec_lt n size) same) differ))

  pub no_room : ⊥
  unfolding kind_at
  no_room = no_places size kind_at (λ n less. let k = slice_get_within kinds (kind_at n) (nth n (dec_lt n size)) (kind_of n (dec_lt n size)).1 in omega arith) one_kind

pub room_for_all : (size : ℕ) (tickets : List (List ℕ)) (claims : List LiveClaim) → AreClaims size tickets claims → (kinds : List (List ℕ)) → AreAmong tickets kinds → length kinds ≤ size
    → (place : ℕ) (ticket : List ℕ) (level : ℕ) → Line tickets claims place ticket (Full level) → ⊥
room_for_all size tickets claims are kinds among few place ticket level line = no_room size tickets claims kinds among few place ticket level line (are.full place ticket level line).2
