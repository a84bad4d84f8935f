-- The seats of a desk, halved from its first.
use Rattle.std.proofs.Common.{◌≡◌, ℕ, zero, suc, ◌+◌, ◌-◌, ◌/◌, ◌<◌, ◌≤◌, List, [], ◌∷◌, ◌++◌, Some, refl, sym, ap, ◌∙◌, subst, arith}
use Rattle.std.proofs.lemmas.Option.{same_Some}
use Rattle.std.specs.List.{slice_get}
use Rattle.replay_desk.specs.Holder.{DeskId, Holder, left_of, right_of}
use Rattle.live_desk.specs.Lists.{whole}
use Rattle.verify_service.specs.Prepared.{AreSeats, IsSeat}
use Rattle.verify_service.specs.Ready.{HaveSeats, IsFresh, all_shares}

-- ---- how many parts are left

-- so many can be halved this often and leave 16,777,216
abbrev power : ℕ → ℕ
power zero = 16777216
power (suc n) = power n + power n

-- The first seat can be halved as often as there may be more seats.
pub record HasLeft (index share : ℕ) : Type 0 where
  pub times : ℕ
  pub sum : times + index ≡ 8
  pub most : power times ≤ share

least : (n : ℕ) → 16777216 ≤ power n
least zero = omega arith
least (suc n) = let more : 16777216 ≤ power n = least n in omega arith

pub left_first : HasLeft 1 4294967296
left_first = record { times = 7; sum = refl; most = omega arith }

pub enough : (index share : ℕ) → HasLeft index share → 16777216 ≤ share
enough index share left =
    let some : 16777216 ≤ power left.times = least left.times in
    let most : power left.times ≤ share = left.most in
    omega arith

halves : (n share : ℕ) → power n + power n ≤ share → (power n ≤ share / 2) × (power n ≤ share - share / 2)
halves n share most = (omega arith, omega arith)

left_by : (times index share : ℕ) → times + index ≡ 8 → index < 8 → power times ≤ share → HasLeft (index + 1) (share - share / 2) × (16777216 ≤ share / 2)
left_by zero index share sum below most = absurd (omega arith)
left_by (suc n) index share sum below most =
    let both = halves n share most in
    let some : 16777216 ≤ power n = least n in
    let half : power n ≤ share / 2 = both.0 in
    (record { times = n; sum = (let s : suc n + index ≡ 8 = sum in omega arith); most = both.1 }, omega arith)

-- ---- one seat more

-- a seat was split: what it has left, and the new one
pub left_next : (desk : DeskId) (index : ℕ) (first now other : Holder) → now ≡ left_of first → index < 8 → HasLeft index first.share → HasLeft (index + 1) now.share
left_next desk index first now other is below left =
    subst (HasLeft (index + 1)) (sym (ap (λ (h : Holder). h.share) is)) (left_by left.times index first.share left.sum below left.most).0

pub fresh_next : (desk : DeskId) (first now : Holder) → now ≡ left_of first → IsFresh desk first → IsFresh desk now
fresh_next desk first now is fresh =
    subst (IsFresh desk) (sym is) (record { own = fresh.own; no_wins = fresh.no_wins; no_losses = fresh.no_losses })

seat_new : (desk : DeskId) (index : ℕ) (first other : Holder) → other ≡ right_of first → index < 8 → IsFresh desk first → HasLeft index first.share → IsSeat desk other
seat_new desk index first other is below fresh left =
    subst (IsSeat desk) (sym is) (record {
      fresh = record { own = fresh.own; no_wins = refl; no_losses = refl };
      least = (left_by left.times index first.share left.sum below left.most).1;
    })

shares_push : (seats : List Holder) (seat : Holder) → all_shares (seats ++ seat ∷ []) ≡ all_shares seats + seat.share
shares_push [] seat = omega arith
shares_push (s ∷ seats) seat = let more : all_shares (seats ++ seat ∷ []) ≡ all_shares seats + seat.share = shares_push seats seat in omega arith

pub all_next : (seats : List Holder) (first now other : Holder) → now ≡ left_of first → other ≡ right_of first → all_shares seats + first.share ≡ whole
    → all_shares (seats ++ other ∷ []) + now.share ≡ whole
all_next seats first now other is other_is all =
    let push : all_shares (seats ++ other ∷ []) ≡ all_shares seats + other.share = shares_push seats other in
    let one : now.share ≡ first.share - first.share / 2 = ap (λ (h : Holder). h.share) is in
    let two : other.share ≡ first.share / 2 = ap (λ (h : Holder). h.share) other_is in
    omega arith

seats_push : (desk : DeskId) (seats : List Holder) (seat : Holder) → AreSeats desk seats → IsSeat desk seat → AreSeats desk (seats ++ seat ∷ [])
seats_push desk [] seat each here zero other is = subst (IsSeat desk) (same_Some seat other is) here
seats_push desk [] seat each here (suc w) other is = absurd cc
seats_push desk (s ∷ seats) seat each here zero other is = each 0 other is
seats_push desk (s ∷ seats) seat each here (suc w) other is = seats_push desk seats seat (λ v one one_is. each (suc v) one one_is) here w other is

pub seats_next : (desk : DeskId) (index : ℕ) (seats : List Holder) (first other : Holder) → other ≡ right_of first → index < 8 → IsFresh desk first → HasLeft index first.share
    → AreSeats desk seats → AreSeats desk (seats ++ other ∷ [])
seats_next desk index seats first other is below fresh left each = seats_push desk seats other each (seat_new desk index first other is below fresh left)

-- ---- the first one last

pub seats_last : (desk : DeskId) (index : ℕ) (seats : List Holder) (first : Holder) → IsFresh desk first → HasLeft index first.share → AreSeats desk seats → AreSeats desk (seats ++ first ∷ [])
seats_last desk index seats first fresh left each = seats_push desk seats first each (record { fresh = fresh; least = enough index first.share left })

pub have_last : (desk : DeskId) (index : ℕ) (seats : List Holder) (first : Holder) → IsFresh desk first → HasLeft index first.share → AreSeats desk seats
    → all_shares seats + first.share ≡ whole → HaveSeats desk (seats ++ first ∷ [])
have_last desk index seats first fresh left each all = record {
  each = λ w seat is. (seats_last desk index seats first fresh left each w seat is).fresh;
  all = shares_push seats first ∙ all;
}

-- ---- none yet

pub all_first : (seats : List Holder) (share : ℕ) → seats ≡ [] → share ≡ whole → all_shares seats + share ≡ whole
all_first seats share is whole_is = ap (λ (l : List Holder). all_shares l + share) is ∙ omega (arith, whole_is)

no_seats : (desk : DeskId) (w : ℕ) (seat : Holder) → slice_get [] w ≡ Some seat → IsSeat desk seat
no_seats desk w seat is = absurd cc

pub seats_first : (desk : DeskId) (seats : List Holder) → seats ≡ [] → AreSeats desk seats
seats_first desk seats is = subst (λ (l : List Holder). AreSeats desk l) (sym is) (no_seats desk)

pub left_whole : (share : ℕ) → share ≡ whole → HasLeft 1 share
left_whole share is = subst (HasLeft 1) (sym is) left_first
