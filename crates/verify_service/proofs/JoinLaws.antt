-- The seats of all workers as one.
use Rattle.std.proofs.Common.{◌≡◌, ℕ, zero, suc, ◌+◌, ◌<◌, ◌⊎◌, inl, inr, List, [], ◌∷◌, ◌++◌, get_or, length, Option, Some, None, refl, sym, ap, ◌∙◌, subst, arith}
use Rattle.std.proofs.lemmas.Option.{same_Some}
use Rattle.replay_desk.specs.Holder.{DeskId, Holder, both_of}
use Rattle.live_desk.specs.Lists.{In}
use Rattle.live_desk.proofs.Sums.{in_append, in_left, in_right}
use Rattle.std.specs.List.{slice_get}
use Rattle.verify_service.specs.Carrying.{IsOfDesk, joined_from, joined_two}
use Rattle.verify_service.specs.Ready.{all_shares, share_of, shares}

-- ---- all seats as one, by its wins or by its losses

module _ (f : Holder → List (ℕ × ℕ)) (both : (a b : Holder) → f (both_of a b) ≡ f a ++ f b) where
  kept_from : (p : ℕ × ℕ) (seat all : Holder) (seats : List (Option Holder)) → joined_from (Some seat) seats ≡ Some all → In p (f seat) → In p (f all)
  kept_from p seat all [] is at = subst (λ (h : Holder). In p (f h)) (same_Some seat all is) at
  kept_from p seat all (None ∷ seats) is at = kept_from p seat all seats is at
  kept_from p seat all (Some other ∷ seats) is at =
      kept_from p (both_of seat other) all seats is (subst (In p) (sym (both seat other)) (in_left p (f seat) (f other) at))

  -- what one of them has all have
  pub gives : (p : ℕ × ℕ) (start : Option Holder) (all seat : Holder) (seats : List (Option Holder)) (w : ℕ) → joined_from start seats ≡ Some all → w < length seats → get_or seats w None ≡ Some seat
      → In p (f seat) → In p (f all)
  gives p start all seat [] w is within at has = absurd (omega arith)
  gives p None all seat (other ∷ seats) zero is within at has = kept_from p seat all seats (ap (λ o. joined_from o seats) (sym at) ∙ is) has
  gives p (Some own) all seat (None ∷ seats) zero is within at has = absurd cc
  gives p (Some own) all seat (Some other ∷ seats) zero is within at has =
      kept_from p (both_of own other) all seats is
      (subst (In p) (sym (both own other)) (in_right p (f own) (f other) (subst (λ (h : Holder). In p (f h)) (sym (same_Some other seat at)) has)))
  gives p start all seat (other ∷ seats) (suc w) is within at has = gives p (joined_two start other) all seat seats w is (omega arith) at has

  abbrev Starts : ℕ × ℕ → Option Holder → Type 0
  Starts p None = ⊥
  Starts p (Some seat) = In p (f seat)

  -- what all have one of them has
  pub record OneHas (p : ℕ × ℕ) (seats : List (Option Holder)) : Type 0 where
    pub w : ℕ
    pub seat : Holder
    pub within : w < length seats
    pub at : get_or seats w None ≡ Some seat
    pub has : In p (f seat)

  further : (p : ℕ × ℕ) (other : Option Holder) (seats : List (Option Holder)) → OneHas p seats → OneHas p (other ∷ seats)
  further p other seats one = record { w = suc one.w; seat = one.seat; within = (let b = one.within in omega arith); at = one.at; has = one.has }

  started : (p : ℕ × ℕ) (start other : Option Holder) (seats : List (Option Holder)) → Starts p (joined_two start other) → Starts p start ⊎ OneHas p (other ∷ seats)
  started p None None seats has = absurd has
  started p None (Some other) seats has = inr (record { w = 0; seat = other; within = omega arith; at = refl; has = has })
  started p (Some seat) None seats has = inl has
  started p (Some seat) (Some other) seats has = by (in_append p (f seat) (f other) (subst (In p) (both seat other) has))
    where
      by : In p (f seat) ⊎ In p (f other) → Starts p (Some seat) ⊎ OneHas p (Some other ∷ seats)
      by (inl one) = inl one
      by (inr two) = inr (record { w = 0; seat = other; within = omega arith; at = refl; has = two })

  one_has : (p : ℕ × ℕ) (start : Option Holder) (all : Holder) (seats : List (Option Holder)) → joined_from start seats ≡ Some all → In p (f all) → Starts p start ⊎ OneHas p seats
  one_has p None all [] is has = absurd cc
  one_has p (Some seat) all [] is has = inl (subst (λ (h : Holder). In p (f h)) (sym (same_Some seat all is)) has)
  one_has p start all (other ∷ seats) is has = by (one_has p (joined_two start other) all seats is has)
    where
      by : Starts p (joined_two start other) ⊎ OneHas p seats → Starts p start ⊎ OneHas p (other ∷ seats)
      by (inl first) = started p start other seats first
      by (inr later) = inr (further p other seats later)

  pub first_has : (p : ℕ × ℕ) (all : Holder) (seats : List (Option Holder)) → joined_from None seats ≡ Some all → In p (f all) → OneHas p seats
  first_has p all seats is has = by (one_has p None all seats is has)
    where
      by : ⊥ ⊎ OneHas p seats → OneHas p seats
      by (inl none) = absurd none
      by (inr one) = one

-- ---- shares

two_shares : (one other : Option Holder) → share_of (joined_two one other) ≡ share_of one + share_of other
two_shares None other = omega arith
two_shares (Some seat) None = omega arith
two_shares (Some seat) (Some other) = refl

shares_from : (start : Option Holder) (seats : List (Option Holder)) → share_of (joined_from start seats) ≡ share_of start + shares seats
shares_from start [] = omega arith
shares_from start (seat ∷ seats) = let more = shares_from (joined_two start seat) seats in let two = two_shares start seat in omega arith

pub joined_share : (all : Holder) (seats : List (Option Holder)) → joined_from None seats ≡ Some all → all.share ≡ shares seats
joined_share all seats is = let more = shares_from None seats in let same : share_of (joined_from None seats) ≡ all.share = ap share_of is in omega arith

pub shares_same : (before now : List (Option Holder)) → length now ≡ length before → ((w : ℕ) → w < length before → share_of (get_or now w None) ≡ share_of (get_or before w None)) → shares now ≡ shares before
shares_same [] [] many same = refl
shares_same [] (n ∷ now) many same = absurd (omega arith)
shares_same (b ∷ before) [] many same = absurd (omega arith)
shares_same (b ∷ before) (n ∷ now) many same =
    let first : share_of n ≡ share_of b = same 0 (omega arith) in
    let rest : shares now ≡ shares before = shares_same before now (omega arith) (λ w within. same (suc w) (omega arith)) in
    omega arith

-- the seats that are given have the shares that they had
pub shares_given : (seats : List Holder) (now : List (Option Holder)) → length now ≡ length seats → ((w : ℕ) → w < length seats → get_or now w None ≡ slice_get seats w) → shares now ≡ all_shares seats
shares_given [] [] many given = refl
shares_given [] (n ∷ now) many given = absurd (omega arith)
shares_given (s ∷ seats) [] many given = absurd (omega arith)
shares_given (s ∷ seats) (n ∷ now) many given =
    let first : share_of n ≡ s.share = ap share_of (given 0 (omega arith)) in
    let rest : shares now ≡ all_shares seats = shares_given seats now (omega arith) (λ w within. given (suc w) (omega arith)) in
    omega arith

-- ---- there is a seat if there was one

not_none : (seat : Holder) (seats : List (Option Holder)) → joined_from (Some seat) seats ≡ None → ⊥
not_none seat [] is = cc
not_none seat (None ∷ seats) is = not_none seat seats is
not_none seat (Some other ∷ seats) is = not_none (both_of seat other) seats is

pub some_joined : (seats : List (Option Holder)) (seat : Holder) → 0 < length seats → get_or seats 0 None ≡ Some seat → joined_from None seats ≡ None → ⊥
some_joined [] seat some at is = omega arith
some_joined (None ∷ seats) seat some at is = cc
some_joined (Some own ∷ seats) seat some at is = not_none own seats is

-- ---- of one desk

two_desk : (desk : DeskId) (one other : Option Holder) → IsOfDesk desk one → IsOfDesk desk other → IsOfDesk desk (joined_two one other)
two_desk desk None other a b = b
two_desk desk (Some seat) None a b = a
two_desk desk (Some seat) (Some other) a b = a

pub desk_from : (desk : DeskId) (start : Option Holder) (seats : List (Option Holder)) → IsOfDesk desk start → ((w : ℕ) → w < length seats → IsOfDesk desk (get_or seats w None)) → IsOfDesk desk (joined_from start seats)
desk_from desk start [] own all = own
desk_from desk start (seat ∷ seats) own all =
    desk_from desk (joined_two start seat) seats (two_desk desk start seat own (all 0 (omega arith))) (λ w within. all (suc w) (omega arith))
