-- A seat as its holder sees it (this project's own rule).
use Rattle.std.specs.Prelude.{◌≡◌, ℕ, ◌+◌, ◌-◌, ◌/◌, ◌<◌, List, [], ◌∷◌, ◌++◌}
use Rattle.atomic_table.specs.Seated.{TableId}
use Rattle.live_desk.specs.Lists.{whole}
use Rattle.replay_desk.specs.Steps.{Known}
use Rattle.replay_desk.specs.declared.claim.Claim.{Claim}
use Rattle.replay_desk.specs.declared.claim.Claim.TheVariants.{Won, Lost}

-- Which desk it is. No two desks are one, and `words` is the number of classes
abbrev pub DeskId : Type 0
DeskId = TableId

-- the desk of a seat, its wins, its losses and its share
pub record Holder : Type 0 where
  pub desk : DeskId
  pub wins : List (ℕ × ℕ)
  pub losses : List (ℕ × ℕ)
  pub share : ℕ

-- the seat that a new desk comes with
abbrev pub first_of : DeskId → Holder
first_of desk = record { desk = desk; wins = []; losses = []; share = whole }

-- what a split leaves of a seat: its share without the half that was given away
abbrev pub left_of : Holder → Holder
left_of h = record { desk = h.desk; wins = h.wins; losses = h.losses; share = h.share - h.share / 2 }

-- the new seat of a split: half of the share, rounded down, and nothing else
abbrev pub right_of : Holder → Holder
right_of h = record { desk = h.desk; wins = []; losses = []; share = h.share / 2 }

-- the wins, the losses and the share of both
abbrev pub both_of : Holder → Holder → Holder
both_of h other = record {
  desk = h.desk;
  wins = h.wins ++ other.wins;
  losses = h.losses ++ other.losses;
  share = h.share + other.share;
}

-- a win more
abbrev pub gained : ℕ → ℕ → Holder → Holder
gained class call h = record { desk = h.desk; wins = (class, call) ∷ h.wins; losses = h.losses; share = h.share }

-- a loss more, to the winner
abbrev pub lost_to : ℕ → ℕ → Holder → Holder
lost_to class winner h = record { desk = h.desk; wins = h.wins; losses = (class, winner) ∷ h.losses; share = h.share }

-- The claim of a class by a call. `found` is the class's word at the claim's step
pub record Claimed (class call : ℕ) (before after : Holder) (answer : Claim) : Type 0 where
  pub found : ℕ
  -- won if it was 0, and it is the call's number plus 1 from then on
  pub won : found ≡ 0 → (answer ≡ Won) × (after ≡ gained class call before)
  -- else lost, to the call whose number plus 1 it is
  pub lost : 0 < found → (answer ≡ Lost (found - 1)) × (after ≡ lost_to class (found - 1) before)
  -- in both cases the seat stays one of its desk, with its share
  pub desk : after.desk ≡ before.desk
  pub share : after.share ≡ before.share

-- what holds of each seat at every moment
abbrev pub Settled : Holder → Type 0
Settled h = Known h.wins h.losses h.share
