-- What the steps of a desk do to a seat's view, and what a seat knows after each (this project's own rule).
use Rattle.std.specs.Prelude.{◌≡◌, ℕ, ◌+◌, ◌-◌, ◌/◌, ◌<◌, ◌≤◌, ◌⊎◌, List, [], ◌∷◌, ◌++◌}
use Rattle.atomic_table.specs.Table.{Me, Step}
use Rattle.live_desk.specs.Lists.{In, count, whole}
use Rattle.replay_desk.specs.Pairs.{of_class}
use Rattle.replay_desk.specs.declared.view.View.{View}

-- the view of the first seat
abbrev pub first_view : View
first_view = record { wins = []; losses = []; share = whole }

-- what a split leaves of a view
abbrev pub left_part : View → View
left_part v = record { wins = v.wins; losses = v.losses; share = v.share - v.share / 2 }

-- what a split gives to the new seat
abbrev pub right_part : View → View
right_part v = record { wins = []; losses = []; share = v.share / 2 }

-- two views as one
abbrev pub both : View → View → View
both v w = record { wins = v.wins ++ w.wins; losses = v.losses ++ w.losses; share = v.share + w.share }

-- what is left of a seat that was joined away
abbrev pub spent_view : View
spent_view = record { wins = []; losses = []; share = 0 }

-- the view with a win more
abbrev pub with_win : ℕ × ℕ → View → View
with_win p v = record { wins = p ∷ v.wins; losses = v.losses; share = v.share }

-- the view with a loss more
abbrev pub with_loss : ℕ × ℕ → View → View
with_loss p v = record { wins = v.wins; losses = p ∷ v.losses; share = v.share }

-- What a seat knows of its wins, its losses and its share at every moment
pub record Known (wins losses : List (ℕ × ℕ)) (share : ℕ) : Type 0 where
  -- no class was won twice
  pub once : (class : ℕ) → count (of_class class) wins ≤ 1
  -- of one class, all wins and losses name one call
  pub agree : (class one other : ℕ) → In (class, one) wins ⊎ In (class, one) losses
      → In (class, other) wins ⊎ In (class, other) losses → one ≡ other
  -- a seat of share 1 has all wins, so each of its losses names one of them
  pub named : share ≡ whole → (p : ℕ × ℕ) → In p losses → In p wins
  -- the share is above 0
  pub above : 0 < share
  -- the share is at most 1
  pub within : share ≤ whole

-- a look changes nothing
pub record Looks {S : Type 0} (s : Step S) (before : Me S View) (found : ℕ) (after : Me S View) : Type 0 where
  pub same : after ≡ before
  pub known : Known after.0.wins after.0.losses after.0.share

-- A claim of the class s.word, which writes s.second if it finds 0. The word found is that of the class at this step
pub record Claims {S : Type 0} (s : Step S) (before : Me S View) (found : ℕ) (after : Me S View) : Type 0 where
  pub number : found < 4294967296
  pub won : found ≡ 0 → after.0 ≡ with_win (s.word, s.second - 1) before.0
  pub lost : 0 < found → after.0 ≡ with_loss (s.word, found - 1) before.0
  pub slots : after.1 ≡ before.1
  pub known : Known after.0.wins after.0.losses after.0.share
