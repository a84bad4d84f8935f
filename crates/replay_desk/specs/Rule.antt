-- The rule of a desk, between any two steps (this project's own rule). A desk has a word for each class. A seat's view
-- has its wins and its losses, and its share of the desk.
use Rattle.std.specs.Prelude.{◌≡◌, ℕ, ◌+◌, ◌<◌, List, [], length, slice_index}
use mathlib.Core.Option.{some}
use lib.ListN.{get_elem?}
use Rattle.atomic_table.specs.Table.{State}
use Rattle.live_desk.specs.Lists.{In, count, setters, total, whole}
use Rattle.replay_desk.specs.Pairs.{of_class}
use Rattle.replay_desk.specs.declared.view.View.{View}

-- each pair has the present word of its class: the word is the pair's call plus 1
abbrev pub Stand : List ℕ → List (ℕ × ℕ) → Type 0
Stand words pairs = (p : ℕ × ℕ) → In p pairs → slice_index words p.0 ≡ p.1 + 1

-- A view without a share is that of a seat that was joined away, and has nothing
pub record Holds {S : Type 0} (classes : ℕ) (s : State S View) : Type 0 where
  -- there is a word for each class
  pub words : length s.words ≡ classes
  -- each word is 0 or a call number plus 1
  pub numbers : (class : ℕ) → slice_index s.words class < 4294967296
  -- each win equals the present word
  pub wins : (id : ℕ) (v : View) → get_elem? s.views id ≡ some v → Stand s.words v.wins
  -- each loss equals the present word
  pub losses : (id : ℕ) (v : View) → get_elem? s.views id ≡ some v → Stand s.words v.losses
  -- a nonzero word is in the wins of exactly one view, once
  pub one_winner : (class : ℕ)
      → total (λ (v : View). count (of_class class) v.wins) s.views ≡ setters (slice_index s.words class)
  -- shares add up to 1
  pub shares : total (λ (v : View). v.share) s.views ≡ whole
  -- what has no share has no wins and no losses
  pub spent : (id : ℕ) (v : View) → get_elem? s.views id ≡ some v → v.share ≡ 0 → (v.wins ≡ []) × (v.losses ≡ [])
