-- What a seat knows at every moment (this project's own rule).
use Rattle.std.specs.Prelude.{◌≡◌, ◌≢◌, ℕ, ◌<◌, ◌≤◌, List}
use Rattle.live_desk.specs.Lists.{In, count, whole}
use Rattle.live_desk.specs.Rule.{Sound, word_at}
use Rattle.live_desk.specs.Views.{AllMark, AllStand, at_place, set_of}
use Rattle.live_desk.specs.declared.view.SetWord.{SetWord}
use Rattle.live_desk.specs.declared.view.SeenWord.{SeenWord}

-- There are words that meet the rule, and all that the seat set and saw is in them
pub record Known (size : ℕ) (sets : List SetWord) (seen : List SeenWord) (share : ℕ) : Type 0 where
  pub words : List ℕ
  pub sound : Sound size words
  pub marks : AllMark size words sets
  pub stands : AllStand size words seen
  -- no word was set twice
  pub once : (place : ℕ) → count (at_place size place) sets ≤ 1
  -- a seat of share 1 has set each of them
  pub all : share ≡ whole → (level slot : ℕ) → level < 6 → slot < size → word_at size words level slot ≢ 0
      → (ticket : List ℕ) × In (set_of level slot (word_at size words level slot) ticket) sets
  -- the share is above 0, and at most 1
  pub above : 0 < share
  pub within : share ≤ whole
