-- What sets and words that were found say of a ticket: where its codes are, and that a level is full (this project's
-- own rule). Levels and slots are counted from 0.
use Rattle.std.specs.Prelude.{◌≡◌, ◌≢◌, ℕ, zero, suc, ◌<◌, ◌⊎◌, List, [], slice_index}
use Rattle.live_desk.specs.Lists.{In}
use Rattle.live_desk.specs.Rule.{code_of, turn}
use Rattle.live_desk.specs.Ticket.{code_at, pieces}
use Rattle.live_desk.specs.Views.{blank_of, seen_of, set_of}
use Rattle.live_desk.specs.declared.view.SetWord.{SetWord}
use Rattle.live_desk.specs.declared.view.SeenWord.{SeenWord}
use Rattle.live_desk.specs.declared.view.Blank.{Blank}

-- this word was set or found
abbrev pub Has : List SetWord → List SeenWord → ℕ → ℕ → ℕ → Type 0
Has sets seen level slot word =
    ((ticket : List ℕ) × In (set_of level slot word ticket) sets) ⊎ In (seen_of level slot word) seen

-- The codes of these pieces were set or found at each level before this one, each under the slot of the one before.
-- `parent` is the last of these slots
abbrev pub Trail : List SetWord → List SeenWord → List ℕ → ℕ → ℕ → Type 0
Trail sets seen ps zero parent = parent ≡ 0
Trail sets seen ps (suc level) parent =
    (above : ℕ) × Trail sets seen ps level above × Has sets seen level parent (code_of above (slice_index ps level))

-- the ticket's word at the last level was set, under its codes at the levels before
pub record SetLast (ticket : List ℕ) (sets : List SetWord) (seen : List SeenWord) : Type 0 where
  pub parent : ℕ
  pub slot : ℕ
  pub trail : Trail sets seen (pieces ticket) 5 parent
  pub set : In (set_of 5 slot (code_at parent ticket 5) ticket) sets

-- the ticket's code was found at the last level, under its codes at the levels before
pub record FoundLast (ticket : List ℕ) (sets : List SetWord) (seen : List SeenWord) : Type 0 where
  pub parent : ℕ
  pub slot : ℕ
  pub trail : Trail sets seen (pieces ticket) 5 parent
  pub found : In (seen_of 5 slot (code_at parent ticket 5)) seen

-- each slot of the level was found with a nonzero word other than the ticket's code there
pub record FullAt (size : ℕ) (ticket : List ℕ) (sets : List SetWord) (seen : List SeenWord) (level : ℕ) : Type 0 where
  pub parent : ℕ
  pub trail : Trail sets seen (pieces ticket) level parent
  pub each : (slot : ℕ) → slot < size
      → (word : ℕ) × In (seen_of level slot word) seen × (word ≢ code_at parent ticket level)

-- at this level a word of the search for the ticket's code was 0 at its load, and those before it were other codes
pub record BlankAt (size : ℕ) (ticket : List ℕ) (seen : List SeenWord) (blanks : List Blank) (level : ℕ) : Type 0 where
  pub parent : ℕ
  pub trail : Trail [] seen (pieces ticket) level parent
  pub tries : ℕ
  pub few : tries < size
  pub blank : In (blank_of level (turn size (code_at parent ticket level) tries)) blanks
  pub searched : (n : ℕ) → n < tries → (word : ℕ)
      × In (seen_of level (turn size (code_at parent ticket level) n) word) seen × (word ≢ code_at parent ticket level)
