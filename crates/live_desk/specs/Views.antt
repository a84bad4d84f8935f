-- The rule of a live desk over its words and the views of its seats, between any two steps (this project's own rule).
-- Levels and slots are counted from 0.
use Rattle.std.specs.Prelude.{◌≡◌, ◌≢◌, ℕ, suc, ◌+◌, ◌*◌, ◌==◌, ◌<◌, Bool, List, [], length, take, slice_index}
use mathlib.Core.Option.{some}
use lib.ListN.{get_elem?}
use Rattle.atomic_table.specs.Table.{State}
use Rattle.live_desk.specs.Lists.{In, count, setters, total, whole}
use Rattle.live_desk.specs.Rule.{Sound, reads, word_at}
use Rattle.live_desk.specs.Ticket.{IsTicket, pieces}
use Rattle.live_desk.specs.declared.view.SetWord.{SetWord}
use Rattle.live_desk.specs.declared.view.SeenWord.{SeenWord}
use Rattle.live_desk.specs.declared.view.Blank.{Blank}
use Rattle.live_desk.specs.declared.view.View.{View}

-- the entry of a word that was set for a ticket
abbrev pub set_of : ℕ → ℕ → ℕ → List ℕ → SetWord
set_of level slot word ticket = record { level = level; slot = slot; word = word; ticket = ticket }

-- the entry of a nonzero word that was found
abbrev pub seen_of : ℕ → ℕ → ℕ → SeenWord
seen_of level slot word = record { level = level; slot = slot; word = word }

-- the entry of a slot whose word a load found 0
abbrev pub blank_of : ℕ → ℕ → Blank
blank_of level slot = record { level = level; slot = slot }

-- the word of the slot is this one, which isn't 0
pub record Stands (size : ℕ) (words : List ℕ) (level slot word : ℕ) : Type 0 where
  pub below : level < 6
  pub within : slot < size
  pub is : word_at size words level slot ≡ word
  pub some : word ≢ 0

-- the word was set for the ticket: it is the word of its slot, and the slot stands for the ticket's pieces up to its
-- level
pub record Marks (size : ℕ) (words : List ℕ) (e : SetWord) : Type 0 where
  pub stands : Stands size words e.level e.slot e.word
  pub reading : reads size words e.level e.slot ≡ take (suc e.level) (pieces e.ticket)
  pub ticket : IsTicket e.ticket

-- each of these sets has its word at its slot, for its ticket
abbrev pub AllMark : ℕ → List ℕ → List SetWord → Type 0
AllMark size words sets = (e : SetWord) → In e sets → Marks size words e

-- each of these words that were found is the word of its slot
abbrev pub AllStand : ℕ → List ℕ → List SeenWord → Type 0
AllStand size words seen = (e : SeenWord) → In e seen → Stands size words e.level e.slot e.word

-- the word was set at this place of the words
abbrev pub at_place : ℕ → ℕ → SetWord → Bool
at_place size place e = e.level * size + e.slot == place

-- The words and the views meet the rule. A seat that was joined away has a view without a share
pub record Holds {S : Type 0} (size : ℕ) (s : State S View) : Type 0 where
  -- there are six levels of words
  pub counts : length s.words ≡ 6 * size
  -- the words alone meet their rule
  pub sound : Sound size s.words
  -- each set equals the present word, and its slot stands for pieces of its ticket
  pub sets : (id : ℕ) (v : View) → get_elem? s.views id ≡ some v → AllMark size s.words v.sets
  -- each word that was found equals the present one
  pub seen : (id : ℕ) (v : View) → get_elem? s.views id ≡ some v → AllStand size s.words v.seen
  -- a nonzero word is in the sets of exactly one view, once, and a 0 in none
  pub one_setter : (place : ℕ)
      → total (λ (v : View). count (at_place size place) v.sets) s.views ≡ setters (slice_index s.words place)
  -- shares add up to 1
  pub shares : total (λ (v : View). v.share) s.views ≡ whole
  -- a view with a share knows the desk's size
  pub sizes : (id : ℕ) (v : View) → get_elem? s.views id ≡ some v → 0 < v.share → v.size ≡ size
  -- and one without a share has no sets, and found no words
  pub spent : (id : ℕ) (v : View) → get_elem? s.views id ≡ some v → v.share ≡ 0 → (v.sets ≡ []) × (v.seen ≡ [])
