-- How a claim goes on from step to step, in the words of the seat's holder: the exact reading beside `Claimed`.
use Rattle.std.specs.Prelude.{◌≡◌, ◌≢◌, ℕ, ◌+◌, ◌*◌, ◌<◌, ◌≤◌, List, [], ◌∷◌, length}
use Rattle.live_desk.specs.Lists.{In}
use Rattle.live_desk.specs.Rule.{turn}
use Rattle.live_desk.specs.Ticket.{code_at, pieces}
use Rattle.live_desk.specs.Views.{seen_of, set_of}
use Rattle.live_desk.specs.Trail.{FullAt, Has, Trail}
use Rattle.live_desk.specs.Holder.{Holder, gained}
use Rattle.live_desk.specs.declared.view.SetWord.{SetWord}
use Rattle.live_desk.specs.declared.view.SeenWord.{SeenWord}
use Rattle.live_desk.specs.declared.claim.LiveClaim.{LiveClaim}
use Rattle.live_desk.specs.declared.claim.LiveClaim.TheVariants.{Won, Lost, Full as FullLevel}
use Rattle.live_desk.specs.declared.claiming.Place.{Place}
use Rattle.live_desk.specs.declared.claiming.Place.TheVariants.{Set, Found, Full}

-- A ticket's code may be set at a slot: the seat has the ticket's codes of all levels before, and each slot at which
-- the search looks before has another code
pub record Ready (size : ℕ) (ticket : List ℕ) (level slot code : ℕ) (h : Holder) : Type 0 where
  pub parent : ℕ
  pub tries : ℕ
  pub is_code : code ≡ code_at parent ticket level
  pub trail : Trail h.sets h.seen (pieces ticket) level parent
  pub few : tries < size
  pub here : slot ≡ turn size code tries
  pub searched : (before : ℕ) → before < tries
      → (word : ℕ) × Has h.sets h.seen level (turn size code before) word × (word ≢ code)

-- the word found was 0 and is the code now, or it joined what was seen
pub record Exchanged (level slot code : ℕ) (ticket : List ℕ) (before after : Holder) (found : ℕ) : Type 0 where
  pub won : found ≡ 0 → after ≡ gained (set_of level slot code ticket ∷ []) [] [] before
  pub lost : found ≢ 0 → after ≡ gained [] (seen_of level slot found ∷ []) [] before

-- the seat has the codes of all levels before this one, and this is the ticket's code here
pub record Begins (ticket : List ℕ) (level code : ℕ) (h : Holder) : Type 0 where
  pub parent : ℕ
  pub is_code : code ≡ code_at parent ticket level
  pub trail : Trail h.sets h.seen (pieces ticket) level parent

-- a search found other codes at so many slots
pub record Passes (size level code tries : ℕ) (before after : Holder) : Type 0 where
  pub seen : List SeenWord
  pub gained : after ≡ gained [] seen [] before
  pub own : (e : SeenWord) → In e seen → (e.level ≡ level) × (e.word ≢ code)
  pub passed : (n : ℕ) → n < tries → (word : ℕ) × In (seen_of level (turn size code n) word) seen × (word ≢ code)
  pub steps : length seen ≡ tries

-- where a search of a claim ended, by what it set and saw
abbrev pub Ended : ℕ → ℕ → ℕ → List ℕ → List SetWord → List SeenWord → Place → Type 0
Ended size level code ticket sets seen (Set slot) =
    (slot < size) × (sets ≡ set_of level slot code ticket ∷ []) × ((e : SeenWord) → In e seen → e.word ≢ code)
Ended size level code ticket sets seen (Found slot) = (slot < size) × (sets ≡ []) × In (seen_of level slot code) seen
Ended size level code ticket sets seen Full =
    (sets ≡ []) × ((slot : ℕ) → slot < size → (word : ℕ) × In (seen_of level slot word) seen × (word ≢ code))

-- a search of a claim at one level
pub record Searched (size level code : ℕ) (ticket : List ℕ) (before after : Holder) (place : Place) : Type 0 where
  pub sets : List SetWord
  pub seen : List SeenWord
  pub gained : after ≡ gained sets seen [] before
  pub own : (e : SeenWord) → In e seen → e.level ≡ level
  pub ended : Ended size level code ticket sets seen place
  pub steps : length sets + length seen ≤ size

-- what a claim set and saw at the levels before this one, with the ticket's slot at the last of them
pub record Descends (size : ℕ) (ticket : List ℕ) (level parent : ℕ) (before after : Holder) : Type 0 where
  pub sets : List SetWord
  pub seen : List SeenWord
  pub gained : after ≡ gained sets seen [] before
  pub own_sets : (e : SetWord) → In e sets → (e.ticket ≡ ticket) × (e.level < level)
  pub own_seen : (e : SeenWord) → In e seen → e.level < level
  pub trail : Trail sets seen (pieces ticket) level parent
  pub within : parent < size
  pub steps : length sets + length seen ≤ level * size

-- what a claim set and saw that ended at a full level
pub record Descended (size : ℕ) (ticket : List ℕ) (before after : Holder) (level : ℕ) : Type 0 where
  pub sets : List SetWord
  pub seen : List SeenWord
  pub gained : after ≡ gained sets seen [] before
  pub own_sets : (e : SetWord) → In e sets → (e.ticket ≡ ticket) × (e.level < level)
  pub own_seen : (e : SeenWord) → In e seen → e.level ≤ level
  pub full : FullAt size ticket sets seen level
  pub steps : length sets + length seen ≤ (level + 1) * size

-- how a claim ended, by what it set and saw
abbrev pub ClaimEnded : ℕ → List ℕ → List SetWord → List SeenWord → LiveClaim → Type 0
ClaimEnded size ticket sets seen Won = (parent slot : ℕ) × Trail sets seen (pieces ticket) 5 parent
    × In (set_of 5 slot (code_at parent ticket 5) ticket) sets
    × ((e : SeenWord) → In e seen → e.level ≡ 5 → e.word ≢ code_at parent ticket 5)
ClaimEnded size ticket sets seen Lost = (parent slot : ℕ) × Trail sets seen (pieces ticket) 5 parent
    × In (seen_of 5 slot (code_at parent ticket 5)) seen × ((e : SetWord) → In e sets → e.level < 5)
ClaimEnded size ticket sets seen (FullLevel n) = (level : ℕ) × (n ≡ level + 1) × (level < 6) × FullAt size ticket sets
    seen level × ((e : SetWord) → In e sets → e.level < level) × ((e : SeenWord) → In e seen → e.level ≤ level)

-- a claim, by cases
pub record ClaimedExactly (size : ℕ) (ticket : List ℕ) (before after : Holder) (answer : LiveClaim) : Type 0 where
  pub sets : List SetWord
  pub seen : List SeenWord
  pub gained : after ≡ gained sets seen [] before
  pub own : (e : SetWord) → In e sets → e.ticket ≡ ticket
  pub ended : ClaimEnded size ticket sets seen answer
  pub steps : length sets + length seen ≤ 6 * size
