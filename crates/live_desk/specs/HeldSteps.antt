-- How a look for a ticket goes on from step to step, in the words of the seat's holder: the exact reading beside
-- `Held`.
use Rattle.std.specs.Prelude.{Bool, true, false, ◌⊎◌, ◌≡◌, ◌≢◌, ℕ, ◌+◌, ◌*◌, ◌<◌, ◌≤◌, List, [], ◌∷◌, length}
use Rattle.live_desk.specs.Lists.{In}
use Rattle.live_desk.specs.Rule.{turn}
use Rattle.live_desk.specs.Ticket.{code_at, pieces}
use Rattle.live_desk.specs.Views.{blank_of, seen_of}
use Rattle.live_desk.specs.Trail.{BlankAt, FullAt, Trail}
use Rattle.live_desk.specs.Holder.{Holder, gained}
use Rattle.live_desk.specs.declared.view.SeenWord.{SeenWord}
use Rattle.live_desk.specs.declared.view.Blank.{Blank}
use Rattle.live_desk.specs.declared.looking.Sight.{Sight}
use Rattle.live_desk.specs.declared.looking.Sight.TheVariants.{Found, Blank as Clear, Missing}

-- the word found was 0, or it joined what was seen
pub record Loaded (level slot : ℕ) (before after : Holder) (found : ℕ) : Type 0 where
  pub blank : found ≡ 0 → after ≡ gained [] [] (blank_of level slot ∷ []) before
  pub taken : found ≢ 0 → after ≡ gained [] (seen_of level slot found ∷ []) [] before

-- where a look at one level ended, by what it saw
abbrev pub LookEnded : ℕ → ℕ → ℕ → List SeenWord → List Blank → Sight → Type 0
LookEnded size level code seen blanks (Found slot) = (slot < size) × (blanks ≡ []) × In (seen_of level slot code) seen
LookEnded size level code seen blanks Clear =
    (tries : ℕ) × (tries < size) × In (blank_of level (turn size code tries)) blanks × ((n : ℕ) → n < tries → (word : ℕ)
    × In (seen_of level (turn size code n) word) seen × (word ≢ code)) × ((e : SeenWord) → In e seen → e.word ≢ code)
LookEnded size level code seen blanks Missing = (slot : ℕ) → slot < size
    → (word : ℕ) × In (seen_of level slot word) seen × (word ≢ code)

-- a look at one level
pub record Looked (size level code : ℕ) (before after : Holder) (sight : Sight) : Type 0 where
  pub seen : List SeenWord
  pub blanks : List Blank
  pub gained : after ≡ gained [] seen blanks before
  pub own : (e : SeenWord) → In e seen → e.level ≡ level
  pub ended : LookEnded size level code seen blanks sight
  pub steps : length seen + length blanks ≤ size

-- what was seen at the levels before this one, with the ticket's slot at the last of them
pub record Follows (size : ℕ) (ticket : List ℕ) (level parent : ℕ) (before after : Holder) : Type 0 where
  pub seen : List SeenWord
  pub gained : after ≡ gained [] seen [] before
  pub own : (e : SeenWord) → In e seen → e.level < level
  pub trail : Trail [] seen (pieces ticket) level parent
  pub within : parent < size
  pub steps : length seen ≤ level * size

-- how a look ended, by what it saw
abbrev pub HeldEnded : ℕ → List ℕ → List SeenWord → List Blank → Bool → Type 0
HeldEnded size ticket seen blanks true = (slot : ℕ) × Trail [] seen (pieces ticket) 6 slot × (blanks ≡ [])
HeldEnded size ticket seen blanks false = (level : ℕ) × (level < 6) × ((e : SeenWord) → In e seen → e.level ≤ level)
    × (((b : BlankAt size ticket seen blanks level) × ((e : SeenWord) → In e seen → e.level ≡ level
    → e.word ≢ code_at b.parent ticket level)) ⊎ FullAt size ticket [] seen level)

-- a look, by cases
pub record HeldExactly (size : ℕ) (ticket : List ℕ) (before after : Holder) (answer : Bool) : Type 0 where
  pub seen : List SeenWord
  pub blanks : List Blank
  pub gained : after ≡ gained [] seen blanks before
  pub ended : HeldEnded size ticket seen blanks answer
  pub steps : length seen + length blanks ≤ 6 * size
