-- What a service is told, and what it holds.
use Rattle.std.specs.Prelude.{◌≡◌, ⊤, ℕ, ◌-◌, ◌<◌, ◌≤◌, nat_lt, nat_le, Bool, true, ◌&&◌, List, [], ◌∷◌, length, Option}
use Rattle.std.specs.Prelude.{Some, None}
use Rattle.std.specs.List.{slice_get}
use Rattle.call_log.specs.Entry.{Entry}
use Rattle.text_grammar.specs.Moment.{last_second}
use Rattle.cert_store.specs.Files.{Files}
use Rattle.cert_store.specs.Holding.{Holding}
use Rattle.cert_store.specs.Rules.{Says}
use Rattle.cert_store.specs.Using.{names}
use Rattle.delegation.specs.Coverage.{Table}
use Rattle.replay_desk.specs.Past.{PastView, found}
use Rattle.replay_law.specs.Held.{Held, Same, purged}
use Rattle.state_text.specs.State.{IsKept}
use Rattle.state_text.specs.declared.kept.Kept.{Kept as Passing}
use Rattle.stir_outside.specs.Files.{Files as ShelfFiles}
use Rattle.verify_rules.specs.World.{World}
use Rattle.verify_rules.specs.declared.settings.Settings.{Settings}
use Rattle.verify_service.specs.Judging.{EachJudged}
use Rattle.verify_service.specs.Needed.{named, round_texts}
use Rattle.verify_service.specs.RightChains.{AreRightHeld}
use Rattle.cert_store.specs.declared.world.World.{World as Materials}
use Rattle.verify_service.specs.declared.outcome.Outcome.{Outcome}
use Rattle.x509_profile.specs.View.{CertView}

pub record ServiceView : Type 0 where
  pub settings : Settings
  -- which file has the certificates of which x5u, the trust anchors, and which numbers a code stands for
  pub chains : Files
  pub anchors : List CertView
  pub table : Table
  -- the calls that passed, by ticket
  pub past : PastView
  -- the judged chains that are held, by x5u
  pub held : Holding
  -- of the last call that was handed in; 0 before the first
  pub number : ℕ
  pub moment : ℕ
  -- whether a round may be its newest: one was prepared since the state was taken
  pub begun : Bool

-- each that is kept is of a call up to this number, and fresh until a day after the year 9999 at most
abbrev pub EachKept : ℕ → PastView → Type 0
EachKept number past = (ticket : List ℕ) (kept : Passing) → found past ticket ≡ Some kept → IsKept number kept

-- what holds of every service: it may hold 4,096 chains, its last call came by the end of the year 9999, and what it
-- keeps is of the calls so far
pub record IsSound (capacity number moment : ℕ) (past : PastView) : Type 0 where
  pub capacity_is : capacity ≡ 4096
  pub moment_within : moment ≤ 253402300799
  pub each_kept : EachKept number past

-- the world of a service with the files of a shelf and what a provider says
abbrev pub world_of : ServiceView → ShelfFiles → Says → World
world_of service files says =
    record { chains = service.chains; files = files; anchors = service.anchors; table = service.table; says = says }

-- what a service judges by, but for the provider
abbrev pub materials_of : ServiceView → Materials
materials_of service = record { chains = service.chains; anchors = service.anchors; table = service.table }

-- Each chain that is held is what the rules say of it, over the files that a shelf tells, as far as its questions were
-- answered.
abbrev pub HoldsRight : Option ShelfFiles → Says → ServiceView → Type 0
HoldsRight told says service = AreRightHeld told (materials_of service) says service.held.entries []

-- the x5u texts of the chains that are held, the most recently used first
abbrev pub held_texts : ServiceView → List (List ℕ)
held_texts service = names service.held.entries

-- the x5u texts of a round of these calls: those that they name, for which a file is listed and whose chain isn't held,
-- in the order in which they first appear
abbrev pub texts_in : ServiceView → List Entry → List (List ℕ)
texts_in service entries = round_texts service.chains service.held.entries (named service.settings entries)

-- ---- the calls of a round

-- A call follows on the one before it.
pub record Follows (number moment : ℕ) (entry : Entry) : Type 0 where
  pub above : number < entry.number
  pub below : entry.number < 4294967295
  pub not_before : moment ≤ entry.moment
  pub within : entry.moment ≤ last_second

abbrev pub EachFollows : ℕ → ℕ → List Entry → Type 0
EachFollows number moment [] = ⊤
EachFollows number moment (entry ∷ entries) =
    Follows number moment entry × EachFollows entry.number entry.moment entries

-- They are 1 to 256, their numbers rise and their moments never fall, from the number and the moment of the last that
-- was handed in.
pub record Follow (number moment : ℕ) (entries : List Entry) : Type 0 where
  pub some : 1 ≤ length entries
  pub few : length entries ≤ 256
  pub each : EachFollows number moment entries

-- The same, whatever was handed in before.
pub record AreOfRound (entries : List Entry) : Type 0 where
  pub number : ℕ
  pub moment : ℕ
  pub follow : Follow number moment entries

-- the same as tests
abbrev pub follows_on : ℕ → ℕ → Entry → Bool
follows_on number moment entry = nat_lt number entry.number && nat_lt entry.number 4294967295 && nat_le moment entry.moment && nat_le entry.moment last_second

abbrev pub all_follow : ℕ → ℕ → List Entry → Bool
all_follow number moment [] = true
all_follow number moment (entry ∷ entries) =
    follows_on number moment entry && all_follow entry.number entry.moment entries

abbrev pub number_or : ℕ → Option Entry → ℕ
number_or number None = number
number_or number (Some entry) = entry.number

abbrev pub moment_or : ℕ → Option Entry → ℕ
moment_or moment None = moment
moment_or moment (Some entry) = entry.moment

abbrev pub last_entry : List Entry → Option Entry
last_entry entries = slice_get entries (length entries - 1)

-- those of the last call, or these if there is none
abbrev pub last_number : ℕ → List Entry → ℕ
last_number number entries = number_or number (last_entry entries)

abbrev pub last_moment_of : ℕ → List Entry → ℕ
last_moment_of moment entries = moment_or moment (last_entry entries)

-- the moment by which the past is purged
abbrev pub first_moment_of : List Entry → ℕ
first_moment_of [] = 0
first_moment_of (entry ∷ entries) = entry.moment

-- ---- what a round leaves

-- What a service is told stays.
pub record IsSameConfig (service now : ServiceView) : Type 0 where
  pub settings : now.settings ≡ service.settings
  pub chains : now.chains ≡ service.chains
  pub anchors : now.anchors ≡ service.anchors
  pub table : now.table ≡ service.table

-- each outcome is what the rules say of its call, if the shelf tells its files
abbrev pub AreJudged : Option ShelfFiles → ServiceView → Says → List Entry → List Outcome → Type 0
AreJudged None service says entries outcomes = ⊤
AreJudged (Some files) service says entries outcomes =
    EachJudged service.settings (world_of service files says) entries outcomes

-- the past is only purged
abbrev pub IsPurged : List Entry → Held → Held → Type 0
IsPurged entries past next = Same (purged (first_moment_of entries) past) next

-- A service that was told this, and has judged no call.
pub record IsNew (settings : Settings) (materials : Materials) (service : ServiceView) : Type 0 where
  pub settings_are : service.settings ≡ settings
  pub chains : service.chains ≡ materials.chains
  pub anchors : service.anchors ≡ materials.anchors
  pub table : service.table ≡ materials.table
  pub past : (ticket : List ℕ) → found service.past ticket ≡ None
  pub held : service.held.entries ≡ []
  pub capacity : service.held.capacity ≡ 4096
  pub number : service.number ≡ 0
  pub moment : service.moment ≡ 0
