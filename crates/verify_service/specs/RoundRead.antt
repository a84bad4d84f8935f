-- What a round knows of the chains of its texts, and which of them are held or kept from then on.
use Rattle.std.specs.Prelude.{◌≡◌, ⊤, ℕ, suc, ◌+◌, ◌≤◌, ◌%◌, ◌==◌, Bool, true, false, List, [], ◌∷◌, length, filter}
use Rattle.std.specs.Prelude.{take, Option, if◌then◌else◌}
use Rattle.cert_store.specs.Asking.{FailedAt}
use Rattle.cert_store.specs.Holding.{Chains, Holding}
use Rattle.cert_store.specs.Judged.{JudgedView}
use Rattle.cert_store.specs.Rules.{Says}
use Rattle.cert_store.specs.Using.{IsOnce, names}
use Rattle.cert_store.specs.declared.world.World.{World as Materials}
use Rattle.stir_outside.specs.Files.{Counts, Files}
use Rattle.verify_rules.specs.States.{State, have, long, no_chain, unread}
use Rattle.verify_service.specs.Causes.{AreCounted}
use Rattle.call_judging.specs.Chains.{IsRightWhere, is_unasked, is_unread}
use Rattle.call_judging.specs.Fetched.{file_state}
use Rattle.verify_service.specs.Judging.{EachPair}
use Rattle.verify_service.specs.Kept.{Kept, StoresChain}
use Rattle.verify_service.specs.Needed.{all_named, round_texts, touch_all}
use Rattle.call_judging.specs.declared.fetching.Fetched.{Fetched}
use Rattle.verify_service.specs.declared.screening.ReadyCall.{ReadyCall}

-- ---- what is known by files that were fetched

-- of each of these, from this place on, and what was judged there
abbrev pub states_from : ℕ → (ℕ → Option JudgedView) → List Fetched → List State
states_from place judged [] = []
states_from place judged (file ∷ files) = file_state file (judged place) ∷ states_from (suc place) judged files

-- if a question of the chain failed, it is the question of a certificate
abbrev pub FailsAtQuestion : State → Type 0
FailsAtQuestion (have judged) = FailedAt judged.keys judged.asked
FailsAtQuestion no_chain = ⊤
FailsAtQuestion long = ⊤
FailsAtQuestion unread = ⊤

-- what is known of the chain of this text is right, over the files that the shelf tells
pub record IsKnownRight (told : Option Files) (materials : Materials) (says : Says) (x5u : List ℕ)
    (state : State) : Type 0 where
  pub right : IsRightWhere told materials says x5u state
  pub question : FailsAtQuestion state

-- ---- counted

-- a file of these was read, and judged
abbrev pub is_judged : State → Bool
is_judged (have judged) = true
is_judged no_chain = false
is_judged long = false
is_judged unread = false

abbrev pub certificates_of : State → ℕ
certificates_of (have judged) = length judged.certificates
certificates_of no_chain = 0
certificates_of long = 0
certificates_of unread = 0

-- how many certificates their chains have
abbrev pub all_certificates : List State → ℕ
all_certificates [] = 0
all_certificates (state ∷ states) = certificates_of state + all_certificates states

-- those at a worker's places: from the first on that leaves its index as remainder
abbrev pub own_of : {A : Type 0} → ℕ → ℕ → ℕ → List A → List A
own_of index count place [] = []
own_of index count place (x ∷ xs) = if place % count == index then x ∷ own_of index count (suc place) xs
    else own_of index count (suc place) xs

-- ---- chains that are stored in turn

-- the chain of this text is stored, and then the others
pub record StoresFirst (x5u : List ℕ) (state : State) (Others : Holding → Kept → Type 0) (held : Holding)
    (kept : Kept) : Type 0 where
  pub once : IsOnce (names held.entries)
  pub next : Holding
  pub kept_next : Kept
  pub stores : StoresChain x5u state held next kept kept_next
  pub others : Others next kept_next

abbrev pub StoresAll : List (List ℕ) → List State → Holding → Holding → Kept → Kept → Type 0
StoresAll [] [] held now kept kept_now = (now ≡ held) × (kept_now ≡ kept)
StoresAll [] (state ∷ states) held now kept kept_now = ⊥
StoresAll (x5u ∷ texts) [] held now kept kept_now = ⊥
StoresAll (x5u ∷ texts) (state ∷ states) held now kept kept_now =
    StoresFirst x5u state (λ next kept_next. StoresAll texts states next now kept_next kept_now) held kept

-- the first so many of them are stored
pub record StoresSome (texts : List (List ℕ)) (states : List State) (held now : Holding) (kept : Kept) : Type 0 where
  pub count : ℕ
  pub kept_now : Kept
  pub stores : StoresAll (take count texts) (take count states) held now kept kept_now

-- ---- a round

-- the texts of a round: the x5u texts of its calls for which a file is listed and no chain is held, in the order in
-- which they first appear
abbrev pub texts_of : Materials → Chains → List ReadyCall → List (List ℕ)
texts_of materials held calls = round_texts materials.chains held (all_named calls)

-- what is held is used first
abbrev pub used_in : List ReadyCall → Holding → Holding
used_in calls held = record held { entries = touch_all (all_named calls) held.entries }

-- The files of these texts were read, each once, and the chains of those that are there judged; what is known of them
-- is right. At most as many couldn't be read as the shelf's faults rose by. As many files were read as chains judged:
-- no more, and no fewer.
pub record KnowsChains (told : Option Files) (materials : Materials) (says : Says) (texts : List (List ℕ))
    (counts counts_now : Counts) (states : List State) : Type 0 where
  pub right : EachPair (IsKnownRight told materials says) texts states
  pub unread : AreCounted is_unread states counts.faults counts_now.faults
  pub reads : counts_now.reads ≤ counts.reads + length (filter is_judged states)
  pub judged : AreCounted is_judged states counts.reads counts_now.reads

-- A worker asked no more questions than there are certificates in the chains of its texts. At most as many of these
-- chains have a question that failed as its provider's faults rose by.
pub record HasAskedOwn (index count asks asks_now faults faults_now : ℕ) (states : List State) : Type 0 where
  pub asked : asks_now ≤ asks + all_certificates (own_of index count 0 states)
  pub failed : AreCounted is_unasked (own_of index count 0 states) faults faults_now

-- the same, with what is said of each worker
pub record KnownBy (told : Option Files) (materials : Materials) (says : Says) (texts : List (List ℕ))
    (counts counts_now : Counts) (Own : List State → Type 0) (states : List State) : Type 0 where
  pub knows : KnowsChains told materials says texts counts counts_now states
  pub own : Own states

-- a round knows the chains of its texts, and has stored them in turn, after those that were held had been used
pub record RoundReads (told : Option Files) (materials : Materials) (says : Says) (calls : List ReadyCall)
    (counts counts_now : Counts) (Own : List State → Type 0) (held held_now : Holding) (kept : Kept) : Type 0 where
  pub states : List State
  pub known : KnownBy told materials says (texts_of materials held.entries calls) counts counts_now Own states
  pub stores : StoresAll (texts_of materials held.entries calls) states (used_in calls held) held_now [] kept
