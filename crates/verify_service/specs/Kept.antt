-- The chains that a round keeps for itself, beside those that the cache holds.
use denote.Ref.{Bor}
use Rattle.std.specs.Prelude.{◌≡◌, ℕ, Bool, List, map, Vec, true, false, Option, Some, None, if◌then◌else◌}
use Rattle.std.specs.Map.{lookup}
use Rattle.std.specs.Option.{option_map}
use Rattle.std.specs.Str.{bytes_eq}
use Rattle.std.specs.Vec.{vec_items}
use Rattle.cert_store.specs.Asking.{is_failed}
use Rattle.cert_store.specs.Holding.{Chains, Holding, chain_of, put_in}
use Rattle.cert_store.specs.Judged.{JudgedView}
use Rattle.verify_rules.specs.Call.{Reading}
use Rattle.verify_rules.specs.States.{State, have, long, no_chain, unread}
use Rattle.call_judging.specs.Chains.{state_of}
use Rattle.call_judging.specs.declared.chains.ChainStatus.{ChainStatus}

-- what is known for which x5u
abbrev pub Kept : Type 0
Kept = List (List ℕ × State)

abbrev pub kept_in : {Y : Type 0} → List (Vec ℕ Y × ChainStatus) → Kept
kept_in entries = map (λ entry. (vec_items entry.0, state_of entry.1)) entries

abbrev pub kept_state : List ℕ → Kept → Option State
kept_state x5u kept = lookup (bytes_eq x5u) kept

-- what was looked up is what is kept
abbrev pub IsKeptState : Option (Bor ChainStatus) → Option State → Type 0
IsKeptState found kept = option_map (λ one. state_of one.now) found ≡ kept

-- this is known of the chain of this x5u, and of the others what was
abbrev pub Keeps : List ℕ → State → Kept → Kept → Type 0
Keeps x5u state kept now = (other : List ℕ)
    → kept_state other now ≡ (if bytes_eq x5u other then Some state else kept_state other kept)

-- ---- what a call takes from both

-- what is kept, and else what is held
abbrev pub state_by : Option State → Option JudgedView → State
state_by (Some state) held = state
state_by None (Some judged) = have judged
state_by None None = no_chain

abbrev pub state_for : Kept → Chains → List ℕ → State
state_for kept held x5u = state_by (kept_state x5u kept) (chain_of x5u held)

abbrev pub state_at : Kept → Chains → Reading → State
state_at kept held one = state_for kept held one.passport.x5u

-- for each of these PASSporTs
abbrev pub states_for : Kept → Chains → List Reading → List State
states_for kept held readings = map (state_at kept held) readings

-- ---- one chain more

-- the round keeps it
pub record KeepsChain (x5u : List ℕ) (state : State) (held now : Holding) (kept kept_now : Kept) : Type 0 where
  pub keeps : Keeps x5u state kept kept_now
  pub same : now ≡ held

-- the cache holds it from then on
pub record HoldsChain (x5u : List ℕ) (judged : JudgedView) (held now : Holding) (kept kept_now : Kept) : Type 0 where
  pub holds : now ≡ record held { entries = put_in x5u judged held }
  pub same : kept_now ≡ kept

-- by whether a question of it failed
abbrev pub StoresJudged : Bool → List ℕ → JudgedView → Holding → Holding → Kept → Kept → Type 0
StoresJudged true x5u judged held now kept kept_now = KeepsChain x5u (have judged) held now kept kept_now
StoresJudged false x5u judged held now kept kept_now = HoldsChain x5u judged held now kept kept_now

-- the cache holds a chain of which each question was answered, and the round keeps any other
abbrev pub StoresChain : List ℕ → State → Holding → Holding → Kept → Kept → Type 0
StoresChain x5u (have judged) held now kept kept_now =
    StoresJudged (is_failed judged.asked) x5u judged held now kept kept_now
StoresChain x5u no_chain held now kept kept_now = KeepsChain x5u no_chain held now kept kept_now
StoresChain x5u long held now kept kept_now = KeepsChain x5u long held now kept kept_now
StoresChain x5u unread held now kept kept_now = KeepsChain x5u unread held now kept kept_now
