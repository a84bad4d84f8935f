-- Chains of certificates that were opened under a world: what is known of them by what their verifier confirmed.
use Rattle.std.specs.Prelude.{◌≡◌, ⊤, ℕ, nat_lt, Bool, true, false, List, [], ◌∷◌, length, map, Option, Some, None}
use Rattle.std.specs.Prelude.{if◌then◌else◌}
use Rattle.x509_profile.specs.View.{CertView}
use Rattle.cert_store.specs.Asking.{is_failed}
use Rattle.cert_store.specs.Judged.{judged_of}
use Rattle.cert_store.specs.Rules.{QuestionView, Says}
use Rattle.call_judging.specs.AlwaysYes.{always_yes}
use Rattle.call_judging.specs.CallQuestions.{chain_questions}
use Rattle.open_calls.specs.Confirmed.{confirmed, says_by}
use Rattle.verify_rules.specs.States.{State, have, no_chain, long, unread}
use Rattle.open_calls.specs.Worlds.{WorldView}

-- its bytes, and what is known of it
pub record ChainView : Type 0 where
  pub bytes : List ℕ
  pub state : State

-- what the rules on a chain say of its bytes, by a provider; a chain has at most 49,152 bytes (this project's own rule)
abbrev pub state_by : WorldView → Says → List ℕ → State
state_by world says bytes = if nat_lt 49152 (length bytes) then long
    else have (judged_of world.anchors world.table says bytes)

-- what its verifier is asked of it; it depends on no answer
abbrev pub chain_asked : WorldView → List ℕ → List QuestionView
chain_asked world bytes = chain_questions (state_by world always_yes bytes)

-- what is known of it if these of its questions were confirmed
abbrev pub state_given : WorldView → List ℕ → List ℕ → State
state_given world bytes good = state_by world (says_by (confirmed (chain_asked world bytes) good)) bytes

-- The chain has these bytes. It was opened under this world, and these of its questions were confirmed.
pub record IsChainOf (world : WorldView) (bytes good : List ℕ) (chain : ChainView) : Type 0 where
  pub bytes_are : chain.bytes ≡ bytes
  pub state_is : chain.state ≡ state_given world bytes good

-- the same chain with these of its questions confirmed
abbrev pub with_confirmed : WorldView → ChainView → List ℕ → ChainView
with_confirmed world chain good = record {
  bytes = chain.bytes;
  state = state_by world (says_by (confirmed (chain_questions chain.state) good)) chain.bytes;
}

-- ---- what is known of it

-- it was judged or is too long, and no question failed
abbrev pub is_known : State → Bool
is_known (have judged) = if is_failed judged.asked then false else true
is_known no_chain = true
is_known long = true
is_known unread = false

-- there are certificates of it if it was judged
abbrev pub certificates_of : State → List CertView
certificates_of (have judged) = judged.certificates
certificates_of no_chain = []
certificates_of long = []
certificates_of unread = []

-- ---- the chains of a call

-- what is known of the chain of a PASSporT; if none was given, there is none
abbrev pub state_or_none : Option ChainView → State
state_or_none None = no_chain
state_or_none (Some chain) = chain.state

abbrev pub states_of : List (Option ChainView) → List State
states_of chains = map state_or_none chains

-- a chain that was given for a PASSporT: its bytes, and which of its questions were confirmed
pub record GivenChain : Type 0 where
  pub bytes : List ℕ
  pub good : List ℕ

-- for each of them there is none, or the chain of these bytes, opened under this world
abbrev pub AreGiven : WorldView → List (Option GivenChain) → List (Option ChainView) → Type 0
AreGiven world [] [] = ⊤
AreGiven world [] (chain ∷ chains) = ⊥
AreGiven world (one ∷ given) [] = ⊥
AreGiven world (None ∷ given) (None ∷ chains) = AreGiven world given chains
AreGiven world (None ∷ given) (Some chain ∷ chains) = ⊥
AreGiven world (Some one ∷ given) (None ∷ chains) = ⊥
AreGiven world (Some one ∷ given) (Some chain ∷ chains) =
    IsChainOf world one.bytes one.good chain × AreGiven world given chains
