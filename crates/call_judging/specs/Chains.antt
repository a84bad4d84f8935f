-- What is known of the chains of a call's PASSporTs, and that it is right if the shelf tells its files.
use Rattle.std.specs.Prelude.{⊤, ℕ, Bool, true, false, List, Option, Some, None}
use Rattle.stir_outside.specs.Files.{Files}
use Rattle.cert_store.specs.Asking.{is_failed}
use Rattle.cert_store.specs.Rules.{Says}
use Rattle.verify_rules.specs.Call.{Reading}
use Rattle.verify_rules.specs.States.{State, have, no_chain, long, unread}
use Rattle.verify_rules.specs.World.{World, AreRight, IsRight}
use Rattle.call_judging.specs.declared.chains.ChainStatus.{ChainStatus}
use Rattle.call_judging.specs.declared.chains.ChainStatus.TheVariants as status
use Rattle.cert_store.specs.declared.world.World.{World as Materials}

abbrev pub state_of : ChainStatus → State
state_of (status.Judged judged) = have judged
state_of status.Missing = no_chain
state_of status.TooLong = long
state_of status.Unread = unread

-- ---- the world

-- what calls are judged by, with the files of a shelf and what a provider says
abbrev pub world_by : Materials → Files → Says → World
world_by materials files says = record {
  chains = materials.chains;
  files = files;
  anchors = materials.anchors;
  table = materials.table;
  says = says;
}

-- ---- what is known is right

-- of the chain of this x5u, over the files that the shelf tells
abbrev pub IsRightWhere : Option Files → Materials → Says → List ℕ → State → Type 0
IsRightWhere None materials says x5u state = ⊤
IsRightWhere (Some files) materials says x5u state = IsRight (world_by materials files says) x5u state

-- of the chain of each of these PASSporTs
abbrev pub AreRightWhere : Option Files → Materials → Says → List Reading → List State → Type 0
AreRightWhere None materials says readings states = ⊤
AreRightWhere (Some files) materials says readings states = AreRight (world_by materials files says) readings states

-- ---- what wasn't answered

abbrev pub is_unread : State → Bool
is_unread (have judged) = false
is_unread no_chain = false
is_unread long = false
is_unread unread = true

-- the provider failed at the signature of a certificate when the chain was judged
abbrev pub is_unasked : State → Bool
is_unasked (have judged) = is_failed judged.asked
is_unasked no_chain = false
is_unasked long = false
is_unasked unread = false
