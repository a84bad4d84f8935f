-- The next hop of a call that goes on: who judges there, in which world and at which moment.
use Rattle.std.specs.Prelude.{◌≡◌, ℕ, List, None, Some}
use Rattle.cert_store.specs.Rules.{Says}
use Rattle.verify_rules.specs.Call.{Reading, call_of, in_call_order}
use Rattle.verify_rules.specs.More.{AreInDate, HasGoodChain}
use Rattle.verify_rules.specs.Rules.{Holds, rule_9}
use Rattle.verify_rules.specs.Screened.{last_of}
use Rattle.verify_rules.specs.States.{State}
use Rattle.verify_rules.specs.World.{AreRight, First, World}
use Rattle.verify_rules.specs.declared.settings.Settings.{Settings}
use Rattle.auth_service.specs.Order.{HolderView}
use Rattle.retarget.specs.Hop.{HopView}

pub record IsNextHop (out : List ℕ) (hop : HopView) (holder : HolderView) (says : Says) (readings : List Reading)
    (states : List State) (settings : Settings) (world : World) (later : ℕ) : Type 0 where
  -- the world numbers so, has this code table and this provider, and in it the chains of the call are those that were
  -- handed in
  pub numbering : settings.local ≡ hop.local
  pub grants : world.table ≡ holder.table
  pub answers : world.says ≡ says
  pub chains : AreRight world readings states
  -- rules 9 and 13 hold there for each PASSporT
  pub fresh : Holds rule_9 (call_of settings later out)
  pub dates : AreInDate world (call_of settings later out)
  -- the new PASSporT has a good chain, whose leaf has the holder's list and whose key signed it
  pub link : Reading
  pub last : last_of (in_call_order (call_of settings later out)) ≡ Some link
  pub good : HasGoodChain world later link holder.entries

-- what goes on breaks none of the rules of the call and the chains there
abbrev pub BreaksNone : List ℕ → HopView → HolderView → Says → List Reading → List State → Type 0
BreaksNone out hop holder says readings states = (settings : Settings) (world : World) (later : ℕ)
    → IsNextHop out hop holder says readings states settings world later
    → First world (call_of settings later out) ≡ None
