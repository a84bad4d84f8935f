-- What the handles are open on, by the bytes that were handed in when they were opened.
use Rattle.std.specs.Prelude.{ℕ, List, Option, IsSomeAnd, slice_set}
use Rattle.std.specs.Option.{option_and_then}
use Rattle.open_calls.specs.OpenChains.{ChainView, IsChainOf, with_confirmed}
use Rattle.open_calls.specs.Worlds.{GivenWorld, IsWorldOf, WorldView}
use Rattle.stir_c.specs.Holding.{HeldCallView, HeldChainView}
use Rattle.stir_c.specs.Owned.{owned_call, owned_chain, owned_world}
use Rattle.stir_c.specs.declared.handles.CallHandle.{CallHandle}
use Rattle.stir_c.specs.declared.handles.ChainHandle.{ChainHandle}
use Rattle.stir_c.specs.declared.handles.WorldHandle.{WorldHandle}

-- ---- what a handle holds; a closed one holds nothing

abbrev pub world_held : WorldHandle → Option WorldView
world_held h = option_and_then owned_world h.handle.slot.held

abbrev pub chain_held : ChainHandle → Option HeldChainView
chain_held h = option_and_then owned_chain h.handle.slot.held

abbrev pub call_held : CallHandle → Option HeldCallView
call_held h = option_and_then owned_call h.handle.slot.held

-- ---- what it is open on

-- the world that these settings, trust anchors and lines of a code table are
abbrev pub IsWorldOn : GivenWorld → WorldHandle → Type 0
IsWorldOn given h = IsSomeAnd (world_held h) (IsWorldOf given)

-- a chain of these bytes, opened under such a world, of whose questions these were confirmed
pub record IsChainUnder (given : GivenWorld) (bytes good : List ℕ) (held : HeldChainView) : Type 0 where
  pub under : IsWorldOf given held.world
  pub chain_is : IsChainOf held.world bytes good held.chain

abbrev pub IsChainOn : GivenWorld → List ℕ → List ℕ → ChainHandle → Type 0
IsChainOn given bytes good h = IsSomeAnd (chain_held h) (IsChainUnder given bytes good)

-- ---- what changes

-- the same chain, of whose questions these were confirmed
abbrev pub confirmed_with : List ℕ → HeldChainView → HeldChainView
confirmed_with good held = record { world = held.world; chain = with_confirmed held.world held.chain good }

-- the chain alone
abbrev pub chain_in : HeldChainView → ChainView
chain_in held = held.chain

-- the same call, with this chain for the PASSporT of this index
abbrev pub with_chain : ℕ → Option ChainView → HeldCallView → HeldCallView
with_chain index chain held =
    record { world = held.world; call = held.call; chains = slice_set held.chains index chain }
