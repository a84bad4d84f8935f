-- What handles hold: a world, a chain under its world, or a call with its world and its chains.
use Rattle.std.specs.Prelude.{ℕ, List, Option}
use Rattle.open_calls.specs.OpenCalls.{CallView}
use Rattle.open_calls.specs.OpenChains.{ChainView}
use Rattle.open_calls.specs.Worlds.{WorldView}

-- a chain, and the world under which it was opened
pub record HeldChainView : Type 0 where
  pub world : WorldView
  pub chain : ChainView

-- a call, the world under which it was opened, and for each PASSporT that is judged the chain that was handed in, if
-- one was
pub record HeldCallView : Type 0 where
  pub world : WorldView
  pub call : CallView
  pub chains : List (Option ChainView)
