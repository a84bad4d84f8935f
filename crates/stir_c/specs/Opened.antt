-- What was opened under what a handle holds.
use Rattle.std.specs.Prelude.{◌≡◌, ℕ, List, [], Option, Some, None, replicate, length}
use Rattle.open_calls.specs.OpenCalls.{CallView, judged_in}
use Rattle.open_calls.specs.OpenChains.{IsChainOf}
use Rattle.open_calls.specs.Worlds.{WorldView}
use Rattle.stir_c.specs.Holding.{HeldCallView, HeldChainView}

-- the chain of these bytes, under this world, with none of its questions confirmed
abbrev pub IsOpenedUnder : Option WorldView → List ℕ → Option HeldChainView → Type 0
IsOpenedUnder None bytes held = ⊥
IsOpenedUnder (Some world) bytes None = ⊥
IsOpenedUnder (Some world) bytes (Some held) = (held.world ≡ world) × IsChainOf world bytes [] held.chain

-- the call of this message, which came at this moment, under the settings of a world
abbrev pub call_under : WorldView → ℕ → List ℕ → CallView
call_under world moment message = record { settings = world.settings; moment = moment; message = message }

-- the same, with no chain for any of its PASSporTs
abbrev pub call_opened : WorldView → ℕ → List ℕ → HeldCallView
call_opened world moment message = record {
  world = world;
  call = call_under world moment message;
  chains = replicate (length (judged_in (call_under world moment message))) None;
}
