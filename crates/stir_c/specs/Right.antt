-- That a call is judged right.
use Rattle.std.specs.Prelude.{ℕ, List, Option}
use Rattle.verify_rules.specs.World.{World}
use Rattle.open_calls.specs.Founds.{IsFound}
use Rattle.open_calls.specs.OpenCalls.{call_in}
use Rattle.open_calls.specs.OpenChains.{AreGiven, GivenChain}
use Rattle.open_calls.specs.Rightness.{IsWorldFor}
use Rattle.open_calls.specs.declared.found.Found.{Found}
use Rattle.stir_c.specs.Holding.{HeldCallView}
use Rattle.stir_c.specs.Judged.{own_of}
use Rattle.stir_c.specs.Told.{Tells}
use Rattle.stir_c.specs.declared.said.Said.{Said}

-- If these chains were handed in, the world of the rules leads to them, and its provider says what the host said of
-- their questions and of the PASSporTs' own, the call passes or breaks a rule first as is said.
abbrev pub IsRightFor : World → List (Option GivenChain) → HeldCallView → List ℕ → Said → Type 0
IsRightFor rules files held good said = AreGiven held.world files held.chains
    → IsWorldFor rules held.world held.call files (own_of held) good → Tells rules (call_in held.call) said

-- the same of what is found
abbrev pub IsRightFound : World → List (Option GivenChain) → HeldCallView → List ℕ → Found → Type 0
IsRightFound rules files held good found = AreGiven held.world files held.chains
    → IsWorldFor rules held.world held.call files (own_of held) good → IsFound rules (call_in held.call) found
