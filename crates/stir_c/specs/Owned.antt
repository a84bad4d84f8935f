-- What an owner owns.
use Rattle.std.specs.Prelude.{◌≡◌, Bool, true, false, Option, Some, None}
use Rattle.std.specs.Arc.{arc_value}
use Rattle.open_calls.specs.Worlds.{WorldView}
use Rattle.stir_c.specs.Holding.{HeldCallView, HeldChainView}
use Rattle.stir_c.specs.declared.owner.HeldCall.{HeldCall}
use Rattle.stir_c.specs.declared.owner.HeldChain.{HeldChain}
use Rattle.stir_c.specs.declared.owner.Owner.{Owner}
use Rattle.stir_c.specs.declared.owner.Owner.TheVariants as owners

-- ---- of which kind it is

abbrev pub is_world : Owner → Bool
is_world (owners.World world) = true
is_world (owners.Chain chain) = false
is_world (owners.Call call) = false

abbrev pub is_chain : Owner → Bool
is_chain (owners.World world) = false
is_chain (owners.Chain chain) = true
is_chain (owners.Call call) = false

abbrev pub is_call : Owner → Bool
is_call (owners.World world) = false
is_call (owners.Chain chain) = false
is_call (owners.Call call) = true

-- what there is is of this kind
abbrev pub if_any : (Owner → Bool) → Option Owner → Bool
if_any is None = true
if_any is (Some owner) = is owner

-- ---- what it owns

abbrev pub view_of_chain : HeldChain → HeldChainView
view_of_chain held = record { world = arc_value held.world; chain = arc_value held.chain }

abbrev pub view_of_call : HeldCall → HeldCallView
view_of_call held = record { world = arc_value held.world; call = held.call; chains = held.chains }

abbrev pub owned_world : Owner → Option WorldView
owned_world (owners.World world) = Some (arc_value world)
owned_world (owners.Chain chain) = None
owned_world (owners.Call call) = None

abbrev pub owned_chain : Owner → Option HeldChainView
owned_chain (owners.World world) = None
owned_chain (owners.Chain chain) = Some (view_of_chain chain)
owned_chain (owners.Call call) = None

abbrev pub owned_call : Owner → Option HeldCallView
owned_call (owners.World world) = None
owned_call (owners.Chain chain) = None
owned_call (owners.Call call) = Some (view_of_call call)
