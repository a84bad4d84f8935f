-- A slot may go to another thread: what it owns names no key of a thread. Assumes nothing.
use Rattle.std.proofs.Common.{Option, None, Some}
use mir.Raw.{raw}
use base.Fraction.{full_share}
use base.Shift.{Keyless}
use denote.Builtin.{RawPtr}
use denote.Exit.{Exit, unchanged, leaves, hidden, under}
use denote.Memory.{lone}
use denote.Param.Send.{IsSend, Quiet, owning_send, part_keyless, sendable, struct_send}
use denote.RawPtr.{Ptr, block_ptr, lies_at, null_ptr}
use denote.Struct.Owning.{fields, shape, to}
use denote.Struct.Struct.{exits_of}
use Rattle.std.proofs.Crossing.{crosses, frees}
use Rattle.open_calls.specs.contracts.world.OpenWorld as world
use Rattle.std.specs.contracts.alloc.Global as heap
use Rattle.std.specs.contracts.impls.GlobalAllocator.TheImpl.{ghosts}
use Rattle.std.specs.contracts.sync.Arc as arc
use Rattle.std.specs.declared.alloc.Global.{Global}
use Rattle.stir_c.proofs.Sent.{call_send, chain_send, chain_sync, chains_send, world_send, world_sync}
use Rattle.stir_c.specs.Held.{held_owns}
use Rattle.stir_c.specs.contracts.owner.HeldCall as held_call
use Rattle.stir_c.specs.contracts.owner.HeldChain as held_chain
use Rattle.stir_c.specs.contracts.owner.Owner as owner
use Rattle.stir_c.specs.contracts.slot.Slot.{the_row, the_type}
use Rattle.stir_c.specs.declared.owner.Owner.{Owner}

quiet : {D X : Type 0} (to : D → X) (e : Exit X) → Quiet e → Quiet (hidden (under to e))
quiet to unchanged q = λ x w. tt
quiet to (leaves L l S s r₀) q = λ d. q (to d)

held_chain_send : IsSend (held_chain.the_field).row
held_chain_send = search (crosses, world_send, world_sync, chain_send, chain_sync, sendable) depth 60 fits 50000

held_call_send : IsSend (held_call.the_field).row
held_call_send = search (crosses, world_send, world_sync, call_send, chains_send, sendable) depth 60 fits 50000

world_shared : IsSend (arc.the_row world.the_row heap.the_row ghosts)
world_shared = search (crosses, world_send, world_sync, sendable) depth 60 fits 50000

sent : IsSend owner.the_row
sent = search (world_shared, held_chain_send, held_call_send, sendable) depth 60 fits 50000

lies : (p : Ptr) (x : Owner) → Keyless (lies_at owner.the_row full_share p x)
lies (block_ptr b o) x = part_keyless owner.the_row sent full_share x b o
lies null_ptr x = tt

keyless : (a : Global) (p : Ptr) (y : Option Owner) → Keyless (held_owns a p y)
keyless a p None = tt
keyless a p (Some x) = (lies p x, frees.frees a (raw (lone (owner.the_row).mir)) p)

pub send : IsSend the_row
send = let ps : IsSend RawPtr = search sendable in let gs : IsSend (heap.the_field).row = search sendable depth 20 in
    owning_send the_type (ps, (gs, tt)) (λ d. keyless d.alloc d.at d.held) (λ k. quiet (to the_type) (exits_of k (fields the_type)) ((struct_send (shape the_type) (ps, (gs, tt))).leaving k))
