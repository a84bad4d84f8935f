-- What a slot owns: nothing, or an owner in a box.
use Rattle.std.specs.Prelude.{Option, Some, None}
use base.Fml.{Fml, ftrue}
use denote.RawPtr.{Ptr}
use Rattle.std.specs.Box.Ownership.{box_owns}
use Rattle.std.specs.declared.alloc.Global.{Global}
use Rattle.std.specs.contracts.impls.GlobalAllocator.TheImpl.{ghosts}
use Rattle.stir_c.specs.declared.owner.Owner.{Owner}
use Rattle.stir_c.specs.contracts.owner.Owner.{the_row}

abbrev pub held_owns : Global → Ptr → Option Owner → Fml
held_owns a p None = ftrue
held_owns a p (Some x) = box_owns (ghosts.dealloc_token a) the_row p x
