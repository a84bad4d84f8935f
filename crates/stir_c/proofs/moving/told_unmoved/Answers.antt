-- Memory ran out, and so it is told.
use Rattle.open_calls.specs.declared.unsigned.Unread.TheVariants as unread
use Rattle.open_calls.specs.declared.unmoved.Unmoved.TheVariants as unmoved
use Rattle.stir_c.proofs.RetargetLaws.{told_unmoved}
use Rattle.stir_c.proofs.moving.told_unmoved.Goals as goal

pub returns-in-Err : goal.returns-in-Err
returns-in-Err c = told_unmoved _ (unmoved.Input unread.Memory) c.no_memory.result c.no_memory.ensures tt
