-- No line is full if there is room for all tickets.
use Rattle.once_run.proofs.RoomLaws.{room_for_all}
use Rattle.once_run.proofs.laws.room_law.Goals as goal

pub returns : goal.returns
returns c = room_for_all
