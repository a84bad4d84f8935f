-- What is told of a chain that is shown.
use Rattle.stir_c.proofs.ShowingLaws.{fault_told, kinds_told, never_refused, room_told, shown_told, was_told}
use Rattle.stir_c.proofs.exports_showing.stir_show.Goals as goal

pub returns-clause-kinds : goal.returns-clause-kinds
returns-clause-kinds c = kinds_told _ _ _ _ c.told_shown.ensures

pub returns-clause-never_refused : goal.returns-clause-never_refused
returns-clause-never_refused c = never_refused _ _ _ _ c.told_shown.ensures

pub returns-clause-shown : goal.returns-clause-shown
returns-clause-shown c = shown_told _ _ _ _ _ c.show.ensures.shown c.told_shown.ensures

pub returns-clause-faulty : goal.returns-clause-faulty
returns-clause-faulty c = fault_told _ _ _ _ _ c.show.ensures.fault c.told_shown.ensures

pub returns-clause-no_room : goal.returns-clause-no_room
returns-clause-no_room c = room_told _ _ _ _ _ c.show.ensures.shown c.told_shown.ensures

pub returns-clause-as_was : goal.returns-clause-as_was
returns-clause-as_was c = was_told _ _ _ _ c.told_shown.ensures
