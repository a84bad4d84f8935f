use Rattle.std.proofs.Common.{take, None}
use Rattle.state_text.specs.State.{AreEntries}
use Rattle.state_text.proofs.entries.are_entries.Given as goal

abbrev pub invariant-entries : goal.invariant-entries
invariant-entries l = AreEntries l.call None (take l.index l.kept)
