-- What is left has the text just if all have it.
use Rattle.std.proofs.Common.{◌≡◌, drop}
use Rattle.std.specs.List.{list_any}
use Rattle.std.specs.Str.{bytes_eq}
use Rattle.claim_constraints.proofs.meeting.has_text.Given as goal

abbrev pub invariant-loop-index : goal.invariant-loop-index
invariant-loop-index l = list_any (bytes_eq l.text) (drop l.index l.permit.values) ≡ list_any (bytes_eq l.text) l.permit.values
