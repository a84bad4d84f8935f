-- What is left has permitted values just if all have.
use Rattle.std.proofs.Common.{◌≡◌, drop}
use Rattle.std.specs.List.{list_all}
use Rattle.serde_json.specs.View.{view}
use Rattle.claim_constraints.specs.Meets.{permits}
use Rattle.claim_constraints.proofs.meeting.all_permitted.Given as goal

abbrev pub invariant-loop-index : goal.invariant-loop-index
invariant-loop-index l = list_all (permits (view l.payload)) (drop l.index l.list) ≡ list_all (permits (view l.payload)) l.list
