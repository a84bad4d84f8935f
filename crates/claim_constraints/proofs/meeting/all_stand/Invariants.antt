-- The names that are left are members exactly if all are.
use Rattle.std.proofs.Common.{◌≡◌, drop}
use Rattle.std.specs.List.{list_all}
use Rattle.serde_json.specs.View.{view}
use Rattle.claim_constraints.specs.Meets.{stands}
use Rattle.claim_constraints.proofs.meeting.all_stand.Given as goal

abbrev pub invariant-loop-index : goal.invariant-loop-index
invariant-loop-index l = list_all (stands (view l.payload)) (drop l.index l.names) ≡ list_all (stands (view l.payload)) l.names
