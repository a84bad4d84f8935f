-- One call more, and there is room for the valid ones that are left.
use Rattle.std.proofs.Common.{◌≡◌, Some, length, refl}
use Rattle.std.specs.List.{slice_get}
use Rattle.verify_service.specs.Carrying.{out_at}
use Rattle.verify_service.proofs.AddLaws.{add_next}
use Rattle.verify_service.proofs.OutLaws.{get_stands}
use Rattle.verify_service.proofs.RoomLaws.{room_here, room_next}
use Rattle.verify_service.proofs.round_end.add_all.Goals as goal

pub add_valid-requires-clause-room : goal.add_valid-requires-clause-room
add_valid-requires-clause-room c = λ valid.
    room_here c.args.outcomes.now (length c.args.calls.now) c.calls.at c.calls.past.spare (out_at c.args.outcomes.now c.calls.at) c.calls-test.true refl c.calls.invariant.room valid

pub calls-preserved : goal.calls-preserved
calls-preserved c =
    let stands : slice_get c.args.calls.now c.calls.at ≡ Some c.index-calls-at.result =
    get_stands c.args.calls.now c.calls.at c.index-calls-at.result c.index-calls-at.result c.calls-test.true c.index-calls-at.is in
    record {
      end = c.calls.invariant.end;
      added = add_next c.args.past.now c.calls.past c.add_valid.new.past c.args.calls.now c.args.outcomes.now c.calls.at c.index-calls-at.result (out_at c.args.outcomes.now c.calls.at)
          c.requires.once c.calls.invariant.added stands refl c.add_valid.ensures.added;
      room = room_next c.args.outcomes.now (length c.args.calls.now) c.calls.at c.calls.past.spare c.add_valid.new.past.spare (out_at c.args.outcomes.now c.calls.at) refl
          c.calls.invariant.room c.add_valid.ensures.spare;
    }
