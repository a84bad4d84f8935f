-- The seat stays one of the desk, with its share.
use Rattle.std.proofs.Common.{◌≡◌}
use Rattle.replay_desk.proofs.tests.claim_all.Given as goal

abbrev pub invariant-loop-class : goal.invariant-loop-class
invariant-loop-class l = record { desk : l.seat.desk ≡ l.initial.seat.desk; share : l.seat.share ≡ l.initial.seat.share }
