-- Whether one of the questions left is this one is whether one of all is.
use Rattle.std.proofs.Common.{◌≡◌, length}
use Rattle.open_calls.proofs.ConfirmedSteps.{SaysUpTo}
use Rattle.open_calls.proofs.confirmed.says.Given as goal

abbrev pub invariant-questions : goal.invariant-questions
invariant-questions l = record {
  end : l.i-end ≡ length l.questions;
  so : SaysUpTo l.questions l.good l.key l.digest l.signature l.i;
}
