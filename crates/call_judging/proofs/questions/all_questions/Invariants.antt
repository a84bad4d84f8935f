-- The questions of the certificates so far are listed.
use Rattle.std.proofs.Common.{◌≡◌, length}
use Rattle.call_judging.specs.Steps.{ChainUpTo}
use Rattle.call_judging.proofs.questions.all_questions.Given as goal

abbrev pub invariant-certificates : goal.invariant-certificates
invariant-certificates l = record {
  end : l.before-end ≡ length l.judged.certificates;
  so : ChainUpTo l.judged l.asked.items l.before;
}
