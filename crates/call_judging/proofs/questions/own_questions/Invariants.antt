-- The questions of the PASSporTs so far are listed.
use Rattle.std.proofs.Common.{◌≡◌, length}
use Rattle.call_judging.specs.Steps.{OwnUpTo}
use Rattle.call_judging.proofs.questions.own_questions.Given as goal

abbrev pub invariant-passports : goal.invariant-passports
invariant-passports g l = record {
  end : l.i-end ≡ length l.screened.readings;
  so : OwnUpTo l.screened.readings (g.C.Chains.states l.chains) l.asked.items l.i;
}
