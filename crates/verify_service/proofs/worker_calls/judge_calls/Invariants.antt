-- The worker's calls so far.
use Rattle.std.proofs.Common.{◌≡◌, length}
use Rattle.verify_service.specs.Carrying.{Answered, Claimed}
use Rattle.verify_service.specs.Ready.{basis_of, provided}
use Rattle.verify_service.proofs.worker_calls.judge_calls.Given as goal

abbrev pub invariant-calls : goal.invariant-calls
invariant-calls g l = record {
  end : l.at-end ≡ length l.calls;
  many : length l.outcomes ≡ 256;
  claimed : Claimed l.lent.past.now l.calls l.count l.index l.at l.fn.seat l.seat l.outcomes;
  answered : Answered (basis_of l.lent) (provided g.P.Provider l.fn.provider l.provider) l.calls l.count l.index l.at l.outcomes;
  same_says : g.P.Provider.says l.provider ≡ g.P.Provider.says l.fn.provider;
  same_signs : g.P.Provider.signs l.provider ≡ g.P.Provider.signs l.fn.provider;
}
