-- What was written and the lines of what is left are all lines.
use Rattle.std.proofs.Common.{◌≡◌, ◌+◌}
use Rattle.verify_service.proofs.ReportLaws.{LinesSoFar}
use Rattle.verify_service.proofs.report.report_lines.Given as goal

abbrev pub invariant-loop-outcome : goal.invariant-loop-outcome
invariant-loop-outcome l = record {
  lines : LinesSoFar l.first l.outcomes l.outcome-index l.text.items l.number;
  counted : l.number ≡ l.first + l.outcome-index;
}
