-- The lines of the report: their words, by the codes of the rules, and that they can be read back.
use Rattle.verify_service.proofs.LineLaws.{line_is}
use Rattle.verify_service.proofs.ReadBack.{same_line, same_report}
use Rattle.verify_service.proofs.laws.report_law.Goals as goal

pub returns-clause-line : goal.returns-clause-line
returns-clause-line c = line_is c.code_law.ensures

pub returns-clause-same_line : goal.returns-clause-same_line
returns-clause-same_line c = same_line

pub returns-clause-same_report : goal.returns-clause-same_report
returns-clause-same_report c = same_report
