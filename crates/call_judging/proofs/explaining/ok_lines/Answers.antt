-- One line more.
use Rattle.std.proofs.Common.{refl, string_bytes}
use Rattle.call_judging.proofs.ExplainSteps.{lines_done, lines_more}
use Rattle.call_judging.proofs.explaining.ok_lines.Goals as goal

pub rules-preserved : goal.rules-preserved
rules-preserved c =
    lines_more c.args.number c.args.rules.now c.rules.rule-index _ _ (string_bytes c.rules.text) (string_bytes c.add_ok.new.text) _ c.rules.invariant c.rules-test.true refl
    c.in_ok-add_ok.ensures

pub returns : goal.returns
returns c = lines_done c.args.number c.args.rules.now c.rules.rule-index (string_bytes c.rules.text) _ c.rules.invariant c.rules-test.false
