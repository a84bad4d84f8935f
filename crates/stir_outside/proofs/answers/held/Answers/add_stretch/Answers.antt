-- A line is added, or it is the first bad one.
use Rattle.std.proofs.Common.{[]}
use Rattle.stir_outside.proofs.StretchLaws.{taken_ends_at, taken_leads_on}
use Rattle.stir_outside.proofs.answers.held.Answers.add_stretch.Goals as goal

pub returns-then-not-branch : goal.returns-then-not-branch
returns-then-not-branch c =
    taken_ends_at _ _ _ c.args.stretch.now c.args.rows.now c.lines.at _ c.index-rows-at.result c.in_ok-add_row.field-0 c.lines-test.true c.requires c.index-rows-at.is
    c.if-not-branch.true c.in_ok-add_row.ensures c.lines.invariant

pub lines-preserved : goal.lines-preserved
lines-preserved c =
    taken_leads_on _ _ _ c.args.stretch.now c.args.rows.now c.lines.at (record { number = 0; text = record { ref_ptr = (0, 0); now = [] } }) c.index-rows-at.result c.in_ok-add_row.field-0
    c.lines-test.true c.requires c.index-rows-at.is c.if-not-branch.false c.in_ok-add_row.ensures c.lines.invariant
