-- Seven lines were written, one after the other.
use Rattle.drill.proofs.LineLaws.{seven_lines}
use Rattle.drill.proofs.counts.Counts.summary.Goals as goal

pub returns : goal.returns
returns c = seven_lines _ _ _ _ _ _ _ _ _ _ _ _ _ _ _ c.new-text.ensures.items c.in_ok-put_line.ensures c.in_ok-put_line-2.ensures c.in_ok-put_line-3.ensures c.in_ok-put_line-4.ensures c.in_ok-put_line-5.ensures
    c.in_ok-put_line-6.ensures c.in_ok-put_line-7.ensures
