-- Clause by clause.
use Rattle.retarget.proofs.laws.laws.Goals as goal

pub returns : goal.returns
returns c = record {
  head = c.head_law.ensures;
  target = c.target_law.ensures;
  order = c.order_law.ensures;
  covers = c.covers_kind_law.ensures;
  append = c.first_law.ensures.append;
  none = c.first_law.ensures.none;
  same = c.moved_law.ensures.same;
  moved = c.moved_law.ensures.holds;
  more = c.more_law.ensures;
  diverted = c.diverted_rules_law.ensures.rules;
  judged = c.diverted_rules_law.ensures.judged;
  turn = c.diverted_rules_law.ensures.turn;
}
