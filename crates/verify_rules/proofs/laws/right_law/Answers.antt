-- What is right of chains.
use Rattle.verify_rules.proofs.WorldLaws.{right_each, right_failed, right_judged, right_long, right_missing, right_more, right_unlisted}
use Rattle.verify_rules.proofs.laws.right_law.Goals as goal

pub returns : goal.returns
returns c = record {
  judged = right_judged;
  unlisted = right_unlisted;
  missing = right_missing;
  too_long = right_long;
  failed = right_failed;
  more = right_more;
  each = right_each;
}
