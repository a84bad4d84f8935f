use Rattle.std.proofs.Common.{refl, sym, ◌∙◌}
use Rattle.state_text.proofs.RuleLaws.{entries_more}
use Rattle.state_text.proofs.entries.are_entries.Goals as goal

pub entries-preserved : goal.entries-preserved
entries-preserved c = entries_more c.args.call c.args.kept.now _ c.entries.index _ _ c.entries-test.true refl refl c.follows.ensures.ticket (sym c.follows.ensures.exact ∙ c.if-not-follows.false) c.entries.invariant
