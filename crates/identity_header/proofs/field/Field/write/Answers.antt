-- What was written is the spelling of the parts, which is in the grammar.
use Rattle.std.proofs.lemmas.Result.{IfOk-weaker}
use Rattle.identity_header.proofs.FieldLaw.{read_again}
use Rattle.identity_header.proofs.LineLaws.{one_line}
use Rattle.identity_header.proofs.Written.{reads_back}
use Rattle.identity_header.proofs.field.Field.write.Goals as goal

pub returns-clause-reads_back : goal.returns-clause-reads_back
returns-clause-reads_back c = IfOk-weaker c.spell.result _ _ (λ text e. reads_back _ _ _ c.self.view_is c.self.invariant e) c.spell.ensures

pub returns-clause-read_again : goal.returns-clause-read_again
returns-clause-read_again c = IfOk-weaker c.spell.result _ _ (λ text e. read_again text.items c.args.self.now (reads_back _ _ _ c.self.view_is c.self.invariant e)) c.spell.ensures

pub returns-clause-one_line : goal.returns-clause-one_line
returns-clause-one_line c = IfOk-weaker c.spell.result _ _ (λ text e. one_line _ text.items c.self.invariant e) c.spell.ensures
