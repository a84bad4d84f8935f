-- What is written is read with its URI.
use Rattle.sip_message.proofs.TargetLaws.{answers_again, answers_head, answers_written}
use Rattle.sip_message.proofs.target.with_target.Goals as goal

pub returns-clause-head : goal.returns-clause-head
returns-clause-head c =
    answers_head (λ out. out.items) c.args.bytes.now c.args.uri.now c.with_target_exactly.result c.requires.uri c.with_target_exactly.ensures

pub returns-clause-read_again : goal.returns-clause-read_again
returns-clause-read_again c =
    answers_again (λ out. out.items) c.args.bytes.now c.args.uri.now c.with_target_exactly.result c.requires.uri c.with_target_exactly.ensures

pub returns-clause-written : goal.returns-clause-written
returns-clause-written c = answers_written (λ out. out.items) c.args.bytes.now c.args.uri.now c.with_target_exactly.result c.with_target_exactly.ensures
