use Rattle.std.proofs.Common.{sym, ◌∙◌}
use Rattle.stir_drill.proofs.CallLaws.{confirmed_by}
use Rattle.stir_drill.proofs.calls.put_confirmed.Goals as goal

pub returns : goal.returns
returns c = confirmed_by c.args.call c.args.answers.now.items c.put_answer.new.answers.items c.key.result c.ticket-digest.result c.args.signing.now
    c.args.signature.now (sym c.is_confirmed.ensures ∙ c.if-not-is_confirmed.false) c.key.ensures c.ticket-digest.ensures.exact c.requires.signing
    c.requires.signature c.in_ok-put_answer.ensures
