use Rattle.std.proofs.Common.{◌≡◌, ◌++◌, [], ap, ◌∙◌}
use Rattle.std.specs.Fmt.{decimal}
use Rattle.call_log.specs.Entry.{headed}
use Rattle.stir_drill.specs.Message.{calling_text, moment_of}
use Rattle.stir_drill.specs.Pieces.{at_end, before_number, between}
use Rattle.stir_drill.proofs.MessageLaws.{entry_spelled}
use Rattle.stir_drill.proofs.messages.put_message.Goals as goal

pub returns-clause-entry : goal.returns-clause-entry
returns-clause-entry c =
    let k : c.as_bytes-calling.result.now ≡ calling_text c.args.call = c.as_bytes-calling.ensures.value ∙ c.format.ensures.text ∙ ap decimal c.calling.ensures in
    entry_spelled c.args.call c.args.log.now.items c.put_entry.new.log.items c.as_bytes-calling.result.now c.args.identity.now
    (moment_of c.args.call.number) c.message_size-size.result k c.requires.identity c.message_size-size.ensures
    (c.in_ok-put_entry.ensures
    ∙ ap (λ m. (((((c.args.log.now.items ++ headed m c.message_size-size.result []) ++ before_number) ++ c.as_bytes-calling.result.now) ++ between)
    ++ c.args.identity.now) ++ at_end) c.moment.ensures.value)
