-- The answer to a message was written.
use Rattle.std.proofs.Common.{◌≤◌, length, arith}
use Rattle.std.proofs.lemmas.Bool.Decides.{nat_tests}
use Rattle.stir_cmd.specs.Sending.{place_of}
use Rattle.stir_words.specs.Seen.{retargeting_view}
use Rattle.stir_cmd.specs.Gateway.{gateway_answering, hop_by}
use Rattle.stir_cmd.proofs.InputSteps.{if_given, replies}
use Rattle.stir_cmd.proofs.gateway.reply_to.Goals as goal

pub returns-clause-replies : goal.returns-clause-replies
returns-clause-replies g c =
    let command = gateway_answering (place_of c.args.place.now) (hop_by (retargeting_view c.args.words.now)) (g.S.Shelf.files c.args.shelf.now) (g.S.Shelf.counts c.args.shelf.now).faults
    (g.S.Shelf.counts c.answer-answer.new.shelf).faults in
    let test = c.if-bytes-gt-MOST_BYTES.false in
    let short : length c.args.bytes.now ≤ 65535 = grind (arith, nat_tests) in
    replies command c.args.bytes.now _ _ _ _ _ c.answer-answer.result (if_given command c.args.bytes.now c.answer-answer.result short c.answer-answer.ensures.gives) c.write_answer-2.ensures
