-- The input was read, and its answer written.
use Rattle.std.proofs.Common.{◌≡◌, ℕ, ◌+◌, ◌≤◌, List, [], length, sym, subst, arith}
use Rattle.stir_outside.specs.Told.{Takes}
use Rattle.stir_cmd.specs.Sending.{place_of}
use Rattle.stir_words.specs.Seen.{retargeting_view}
use Rattle.stir_cmd.specs.Gateway.{gateway_answering, hop_by}
use Rattle.stir_cmd.specs.Outside.{io_of}
use Rattle.stir_cmd.proofs.InputSteps.{ran_reply}
use Rattle.stir_cmd.proofs.gateway.send_input.Goals as goal

pub returns-in-Ok-clause-ran : goal.returns-in-Ok-clause-ran
returns-in-Ok-clause-ran g c =
    let command = gateway_answering (place_of c.args.place.now) (hop_by (retargeting_view c.args.words.now)) (g.S.Shelf.files c.args.shelf.now) (g.S.Shelf.counts c.args.shelf.now).faults
    (g.S.Shelf.counts c.reply_to.new.shelf).faults in
    let left = g.I.Source.left c.args.input.now in
    let left_now = g.I.Source.left c.read_up_to.new.source in
    let value = c.as_slice.ensures.value in
    let same : c.as_slice.result.now ≡ c.read_up_to.new.bytes.items = cc in
    let size = c.as_slice.ensures.len in
    let limited = c.read_up_to.ensures.limited in
    let short : length c.as_slice.result.now ≤ 65535 + 1 = omega arith in
    ran_reply command (io_of g.I.Source g.O.Sink c.args.input.now c.args.sink.now) (io_of g.I.Source g.O.Sink c.read_up_to.new.source c.reply_to.new.sink) c.as_slice.result.now c.reply_to.result
    (subst (λ (x : List ℕ). Takes left left_now [] x) (sym same)
    (subst (λ (x : List ℕ). Takes left left_now x c.read_up_to.new.bytes.items) c.new-bytes.ensures.items c.read_up_to.ensures.taken))
    short (λ less. c.in-Ok.ensures.ended (omega (arith, size, less))) c.reply_to.ensures.replies
