-- One chain more is right, and its questions are written.
use Rattle.std.proofs.Common.{◌+◌, ◌<◌, ◌∙◌, length, ap, string_bytes, arith}
use Rattle.std.proofs.lemmas.List.{length_push}
use Rattle.verify_rules.specs.States.{State}
use Rattle.call_judging.specs.Chains.{state_of}
use Rattle.stir_outside.proofs.CountLaws.{go_on}
use Rattle.single_calls.specs.Reading.{lines}
use Rattle.single_calls.proofs.ReadSteps.{one_more}
use Rattle.single_calls.proofs.reading.ask_chains.Goals as goal

pub passports-preserved : goal.passports-preserved
passports-preserved g c =
    let i = c.passports.invariant in
    let test = c.passports-test.true in
    let end = i.end in
    let within : c.passports.i < length c.args.screened.now.readings = omega arith in
    let state : State = state_of c.in-Ok.chain in
    record {
      end = i.end;
      counted = ap length c.in-Ok-push.ensures ∙ length_push c.passports.chains state ∙ ap (λ n. n + 1) i.counted;
      asked = one_more (g.S.Shelf.files c.args.shelf.now) (g.S.Shelf.files c.passports.shelf) c.args.world.now c.args.screened.now.readings
          (lines c.args.written.now (string_bytes c.args.text.now)) (lines c.passports.written (string_bytes c.passports.text))
          (lines c.ask_chain.new.written (string_bytes c.ask_chain.new.text)) c.passports.chains c.push.new.self c.passports.i c.passport.result.now c.x5u-x5u.result.now state
          c.chains_law.ensures.next i.same_files i.counted within c.passport.ensures c.x5u-x5u.ensures i.asked c.in-Ok.ensures.right c.in-Ok.ensures.known c.in-Ok-ask_chain.ensures c.in-Ok-push.ensures;
      same_files = c.in-Ok.ensures.shelf.files ∙ i.same_files;
      counts = go_on (g.S.Shelf.counts c.args.shelf.now) (g.S.Shelf.counts c.passports.shelf) (g.S.Shelf.counts c.known_chain.new.shelf) i.counts c.in-Ok.ensures.shelf.counts;
    }
