-- A message goes on, or a line says why it doesn't.
use Rattle.std.proofs.Common.{IsTrue, sym, ap, ◌∙◌, subst}
use Rattle.retarget.specs.Hop.{HopView, hop_of, is_hop}
use Rattle.stir_cmd.specs.Sending.{place_of}
use Rattle.stir_outside.specs.Status.{status_number}
use Rattle.stir_words.specs.Seen.{retargeting_view}
use Rattle.stir_cmd.specs.Answer.{Reply}
use Rattle.stir_cmd.specs.Gateway.{GatewayGives, hop_by}
use Rattle.stir_cmd.proofs.GatewaySteps.{holds, other_hop, sends}
use Rattle.stir_cmd.proofs.gateway.answer.Goals as goal

pub send_on-requires-clause-hop : goal.send_on-requires-clause-hop
send_on-requires-clause-hop g c = subst (λ (h : HopView). IsTrue (is_hop h)) (sym c.hop_for-hop.ensures) c.requires.hop

pub send_on-requires-clause-local : goal.send_on-requires-clause-local
send_on-requires-clause-local g c = ap (λ (h : HopView). h.local) c.hop_for-hop.ensures ∙ c.requires.local

pub returns-in-Ok-clause-gives : goal.returns-in-Ok-clause-gives
returns-in-Ok-clause-gives g c =
    let place = place_of c.args.place.now in
    let hop = hop_by (retargeting_view c.args.words.now) in
    let told = g.S.Shelf.files c.args.shelf.now in
    let before = (g.S.Shelf.counts c.args.shelf.now).faults in
    let now = (g.S.Shelf.counts c.send_on.new.shelf).faults in
    subst (λ (r : Reply). GatewayGives place hop told before now c.args.bytes.now r.text (status_number r.status)) (sym c.new.ensures)
    (sends (λ out. out.items) place hop told before now c.args.bytes.now c.in-Ok.out
    (other_hop place (hop_of c.hop_for-hop.result) hop told before now c.args.bytes.now (λ out. out.items) _ c.hop_for-hop.ensures c.in-Ok.ensures.sent))

pub returns-in-Err-clause-gives : goal.returns-in-Err-clause-gives
returns-in-Err-clause-gives g c =
    let place = place_of c.args.place.now in
    let hop = hop_by (retargeting_view c.args.words.now) in
    let told = g.S.Shelf.files c.args.shelf.now in
    let before = (g.S.Shelf.counts c.args.shelf.now).faults in
    let now = (g.S.Shelf.counts c.send_on.new.shelf).faults in
    holds (λ out. out.items) place hop told before now c.args.bytes.now c.in-Err.fault c.refusal.result
    (other_hop place (hop_of c.hop_for-hop.result) hop told before now c.args.bytes.now (λ out. out.items) _ c.hop_for-hop.ensures c.in-Err.ensures.sent) c.in-Err.ensures.may c.refusal.ensures
