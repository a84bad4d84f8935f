-- The files were read and a message was answered, or a file stopped it.
use Rattle.std.proofs.Common.{inr, sym, ap}
use Rattle.stir_cmd.specs.Sending.{PlaceView, place_of}
use Rattle.stir_files.specs.declared.retargeting.RetargetingMaterials.{RetargetingMaterials}
use Rattle.stir_words.specs.Seen.{retargeting_view}
use Rattle.stir_cmd.specs.Gateway.{gateway_over, hop_by, place_by}
use Rattle.stir_cmd.proofs.GatewaySteps.{is_listed, other_place}
use Rattle.stir_cmd.proofs.OverFilesSteps.{goes_on}
use Rattle.stir_cmd.proofs.StopSteps.{stopped}
use Rattle.stir_cmd.proofs.gateway.send_message.Goals as goal

pub place_for-place-requires : goal.place_for-place-requires
place_for-place-requires g c = is_listed _ _ _ c.in-Ok.ensures.read

pub send_input-requires-clause-local : goal.send_input-requires-clause-local
send_input-requires-clause-local g c = sym (ap (λ (p : PlaceView). p.settings.local) c.place_for-place.ensures)

pub returns-in-Ok-clause-ran : goal.returns-in-Ok-clause-ran
returns-in-Ok-clause-ran g c =
    let words = retargeting_view c.args.words.now in
    goes_on (gateway_over words) c.in-Ok.materials _ _ _ _ _ _ _ _ _ _ c.in-Ok.ensures.read c.in-Ok.ensures.truly c.read_retargeting.ensures.same c.read_retargeting.ensures.go_on c.read_retargeting.ensures.reads
    c.send_input.ensures.shelf.counts.faults.never_falls
    (other_place (place_of c.place_for-place.result) (place_by words c.in-Ok.materials) (hop_by words) _ _ _ _ _ _ c.place_for-place.ensures c.send_input.ensures.ran)

pub returns-in-Err-clause-ran : goal.returns-in-Err-clause-ran
returns-in-Err-clause-ran g c =
    inr (stopped RetargetingMaterials _ c.in-Err.stop _ _ _ _ _ _ _ _ _ _ _ c.in-Err.ensures.stopped c.in-Err.ensures.truly c.in-Err.ensures.cause c.end_at.ensures)
