-- Each call is screened into its place.
use Rattle.std.proofs.Common.{◌≡◌, List, length, sym, ap, ◌∙◌, subst}
use Rattle.verify_service.specs.Judging.{EachPair}
use Rattle.verify_service.specs.Screening.{IsReady}
use Rattle.verify_service.specs.declared.screening.ReadyCall.{ReadyCall}
use Rattle.verify_service.proofs.ReadyLaws.{all_ready, any_open, written_back}
use Rattle.verify_service.proofs.round_needs.ready_calls.Goals as goal

pub screen_all-requires-clause-places : goal.screen_all-requires-clause-places
screen_all-requires-clause-places g c κs within =
    ap length c.deref_mut.ensures.value ∙ sym c.resize_with.new.self.ok.0 ∙ c.in_ok-resize_with.ensures.len

pub returns : goal.returns
returns g c =
    let places = c.resize_with.new.self.items in
    let now = c.screen_all.new.places in
    let size : length places ≡ length c.args.calls.now = sym c.resize_with.new.self.ok.0 ∙ c.in_ok-resize_with.ensures.len in
    let back = written_back places now c.resize_with.new.self.len c.resize_with.new.self.ok.0 (c.screen_all.ensures.counted ∙ sym size) in
    let same : c.deref.result.now ≡ now = c.deref.ensures.value ∙ back in
    record {
      ready = subst (λ (ps : List ReadyCall). EachPair (IsReady c.args.settings.now) c.args.calls.now ps) (sym back)
          (all_ready c.args.settings.now c.args.calls.now now c.screen_all.ensures.counted c.screen_all.ensures.screened (sym (ap any_open same) ∙ sym c.if-any_open.ensures));
    }
