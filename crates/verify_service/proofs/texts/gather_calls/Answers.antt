-- The texts of one call more.
use Rattle.std.proofs.Common.{◌≡◌, ◌<◌, ℕ, List, length, take, ◌∙◌, subst, arith}
use Rattle.cert_store.specs.Holding.{chain_of}
use Rattle.verify_service.specs.Needed.{all_named, named_by, needed, once, touch_all}
use Rattle.verify_service.proofs.NeededLaws.{held_then, named_next, same_then, texts_then}
use Rattle.verify_service.proofs.texts.gather_calls.Goals as goal

pub calls-preserved : goal.calls-preserved
calls-preserved c =
    let i = c.calls.call-index in
    let test = c.calls-test.true in
    let within : i < length c.args.calls.now = omega arith in
    let so_far : List (List ℕ) = all_named (take i c.args.calls.now) in
    let here : List (List ℕ) = named_by c.call-item.result.screening in
    let next = named_next c.args.calls.now i c.call-item.result c.call-item.result within c.call-item.is in
    let start = c.args.cache.now in
    let mid = c.calls.cache in
    let same : (x : List ℕ) → chain_of x mid.entries ≡ chain_of x start.entries = same_then c.cache_law.ensures.same start mid so_far c.calls.invariant.held in
    record {
      texts = subst (λ (ts : List (List ℕ)). c.gather_call.new.texts ≡ once c.args.texts.now (needed c.args.chains.now start.entries ts)) next
          (texts_then c.args.chains.now start.entries mid.entries same c.args.texts.now c.calls.texts c.gather_call.new.texts so_far here c.calls.invariant.texts
          c.in_ok-gather_call.ensures.texts);
      held = subst (λ (ts : List (List ℕ)). c.gather_call.new.cache ≡ record start { entries = touch_all ts start.entries }) next
          (held_then start mid c.gather_call.new.cache so_far here c.calls.invariant.held c.in_ok-gather_call.ensures.held);
    }

pub returns-in_err-gather_call-clause-same : goal.returns-in_err-gather_call-clause-same
returns-in_err-gather_call-clause-same c = λ x.
    c.in_err-gather_call.ensures.same x
    ∙ same_then c.cache_law.ensures.same c.args.cache.now c.calls.cache (all_named (take c.calls.call-index c.args.calls.now)) c.calls.invariant.held x

pub returns-clause-same : goal.returns-clause-same
returns-clause-same c = same_then c.cache_law.ensures.same c.args.cache.now c.calls.cache (all_named (take c.calls.call-index c.args.calls.now)) c.calls.invariant.held
