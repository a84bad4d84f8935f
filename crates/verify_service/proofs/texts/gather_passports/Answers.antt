-- The text of one PASSporT more.
use Rattle.std.proofs.Common.{◌≡◌, ◌<◌, [], ◌∷◌, ℕ, List, length, take, ◌∙◌, subst, arith}
use Rattle.cert_store.specs.Holding.{chain_of}
use Rattle.verify_service.specs.Needed.{needed, once, touch_all, x5us}
use Rattle.verify_service.proofs.NeededLaws.{held_then, same_then, texts_then, x5us_next}
use Rattle.verify_service.proofs.texts.gather_passports.Goals as goal

pub passports-preserved : goal.passports-preserved
passports-preserved c =
    let readings = c.args.screened.now.readings in
    let i = c.passports.i in
    let x5u : List ℕ = c.x5u-x5u.result.now in
    let test = c.passports-test.true in
    let end = c.passports.invariant.end in
    let within : i < length readings = omega arith in
    let so_far : List (List ℕ) = x5us (take i readings) in
    let next = x5us_next readings i c.passport.result.now x5u within c.passport.ensures c.x5u-x5u.ensures in
    let start = c.args.cache.now in
    let mid = c.passports.cache in
    let same : (x : List ℕ) → chain_of x mid.entries ≡ chain_of x start.entries = same_then c.cache_law.ensures.same start mid so_far c.passports.invariant.held in
    record {
      end = c.passports.invariant.end;
      texts = subst (λ (ts : List (List ℕ)). c.gather_text.new.texts ≡ once c.args.texts.now (needed c.args.chains.now start.entries ts)) next
          (texts_then c.args.chains.now start.entries mid.entries same c.args.texts.now c.passports.texts c.gather_text.new.texts so_far (x5u ∷ []) c.passports.invariant.texts
          c.in_ok-gather_text.ensures.texts);
      held = subst (λ (ts : List (List ℕ)). c.gather_text.new.cache ≡ record start { entries = touch_all ts start.entries }) next
          (held_then start mid c.gather_text.new.cache so_far (x5u ∷ []) c.passports.invariant.held c.in_ok-gather_text.ensures.held);
    }

pub returns-in_err-gather_text-clause-same : goal.returns-in_err-gather_text-clause-same
returns-in_err-gather_text-clause-same c = λ x.
    c.in_err-gather_text.ensures.same x
    ∙ same_then c.cache_law.ensures.same c.args.cache.now c.passports.cache (x5us (take c.passports.i c.args.screened.now.readings)) c.passports.invariant.held x

pub returns-clause-same : goal.returns-clause-same
returns-clause-same c = same_then c.cache_law.ensures.same c.args.cache.now c.passports.cache (x5us (take c.passports.i c.args.screened.now.readings)) c.passports.invariant.held
