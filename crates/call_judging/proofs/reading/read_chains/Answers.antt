-- One chain more is right, and has its cause if it isn't known.
use Rattle.std.proofs.Common.{◌≡◌, ◌+◌, ◌<◌, [], ◌∷◌, ◌++◌, List, length, take, sym, ap, ◌∙◌, subst, arith}
use Rattle.std.specs.List.{list_any}
use Rattle.std.proofs.lemmas.List.{length_push}
use Rattle.verify_rules.specs.States.{State}
use Rattle.call_judging.specs.Causes.{HasCauseIf}
use Rattle.call_judging.specs.Chains.{AreRightWhere, is_unasked, is_unread, state_of}
use Rattle.stir_outside.proofs.CountLaws.{go_on}
use Rattle.call_judging.proofs.CauseLaws.{cause_more}
use Rattle.call_judging.proofs.ReadLaws.{right_next}
use Rattle.call_judging.proofs.reading.read_chains.Goals as goal

pub passports-preserved : goal.passports-preserved
passports-preserved g c =
    let state : State = state_of c.in_ok-chain.chain in
    let pushed : c.push.new.self ≡ c.passports.chains ++ state ∷ [] = c.in_ok-push.ensures in
    let test = c.passports-test.true in
    let within : c.passports.i < length c.args.screened.now.readings = omega arith in
    record {
      end = c.passports.invariant.end;
      counted = ap length pushed ∙ length_push c.passports.chains state ∙ ap (λ n. n + 1) c.passports.invariant.counted;
      right = subst (λ (states : List State). AreRightWhere (g.S.Shelf.files c.args.shelf.now) c.args.world.now (g.P.Provider.says c.args.provider.now)
          (take (c.passports.i + 1) c.args.screened.now.readings) states) (sym pushed)
          (right_next (g.S.Shelf.files c.args.shelf.now) (g.S.Shelf.files c.passports.shelf) c.args.world.now (g.P.Provider.says c.args.provider.now) (g.P.Provider.says c.passports.provider)
          c.args.screened.now.readings c.passports.chains c.passports.i c.passport.result.now c.x5u-x5u.result.now state c.right_law.ensures.more c.passports.invariant.same_files
          c.passports.invariant.same_says c.passports.invariant.right within c.passport.ensures c.x5u-x5u.ensures c.in_ok-chain.ensures.right);
      unread = subst (λ (states : List State). HasCauseIf (list_any is_unread states) (g.S.Shelf.counts c.args.shelf.now).faults (g.S.Shelf.counts c.chain_of.new.shelf).faults) (sym pushed)
          (cause_more is_unread c.passports.chains state (g.S.Shelf.counts c.args.shelf.now).faults (g.S.Shelf.counts c.passports.shelf).faults (g.S.Shelf.counts c.chain_of.new.shelf).faults
          c.passports.invariant.counts.faults.never_falls c.in_ok-chain.ensures.shelf.counts.faults.never_falls c.passports.invariant.unread c.in_ok-chain.ensures.unread);
      unasked = subst (λ (states : List State). HasCauseIf (list_any is_unasked states) (g.P.Provider.faults c.args.provider.now) (g.P.Provider.faults c.chain_of.new.provider)) (sym pushed)
          (cause_more is_unasked c.passports.chains state (g.P.Provider.faults c.args.provider.now) (g.P.Provider.faults c.passports.provider) (g.P.Provider.faults c.chain_of.new.provider)
          c.passports.invariant.faults c.in_ok-chain.ensures.provider.faults c.passports.invariant.unasked c.in_ok-chain.ensures.unasked);
      same_files = c.in_ok-chain.ensures.shelf.files ∙ c.passports.invariant.same_files;
      counts = go_on (g.S.Shelf.counts c.args.shelf.now) (g.S.Shelf.counts c.passports.shelf) (g.S.Shelf.counts c.chain_of.new.shelf) c.passports.invariant.counts c.in_ok-chain.ensures.shelf.counts;
      same_says = c.in_ok-chain.ensures.provider.says ∙ c.passports.invariant.same_says;
      same_signs = c.in_ok-chain.ensures.provider.signs ∙ c.passports.invariant.same_signs;
      faults = (let one = c.passports.invariant.faults in let other = c.in_ok-chain.ensures.provider.faults in omega arith);
    }
