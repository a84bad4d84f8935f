-- One text more: another's, or an own one whose chain was judged.
use Rattle.std.proofs.Common.{◌≡◌, ◌+◌, ◌<◌, [], ◌∷◌, ◌++◌, List, Option, length, take, sym, ◌∙◌, subst, arith}
use Rattle.cert_store.specs.Judged.{JudgedView}
use Rattle.verify_service.specs.WorkerChains.{ChainsCounted, EachOwn}
use Rattle.verify_service.proofs.ContentLaws.{left_own, left_other}
use Rattle.verify_service.proofs.WorkerChainLaws.{counted_next, own_judged, own_passed}
use Rattle.verify_service.proofs.worker_chains.judge_files.Goals as goal

pub files-preserved-then-place-count : goal.files-preserved-then-place-count
files-preserved-then-place-count g c =
    let test = c.files-test.true in
    let within : c.files.place < length c.args.files.now = omega arith in
    record {
      judged = own_passed c.args.world.now (g.P.Provider.says c.args.provider.now) c.args.index c.args.count c.args.files.now c.files.place c.files.judged.items c.index-files-place.result
          c.index-files-place.result within c.index-files-place.is c.if-place-count.true c.files.invariant.judged;
      asked = c.files.invariant.asked;
      most = (let so_far = c.files.invariant.most in
          let step = left_other c.args.index c.args.count c.files.place c.args.files.now c.index-files-place.result c.index-files-place.result within c.index-files-place.is c.if-place-count.true in
          omega arith);
      same_signs = c.files.invariant.same_signs;
      same_says = c.files.invariant.same_says;
    }

pub files-preserved : goal.files-preserved
files-preserved g c =
    let pushed : c.push.new.self.items ≡ c.files.judged.items ++ c.in_ok-chain.chain ∷ [] = c.in_ok-push.ensures.items in
    let test = c.files-test.true in
    let within : c.files.place < length c.args.files.now = omega arith in
    let so_far = c.files.invariant.asked in
    record {
      judged = subst (λ (cs : List (Option JudgedView)). EachOwn c.args.world.now (g.P.Provider.says c.args.provider.now) c.args.index c.args.count 0 (take (c.files.place + 1) c.args.files.now) cs)
          (sym pushed)
          (own_judged c.args.world.now (g.P.Provider.says c.args.provider.now) (g.P.Provider.says c.files.provider) c.args.index c.args.count c.args.files.now c.files.place c.files.judged.items
          c.index-files-place.result c.index-files-place.result c.in_ok-chain.chain c.files.invariant.same_says within c.index-files-place.is c.if-place-count.false c.files.invariant.judged
          c.in_ok-chain.ensures.judged);
      asked = subst (λ (cs : List (Option JudgedView)). ChainsCounted (g.P.Provider.asks c.args.provider.now) (g.P.Provider.asks c.judge_file.new.provider) (g.P.Provider.faults c.args.provider.now)
          (g.P.Provider.faults c.judge_file.new.provider) cs) (sym pushed)
          (counted_next (g.P.Provider.asks c.args.provider.now) (g.P.Provider.asks c.files.provider) (g.P.Provider.asks c.judge_file.new.provider) (g.P.Provider.faults c.args.provider.now)
          (g.P.Provider.faults c.files.provider) (g.P.Provider.faults c.judge_file.new.provider) c.files.judged.items c.in_ok-chain.chain so_far c.in_ok-chain.ensures.asked
          c.in_ok-chain.ensures.asks c.in_ok-chain.ensures.provider.faults c.in_ok-chain.ensures.failed);
      most = (let so_far = c.files.invariant.most in let one = c.in_ok-chain.ensures.most in
          let step = left_own c.args.index c.args.count c.files.place c.args.files.now c.index-files-place.result c.index-files-place.result within c.index-files-place.is c.if-place-count.false in
          omega arith);
      same_signs = c.in_ok-chain.ensures.provider.signs ∙ c.files.invariant.same_signs;
      same_says = c.in_ok-chain.ensures.provider.says ∙ c.files.invariant.same_says;
    }
