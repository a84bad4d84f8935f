-- One chain more is stored.
use Rattle.std.proofs.Common.{◌≡◌, ℕ, ◌+◌, ◌*◌, ◌<◌, ◌≤◌, ◌%◌, ◌/◌, List, Option, None, get_or, length, refl, sym, ap, ◌∙◌, subst, arith, div-add-mod', mod-lt}
use Rattle.cert_store.specs.Holding.{Holding}
use Rattle.cert_store.specs.Judged.{JudgedView}
use Rattle.call_judging.specs.Fetched.{file_state}
use Rattle.verify_service.specs.RoundRead.{states_from}
use Rattle.verify_service.specs.WorkerChains.{chain_at}
use Rattle.verify_service.specs.declared.worker.Worker.{Worker}
use Rattle.verify_service.proofs.ItemLaws.{each_item, same_item, set_many}
use Rattle.verify_service.proofs.StatesLaws.{state_next, states_count}
use Rattle.verify_service.proofs.StoreAllLaws.{one_capacity}
use Rattle.verify_service.proofs.StoringLaws.{judged_at, store_next, stored_some, stored_whole}
use Rattle.verify_service.proofs.stored_chains.store_all.Goals as goal

pub files-preserved : goal.files-preserved
files-preserved g c =
    let ws = c.files.workers in
    let old = c.args.workers.now in
    let place = c.files.place in
    let test = c.files-test.true in
    let many = c.files.invariant.counted in
    let some = c.requires.some in
    let w = place % length old in
    let k = place / length old in
    let here : k * length old + w ≡ place = div-add-mod' place (length old) in
    let own : w < length old = mod-lt place some in
    let inside : w < length ws = subst (λ n. w < n) (sym many) own in
    let within : place < length c.args.files.now = omega arith in
    let slots : Worker g.row.P.Denot g.row.G.Denot → List (Option JudgedView) = λ v. v.judged.items in
    let new = c.take_judged-judged.new.worker in
    let r = c.index-workers-place.result in
    let one : Worker g.row.P.Denot g.row.G.Denot = get_or ws w r in
    record {
      counted = set_many ws w new ∙ many;
      stored = λ d.
          let judged : ℕ → Option JudgedView = chain_at (λ n. slots (get_or old n d)) (length old) in
          let known : get_or (slots one) k None ≡ judged place = judged_at slots ws old w k one r d inside refl (c.files.invariant.others d w inside k (omega (arith, here))) in
          store_next c.args.texts.now (states_from 0 judged c.args.files.now) place c.text.result.now _ (file_state c.index-files-place.result (judged place)) c.args.cache.now c.files.cache
          c.store_chain.new.cache c.args.kept.now c.files.kept c.store_chain.new.kept c.text.ensures
          (state_next judged c.args.files.now place c.index-files-place.result c.index-files-place.result within c.index-files-place.is)
          (c.status-chain.ensures ∙ ap (file_state c.index-files-place.result) (c.take_judged-judged.ensures.judged ∙ known)) c.answered.ensures.once (c.files.invariant.stored d)
          c.in_ok-store_chain.ensures.stored;
      capacity = one_capacity c.text.result.now _ c.files.cache c.store_chain.new.cache c.files.kept c.store_chain.new.kept c.in_ok-store_chain.ensures.stored ∙ c.files.invariant.capacity;
      others = λ d n less.
          each_item (λ (n : ℕ) (v : Worker g.row.P.Denot g.row.G.Denot). (p : ℕ) → place + 1 ≤ p * length old + n → get_or (slots v) p None ≡ get_or (slots (get_or old n d)) p None) ws w new d inside
          (λ p later.
          c.take_judged-judged.ensures.others p (λ same. let twice = ap (λ m. m * length old + w) same in absurd (omega (arith, twice, here)))
          ∙ judged_at slots ws old w p one r d inside refl (c.files.invariant.others d w inside p (omega arith)))
          (λ n below p later. c.files.invariant.others d n below p (omega arith)) n (subst (λ m. n < m) (set_many ws w new) less);
      same = λ d k less.
          each_item (λ (n : ℕ) (v : Worker g.row.P.Denot g.row.G.Denot). v.provider ≡ (get_or old n d).provider) ws w new d inside
          (c.take_judged-judged.ensures.same ∙ ap (λ (v : Worker g.row.P.Denot g.row.G.Denot). v.provider) (same_item ws w r d inside) ∙ c.files.invariant.same d w inside)
          (λ n below. c.files.invariant.same d n below) k (subst (λ n. k < n) (set_many ws w new) less);
    }

pub returns-in_err-store_chain-clause-first : goal.returns-in_err-store_chain-clause-first
returns-in_err-store_chain-clause-first g c = λ d. stored_some c.args.texts.now _ c.files.place c.args.cache.now c.files.cache c.store_chain.new.cache c.args.kept.now c.files.kept
    (c.files.invariant.stored d) c.in_err-store_chain.ensures.refused

pub returns-clause-stored : goal.returns-clause-stored
returns-clause-stored g c = λ d.
    let test = c.files-test.false in
    let same = c.requires.files in
    let all : length c.args.files.now ≤ c.files.place = omega arith in
    let over : length c.args.texts.now ≤ c.files.place = omega arith in
    let judged : ℕ → Option JudgedView = chain_at (λ w. (get_or c.args.workers.now w d).judged.items) (length c.args.workers.now) in
    stored_whole c.args.texts.now (states_from 0 judged c.args.files.now) c.files.place c.args.cache.now c.files.cache c.args.kept.now c.files.kept over
    (subst (λ n. n ≤ c.files.place) (sym (states_count 0 judged c.args.files.now)) all) (c.files.invariant.stored d)

pub returns-clause-first : goal.returns-clause-first
returns-clause-first g c = λ d. stored_some c.args.texts.now _ c.files.place c.args.cache.now c.files.cache c.files.cache c.args.kept.now c.files.kept (c.files.invariant.stored d) refl

pub returns-in_err-store_chain-clause-capacity : goal.returns-in_err-store_chain-clause-capacity
returns-in_err-store_chain-clause-capacity g c = ap (λ (h : Holding). h.capacity) c.in_err-store_chain.ensures.refused ∙ c.files.invariant.capacity
