-- Each step of the search leaves the part in which the number may be, and at most half of what was left.
use Rattle.std.proofs.Common.{ℕ, ◌+◌, ◌-◌, ◌/◌, arith, sym, subst}
use Rattle.tn_values.proofs.SearchLaws.{search_down, search_up}
use Rattle.tn_values.proofs.StepLaws.{Halved, halving_goes_on, halving_spent}
use Rattle.tn_values.proofs.search.find.Goals as goal

pub loop-low-preserved-in-Before : goal.loop-low-preserved-in-Before
loop-low-preserved-in-Before g c =
    let low : ℕ = c.loop-low.low in
    let high : ℕ = c.loop-low.high in
    let step = halving_goes_on c.args.steps.now c.loop-low.steps (c.args.behind - c.args.first) (high - low) (low + (high - low) / 2 - low) c.loop-low.invariant.halved
    (omega arith) (omega arith) in
    record {
      searched = search_down c.args.set.now c.args.number.now c.args.first c.args.behind low high _ c.loop-low.invariant.searched c.is_merged.ensures c.requires.inside (omega arith)
          c.in-Before.is c.probe.ensures.side;
      halved = subst (λ (n : ℕ). Halved c.args.steps.now n (c.args.behind - c.args.first) (low + (high - low) / 2 - low)) (sym c.probe.ensures.steps) step;
    }

pub returns-in-Within-clause-steps : goal.returns-in-Within-clause-steps
returns-in-Within-clause-steps g c =
    let entries : ℕ = c.args.behind - c.args.first in
    let step = halving_goes_on c.args.steps.now c.loop-low.steps entries (c.loop-low.high - c.loop-low.low) 0 c.loop-low.invariant.halved
    (omega arith) (omega arith) in
    halving_spent c.args.steps.now c.probe.new.steps entries 0 (subst (λ (n : ℕ). Halved c.args.steps.now n entries 0) (sym c.probe.ensures.steps) step)

pub loop-low-preserved : goal.loop-low-preserved
loop-low-preserved g c =
    let low : ℕ = c.loop-low.low in
    let high : ℕ = c.loop-low.high in
    let left : ℕ = high - (low + (high - low) / 2 + 1) in
    let step = halving_goes_on c.args.steps.now c.loop-low.steps (c.args.behind - c.args.first) (high - low) left c.loop-low.invariant.halved (omega arith) (omega arith) in
    record {
      searched = search_up c.args.set.now c.args.number.now c.args.first c.args.behind low high _ c.loop-low.invariant.searched c.is_merged.ensures c.requires.inside (omega arith)
          c.in-After.is c.probe.ensures.side;
      halved = subst (λ (n : ℕ). Halved c.args.steps.now n (c.args.behind - c.args.first) left) (sym c.probe.ensures.steps) step;
    }
