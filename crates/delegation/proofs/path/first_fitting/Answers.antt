-- Each step of the walk, and its end.
use Rattle.std.proofs.Common.{rules, sym, ◌∙◌, ◌+◌, ap}
use Rattle.delegation.specs.Path.{fits}
use Rattle.delegation.proofs.WalkLaws.{none_left, is_first, is_passed}
use Rattle.delegation.proofs.path.first_fitting.Goals as goal

pub returns-then-fits : goal.returns-then-fits
returns-then-fits c =
    sym (is_first (fits c.args.count c.args.last.now) c.loop-anchor.i c.loop-anchor.anchor-index c.args.anchors.now c.anchor-item.result
    (search rules) (search rules) (sym c.fits.ensures ∙ c.if-fits.true)) ∙ c.loop-anchor.invariant.1

pub loop-anchor-preserved : goal.loop-anchor-preserved
loop-anchor-preserved c = (
  ap (λ n. n + 1) c.loop-anchor.invariant.0,
  sym (is_passed (fits c.args.count c.args.last.now) c.loop-anchor.i c.loop-anchor.anchor-index c.args.anchors.now c.anchor-item.result
      (search rules) (search rules) (sym c.fits.ensures ∙ c.if-fits.false)) ∙ c.loop-anchor.invariant.1,
)

pub returns : goal.returns
returns c =
    sym (none_left (fits c.args.count c.args.last.now) c.loop-anchor.i c.loop-anchor.anchor-index c.args.anchors.now (search rules))
    ∙ c.loop-anchor.invariant.1
