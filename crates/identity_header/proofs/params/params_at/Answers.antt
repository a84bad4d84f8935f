-- One turn takes one parameter, which is shorter than what was left.
use Rattle.std.proofs.Common.{◌≡◌, ◌≤◌, length, sym, ◌∙◌, arith}
use Rattle.std.proofs.lemmas.Bool.{eqb-false}
use Rattle.identity_header.proofs.Shorter.{param-shorter}
use Rattle.identity_header.proofs.Turns.{turn_ok}
use Rattle.identity_header.proofs.params.params_at.Goals as goal

pub params-smaller : goal.params-smaller
params-smaller c = param-shorter _ _ _ c.in_ok-next.ensures

pub params-preserved : goal.params-preserved
params-preserved c =
    let some : 1 ≤ length c.params.left.now =
    (let h : length c.params.left.now ≡ 0 → ⊥ = eqb-false _ _ (sym c.is_empty.ensures ∙ c.params-test.true) in omega (arith, h)) in
    sym (turn_ok _ _ _ some c.in_ok-next.ensures) ∙ c.params.invariant
