-- What the look-ups give after a row more.
use Rattle.std.proofs.Common.{refl}
use Rattle.stir_outside.proofs.HeldLaws.{holds_triple, holds_signature}
use Rattle.stir_outside.specs.Held.{Held}
use Rattle.stir_outside.proofs.answers.held.Answers.add.Goals as goal

pub returns-in_ok-insert-in-Confirm : goal.returns-in_ok-insert-in-Confirm
returns-in_ok-insert-in-Confirm c = λ rows holds.
    let before : Held = record { triples = c.self.inside.triples.keys; signatures = c.self.inside.signatures.entries } in
    let after : Held = record { triples = c.insert.new.self.keys; signatures = c.self.inside.signatures.entries } in
    rw c.in-Confirm.is (refl, holds_triple rows c.in-Confirm.triple before after c.in_ok-insert-in-Confirm.ensures.updates.0 refl (rw c.self.view_is holds))

pub returns-in_ok-before-in-Sign : goal.returns-in_ok-before-in-Sign
returns-in_ok-before-in-Sign c = λ rows holds.
    let before : Held = record { triples = c.self.inside.triples.keys; signatures = c.self.inside.signatures.entries } in
    let after : Held = record { triples = c.self.inside.triples.keys; signatures = c.insert-in-Sign.new.self.entries } in
    let put = c.in_ok-before-in-Sign.ensures in
    rw c.in-Sign.is (holds_signature rows c.in-Sign.order c.in-Sign.signature before after c.in_ok-before-in-Sign.before c.is_none.result
    put.old c.is_none.ensures put.updates.0 refl (rw c.self.view_is holds))
