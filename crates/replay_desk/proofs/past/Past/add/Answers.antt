use Rattle.std.proofs.Common.{◌≡◌, ℕ, ◌<◌, false, List, Option, Result, Ok, Err, IsOk, OnOk, sym, ap, ◌∙◌, arith}
use Rattle.std.specs.HashMap as hash
use Rattle.std.specs.Map.{lookup}
use Rattle.std.proofs.lemmas.Slice.Eq.{bytes_eq-Decides}
use Rattle.std.proofs.lemmas.Bool.{false_from_ne_true}
use Rattle.std.specs.Str.{bytes_eq}
use Rattle.replay_desk.specs.Past.{PastView, found, unless_below}
use Rattle.state_text.specs.State.{Entry}
use Rattle.state_text.specs.declared.kept.Kept.{Kept}
use Rattle.replay_desk.proofs.PastLaws.{found_from, stays}
use Rattle.replay_desk.proofs.past.Past.add.Goals as goal

at_ok : {X E : Type 0} (r : Result X E) (P : Type 0) → IsOk r → OnOk r P → P
at_ok (Ok x) P ok told = told
at_ok (Err e) P ok told = absurd cc

pub returns-clause-added : goal.returns-clause-added
returns-clause-added c =
    let moment = c.lowered-self-inside.result in
    let same_spare = ap (λ (past : PastView). past.spare) c.self.view_is in
    let room : 0 < hash.spare c.lowered-self-inside.new.calls = omega (arith, c.requires.room, c.self.invariant, same_spare, c.lowered-self-inside.ensures.spare) in
    let updates = at_ok c.insert-added.result _ (c.insert-added.ensures.succeeds room) c.insert-added.ensures.updates in
    found_from moment c.args.ticket c.insert-added.new.self.entries c.insert-added.ensures.unique
    ∙ ap (λ (key : List ℕ). unless_below moment (lookup (bytes_eq key) c.insert-added.new.self.entries)) (sym c.new.ensures)
    ∙ ap (λ (call : Option Kept). unless_below moment call) updates.1
    ∙ stays moment c.args.kept c.lowered-self-inside.ensures.low

pub returns-clause-others : goal.returns-clause-others
returns-clause-others c = λ other apart.
    let moment = c.lowered-self-inside.result in
    let same_spare = ap (λ (past : PastView). past.spare) c.self.view_is in
    let room : 0 < hash.spare c.lowered-self-inside.new.calls = omega (arith, c.requires.room, c.self.invariant, same_spare, c.lowered-self-inside.ensures.spare) in
    let updates = at_ok c.insert-added.result _ (c.insert-added.ensures.succeeds room) c.insert-added.ensures.updates in
    let other_ticket : bytes_eq c.args.ticket other ≡ false = false_from_ne_true _ (λ same. apart (sym ((bytes_eq-Decides c.args.ticket other).0 same))) in
    let other_key : bytes_eq c.new.result other ≡ false = ap (λ (key : List ℕ). bytes_eq key other) c.new.ensures ∙ other_ticket in
    found_from moment other c.insert-added.new.self.entries c.insert-added.ensures.unique
    ∙ ap (λ (call : Option Kept). unless_below moment call) (updates.2 other other_key)
    ∙ sym (found_from moment other c.lowered-self-inside.new.calls.entries c.len-one_each.ensures.unique)
    ∙ ap (λ (es : List Entry). lookup (bytes_eq other) es) c.lowered-self-inside.ensures.same
    ∙ ap (λ (past : PastView). found past other) c.self.view_is
