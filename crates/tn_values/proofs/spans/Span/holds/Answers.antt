use Rattle.std.proofs.Common.{sym, ◌∙◌}
use Rattle.tn_values.proofs.SetLaws.{covered_place, held_place}
use Rattle.tn_values.proofs.spans.Span.holds.Goals as goal

pub returns-in-Some : goal.returns-in-Some
returns-in-Some c =
    let span = c.args.self.now in
    let number = c.args.number.now in (
      λ had. covered_place span number c.in-Some.place (sym c.in-Some.ensures.value) (sym c.covers.ensures ∙ had),
      λ held. c.covers.ensures ∙ held_place span number c.in-Some.place (sym c.in-Some.ensures.value) held,
    )
