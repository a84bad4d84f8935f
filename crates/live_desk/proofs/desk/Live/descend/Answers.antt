use Rattle.std.proofs.Common.{◌≡◌, ◌<◌, ◌+◌, ℕ, get_or, List, sym, ap, ◌∙◌, subst, arith}
use Rattle.live_desk.specs.Rule.{code_of}
use Rattle.live_desk.specs.Ticket.{pieces}
use Rattle.live_desk.specs.Holder.{LiveDesk}
use Rattle.live_desk.specs.ClaimSteps.{Descends}
use Rattle.live_desk.proofs.Tickets.{pieces_small}
use Rattle.live_desk.proofs.Searches.{begins_of, descended_full, descends_found, descends_none, descends_set}
use Rattle.live_desk.proofs.desk.Live.descend.Goals as goal
use Rattle.live_desk.proofs.desk.Live.descend.Goals.{in-Set, in-Found}

pub loop-level-init : goal.loop-level-init
loop-level-init c = descends_none c.args.self.now.size c.args.ticket.now c.args.seat.now (omega (arith, ap (λ (d : LiveDesk). d.size) c.self.view_is, c.self.invariant.2))

pub code-code-requires-clause-parent : goal.code-code-requires-clause-parent
code-code-requires-clause-parent c = omega (arith, ap (λ (d : LiveDesk). d.size) c.self.view_is, c.self.invariant.3, c.loop-level.invariant.within)

pub code-code-requires-clause-piece : goal.code-code-requires-clause-piece
code-code-requires-clause-piece c =
    subst (λ (xs : List ℕ). get_or xs c.loop-level.level 0 < 8796093022208) (sym c.requires.parts)
    (pieces_small c.args.ticket.now c.loop-level.level (record { bytes = c.told-ticket; small = c.fits-ticket }))

pub settle-requires-clause-begins : goal.settle-requires-clause-begins
settle-requires-clause-begins c =
    let code : c.code-code.result ≡ code_of c.loop-level.parent (get_or (pieces c.args.ticket.now) c.loop-level.level 0) =
    c.code-code.ensures ∙ ap (λ (xs : List ℕ). code_of c.loop-level.parent (get_or xs c.loop-level.level 0)) c.requires.parts in
    begins_of c.args.self.now.size c.args.ticket.now c.loop-level.level c.loop-level.parent c.code-code.result c.args.seat.now c.loop-level.seat c.loop-level.invariant code

pub returns-in-Full-clause-full : goal.returns-in-Full-clause-full
returns-in-Full-clause-full c =
    let code : c.code-code.result ≡ code_of c.loop-level.parent (get_or (pieces c.args.ticket.now) c.loop-level.level 0) =
    c.code-code.ensures ∙ ap (λ (xs : List ℕ). code_of c.loop-level.parent (get_or xs c.loop-level.level 0)) c.requires.parts in (
      c.loop-level-test.true,
      descended_full c.args.self.now.size c.args.ticket.now c.loop-level.level c.loop-level.parent c.code-code.result c.args.seat.now c.loop-level.seat c.loop-level.invariant code c.settle.new.seat c.in-Full.ensures,
    )

pub loop-level-preserved : goal.loop-level-preserved
loop-level-preserved c =
    let code : c.code-code.result ≡ code_of c.loop-level.parent (get_or (pieces c.args.ticket.now) c.loop-level.level 0) =
    c.code-code.ensures ∙ ap (λ (xs : List ℕ). code_of c.loop-level.parent (get_or xs c.loop-level.level 0)) c.requires.parts in
    elim c.match-settle.branch [
      | in-Set w ↦ subst (λ (n : ℕ). Descends c.args.self.now.size c.args.ticket.now (c.loop-level.level + 1) n c.args.seat.now c.settle.new.seat) (sym w.parent-is)
          (descends_set c.args.self.now.size c.args.ticket.now c.loop-level.level c.loop-level.parent c.code-code.result c.args.seat.now c.loop-level.seat c.loop-level.invariant code c.settle.new.seat w.in-Set.slot w.in-Set.ensures)
      | in-Found w ↦ subst (λ (n : ℕ). Descends c.args.self.now.size c.args.ticket.now (c.loop-level.level + 1) n c.args.seat.now c.settle.new.seat) (sym w.parent-is)
          (descends_found c.args.self.now.size c.args.ticket.now c.loop-level.level c.loop-level.parent c.code-code.result c.args.seat.now c.loop-level.seat c.loop-level.invariant code c.settle.new.seat w.in-Found.slot w.in-Found.ensures)
    ]
