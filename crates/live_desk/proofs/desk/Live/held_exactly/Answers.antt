use Rattle.std.proofs.Common.{◌≡◌, ◌<◌, ℕ, get_or, List, sym, ap, ◌∙◌, subst, arith}
use Rattle.live_desk.specs.Rule.{code_of}
use Rattle.live_desk.specs.Ticket.{pieces}
use Rattle.live_desk.specs.Holder.{LiveDesk}
use Rattle.live_desk.proofs.Tickets.{pieces_small}
use Rattle.live_desk.proofs.Sights.{follows_found, follows_none, held_blank, held_missing, held_true}
use Rattle.live_desk.proofs.desk.Live.held_exactly.Goals as goal

pub loop-level-init : goal.loop-level-init
loop-level-init c = follows_none c.args.self.now.size c.args.ticket.now c.args.seat.now (omega (arith, ap (λ (d : LiveDesk). d.size) c.self.view_is, c.self.invariant.2))

pub code-code-requires-clause-parent : goal.code-code-requires-clause-parent
code-code-requires-clause-parent c = omega (arith, ap (λ (d : LiveDesk). d.size) c.self.view_is, c.self.invariant.3, c.loop-level.invariant.within)

pub code-code-requires-clause-piece : goal.code-code-requires-clause-piece
code-code-requires-clause-piece c =
    subst (λ (xs : List ℕ). get_or xs c.loop-level.level 0 < 8796093022208) (sym c.cut-parts.ensures)
    (pieces_small c.args.ticket.now c.loop-level.level (record { bytes = c.told-ticket; small = c.fits-ticket }))

pub returns-in-Blank : goal.returns-in-Blank
returns-in-Blank c =
    let code : c.code-code.result ≡ code_of c.loop-level.parent (get_or (pieces c.args.ticket.now) c.loop-level.level 0) =
    c.code-code.ensures ∙ ap (λ (xs : List ℕ). code_of c.loop-level.parent (get_or xs c.loop-level.level 0)) c.cut-parts.ensures in
    held_blank c.args.self.now.size c.args.ticket.now c.loop-level.level c.loop-level.parent c.code-code.result c.args.seat.now c.loop-level.seat c.loop-level.invariant code (omega (arith, c.loop-level-test.true)) c.look.new.seat c.in-Blank.ensures

pub returns-in-Missing : goal.returns-in-Missing
returns-in-Missing c =
    let code : c.code-code.result ≡ code_of c.loop-level.parent (get_or (pieces c.args.ticket.now) c.loop-level.level 0) =
    c.code-code.ensures ∙ ap (λ (xs : List ℕ). code_of c.loop-level.parent (get_or xs c.loop-level.level 0)) c.cut-parts.ensures in
    held_missing c.args.self.now.size c.args.ticket.now c.loop-level.level c.loop-level.parent c.code-code.result c.args.seat.now c.loop-level.seat c.loop-level.invariant code (omega (arith, c.loop-level-test.true)) c.look.new.seat c.in-Missing.ensures

pub loop-level-preserved : goal.loop-level-preserved
loop-level-preserved c =
    let code : c.code-code.result ≡ code_of c.loop-level.parent (get_or (pieces c.args.ticket.now) c.loop-level.level 0) =
    c.code-code.ensures ∙ ap (λ (xs : List ℕ). code_of c.loop-level.parent (get_or xs c.loop-level.level 0)) c.cut-parts.ensures in
    follows_found c.args.self.now.size c.args.ticket.now c.loop-level.level c.loop-level.parent c.code-code.result c.args.seat.now c.loop-level.seat c.loop-level.invariant code c.look.new.seat c.in-Found.slot c.in-Found.ensures

pub returns : goal.returns
returns c = held_true c.args.self.now.size c.args.ticket.now c.loop-level.level c.loop-level.parent c.args.seat.now c.loop-level.seat (omega (arith, c.loop-level-test.false, c.loop-level.auto.level-end)) c.loop-level.invariant
