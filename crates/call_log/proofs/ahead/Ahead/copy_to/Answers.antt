-- What was copied is taken off those ahead.
use Rattle.std.proofs.Common.{[], ◌+◌, ◌≤◌, arith, length, sym, subst}
use Rattle.std.specs.Io.KnownBytes.{Consumes}
use Rattle.call_log.specs.Supply.{available}
use Rattle.call_log.proofs.AheadLaws.{between, none_off, piece_off, piece_size}
use Rattle.call_log.proofs.ahead.Ahead.copy_to.Goals as goal

pub returns-clause-piece : goal.returns-clause-piece
returns-clause-piece g c =
    let filled = c.in_ok-fill.ensures in
    let items = c.in_ok-extend_from_slice.ensures.items in
    let same = subst (λ a. Consumes (available c.args.self.now (g.I.Source.left c.args.source.now)) (available a (g.I.Source.left c.fill.new.source)) []) (sym c.self.view_is) filled.same in
    let room : c.self.inside.start + c.min-count.result ≤ c.self.inside.end = omega (arith, c.min-count.ensures, c.self.invariant.0) in
    let inside : c.self.inside.start + c.min-count.result ≤ length c.self.inside.block = omega (arith, room, c.self.invariant.1, c.self.told) in
    record {
      piece = between c.self.inside.block c.self.inside.start (c.self.inside.start + c.min-count.result);
      taken = piece_off c.self.inside.ended c.self.inside.block c.self.inside.start c.self.inside.end c.min-count.result _ (g.I.Source.left c.fill.new.source) room same;
      behind = items;
      size = piece_size c.self.inside.block c.self.inside.start c.min-count.result inside;
      within = omega (arith, c.min-count.ensures);
      none = λ none. none_off c.fill.new.self c.self.inside.ended c.self.inside.block c.self.inside.start c.self.inside.end c.min-count.result (g.I.Source.left c.fill.new.source)
          c.self.view_is filled.some none (omega (arith, c.min-count.ensures, none, c.requires));
    }
