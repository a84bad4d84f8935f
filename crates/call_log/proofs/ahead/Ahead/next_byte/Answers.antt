-- The first byte of those ahead is taken off, or none is there.
use Rattle.std.proofs.Common.{[], ◌<◌, arith, length, sym, subst}
use Rattle.std.specs.Io.KnownBytes.{Consumes}
use Rattle.std.proofs.lemmas.List.{drop_more}
use Rattle.call_log.specs.Supply.{available}
use Rattle.call_log.proofs.AheadLaws.{byte_off}
use Rattle.call_log.proofs.ahead.Ahead.next_byte.Goals as goal

pub returns-clause-byte : goal.returns-clause-byte
returns-clause-byte g c =
    let same = c.in_ok-fill.ensures.same in
    let start = c.self.inside.start in
    let bounds = c.self.invariant in
    let some : c.self.inside.start < c.self.inside.end = omega (arith, c.if-self.false, bounds.0) in
    let inside : c.self.inside.start < length c.self.inside.block = omega (arith, some, bounds.1, c.self.told) in
    byte_off c.self.inside.ended c.self.inside.block c.self.inside.start c.self.inside.end _ _ (g.I.Source.left c.fill.new.source) some (drop_more c.self.inside.block c.self.inside.start 0 inside)
    (subst (λ a. Consumes (available c.args.self.now (g.I.Source.left c.args.source.now)) (available a (g.I.Source.left c.fill.new.source)) []) (sym c.self.view_is) same)
