-- What was left to take stays so, whether the source gave bytes, failed or ended.
use Rattle.std.proofs.Common.{[], ◌==◌, arith, rules, subst}
use Rattle.std.specs.Io.KnownBytes.{Consumes}
use Rattle.call_log.specs.Supply.{available}
use Rattle.call_log.proofs.AheadLaws.{all_left, between, on_err, read_failed, read_gave}
use Rattle.call_log.proofs.ahead.Ahead.fill.Goals as goal

pub returns-in_err-count-clause-same : goal.returns-in_err-count-clause-same
returns-in_err-count-clause-same g c =
    let keeps = c.in_err-count.ensures.bytes in
    let going = c.if-self-2.false in
    subst (λ a. Consumes (available a (g.I.Source.left c.args.source.now)) (available (record { bytes = between c.read.new.buf 0 0; ended = c.self.inside.ended }) (g.I.Source.left c.read.new.self)) []) c.self.view_is
    (read_failed c.self.inside.ended c.self.inside.block c.read.new.buf c.self.inside.start c.self.inside.end (g.I.Source.left c.args.source.now) (g.I.Source.left c.read.new.self)
    (omega (arith, c.if-self.false)) (λ e. absurd (cc)) keeps)

pub returns-clause-same : goal.returns-clause-same
returns-clause-same g c =
    let given = c.in_ok-count.ensures.bytes in
    let going = c.if-self-2.false in
    subst (λ a. Consumes (available a (g.I.Source.left c.args.source.now)) (available (record { bytes = between c.read.new.buf 0 c.in_ok-count.count; ended = c.in_ok-count.count == 0 }) (g.I.Source.left c.read.new.self)) []) c.self.view_is
    (read_gave c.self.inside.ended c.self.inside.block c.read.new.buf c.self.inside.start c.self.inside.end c.in_ok-count.count (g.I.Source.left c.args.source.now) (g.I.Source.left c.read.new.self)
    (omega (arith, c.if-self.false)) (λ e. absurd (cc)) given.0 (λ zero. given.1 (search rules) (search rules)))

pub returns-in_err-count-clause-drained : goal.returns-in_err-count-clause-drained
returns-in_err-count-clause-drained g c =
    let going = c.if-self-2.false in
    on_err _ (all_left c.self.inside.ended c.read.new.buf (g.I.Source.left c.read.new.self) (λ e. absurd (cc)))
