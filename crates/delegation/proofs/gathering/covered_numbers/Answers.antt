use Rattle.std.proofs.Common.{ap, ◌∙◌}
use Rattle.std.specs.List.{fold}
use Rattle.delegation.specs.Gathered.{with_code}
use Rattle.delegation.proofs.AuthorityLaws.{covered_set}
use Rattle.delegation.proofs.gathering.covered_numbers.Goals as goal

pub returns : goal.returns
returns c =
    covered_set c.finish.result c.in_ok-gathered_codes.field-0 c.in_ok-own.own c.in_ok-codes.codes.items c.args.entries.now c.args.table.now
    c.in_ok-own.ensures (c.in_ok-gathered_codes.ensures ∙ ap (fold (with_code c.args.table.now) c.in_ok-own.own) c.deref.ensures.value)
    c.in_ok-codes.ensures.named c.finish.ensures
