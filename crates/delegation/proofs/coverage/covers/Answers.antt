-- The test and the rows of the table's text say the same.
use Rattle.std.proofs.Common.{List, ◌∙◌, ap, sym, subst}
use Rattle.tn_auth_list.specs.declared.entries.Entry.{Entry}
use Rattle.delegation.specs.Coverage.{Covers}
use Rattle.delegation.specs.Decided.{covers_number}
use Rattle.delegation.proofs.DecidedLaws.{same_coverage}
use Rattle.delegation.proofs.RowLaws.{by_rows, from_rows}
use Rattle.delegation.proofs.coverage.covers.Goals as goal

pub returns-clause-exact : goal.returns-clause-exact
returns-clause-exact c =
    same_coverage c.some_holds.result c.entries.result.now c.args.table.now c.args.number.now c.some_holds.ensures
    ∙ ap (λ entries. covers_number entries c.args.table.now c.args.number.now) c.entries.ensures.value

pub returns-clause-rows : goal.returns-clause-rows
returns-clause-rows c = λ text read.
    let list = c.args.list.now in
    let table = c.args.table.now in
    let number = c.args.number.now in
    let P : List Entry → Type 0 = λ entries. Covers entries table number in (
      λ had. by_rows list text table read number (subst P c.entries.ensures.value (c.some_holds.ensures.0 had)),
      λ rows. c.some_holds.ensures.1 (subst P (sym c.entries.ensures.value) (from_rows list text table read number rows)),
    )
