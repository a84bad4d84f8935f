-- Two lists are compared as lists, and the laws of lying within.
use Rattle.std.proofs.Common.{◌≡◌, ◌↔◌, List, Option, Some, sym, ap, ◌∙◌, subst}
use Rattle.std.specs.Prelude.{IfOk, IsTrue}
use Rattle.tn_auth_list.specs.declared.entries.Entry.{Entry}
use Rattle.delegation.specs.Coverage.{Within, entries_of}
use Rattle.delegation.proofs.AuthorityLaws.{chained, itself, kept}
use Rattle.delegation.proofs.DecidedLaws.{decides, same_answer}
use Rattle.delegation.proofs.authority.within.Goals as goal

pub returns-in_default-All-clause-itself : goal.returns-in_default-All-clause-itself
returns-in_default-All-clause-itself c = itself (entries_of c.args.child.now) c.args.table.now

pub returns-in-List-List-clause-within : goal.returns-in-List-List-clause-within
returns-in-List-List-clause-within c =
    let child_is : Some c.entries.result.now ≡ entries_of c.args.child.now = ap Some c.entries.ensures.value ∙ sym (ap entries_of c.in-List-List.is-0) in
    let parent_is : Some c.entries-in-List-List.result.now ≡ entries_of c.args.parent.now
    = ap Some c.entries-in-List-List.ensures.value ∙ sym (ap entries_of c.in-List-List.is-1) in
    let P : Option (List Entry) → Type 0 = λ child. IfOk c.list_within.result (λ answer. IsTrue answer ↔ Within child (Some c.entries-in-List-List.result.now) c.args.table.now) in
    let Q : Option (List Entry) → Type 0 = λ parent. IfOk c.list_within.result (λ answer. IsTrue answer ↔ Within (entries_of c.args.child.now) parent c.args.table.now) in
    subst Q parent_is (subst P child_is c.list_within.ensures)

pub returns-in-List-List-clause-exact : goal.returns-in-List-List-clause-exact
returns-in-List-List-clause-exact c =
    same_answer c.list_within.result (entries_of c.args.child.now) (entries_of c.args.parent.now) c.args.table.now (returns-in-List-List-clause-within c)

pub returns-in-List-List-clause-decides : goal.returns-in-List-List-clause-decides
returns-in-List-List-clause-decides c = decides (entries_of c.args.child.now) (entries_of c.args.parent.now) c.args.table.now

pub returns-in-List-List-clause-itself : goal.returns-in-List-List-clause-itself
returns-in-List-List-clause-itself c = itself (entries_of c.args.child.now) c.args.table.now

pub returns-in-List-List-clause-chained : goal.returns-in-List-List-clause-chained
returns-in-List-List-clause-chained c = λ above a b. chained (entries_of c.args.child.now) (entries_of c.args.parent.now) above c.args.table.now a b

pub returns-in-List-List-clause-kept : goal.returns-in-List-List-clause-kept
returns-in-List-List-clause-kept c = λ w number is h. kept (entries_of c.args.child.now) (entries_of c.args.parent.now) c.args.table.now w number is h
