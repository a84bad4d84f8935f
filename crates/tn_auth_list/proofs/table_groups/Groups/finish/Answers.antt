-- Each entry is passed once, and all are.
use Rattle.std.proofs.Common.{◌≡◌, ℕ, List, map, sym, subst, ◌∙◌, rules}
use Rattle.std.proofs.lemmas.Map.Iter.{iter_end}
use Rattle.std.proofs.lemmas.List.{map-id}
use Rattle.std.specs.Ordering.{nat_cmp}
use Rattle.std.specs.Cmp.Lexicographic.{slice_cmp}
use Rattle.std.specs.BTreeMap.{get}
use Rattle.tn_auth_list.specs.CodeGroups.{HeldFrom}
use Rattle.tn_auth_list.specs.GroupView.{GroupView}
use Rattle.tn_auth_list.proofs.HeldLaws.{held_push, group_among_all}
use Rattle.tn_auth_list.proofs.table_groups.Groups.finish.Goals as goal

pub loop-code-preserved : goal.loop-code-preserved
loop-code-preserved c =
    held_push c.loop-code.yielded c.in-Some.code c.in-Some.group c.in_ok-held.field-0 c.loop-code.held_by_code c.insert.new.self
    c.loop-code.invariant c.in_ok-held.ensures c.in_ok-insert.ensures.updates.0

pub returns : goal.returns
returns c =
    let all : map (λ (e : List ℕ × GroupView). e) c.loop-code.yielded ≡ c.args.self.by_code.entries = search (rules, iter_end) in
    λ code. subst (λ o. HeldFrom o (get (slice_cmp nat_cmp) c.loop-code.held_by_code code))
    (group_among_all c.args.self.by_code c.loop-code.yielded (sym (map-id c.loop-code.yielded) ∙ all) c.into_iter-code-iterator.ensures.into_iter_gives.5 code) (c.loop-code.invariant code)
