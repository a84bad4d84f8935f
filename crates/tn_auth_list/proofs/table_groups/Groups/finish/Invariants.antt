-- Each code that was passed has what its group gives.
use Rattle.std.proofs.Common.{ℕ, List, None}
use Rattle.std.specs.Ordering.{nat_cmp, eq_by_cmp}
use Rattle.std.specs.Cmp.Lexicographic.{slice_cmp}
use Rattle.std.specs.Map.{update_all}
use Rattle.std.specs.BTreeMap.{get}
use Rattle.tn_auth_list.specs.CodeGroups.{HeldFrom}
use Rattle.tn_auth_list.proofs.table_groups.Groups.finish.Given as goal

abbrev pub invariant-loop-code : goal.invariant-loop-code
invariant-loop-code l = (q : List ℕ) → HeldFrom (update_all (eq_by_cmp (slice_cmp nat_cmp)) (λ _. None) l.yielded q) (get (slice_cmp nat_cmp) l.held_by_code q)
