use Rattle.std.proofs.Common.{Some, subst}
use Rattle.tn_auth_list.specs.CodeGroups.{HeldFrom}
use Rattle.tn_auth_list.specs.GroupView.{GroupView}
use Rattle.tn_auth_list.specs.declared.table_groups.Held.TheVariants.{These}
use Rattle.tn_auth_list.proofs.HeldLaws.{set_for}
use Rattle.tn_auth_list.proofs.table_groups.Group.held.Goals as goal

pub returns : goal.returns
returns c = subst (λ (group : GroupView). HeldFrom (Some group) (Some (These c.in_ok-build.field-0))) c.self.view_is (set_for _ _ c.if-self.false c.in_ok-build.ensures.holds)
