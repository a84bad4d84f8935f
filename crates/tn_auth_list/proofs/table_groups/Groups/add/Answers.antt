-- There is room exactly if the rows stay within the limits.
use Rattle.std.proofs.Common.{not, sym, ap, ◌∙◌, arith}
use Rattle.std.proofs.lemmas.Grind.{common_steps}
use Rattle.tn_auth_list.proofs.GroupLaws.{room_is, groups_push}
use Rattle.tn_auth_list.proofs.table_groups.Groups.add.Goals as goal

pub returns-then-not-has_room : goal.returns-then-not-has_room
returns-then-not-has_room c = λ rows is. ap not (sym (room_is rows c.args.row c.args.self.now is) ∙ sym c.has_room.ensures ∙ c.if-not-has_room.true)

pub returns : goal.returns
returns c = λ rows is. groups_push rows c.args.row c.args.self.now _ is (sym c.has_room.ensures ∙ c.if-not-has_room.false) c.in_ok-put.ensures
    (grind (arith, common_steps, c.from.ensures, c.is_all.ensures))
