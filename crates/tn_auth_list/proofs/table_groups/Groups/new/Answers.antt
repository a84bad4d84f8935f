-- No row gives nothing.
use Rattle.tn_auth_list.proofs.GroupLaws.{no_rows}
use Rattle.tn_auth_list.proofs.table_groups.Groups.new.Goals as goal

pub returns : goal.returns
returns c = no_rows _ _ c.new.ensures.empty
