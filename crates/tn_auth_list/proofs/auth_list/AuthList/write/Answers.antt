-- Bytes of which this list is read are its text.
use Rattle.std.proofs.Common.{rules}
use Rattle.tn_auth_list.proofs.ListLaws.{one_text}
use Rattle.tn_auth_list.proofs.auth_list.AuthList.write.Goals as goal

pub returns-clause-only : goal.returns-clause-only
returns-clause-only c = λ bytes b e. one_text c.in_ok-text.text.items bytes c.args.self.now e b (search rules)
