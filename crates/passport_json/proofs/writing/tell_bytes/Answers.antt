-- Each element of a slice of bytes fits a byte.
use Rattle.std.proofs.Common.{arith}
use Rattle.passport_json.proofs.writing.tell_bytes.Goals as goal

pub returns : goal.returns
returns c = λ i. let fits = c.type_inv.text i in omega arith
