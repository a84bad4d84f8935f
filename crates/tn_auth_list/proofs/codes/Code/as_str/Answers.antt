use Rattle.tn_auth_list.proofs.CodeFacts.{code_utf8}
use Rattle.tn_auth_list.proofs.codes.Code.as_str.Goals as goal

-- a code is text, so the other arm isn't reached
pub unreachable-requires : goal.unreachable-requires
unreachable-requires c =
    let utf8 = code_utf8 c.args.self.now c.bytes.ensures.code in
    c.in-Err.ensures.cases.0 (rw c.bytes.ensures.value utf8)
