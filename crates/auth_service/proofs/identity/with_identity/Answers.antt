-- What is added to a message that has room for it is the line.
use Rattle.std.proofs.Common.{List, ℕ, Ok, ap}
use Rattle.auth_service.proofs.LineLaws.{never_faulty, same_bytes_out}
use Rattle.auth_service.proofs.identity.with_identity.Goals as goal

pub unreachable-requires : goal.unreachable-requires
unreachable-requires c =
    let refused = rw c.in-Err-Form.field-0-is at c.in-Err-Form.ensures.exact in
    never_faulty c.args.text.now.bytes c.args.value.now c.in-Err-Form.field-0-0 c.requires.room refused

pub returns-in-Ok-clause-exact : goal.returns-in-Ok-clause-exact
returns-in-Ok-clause-exact c =
    ap (λ (x : List ℕ). Ok x) (same_bytes_out c.args.text.now.bytes c.args.value.now c.in-Ok.out.items c.requires.room c.in-Ok.ensures.exact)
