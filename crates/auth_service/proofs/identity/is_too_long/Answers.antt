-- By the sizes of the field's line.
use Rattle.std.proofs.Common.{ℕ, ◌+◌, length, nat_lt, ap, ◌∙◌}
use Rattle.auth_service.specs.Order.{wanted_of}
use Rattle.auth_service.proofs.LineLaws.{too_long, uri_short}
use Rattle.auth_service.proofs.identity.is_too_long.Goals as goal

pub returns : goal.returns
returns c = λ claims is_for signs.
    ap (λ (n : ℕ). nat_lt 65535 (length c.args.bytes.now + n)) c.line_size.ensures.exact
    ∙ too_long c.token_bytes_law.ensures.full_size c.token_bytes_law.ensures.compact_size c.args.bytes.now (wanted_of c.args.order.now) c.args.signing.now claims is_for signs

pub line_size-requires-clause-x5u : goal.line_size-requires-clause-x5u
line_size-requires-clause-x5u c = uri_short (wanted_of c.args.order.now) c.requires.order
