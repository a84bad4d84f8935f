-- What is signed is short enough for the sum of sizes, and each exit is what is given of the PASSporT.
use Rattle.std.proofs.Common.{◌≡◌, List, ℕ, ◌≤◌, length, sym, subst, ◌∙◌}
use Rattle.passport_claims.specs.Signed.{signing_of}
use Rattle.auth_service.specs.Order.{holder_seen, wanted_of}
use Rattle.auth_service.proofs.LineLaws.{signing_short}
use Rattle.auth_service.proofs.SignedLaws.{allowed_for, faulty_for, not_allowed_for, too_long_for}
use Rattle.auth_service.proofs.passport.to_sign.Goals as goal

pub is_too_long-requires-clause-signing : goal.is_too_long-requires-clause-signing
is_too_long-requires-clause-signing c =
    subst (λ (x : List ℕ). length x ≤ 8192) (sym (c.deref.ensures.value ∙ c.in_ok-signing.ensures.exact))
    (signing_short c.token_bytes_law.ensures.full_size (wanted_of c.args.order.now) c.in_ok-draft.draft.passport c.requires c.in_ok-draft.ensures.ordered
    c.in_ok-signing.ensures.signable)

pub returns-in_err-draft-clause-exact : goal.returns-in_err-draft-clause-exact
returns-in_err-draft-clause-exact c =
    faulty_for (λ one. one.draft.passport) c.from_residual.result c.in_err-draft.field-0.0 c.args.bytes.now (wanted_of c.args.order.now) (holder_seen c.args.holder)
    c.from_residual.ensures.1 c.in_err-draft.ensures.exact

pub returns-then-is_too_long-clause-exact : goal.returns-then-is_too_long-clause-exact
returns-then-is_too_long-clause-exact c =
    let signing : c.deref.result.now ≡ signing_of c.in_ok-draft.draft.passport = c.deref.ensures.value ∙ c.in_ok-signing.ensures.exact in
    too_long_for c.args.bytes.now (wanted_of c.args.order.now) (holder_seen c.args.holder) c.in_ok-draft.draft.passport c.in_ok-draft.ensures.exact
    (sym (c.is_too_long.ensures c.in_ok-draft.draft.passport c.in_ok-draft.ensures.ordered signing) ∙ c.if-is_too_long.true)

pub returns-then-not-is_allowed-clause-exact : goal.returns-then-not-is_allowed-clause-exact
returns-then-not-is_allowed-clause-exact c =
    let signing : c.deref.result.now ≡ signing_of c.in_ok-draft.draft.passport = c.deref.ensures.value ∙ c.in_ok-signing.ensures.exact in
    not_allowed_for c.args.bytes.now (wanted_of c.args.order.now) (holder_seen c.args.holder) c.in_ok-draft.draft.passport c.in_ok-draft.ensures.exact
    (sym (c.is_too_long.ensures c.in_ok-draft.draft.passport c.in_ok-draft.ensures.ordered signing) ∙ c.if-is_too_long.false)
    (sym c.is_allowed.ensures ∙ c.if-not-is_allowed.true)

pub returns-clause-exact : goal.returns-clause-exact
returns-clause-exact c =
    let signing : c.deref.result.now ≡ signing_of c.in_ok-draft.draft.passport = c.deref.ensures.value ∙ c.in_ok-signing.ensures.exact in
    allowed_for c.args.bytes.now (wanted_of c.args.order.now) (holder_seen c.args.holder) c.in_ok-draft.draft.passport c.in_ok-draft.ensures.exact
    (sym (c.is_too_long.ensures c.in_ok-draft.draft.passport c.in_ok-draft.ensures.ordered signing) ∙ c.if-is_too_long.false)
    (sym c.is_allowed.ensures ∙ c.if-not-is_allowed.false)
