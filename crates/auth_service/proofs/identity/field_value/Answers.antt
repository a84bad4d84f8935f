-- The token is in its row, and the field that is written is the order's.
use Rattle.std.proofs.Common.{◌≡◌, List, ℕ, IsTrue, sym, subst, ap, ◌∙◌}
use Rattle.text_grammar.specs.Grammar.{Run}
use Rattle.text_grammar.specs.Uri.{is_uri}
use Rattle.identity_header.specs.Parts.{is_digest_byte}
use Rattle.passport_claims.specs.Signed.{signing_of}
use Rattle.auth_service.specs.Field.{token_by}
use Rattle.auth_service.specs.Order.{wanted_of}
use Rattle.auth_service.proofs.FieldLaws.{token_row, value_written}
use Rattle.auth_service.proofs.MadeLaws.{order_parts}
use Rattle.auth_service.proofs.identity.field_value.Goals as goal

pub field-requires-clause-x5u : goal.field-requires-clause-x5u
field-requires-clause-x5u c = subst (λ (x : List ℕ). IsTrue (is_uri x)) (sym c.requires.ordered.x5u) (order_parts (wanted_of c.args.order.now) c.requires.order).uri

pub field-requires-clause-token : goal.field-requires-clause-token
field-requires-clause-token c =
    let uri : IsTrue (is_uri c.args.one.now.draft.passport.x5u) = subst (λ (x : List ℕ). IsTrue (is_uri x)) (sym c.requires.ordered.x5u) (order_parts (wanted_of c.args.order.now) c.requires.order).uri in
    let text : c.deref-2.result.now ≡ token_by c.args.order.now.shape (signing_of c.args.one.now.draft.passport) c.args.signature.now =
    c.deref-2.ensures.value ∙ c.in_ok-token.ensures
    ∙ ap (λ (x : List ℕ). token_by c.args.order.now.shape x c.args.signature.now) (c.deref.ensures.value ∙ c.requires.signing) in
    subst (λ (x : List ℕ). Run is_digest_byte 8192 x) (sym text)
    (token_row c.token_bytes_law.ensures.compact c.args.order.now.shape c.args.one.now.draft.passport c.args.signature.now c.requires.signable uri c.requires.ordered.called
    c.are_signature.ensures)

pub returns-clause-written : goal.returns-clause-written
returns-clause-written c =
    let uri : IsTrue (is_uri c.args.one.now.draft.passport.x5u) = subst (λ (x : List ℕ). IsTrue (is_uri x)) (sym c.requires.ordered.x5u) (order_parts (wanted_of c.args.order.now) c.requires.order).uri in
    let text : c.deref-2.result.now ≡ token_by c.args.order.now.shape (signing_of c.args.one.now.draft.passport) c.args.signature.now =
    c.deref-2.ensures.value ∙ c.in_ok-token.ensures
    ∙ ap (λ (x : List ℕ). token_by c.args.order.now.shape x c.args.signature.now) (c.deref.ensures.value ∙ c.requires.signing) in
    value_written c.write.result (λ text. text.items) c.args.order.now.shape c.args.one.now.draft.passport c.args.signature.now c.deref-2.result.now c.field.result text c.field.ensures
    (subst (λ (x : List ℕ). Run is_digest_byte 8192 x) (sym text)
    (token_row c.token_bytes_law.ensures.compact c.args.order.now.shape c.args.one.now.draft.passport c.args.signature.now c.requires.signable uri c.requires.ordered.called
    c.are_signature.ensures))
    c.write.ensures.spelled c.write.ensures.reads_back c.write.ensures.read_again c.write.ensures.one_line
