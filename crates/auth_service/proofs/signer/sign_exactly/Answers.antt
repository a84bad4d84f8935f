-- What the steps gave, put together.
use Rattle.std.proofs.Common.{◌≡◌, List, ℕ, Ok, IfOk, IsTrue, sym, ap, subst, ◌∙◌}
use Rattle.lists.specs.Given.{Gives}
use Rattle.sip_message.specs.Added.{is_field_value, with_last, with_line, with_line_at}
use Rattle.sip_message.specs.Head.{Head}
use Rattle.sip_message.specs.Message.{MessageView}
use Rattle.auth_service.specs.Answer.{decided}
use Rattle.auth_service.specs.Field.{field_name, field_of}
use Rattle.auth_service.specs.Order.{holder_seen, wanted_of}
use Rattle.auth_service.specs.Signed.{signature_of}
use Rattle.auth_service.specs.Written.{HasRoomFor, IsWrittenField}
use Rattle.auth_service.proofs.SignedLaws.{answers_record, answers_signed, room_for}
use Rattle.auth_service.proofs.signer.sign_exactly.Goals as goal

pub with_identity-requires-clause-value : goal.with_identity-requires-clause-value
with_identity-requires-clause-value g c = subst (λ (x : List ℕ). IsTrue (is_field_value x)) (sym c.deref-2.ensures.value) c.in_ok-value.ensures.written.line

pub with_identity-requires-clause-room : goal.with_identity-requires-clause-room
with_identity-requires-clause-room g c =
    subst (λ (b : List ℕ). HasRoomFor b c.deref-2.result.now) (sym c.in_ok-one.ensures.text)
    (room_for c.token_bytes_law.ensures.full_size c.token_bytes_law.ensures.compact_size c.args.bytes.now (wanted_of c.args.wanted.now) (holder_seen c.args.holder)
    c.in_ok-one.one.draft.passport c.in_ok-signature.signature c.deref-2.result.now c.in_ok-one.ensures.exact c.in_ok-one.ensures.ordered c.in_ok-value.ensures.signature
    (c.deref-2.ensures.value ∙ c.in_ok-value.ensures.exact))

pub returns-clause-exact : goal.returns-clause-exact
returns-clause-exact g c =
    answers_signed (λ out. out.items) c.with_identity.result c.args.bytes.now (wanted_of c.args.wanted.now) (holder_seen c.args.holder) (g.P.Provider.signs c.args.provider.now) c.in_ok-one.one.draft.passport
    c.in_ok-signature.signature c.deref-2.result.now c.in_ok-one.ensures.exact
    (sym (ap (signature_of (g.P.Provider.signs c.args.provider.now) c.args.wanted.now.key.now) (c.deref.ensures.value ∙ c.in_ok-one.ensures.signing)) ∙ c.in_ok-signature.ensures.exact)
    (c.deref-2.ensures.value ∙ c.in_ok-value.ensures.exact)
    (subst (λ (b : List ℕ). Gives decided (λ out. out.items) c.with_identity.result (Ok (with_line b field_name c.deref-2.result.now))) c.in_ok-one.ensures.text
    c.with_identity.ensures.exact)

pub returns-clause-signed : goal.returns-clause-signed
returns-clause-signed g c =
    answers_record (λ out. out.items) c.with_identity.result c.head_law.ensures c.covers_kind_law.ensures c.args.bytes.now (wanted_of c.args.wanted.now) (holder_seen c.args.holder) (g.P.Provider.signs c.args.provider.now) c.in_ok-one.one.draft.passport
    c.in_ok-signature.signature c.deref-2.result.now c.in_ok-one.ensures.exact c.in_ok-one.ensures.signable
    (sym (ap (signature_of (g.P.Provider.signs c.args.provider.now) c.args.wanted.now.key.now) (c.deref.ensures.value ∙ c.in_ok-one.ensures.signing)) ∙ c.in_ok-signature.ensures.exact)
    c.in_ok-value.ensures.signature (c.deref-2.ensures.value ∙ c.in_ok-value.ensures.exact)
    (subst (λ (x : List ℕ). IsWrittenField x (field_of c.args.wanted.now.shape c.in_ok-one.one.draft.passport c.in_ok-signature.signature)) (sym c.deref-2.ensures.value) c.in_ok-value.ensures.written)
    (subst (λ (b : List ℕ). (message : MessageView) (head : Head b message)
    → IfOk c.with_identity.result (λ out. out.items ≡ with_line_at head.empty.place b field_name c.deref-2.result.now)) c.in_ok-one.ensures.text c.with_identity.ensures.placed)
    (subst (λ (b : List ℕ). (message : MessageView) → Head b message → IfOk c.with_identity.result (λ out. Head out.items (with_last message field_name c.deref-2.result.now)))
    c.in_ok-one.ensures.text c.with_identity.ensures.added)
