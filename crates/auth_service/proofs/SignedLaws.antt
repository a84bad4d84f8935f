-- What a signed message is, from what its steps gave.
use Rattle.std.proofs.Common.{◌≡◌, ◌↔◌, ℕ, ◌≤◌, Bool, true, false, not, cond, List, length, Option, Some, None, Result, Ok, Err, IfOk, IsTrue, refl, sym, ap, subst, ◌∙◌}
use Rattle.std.proofs.lemmas.Bool.{eqb-true}
use Rattle.lists.proofs.StepLaws.{came, inside}
use Rattle.std.specs.Prelude.{IsErrAnd}
use Rattle.lists.specs.Given.{Gives, IsFaultOf}
use Rattle.lists.specs.Steps.{◌>>=◌}
use Rattle.tn_values.specs.Local.{LocalView}
use Rattle.sip_message.specs.Accessors.{calling_number, date, is_invite, to_number}
use Rattle.sip_message.specs.Added.{with_last, with_line, with_line_at}
use Rattle.sip_message.specs.Head.{Head}
use Rattle.sip_message.specs.Message.{MessageView}
use Rattle.sip_message.specs.Reading.{read}
use Rattle.sip_message.specs.declared.fault.FormFault.{FormFault}
use Rattle.tn_auth_list.specs.declared.entries.Entry.{Entry}
use Rattle.delegation.specs.Coverage.{Table}
use Rattle.passport_json.specs.Signing.{Ticket}
use Rattle.passport_json.specs.Spelled.{IsSignature}
use Rattle.passport_claims.specs.Passport.{ClaimsView}
use Rattle.passport_claims.specs.Signed.{IsSignable, IsTokenOf, signing_of}
use Rattle.passport_claims.specs.declared.kind.Kind.{Kind}
use Rattle.verify_rules.specs.Call.{facts_of, given_to_compact}
use Rattle.verify_rules.specs.Late.{covers_kind}
use Rattle.verify_rules.specs.LateWords.{CoversKind}
use Rattle.auth_service.specs.declared.fault.SignFault.{SignFault}
use Rattle.auth_service.specs.declared.fault.SignFault.TheVariants as faults
use Rattle.auth_service.specs.declared.wanted.Shape.{Shape}
use Rattle.auth_service.specs.declared.wanted.Shape.TheVariants as shapes
use Rattle.auth_service.specs.Answer.{decided}
use Rattle.auth_service.specs.Causes.{MaySpeak}
use Rattle.auth_service.specs.Field.{field_name, field_of, token_by, value_of}
use Rattle.auth_service.specs.Order.{HolderView, OrderView, kind_of}
use Rattle.auth_service.specs.Outcome.{IsSigned}
use Rattle.auth_service.specs.Signed.{allowed, called_as, called_number, claims_by, claims_for, claims_in, claims_of, claims_or_fault, is_dated_as, invite_in, is_allowed, is_dated, is_second, is_too_long, signature_of, signature_or, signed}
use Rattle.auth_service.specs.Written.{HasRoomFor, IsFor, IsWrittenField}
use Rattle.auth_service.proofs.LineLaws.{CompactSize, FullSize, has_room}

-- ---- what was found of the message

pub record Found (bytes : List ℕ) (order : OrderView) (holder : Option HolderView) (claims : ClaimsView) : Type 0 where
  pub message : MessageView
  pub read_as : read bytes ≡ Ok message
  pub method : is_invite message ≡ true
  pub dated : is_dated order message ≡ true
  pub orig : List ℕ
  pub calling : calling_number message order.local ≡ Some orig
  pub dest : List ℕ
  pub called : called_number order message ≡ Some dest
  pub says : claims_by order orig dest ≡ claims
  pub room : is_too_long bytes order.shape claims ≡ false
  pub authority : is_allowed holder claims ≡ true

pub record IsInviteRead (r : Result MessageView FormFault) (message : MessageView) : Type 0 where
  pub read_as : r ≡ Ok message
  pub method : is_invite message ≡ true

invite_by : (message kept : MessageView) (t : Bool) → is_invite message ≡ t → ◌≡◌ {A = Result MessageView SignFault} (cond t (Ok message) (Err faults.Form)) (Ok kept)
    → (message ≡ kept) × (is_invite message ≡ true)
invite_by message kept true e h = (inside message kept h, e)
invite_by message kept false e h = absurd cc

pub invite_found : (r : Result MessageView FormFault) (message : MessageView) → invite_in r ≡ Ok message → IsInviteRead r message
invite_found (Err fault) message h = absurd cc
invite_found (Ok own) message h =
    let k = invite_by own message (is_invite own) refl h in
    record { read_as = ap (λ (m : MessageView). Ok m) k.0; method = ap is_invite (sym k.0) ∙ k.1 }

pub record Numbers (order : OrderView) (calling called : Option (List ℕ)) (claims : ClaimsView) : Type 0 where
  pub orig : List ℕ
  pub calls : calling ≡ Some orig
  pub dest : List ℕ
  pub is_called : called ≡ Some dest
  pub says : claims_by order orig dest ≡ claims

numbers_found : (order : OrderView) (calling called : Option (List ℕ)) (claims : ClaimsView) → claims_or_fault order calling called ≡ Ok claims → Numbers order calling called claims
numbers_found order (Some orig) (Some dest) claims h = record { orig = orig; calls = refl; dest = dest; is_called = refl; says = inside (claims_by order orig dest) claims h }
numbers_found order (Some orig) None claims h = absurd cc
numbers_found order None called claims h = absurd cc

claims_by_date : (order : OrderView) (message : MessageView) (claims : ClaimsView) (t : Bool) → is_dated order message ≡ t
    → cond t (claims_or_fault order (calling_number message order.local) (called_number order message)) (Err faults.Form) ≡ Ok claims
    → (is_dated order message ≡ true) × Numbers order (calling_number message order.local) (called_number order message) claims
claims_by_date order message claims true e h = (e, numbers_found order (calling_number message order.local) (called_number order message) claims h)
claims_by_date order message claims false e h = absurd cc

claims_found : (order : OrderView) (message : MessageView) (claims : ClaimsView) → claims_of order message ≡ Ok claims
    → (is_dated order message ≡ true) × Numbers order (calling_number message order.local) (called_number order message) claims
unfolding claims_of
claims_found order message claims h = claims_by_date order message claims (is_dated order message) refl h

allowed_by : (bytes : List ℕ) (order : OrderView) (holder : Option HolderView) (own claims : ClaimsView) (s t : Bool) → is_too_long bytes order.shape own ≡ s → is_allowed holder own ≡ t
    → cond s (Err faults.Form) (cond (not t) (Err faults.Authority) (Ok own)) ≡ Ok claims
    → (is_too_long bytes order.shape own ≡ false) × (is_allowed holder own ≡ true) × (own ≡ claims)
allowed_by bytes order holder own claims true t es et h = absurd cc
allowed_by bytes order holder own claims false true es et h = (es, et, inside own claims h)
allowed_by bytes order holder own claims false false es et h = absurd cc

allowed_found : (bytes : List ℕ) (order : OrderView) (holder : Option HolderView) (own claims : ClaimsView) → allowed bytes order holder own ≡ Ok claims
    → (is_too_long bytes order.shape own ≡ false) × (is_allowed holder own ≡ true) × (own ≡ claims)
unfolding allowed
allowed_found bytes order holder own claims h = allowed_by bytes order holder own claims (is_too_long bytes order.shape own) (is_allowed holder own) refl refl h

-- the message, its numbers and what allows the PASSporT
pub found : (bytes : List ℕ) (order : OrderView) (holder : Option HolderView) (claims : ClaimsView) → claims_for bytes order holder ≡ Ok claims → Found bytes order holder claims
unfolding claims_for claims_in
found bytes order holder claims h =
    let one = came (claims_in order (read bytes)) (allowed bytes order holder) claims h in
    let own : ClaimsView = one.0 in
    let two = came (invite_in (read bytes)) (claims_of order) own one.1 in
    let message : MessageView = two.0 in
    let invite = invite_found (read bytes) message two.1 in
    let numbers = claims_found order message own two.2 in
    let a = allowed_found bytes order holder own claims one.2 in
    record {
      message = message;
      read_as = invite.read_as;
      method = invite.method;
      dated = numbers.0;
      orig = numbers.1.orig;
      calling = numbers.1.calls;
      dest = numbers.1.dest;
      called = numbers.1.is_called;
      says = numbers.1.says ∙ a.2;
      room = subst (λ (c : ClaimsView). is_too_long bytes order.shape c ≡ false) a.2 a.0;
      authority = subst (λ (c : ClaimsView). is_allowed holder c ≡ true) a.2 a.1;
    }

signature_found : (digest : List ℕ) (made : Option (List ℕ)) (signature : List ℕ) → signature_or digest made ≡ Ok signature → made ≡ Some signature
signature_found digest None signature h = absurd cc
signature_found digest (Some own) signature h = ap (λ (x : List ℕ). Some x) (inside own signature h)

-- ---- the token, in each form

pub second_is : (iat : ℕ) (given : Option ℕ) → is_second iat given ≡ true → given ≡ Some iat
second_is iat None h = absurd cc
second_is iat (Some seconds) h = ap (λ (n : ℕ). Some n) (eqb-true seconds iat h)

abbrev ordered : Shape → List ℕ → List ℕ → ℕ → LocalView → OrderView
ordered shape key x5u iat local = record { shape = shape; key = key; x5u = x5u; iat = iat; local = local }

abbrev IsItsToken : OrderView → MessageView → List ℕ → List ℕ → List ℕ → Type 0
IsItsToken order message orig dest signature =
    IsTokenOf (token_by order.shape (signing_of (claims_by order orig dest)) signature)
    (given_to_compact (facts_of order.local message) (field_of order.shape (claims_by order orig dest) signature)) (claims_by order orig dest) signature

token_of_shape : (shape : Shape) (key x5u : List ℕ) (iat : ℕ) (local : LocalView) (message : MessageView) (orig dest signature : List ℕ) → is_dated_as shape iat message ≡ true
    → calling_number message local ≡ Some orig → called_as (kind_of shape) message local ≡ Some dest → IsSignable (claims_by (ordered shape key x5u iat local) orig dest)
    → IsSignature signature → IsItsToken (ordered shape key x5u iat local) message orig dest signature
token_of_shape (shapes.Full kind) key x5u iat local message orig dest signature d c t s is = s.full signature _ is
token_of_shape shapes.Compact key x5u iat local message orig dest signature d c t s is =
    let seconds : date message ≡ Some iat = second_is iat (date message) d in
    let called : to_number message local ≡ Some dest = t in
    s.compact signature _ is (rw (seconds, c, called) refl)

its_token : (order : OrderView) (message : MessageView) (orig dest signature : List ℕ) → is_dated order message ≡ true → calling_number message order.local ≡ Some orig
    → called_number order message ≡ Some dest → IsSignable (claims_by order orig dest) → IsSignature signature → IsItsToken order message orig dest signature
its_token order message orig dest signature d c t s is = token_of_shape order.shape order.key order.x5u order.iat order.local message orig dest signature d c t s is

-- in words: in the compact form the Date is the order's second
pub dated_by : (shape : Shape) (iat : ℕ) (message : MessageView) → is_dated_as shape iat message ≡ true → shape ≡ shapes.Compact → date message ≡ Some iat
dated_by (shapes.Full kind) iat message d e = absurd cc
dated_by shapes.Compact iat message d e = second_is iat (date message) d

-- ---- what the holder covers

-- the test of what a list must cover decides it
abbrev pub CoversKindLaw : Type 0
CoversKindLaw = (table : Table) (entries : List Entry) (orig : List ℕ) (kind : Kind) → IsTrue (covers_kind table entries orig kind) ↔ CoversKind table entries orig kind

pub speaks : CoversKindLaw → (holder : Option HolderView) (claims : ClaimsView) → is_allowed holder claims ≡ true → MaySpeak holder claims
speaks covers None claims h = tt
speaks covers (Some one) claims h = (covers one.table one.entries claims.orig claims.kind).0 h

-- ---- the record

abbrev pub HeadLaw : Type 0
HeadLaw = (bytes : List ℕ) (message : MessageView) → (read bytes ≡ Ok message) ↔ Head bytes message

-- what adding the field gave
pub record IsPut (bytes value out : List ℕ) : Type 0 where
  pub placed : (message : MessageView) (head : Head bytes message) → out ≡ with_line_at head.empty.place bytes field_name value
  pub added : (message : MessageView) → Head bytes message → Head out (with_last message field_name value)

pub is_signed : HeadLaw → CoversKindLaw → (bytes : List ℕ) (order : OrderView) (holder : Option HolderView) (signs : List ℕ → List ℕ → Option (List ℕ)) (claims : ClaimsView)
    (signature value out : List ℕ) → claims_for bytes order holder ≡ Ok claims → IsSignable claims → signature_of signs order.key (signing_of claims) ≡ Ok signature
    → IsSignature signature → value ≡ value_of order.shape claims signature → IsWrittenField value (field_of order.shape claims signature) → IsPut bytes value out
    → IsSigned bytes order holder signs out
is_signed law covers bytes order holder signs claims signature value out given able made is v w put =
    let f = found bytes order holder claims given in
    let own : ClaimsView = claims_by order f.orig f.dest in
    let back : claims ≡ own = sym f.says in
    let head : Head bytes f.message = (law bytes f.message).0 f.read_as in
    let written : value ≡ value_of order.shape own signature = v ∙ ap (λ (c : ClaimsView). value_of order.shape c signature) back in
    let field : IsWrittenField (value_of order.shape own signature) (field_of order.shape own signature) =
    subst (λ (x : List ℕ). IsWrittenField x (field_of order.shape own signature)) written (subst (λ (c : ClaimsView). IsWrittenField value (field_of order.shape c signature)) back w) in
    let made_of : signs order.key (Ticket (signing_of claims)) ≡ Some signature = signature_found (Ticket (signing_of claims)) (signs order.key (Ticket (signing_of claims))) signature made in
    record {
      message = f.message;
      head = head;
      method = f.method;
      dated = dated_by order.shape order.iat f.message f.dated;
      orig = f.orig;
      calling = f.calling;
      dest = f.dest;
      called = f.called;
      signature = signature;
      is_signature = is;
      authority = speaks covers holder own (subst (λ (c : ClaimsView). is_allowed holder c ≡ true) back f.authority);
      made = subst (λ (c : ClaimsView). signs order.key (Ticket (signing_of c)) ≡ Some signature) back made_of;
      placed = subst (λ (x : List ℕ). out ≡ with_line_at head.empty.place bytes field_name x) written (put.placed f.message head);
      added = subst (λ (x : List ℕ). Head out (with_last f.message field_name x)) written (put.added f.message head);
      field = field.grammar;
      field_read = field.read_as;
      token = its_token order f.message f.orig f.dest signature f.dated f.calling f.called (subst (λ (c : ClaimsView). IsSignable c) back able) is;
    }

-- what comes of the PASSporT of a message
faulty_claims : (t : Option SignFault) (bytes : List ℕ) (order : OrderView) (holder : Option HolderView) (r : Result ClaimsView SignFault) → IsFaultOf t r
    → IsFaultOf t (r >>= allowed bytes order holder)
faulty_claims None bytes order holder r h = tt
faulty_claims (Some fault) bytes order holder r h = ap (λ (x : Result ClaimsView SignFault). x >>= allowed bytes order holder) h

pub faulty_for : {X : Type 0} (seen : X → ClaimsView) (answer : Result X SignFault) (fault : SignFault) (bytes : List ℕ) (order : OrderView) (holder : Option HolderView)
    → IsErrAnd answer (λ f. f ≡ fault) → IsFaultOf (decided fault) (claims_in order (read bytes)) → Gives decided seen answer (claims_for bytes order holder)
unfolding claims_for
faulty_for seen (Ok x) fault bytes order holder e h = absurd e
faulty_for seen (Err other) fault bytes order holder e h =
    faulty_claims (decided other) bytes order holder (claims_in order (read bytes))
    (subst (λ (f : SignFault). IsFaultOf (decided f) (claims_in order (read bytes))) (sym e) h)

pub too_long_for : (bytes : List ℕ) (order : OrderView) (holder : Option HolderView) (claims : ClaimsView) → claims_in order (read bytes) ≡ Ok claims
    → is_too_long bytes order.shape claims ≡ true → claims_for bytes order holder ≡ Err faults.Form
unfolding claims_for allowed
too_long_for bytes order holder claims e long = rw (e, long) refl

pub not_allowed_for : (bytes : List ℕ) (order : OrderView) (holder : Option HolderView) (claims : ClaimsView) → claims_in order (read bytes) ≡ Ok claims
    → is_too_long bytes order.shape claims ≡ false → is_allowed holder claims ≡ false → claims_for bytes order holder ≡ Err faults.Authority
unfolding claims_for allowed
not_allowed_for bytes order holder claims e short other = rw (e, short, other) refl

pub allowed_for : (bytes : List ℕ) (order : OrderView) (holder : Option HolderView) (claims : ClaimsView) → claims_in order (read bytes) ≡ Ok claims
    → is_too_long bytes order.shape claims ≡ false → is_allowed holder claims ≡ true → claims_for bytes order holder ≡ Ok claims
unfolding claims_for allowed
allowed_for bytes order holder claims e short may = rw (e, short, may) refl

-- the field of a PASSporT that is allowed has room in the message
pub room_for : FullSize → CompactSize → (bytes : List ℕ) (order : OrderView) (holder : Option HolderView) (claims : ClaimsView) (signature value : List ℕ)
    → claims_for bytes order holder ≡ Ok claims → IsFor order claims → IsSignature signature → value ≡ value_of order.shape claims signature → HasRoomFor bytes value
room_for full compact bytes order holder claims signature value given f is v =
    let k = found bytes order holder claims given in
    record {
      message = k.message;
      read_as = k.read_as;
      short = subst (λ (x : List ℕ). length (with_line bytes field_name x) ≤ 65535) (sym v) (has_room full compact bytes order.shape claims signature f.kind is k.room);
    }

-- ---- what is answered

-- the last step's answer is that of the whole
pub answers_signed : {X : Type 0} (seen : X → List ℕ) (answer : Result X SignFault) (bytes : List ℕ) (order : OrderView) (holder : Option HolderView)
    (signs : List ℕ → List ℕ → Option (List ℕ)) (claims : ClaimsView) (signature value : List ℕ) → claims_for bytes order holder ≡ Ok claims
    → signature_of signs order.key (signing_of claims) ≡ Ok signature → value ≡ value_of order.shape claims signature
    → Gives decided seen answer (Ok (with_line bytes field_name value)) → Gives decided seen answer (signed bytes order holder signs)
unfolding signed
answers_signed seen answer bytes order holder signs claims signature value given made v g =
    rw (given, made) (subst (λ (x : List ℕ). Gives decided seen answer (Ok (with_line bytes field_name x))) v g)

pub answers_record : {X : Type 0} (seen : X → List ℕ) (answer : Result X SignFault) → HeadLaw → CoversKindLaw → (bytes : List ℕ) (order : OrderView) (holder : Option HolderView)
    (signs : List ℕ → List ℕ → Option (List ℕ)) (claims : ClaimsView) (signature value : List ℕ) → claims_for bytes order holder ≡ Ok claims → IsSignable claims
    → signature_of signs order.key (signing_of claims) ≡ Ok signature → IsSignature signature → value ≡ value_of order.shape claims signature
    → IsWrittenField value (field_of order.shape claims signature)
    → ((message : MessageView) (head : Head bytes message) → IfOk answer (λ out. seen out ≡ with_line_at head.empty.place bytes field_name value))
    → ((message : MessageView) → Head bytes message → IfOk answer (λ out. Head (seen out) (with_last message field_name value)))
    → IfOk answer (λ out. IsSigned bytes order holder signs (seen out))
answers_record seen (Ok out) law covers bytes order holder signs claims signature value given able made is v w placed added =
    is_signed law covers bytes order holder signs claims signature value (seen out) given able made is v w (record { placed = placed; added = added })
answers_record seen (Err fault) law covers bytes order holder signs claims signature value given able made is v w placed added = tt
