-- The fault that the definition gives has its cause in the message, the order, the holder or the provider's answer.
use Rattle.std.proofs.Common.{◌≡◌, ◌⊎◌, ℕ, Bool, true, false, not, cond, List, Option, Some, None, Result, Ok, Err, inl, inr, refl, sym, ap, subst, ◌∙◌, arith}
use Rattle.std.specs.Prelude.{IfErr}
use Rattle.lists.proofs.Bytes.{same_byte}
use Rattle.lists.specs.Given.{Gives}
use Rattle.lists.specs.Steps.{◌>>=◌}
use Rattle.sip_message.specs.Accessors.{calling_number, date, is_invite}
use Rattle.sip_message.specs.Added.{with_line}
use Rattle.sip_message.specs.Head.{Head}
use Rattle.sip_message.specs.Message.{MessageView}
use Rattle.sip_message.specs.Reading.{read}
use Rattle.sip_message.specs.declared.fault.FormFault.{FormFault}
use Rattle.passport_json.specs.Signing.{Ticket}
use Rattle.passport_claims.specs.Passport.{ClaimsView}
use Rattle.passport_claims.specs.Signed.{signing_of}
use Rattle.verify_rules.specs.Late.{covers_kind}
use Rattle.verify_rules.specs.LateWords.{CoversKind}
use Rattle.auth_service.specs.declared.fault.SignFault.{SignFault}
use Rattle.auth_service.specs.declared.fault.SignFault.TheVariants as faults
use Rattle.auth_service.specs.declared.wanted.Shape.{Shape}
use Rattle.auth_service.specs.declared.wanted.Shape.TheVariants as shapes
use Rattle.auth_service.specs.Answer.{decided}
use Rattle.auth_service.specs.Causes.{HasRoom, IsCaused, IsInvite, IsMisformed, IsOrdered, IsTooLong, IsUnauthorized, IsUnnumbered, IsWithheld, MaySpeak, misformed, no_invite, no_message, other_date, too_long, unauthorized, unnumbered}
use Rattle.auth_service.specs.Field.{field_name, value_of}
use Rattle.auth_service.specs.Order.{HolderView, OrderView}
use Rattle.auth_service.specs.Signed.{allowed, called_number, claims_by, claims_for, claims_in, claims_of, claims_or_fault, is_dated_as, invite_in, is_allowed, is_dated, is_second, is_too_long, no_signature, signature_of, signature_or, signed}
use Rattle.auth_service.specs.Written.{IsFor}
use Rattle.auth_service.proofs.LineLaws.{CompactSize, FullSize, has_none, has_room, none_signature}
use Rattle.auth_service.proofs.MadeLaws.{made_for}
use Rattle.auth_service.proofs.SignedLaws.{CoversKindLaw, HeadLaw, dated_by, speaks}

-- what the steps rest on
pub record Laws : Type 0 where
  pub head : HeadLaw
  pub full : FullSize
  pub compact : CompactSize
  pub covers : CoversKindLaw

same_err : {X : Type 0} (f g : SignFault) → ◌≡◌ {A = Result X SignFault} (Err f) (Err g) → f ≡ g
same_err f g e = cc

to_cause : (bytes : List ℕ) (order : OrderView) (holder : Option HolderView) (signs : List ℕ → List ℕ → Option (List ℕ)) (f g : SignFault) → f ≡ g
    → IsCaused bytes order holder signs f → IsCaused bytes order holder signs g
to_cause bytes order holder signs f g e c = subst (IsCaused bytes order holder signs) e c

-- ---- the Date

second_again : (iat : ℕ) (seconds : Option ℕ) → seconds ≡ Some iat → is_second iat seconds ≡ true
second_again iat seconds e = ap (is_second iat) e ∙ same_byte iat

undated_by : (shape : Shape) (iat : ℕ) (message : MessageView) → is_dated_as shape iat message ≡ false → (shape ≡ shapes.Compact) × (date message ≡ Some iat → ⊥)
undated_by (shapes.Full kind) iat message d = absurd cc
undated_by shapes.Compact iat message d = (refl, λ e. let k = second_again iat (date message) e in absurd cc)

-- ---- an INVITE

invite_of : Laws → (bytes : List ℕ) (order : OrderView) (message : MessageView) → read bytes ≡ Ok message → is_invite message ≡ true → is_dated order message ≡ true → IsInvite bytes order message
invite_of laws bytes order message r m d = record { head = (laws.head bytes message).0 r; method = m; dated = dated_by order.shape order.iat message d }

ordered_of : Laws → (bytes : List ℕ) (order : OrderView) (message : MessageView) (claims : ClaimsView) (orig dest : List ℕ) → read bytes ≡ Ok message → is_invite message ≡ true
    → is_dated order message ≡ true → calling_number message order.local ≡ Some orig → called_number order message ≡ Some dest → claims ≡ claims_by order orig dest
    → IsOrdered bytes order message claims
ordered_of laws bytes order message claims orig dest r m d c t s =
    record { invite = invite_of laws bytes order message r m d; orig = orig; calling = c; dest = dest; called = t; says = s }

-- ---- the faults of the message

-- what the message gives when a PASSporT is asked of it: a cause, or the parts of that PASSporT
data Asked (bytes : List ℕ) (order : OrderView) (r : Result ClaimsView SignFault) : Type 0 where
  is_not : (f : SignFault) → r ≡ Err f → ((holder : Option HolderView) (signs : List ℕ → List ℕ → Option (List ℕ)) → IsCaused bytes order holder signs f) → Asked bytes order r
  is : (message : MessageView) (claims : ClaimsView) → r ≡ Ok claims → IsOrdered bytes order message claims → IsFor order claims → Asked bytes order r

numbers_by : Laws → (bytes : List ℕ) (order : OrderView) (message : MessageView) (calling called : Option (List ℕ)) → read bytes ≡ Ok message → is_invite message ≡ true
    → is_dated order message ≡ true → calling_number message order.local ≡ calling → called_number order message ≡ called → Asked bytes order (claims_or_fault order calling called)
numbers_by laws bytes order message (Some orig) (Some dest) r m d c t =
    is message (claims_by order orig dest) refl (ordered_of laws bytes order message (claims_by order orig dest) orig dest r m d c t refl) (made_for order orig dest (claims_by order orig dest) refl)
numbers_by laws bytes order message (Some orig) None r m d c t =
    is_not faults.NoNumber refl (λ holder signs. record { message = message; invite = invite_of laws bytes order message r m d; missing = inr t })
numbers_by laws bytes order message None called r m d c t =
    is_not faults.NoNumber refl (λ holder signs. record { message = message; invite = invite_of laws bytes order message r m d; missing = inl c })

date_by : Laws → (bytes : List ℕ) (order : OrderView) (message : MessageView) (t : Bool) → read bytes ≡ Ok message → is_invite message ≡ true → is_dated order message ≡ t
    → Asked bytes order (cond t (claims_or_fault order (calling_number message order.local) (called_number order message)) (Err faults.Form))
date_by laws bytes order message true r m d = numbers_by laws bytes order message (calling_number message order.local) (called_number order message) r m d refl refl
date_by laws bytes order message false r m d =
    let u = undated_by order.shape order.iat message d in
    is_not faults.Form refl (λ holder signs. other_date message ((laws.head bytes message).0 r) m u.0 u.1)

of_message : Laws → (bytes : List ℕ) (order : OrderView) (message : MessageView) → read bytes ≡ Ok message → is_invite message ≡ true → Asked bytes order (claims_of order message)
unfolding claims_of
of_message laws bytes order message r m = date_by laws bytes order message (is_dated order message) r m refl

invite_by : Laws → (bytes : List ℕ) (order : OrderView) (message : MessageView) (t : Bool) → read bytes ≡ Ok message → is_invite message ≡ t
    → Asked bytes order (cond t (Ok message) (Err faults.Form) >>= claims_of order)
invite_by laws bytes order message true r m = of_message laws bytes order message r m
invite_by laws bytes order message false r m = is_not faults.Form refl (λ holder signs. no_invite message ((laws.head bytes message).0 r) (λ e. let k = m in absurd cc))

message_by : Laws → (bytes : List ℕ) (order : OrderView) (r : Result MessageView FormFault) → read bytes ≡ r → Asked bytes order (invite_in r >>= claims_of order)
message_by laws bytes order (Err fault) r = is_not faults.Form refl (λ holder signs. no_message (λ message h. let k = (laws.head bytes message).1 h in absurd cc))
message_by laws bytes order (Ok message) r = invite_by laws bytes order message (is_invite message) r refl

asked : Laws → (bytes : List ℕ) (order : OrderView) → Asked bytes order (claims_in order (read bytes))
unfolding claims_in
asked laws bytes order = message_by laws bytes order (read bytes) refl

-- ---- size and authority

room_of : Laws → (bytes : List ℕ) (order : OrderView) (claims : ClaimsView) → IsFor order claims → is_too_long bytes order.shape claims ≡ false → HasRoom bytes order claims
room_of laws bytes order claims f e signature s long =
    let short = has_room laws.full laws.compact bytes order.shape claims signature f.kind s e in absurd (omega (arith, short, long))

unspeaking : Laws → (bytes : List ℕ) (order : OrderView) (holder : Option HolderView) (message : MessageView) (claims : ClaimsView) → IsOrdered bytes order message claims
    → HasRoom bytes order claims → is_allowed holder claims ≡ false → IsUnauthorized bytes order holder
unspeaking laws bytes order None message claims o room h = absurd cc
unspeaking laws bytes order (Some one) message claims o room h =
    record {
      message = message;
      claims = claims;
      ordered = o;
      room = room;
      one = one;
      given = refl;
      lacks = λ c. let k : covers_kind one.table one.entries claims.orig claims.kind ≡ true = (laws.covers one.table one.entries claims.orig claims.kind).1 c in absurd cc;
    }

-- what is given of the message, the order and the holder
data Given (bytes : List ℕ) (order : OrderView) (holder : Option HolderView) (r : Result ClaimsView SignFault) : Type 0 where
  refused : (f : SignFault) → r ≡ Err f → ((signs : List ℕ → List ℕ → Option (List ℕ)) → IsCaused bytes order holder signs f) → Given bytes order holder r
  granted : (message : MessageView) (claims : ClaimsView) → r ≡ Ok claims → IsOrdered bytes order message claims → HasRoom bytes order claims → MaySpeak holder claims
      → Given bytes order holder r

allowed_by : Laws → (bytes : List ℕ) (order : OrderView) (holder : Option HolderView) (message : MessageView) (claims : ClaimsView) (s t : Bool) → IsOrdered bytes order message claims
    → IsFor order claims → is_too_long bytes order.shape claims ≡ s → is_allowed holder claims ≡ t
    → Given bytes order holder (cond s (Err faults.Form) (cond (not t) (Err faults.Authority) (Ok claims)))
allowed_by laws bytes order holder message claims true t o f es et =
    refused faults.Form refl (λ signs. too_long message claims o (λ signature s. has_none laws.full laws.compact bytes order.shape claims signature f.kind s es))
allowed_by laws bytes order holder message claims false true o f es et = granted message claims refl o (room_of laws bytes order claims f es) (speaks laws.covers holder claims et)
allowed_by laws bytes order holder message claims false false o f es et =
    refused faults.Authority refl (λ signs. unspeaking laws bytes order holder message claims o (room_of laws bytes order claims f es) et)

given_by : Laws → (bytes : List ℕ) (order : OrderView) (holder : Option HolderView) (r : Result ClaimsView SignFault) → Asked bytes order r → Given bytes order holder (r >>= allowed bytes order holder)
unfolding allowed
given_by laws bytes order holder r (is_not f e c) = refused f (ap (λ (x : Result ClaimsView SignFault). x >>= allowed bytes order holder) e) (c holder)
given_by laws bytes order holder r (is message claims e o f) =
    subst (λ (x : Result ClaimsView SignFault). Given bytes order holder (x >>= allowed bytes order holder)) (sym e)
    (allowed_by laws bytes order holder message claims (is_too_long bytes order.shape claims) (is_allowed holder claims) o f refl refl)

permitted : Laws → (bytes : List ℕ) (order : OrderView) (holder : Option HolderView) → Given bytes order holder (claims_for bytes order holder)
unfolding claims_for
permitted laws bytes order holder = given_by laws bytes order holder (claims_in order (read bytes)) (asked laws bytes order)

-- ---- the whole

-- what follows the PASSporT
abbrev goes_on : List ℕ → OrderView → (List ℕ → List ℕ → Option (List ℕ)) → ClaimsView → Result (List ℕ) SignFault
goes_on bytes order signs claims =
    signature_of signs order.key (signing_of claims) >>= (λ signature. Ok (with_line bytes field_name (value_of order.shape claims signature)))

unsigned_by : (bytes : List ℕ) (order : OrderView) (holder : Option HolderView) (signs : List ℕ → List ℕ → Option (List ℕ)) (message : MessageView) (claims : ClaimsView)
    (made : Option (List ℕ)) (fault : SignFault) → IsOrdered bytes order message claims → HasRoom bytes order claims → MaySpeak holder claims
    → signs order.key (Ticket (signing_of claims)) ≡ made
    → signature_or (Ticket (signing_of claims)) made >>= (λ signature. Ok (with_line bytes field_name (value_of order.shape claims signature))) ≡ Err fault
    → IsCaused bytes order holder signs fault
unsigned_by bytes order holder signs message claims (Some signature) fault o room may e h = absurd cc
unsigned_by bytes order holder signs message claims None fault o room may e h =
    to_cause bytes order holder signs (faults.NoSignature (Ticket (signing_of claims))) fault (same_err (faults.NoSignature (Ticket (signing_of claims))) fault h)
    (record { message = message; claims = claims; ordered = o; room = room; authority = may; carried = refl; none = e })

caused_by : (bytes : List ℕ) (order : OrderView) (holder : Option HolderView) (signs : List ℕ → List ℕ → Option (List ℕ)) (r : Result ClaimsView SignFault) (fault : SignFault)
    → Given bytes order holder r → r >>= goes_on bytes order signs ≡ Err fault → IsCaused bytes order holder signs fault
caused_by bytes order holder signs r fault (refused f e c) h =
    let same : ◌≡◌ {A = Result (List ℕ) SignFault} (Err f) (Err fault) = sym (ap (λ (x : Result ClaimsView SignFault). x >>= goes_on bytes order signs) e) ∙ h in
    to_cause bytes order holder signs f fault (same_err f fault same) (c signs)
caused_by bytes order holder signs r fault (granted message claims e o room may) h =
    unsigned_by bytes order holder signs message claims (signs order.key (Ticket (signing_of claims))) fault o room may refl
    (sym (ap (λ (x : Result ClaimsView SignFault). x >>= goes_on bytes order signs) e) ∙ h)

pub fault_caused : Laws → (bytes : List ℕ) (order : OrderView) (holder : Option HolderView) (signs : List ℕ → List ℕ → Option (List ℕ)) (fault : SignFault)
    → signed bytes order holder signs ≡ Err fault → IsCaused bytes order holder signs fault
unfolding signed
fault_caused laws bytes order holder signs fault h = caused_by bytes order holder signs (claims_for bytes order holder) fault (permitted laws bytes order holder) h

pub answers_caused : {X : Type 0} (seen : X → List ℕ) (answer : Result X SignFault) → Laws → (bytes : List ℕ) (order : OrderView) (holder : Option HolderView)
    (signs : List ℕ → List ℕ → Option (List ℕ)) → Gives decided seen answer (signed bytes order holder signs) → IfErr answer (λ fault. IsCaused bytes order holder signs fault)
answers_caused seen (Ok out) laws bytes order holder signs g = tt
answers_caused seen (Err faults.Form) laws bytes order holder signs g = fault_caused laws bytes order holder signs faults.Form g
answers_caused seen (Err faults.NoNumber) laws bytes order holder signs g = fault_caused laws bytes order holder signs faults.NoNumber g
answers_caused seen (Err faults.Authority) laws bytes order holder signs g = fault_caused laws bytes order holder signs faults.Authority g
answers_caused seen (Err (faults.NoSignature digest)) laws bytes order holder signs g = fault_caused laws bytes order holder signs (faults.NoSignature digest) g
answers_caused seen (Err faults.Provider) laws bytes order holder signs g = tt
answers_caused seen (Err faults.Memory) laws bytes order holder signs g = tt

-- ---- nothing is withheld of what may be signed

same_message : Laws → (bytes : List ℕ) (m n : MessageView) → Head bytes m → Head bytes n → m ≡ n
same_message laws bytes m n h k = let a : read bytes ≡ Ok m = (laws.head bytes m).1 h in let b : read bytes ≡ Ok n = (laws.head bytes n).1 k in cc

same_some : (a b : List ℕ) (o : Option (List ℕ)) → o ≡ Some a → o ≡ Some b → a ≡ b
same_some a b o e f = cc

same_claims : Laws → (bytes : List ℕ) (order : OrderView) (m n : MessageView) (c d : ClaimsView) → IsOrdered bytes order m c → IsOrdered bytes order n d → c ≡ d
same_claims laws bytes order m n c d o p =
    let same : m ≡ n = same_message laws bytes m n o.invite.head p.invite.head in
    let orig : o.orig ≡ p.orig = same_some o.orig p.orig (calling_number n order.local) (sym (ap (λ x. calling_number x order.local) same) ∙ o.calling) p.calling in
    let dest : o.dest ≡ p.dest = same_some o.dest p.dest (called_number order n) (sym (ap (λ x. called_number order x) same) ∙ o.called) p.called in
    o.says ∙ (ap (λ x. claims_by order x o.dest) orig ∙ (ap (λ x. claims_by order p.orig x) dest ∙ sym p.says))

well_formed : Laws → (bytes : List ℕ) (order : OrderView) (message : MessageView) (claims : ClaimsView) → IsOrdered bytes order message claims → HasRoom bytes order claims
    → IsMisformed bytes order → ⊥
well_formed laws bytes order message claims o room (no_message none) = none message o.invite.head
well_formed laws bytes order message claims o room (no_invite m h not_one) =
    not_one (ap (λ x. is_invite x) (same_message laws bytes m message h o.invite.head) ∙ o.invite.method)
well_formed laws bytes order message claims o room (other_date m h i compact other) =
    other (ap (λ x. date x) (same_message laws bytes m message h o.invite.head) ∙ o.invite.dated compact)
well_formed laws bytes order message claims o room (too_long m c p long) =
    room no_signature none_signature
    (subst (λ (x : ClaimsView). IsTooLong bytes order x no_signature) (same_claims laws bytes order m message c claims p o) (long no_signature none_signature))

well_numbered : Laws → (bytes : List ℕ) (order : OrderView) (message : MessageView) (claims : ClaimsView) → IsOrdered bytes order message claims → (u : IsUnnumbered bytes order)
    → (calling_number u.message order.local ≡ None) ⊎ (called_number order u.message ≡ None) → ⊥
well_numbered laws bytes order message claims o u (inl e) =
    let same : u.message ≡ message = same_message laws bytes u.message message u.invite.head o.invite.head in
    let k : calling_number u.message order.local ≡ Some o.orig = ap (λ x. calling_number x order.local) same ∙ o.calling in
    absurd cc
well_numbered laws bytes order message claims o u (inr e) =
    let same : u.message ≡ message = same_message laws bytes u.message message u.invite.head o.invite.head in
    let k : called_number order u.message ≡ Some o.dest = ap (λ x. called_number order x) same ∙ o.called in
    absurd cc

well_held : Laws → (bytes : List ℕ) (order : OrderView) (holder : Option HolderView) (message : MessageView) (claims : ClaimsView) → IsOrdered bytes order message claims
    → MaySpeak holder claims → IsUnauthorized bytes order holder → ⊥
well_held laws bytes order holder message claims o may u =
    let same : claims ≡ u.claims = same_claims laws bytes order message u.message claims u.claims o u.ordered in
    u.lacks (subst (λ (x : ClaimsView). CoversKind u.one.table u.one.entries x.orig x.kind) same (subst (λ (x : Option HolderView). MaySpeak x claims) u.given may))

none_withheld : Laws → (bytes : List ℕ) (order : OrderView) (holder : Option HolderView) (message : MessageView) (claims : ClaimsView) → IsOrdered bytes order message claims
    → HasRoom bytes order claims → MaySpeak holder claims → IsWithheld bytes order holder → ⊥
none_withheld laws bytes order holder message claims o room may (misformed m) = well_formed laws bytes order message claims o room m
none_withheld laws bytes order holder message claims o room may (unnumbered u) = well_numbered laws bytes order message claims o u u.missing
none_withheld laws bytes order holder message claims o room may (unauthorized u) = well_held laws bytes order holder message claims o may u

-- some fault
abbrev pub HasFault : Result ClaimsView SignFault → Type 0
HasFault r = (fault : SignFault) × (r ≡ Err fault)

fault_by : Laws → (bytes : List ℕ) (order : OrderView) (holder : Option HolderView) (r : Result ClaimsView SignFault) → Given bytes order holder r → IsWithheld bytes order holder
    → HasFault r
fault_by laws bytes order holder r (refused f e c) w = (f, e)
fault_by laws bytes order holder r (granted message claims e o room may) w = absurd (none_withheld laws bytes order holder message claims o room may w)

pub withheld_fault : Laws → (bytes : List ℕ) (order : OrderView) (holder : Option HolderView) → IsWithheld bytes order holder → HasFault (claims_for bytes order holder)
withheld_fault laws bytes order holder w = fault_by laws bytes order holder (claims_for bytes order holder) (permitted laws bytes order holder) w
