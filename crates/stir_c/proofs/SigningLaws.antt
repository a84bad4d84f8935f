-- What is told of a message that is signed, from why none comes out, or from what does.
use Rattle.std.proofs.Common.{◌≡◌, ℕ, ◌≤◌, List, Option, Some, None, Result, Ok, Err, IfOk, IfErr, inl, inr, refl, sym, ◌∙◌, ap, subst, arith}
use Rattle.std.proofs.lemmas.Option.{same_Some}
use Rattle.open_calls.specs.Key.{KeyView}
use Rattle.open_calls.specs.Order.{Given}
use Rattle.open_calls.specs.Signing.{IsSignedBy, IsToSign, IsUnread, IsUnreadWith, IsUnsignedFor, IsUnsignedWith}
use Rattle.open_calls.specs.declared.unsigned.Unread.{Unread}
use Rattle.open_calls.specs.declared.unsigned.Unread.TheVariants as unread
use Rattle.open_calls.specs.declared.unsigned.Unsigned.{Unsigned}
use Rattle.open_calls.specs.declared.unsigned.Unsigned.TheVariants as unsigned
use Rattle.stir_c.specs.Holding.{HeldChainView}
use Rattle.stir_c.specs.Keys.{ByKey, HasKeyOn, key_in}
use Rattle.stir_c.specs.Signing.{HasFault, HasFaultWith, HasNoRoomForMessage, IsWithheld, SignedInto, ToldCame, ToldSigned, ToldUnsigned, input_of, said_of_unsigned}
use Rattle.stir_c.specs.SigningCalls.{TellsSigned, TellsToSign}
use Rattle.stir_c.specs.Told.{plain, said_by_input}
use Rattle.stir_c.specs.declared.said.Said.{Said}
use Rattle.stir_c.specs.declared.writing.Text.{Text}
use Rattle.stir_c.proofs.TextLaws.{high_unwritten, no_middle, text_into, text_kinds, text_more}
use Rattle.stir_c.proofs.ToldLaws.{faulty_kind, input_kind, numbered}

-- ---- why none comes out

kind_of : (came : Unsigned) → (said_of_unsigned came).kind ≤ 3
kind_of (unsigned.Input fault) = input_kind (input_of fault)
kind_of (unsigned.Withheld number) = omega arith
kind_of (unsigned.Digest digest) = omega arith

unsigned_kinds : (Why : Unsigned → Type 0) (said : Said) → ToldUnsigned Why said → said.kind ≤ 3
unsigned_kinds Why said so = subst (λ (s : Said). s.kind ≤ 3) (sym so.told_is) (kind_of so.came)

low_kind : (input : Option ℕ) (kind : ℕ) → kind ≤ 1 → (said_by_input input).kind ≡ kind → ⊥
low_kind input kind few is = faulty_kind input (subst (λ n. n ≤ 1) (sym is) few)

digest_as : (key : KeyView) (order : Given) (message : List ℕ) (came : Unsigned) → IsUnsignedFor key order message None came → (said_of_unsigned came).kind ≡ 0
    → IsToSign key order message (said_of_unsigned came).ticket
digest_as key order message (unsigned.Input fault) by is = absurd (low_kind (input_of fault) 0 (omega arith) is)
digest_as key order message (unsigned.Withheld number) by is = absurd (omega arith)
digest_as key order message (unsigned.Digest digest) by is = by

is_digest : (key : KeyView) (order : Given) (message : List ℕ) (said : Said) → ToldUnsigned (IsUnsignedFor key order message None) said → said.kind ≡ 0
    → IsToSign key order message said.ticket
is_digest key order message said so zero =
    subst (λ (s : Said). IsToSign key order message s.ticket) (sym so.told_is) (digest_as key order message so.came so.why (subst (λ (s : Said). s.kind ≡ 0) so.told_is zero))

withheld_as : (key : KeyView) (order : Given) (message : List ℕ) (made : Option (List ℕ)) (came : Unsigned) → IsUnsignedFor key order message made came → (said_of_unsigned came).kind ≡ 1
    → IsWithheld order message made (said_of_unsigned came).rule key
withheld_as key order message made (unsigned.Input fault) by is = absurd (low_kind (input_of fault) 1 (omega arith) is)
withheld_as key order message made (unsigned.Withheld number) by is = by
withheld_as key order message made (unsigned.Digest digest) by is = absurd (omega arith)

is_withheld : (key : KeyView) (order : Given) (message : List ℕ) (made : Option (List ℕ)) (said : Said) → ToldUnsigned (IsUnsignedFor key order message made) said → said.kind ≡ 1
    → IsWithheld order message made said.rule key
is_withheld key order message made said so one = subst (λ (s : Said). IsWithheld order message made s.rule key) (sym so.told_is)
    (withheld_as key order message made so.came so.why (subst (λ (s : Said). s.kind ≡ 1) so.told_is one))

no_number : (input : ℕ) → ◌≡◌ {A = Option ℕ} None (Some input) → ⊥
no_number input is = cc

at_7 : (key : KeyView) (order : Given) → IsUnread key order unread.Certificate → HasFault order 7 key
at_7 key order cause = record { which = inl refl; certificate = λ (e : 7 ≡ 7). cause; order_is = λ (e : 7 ≡ 8). absurd (omega (arith, e)) }

at_8 : (key : KeyView) (order : Given) → IsUnread key order unread.Order → HasFault order 8 key
at_8 key order cause = record { which = inr refl; certificate = λ (e : 8 ≡ 7). absurd (omega (arith, e)); order_is = λ (e : 8 ≡ 8). cause }

fault_of : (key : KeyView) (order : Given) (fault : Unread) (input : ℕ) → input_of fault ≡ Some input → IsUnread key order fault → HasFault order input key
fault_of key order unread.Certificate input number cause = subst (λ n. HasFault order n key) (same_Some 7 input number) (at_7 key order cause)
fault_of key order unread.Order input number cause = subst (λ n. HasFault order n key) (same_Some 8 input number) (at_8 key order cause)
fault_of key order unread.Signature input number cause = absurd cause
fault_of key order unread.Memory input number cause = absurd (no_number input number)

fault_as : (key : KeyView) (order : Given) (message : List ℕ) (made : Option (List ℕ)) (came : Unsigned) → IsUnsignedFor key order message made came → (said_of_unsigned came).kind ≡ 2
    → HasFault order (said_of_unsigned came).input key
fault_as key order message made (unsigned.Input fault) by is = fault_of key order fault _ (numbered (input_of fault) is) by
fault_as key order message made (unsigned.Withheld number) by is = absurd (omega arith)
fault_as key order message made (unsigned.Digest digest) by is = absurd (omega arith)

has_fault : (key : KeyView) (order : Given) (message : List ℕ) (made : Option (List ℕ)) (said : Said) → ToldUnsigned (IsUnsignedFor key order message made) said → said.kind ≡ 2
    → HasFault order said.input key
has_fault key order message made said so two =
    subst (λ (s : Said). HasFault order s.input key) (sym so.told_is) (fault_as key order message made so.came so.why (subst (λ (s : Said). s.kind ≡ 2) so.told_is two))

-- ---- what comes out

message_kinds : (Is : List ℕ → Type 0) (Why : Unsigned → Type 0) (before now : List ℕ) (said : Said) → ToldSigned Is Why before now said → said.kind ≤ 4
message_kinds Is Why before now said (inl so) = text_kinds so.out before now said so.told
message_kinds Is Why before now said (inr so) = let few = unsigned_kinds Why said so.told in omega (arith, few)

unsigned_zero : (key : KeyView) (order : Given) (message signature : List ℕ) (came : Unsigned) → IsUnsignedWith key order message signature came → (said_of_unsigned came).kind ≡ 0 → ⊥
unsigned_zero key order message signature (unsigned.Input fault) by is = low_kind (input_of fault) 0 (omega arith) is
unsigned_zero key order message signature (unsigned.Withheld number) by is = omega arith
unsigned_zero key order message signature (unsigned.Digest digest) by is = by

is_signed : (key : KeyView) (order : Given) (message signature before now : List ℕ) (said : Said)
    → ToldSigned (IsSignedBy key order message (Some signature)) (IsUnsignedWith key order message signature) before now said → said.kind ≡ 0
    → SignedInto order message signature before now said key
is_signed key order message signature before now said (inl so) zero =
    let into = text_into so.out before now said so.told zero in record { out = so.out; signed = so.is; size_is = into.0; text = into.1 }
is_signed key order message signature before now said (inr so) zero =
    absurd (unsigned_zero key order message signature so.told.came so.told.why (subst (λ (s : Said). s.kind ≡ 0) so.told.told_is zero))

has_no_room : (key : KeyView) (order : Given) (message signature before now : List ℕ) (said : Said)
    → ToldSigned (IsSignedBy key order message (Some signature)) (IsUnsignedWith key order message signature) before now said → said.kind ≡ 4
    → HasNoRoomForMessage order message signature before said key
has_no_room key order message signature before now said (inl so) four =
    let more = text_more so.out before now said so.told four in record { out = so.out; signed = so.is; size_is = more.0; more = more.1 }
has_no_room key order message signature before now said (inr so) four =
    absurd (let few = unsigned_kinds (IsUnsignedWith key order message signature) said so.told in omega (arith, few, four))

with_withheld : (key : KeyView) (order : Given) (message signature : List ℕ) (came : Unsigned) → IsUnsignedWith key order message signature came → (said_of_unsigned came).kind ≡ 1
    → IsWithheld order message (Some signature) (said_of_unsigned came).rule key
with_withheld key order message signature (unsigned.Input fault) by is = absurd (low_kind (input_of fault) 1 (omega arith) is)
with_withheld key order message signature (unsigned.Withheld number) by is = by
with_withheld key order message signature (unsigned.Digest digest) by is = absurd by

message_withheld : (key : KeyView) (order : Given) (message signature before now : List ℕ) (said : Said)
    → ToldSigned (IsSignedBy key order message (Some signature)) (IsUnsignedWith key order message signature) before now said → said.kind ≡ 1
    → IsWithheld order message (Some signature) said.rule key
message_withheld key order message signature before now said (inl so) one =
    absurd (no_middle so.out before now said so.told (omega (arith, one)) (omega (arith, one)))
message_withheld key order message signature before now said (inr so) one = subst (λ (s : Said). IsWithheld order message (Some signature) s.rule key) (sym so.told.told_is)
    (with_withheld key order message signature so.told.came so.told.why (subst (λ (s : Said). s.kind ≡ 1) so.told.told_is one))

fault_by : (key : KeyView) (order : Given) (signature : List ℕ) (fault : Unread) (input : ℕ) → input_of fault ≡ Some input → IsUnreadWith key order signature fault
    → HasFaultWith order signature input key
fault_by key order signature fault input number (inl (is, short)) = inl (same_Some input 9 (sym number ∙ ap input_of is), short)
fault_by key order signature fault input number (inr (long, cause)) = inr (long, fault_of key order fault input number cause)

with_fault : (key : KeyView) (order : Given) (message signature : List ℕ) (came : Unsigned) → IsUnsignedWith key order message signature came → (said_of_unsigned came).kind ≡ 2
    → HasFaultWith order signature (said_of_unsigned came).input key
with_fault key order message signature (unsigned.Input fault) by is = fault_by key order signature fault _ (numbered (input_of fault) is) by
with_fault key order message signature (unsigned.Withheld number) by is = absurd (omega arith)
with_fault key order message signature (unsigned.Digest digest) by is = absurd by

message_faulty : (key : KeyView) (order : Given) (message signature before now : List ℕ) (said : Said)
    → ToldSigned (IsSignedBy key order message (Some signature)) (IsUnsignedWith key order message signature) before now said → said.kind ≡ 2
    → HasFaultWith order signature said.input key
message_faulty key order message signature before now said (inl so) two =
    absurd (no_middle so.out before now said so.told (omega (arith, two)) (omega (arith, two)))
message_faulty key order message signature before now said (inr so) two = subst (λ (s : Said). HasFaultWith order signature s.input key) (sym so.told.told_is)
    (with_fault key order message signature so.told.came so.told.why (subst (λ (s : Said). s.kind ≡ 2) so.told.told_is two))

message_stays : (Is : List ℕ → Type 0) (Why : Unsigned → Type 0) (before now : List ℕ) (said : Said) → ToldSigned Is Why before now said → 1 ≤ said.kind → now ≡ before
message_stays Is Why before now said (inl so) high = high_unwritten so.out before now said so.told high
message_stays Is Why before now said (inr so) high = so.as_was

-- ---- how it is told

pub told_unsigned : (Why : Unsigned → Type 0) (came : Unsigned) (said : Said) → said ≡ said_of_unsigned came → Why came → ToldUnsigned Why said
told_unsigned Why came said is why = record { came = came; why = why; told_is = is }

as_told : (Is : List ℕ → Type 0) (Why : Unsigned → Type 0) (came : Result Text Unsigned) (before now : List ℕ) (said : Said) → IfOk came (λ text. Is text.bytes.items) → IfErr came Why
    → ToldCame came before now said → ToldSigned Is Why before now said
as_told Is Why (Ok text) before now said is why told = inl (record { out = text.bytes.items; is = is; told = told })
as_told Is Why (Err came) before now said is why told = inr (record { told = told_unsigned Why came said told.told_is why; as_was = told.as_was })

-- ---- by the bytes of the chain

by_key : (held : HeldChainView) (Holds : KeyView → Type 0) → HasKeyOn held → Holds (key_in held) → ByKey (Some held) Holds
by_key held Holds on holds = λ given bytes good under. record { key = key_in held; key_is = on given bytes good under; holds = holds }

-- the handle is closed, and that is said
pub to_sign_closed : (order : Given) (message : List ℕ) (held left : Option HeldChainView) (said : Said) → held ≡ None → left ≡ held → said ≡ plain 5 0 → TellsToSign order message held left said
to_sign_closed order message held left said none stays is =
    subst (λ (o : Option HeldChainView). TellsToSign order message o left said) (sym none) (subst (TellsToSign order message None left) (sym is) (record {
      kinds = inr refl;
      stays = stays ∙ none;
      told = refl;
      digest = λ (e : 5 ≡ 0). absurd (omega (arith, e));
      withheld = λ (e : 5 ≡ 1). absurd (omega (arith, e));
      faulty = λ (e : 5 ≡ 2). absurd (omega (arith, e));
      closed = λ e. refl;
    }))

pub to_sign_open : (order : Given) (message : List ℕ) (chain : HeldChainView) (held left : Option HeldChainView) (said : Said) → held ≡ Some chain → left ≡ held → HasKeyOn chain
    → ToldUnsigned (IsUnsignedFor (key_in chain) order message None) said → TellsToSign order message held left said
to_sign_open order message chain held left said some stays on told =
    let few = unsigned_kinds _ said told in
    subst (λ (o : Option HeldChainView). TellsToSign order message o left said) (sym some) (record {
      kinds = inl few;
      stays = stays ∙ some;
      told = told;
      digest = λ zero. by_key chain (λ key. IsToSign key order message said.ticket) on (is_digest _ _ _ _ told zero);
      withheld = λ one. by_key chain (IsWithheld order message None said.rule) on (is_withheld _ _ _ _ _ told one);
      faulty = λ two. by_key chain (HasFault order said.input) on (has_fault _ _ _ _ _ told two);
      closed = λ five. absurd (omega (arith, few, five));
    })

pub signed_closed : (order : Given) (message signature : List ℕ) (held left : Option HeldChainView) (before now : List ℕ) (said : Said) → held ≡ None → left ≡ held → now ≡ before
    → said ≡ plain 5 0 → TellsSigned order message signature held left before now said
signed_closed order message signature held left before now said none stays same is =
    subst (λ (o : Option HeldChainView). TellsSigned order message signature o left before now said) (sym none) (subst (TellsSigned order message signature None left before now) (sym is) (record {
      kinds = omega arith;
      stays = stays ∙ none;
      told = refl;
      signed = λ (e : 5 ≡ 0). absurd (omega (arith, e));
      withheld = λ (e : 5 ≡ 1). absurd (omega (arith, e));
      faulty = λ (e : 5 ≡ 2). absurd (omega (arith, e));
      no_room = λ (e : 5 ≡ 4). absurd (omega (arith, e));
      closed = λ e. refl;
      as_was = λ e. same;
    }))

pub signed_open : (order : Given) (message signature : List ℕ) (chain : HeldChainView) (held left : Option HeldChainView) (before now : List ℕ) (came : Result Text Unsigned) (said : Said)
    → held ≡ Some chain → left ≡ held → HasKeyOn chain → IfOk came (λ text. IsSignedBy (key_in chain) order message (Some signature) text.bytes.items)
    → IfErr came (IsUnsignedWith (key_in chain) order message signature) → ToldCame came before now said → TellsSigned order message signature held left before now said
signed_open order message signature chain held left before now came said some stays on is why made =
    let key : KeyView = key_in chain in
    let told : ToldSigned (IsSignedBy key order message (Some signature)) (IsUnsignedWith key order message signature) before now said = as_told _ _ came before now said is why made in
    let few = message_kinds _ _ before now said told in
    subst (λ (o : Option HeldChainView). TellsSigned order message signature o left before now said) (sym some) (record {
      kinds = omega (arith, few);
      stays = stays ∙ some;
      told = told;
      signed = λ zero. by_key chain (SignedInto order message signature before now said) on (is_signed key order message signature before now said told zero);
      withheld = λ one. by_key chain (IsWithheld order message (Some signature) said.rule) on (message_withheld key order message signature before now said told one);
      faulty = λ two. by_key chain (HasFaultWith order signature said.input) on (message_faulty key order message signature before now said told two);
      no_room = λ four. by_key chain (HasNoRoomForMessage order message signature before said) on (has_no_room key order message signature before now said told four);
      closed = λ five. absurd (omega (arith, few, five));
      as_was = message_stays _ _ before now said told;
    })
