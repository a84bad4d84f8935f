-- What is signed of a message, from what the authentication service says.
use Rattle.std.proofs.Common.{◌≡◌, ℕ, Bool, true, false, List, Option, Some, None, Result, Ok, Err, ◌==◌, length, IfErr, inl, inr, refl, sym, ◌∙◌, subst, arith, if◌then◌else◌}
use Rattle.std.proofs.lemmas.Bool.Decides.{nat_tests}
use Rattle.auth_service.specs.Answer.{is_provider, names_provider}
use Rattle.auth_service.specs.Order.{HolderView, OrderView}
use Rattle.auth_service.specs.Promise.{IsPromised}
use Rattle.auth_service.specs.declared.fault.SignFault.{SignFault}
use Rattle.auth_service.specs.declared.fault.SignFault.TheVariants as refusals
use Rattle.stir_outside.specs.Count.{Rose}
use Rattle.open_calls.specs.Key.{IsHolderOf, KeyView}
use Rattle.open_calls.specs.Order.{Given, IsNoOrder, IsOrderOf}
use Rattle.open_calls.specs.Signing.{GivesMessage, IsSignedBy, IsUnread, IsUnsignedBy, IsUnsignedFor, IsUnsignedWith, signature_in, signs_of, why_of}
use Rattle.open_calls.specs.declared.unsigned.Unread.TheVariants as unread
use Rattle.open_calls.specs.declared.unsigned.Unsigned.{Unsigned}
use Rattle.open_calls.specs.declared.unsigned.Unsigned.TheVariants as unsigned

-- ---- what the service gives

pub gives_of : {V : Type 0} (items : V → List ℕ) (bytes : List ℕ) (order : OrderView) (holder : HolderView) (made : Option (List ℕ)) (out : V)
    → IsPromised items bytes order (Some holder) (signs_of made) (Ok out) → GivesMessage bytes order holder made (items out)
gives_of items bytes order holder made out p = record { gives = p.exact; says = p.is_signed }

pub why_unsigned : {V : Type 0} (items : V → List ℕ) (bytes : List ℕ) (order : OrderView) (holder : HolderView) (made : Option (List ℕ)) (fault : SignFault)
    → IsPromised items bytes order (Some holder) (signs_of made) (Err fault) → IsUnsignedBy bytes order holder made (why_of fault)
why_unsigned items bytes order holder made refusals.Form p = record { fault = refusals.Form; number_is = refl; few = omega arith; comes = record { gives = p.exact; caused = p.causes } }
why_unsigned items bytes order holder made refusals.NoNumber p = record { fault = refusals.NoNumber; number_is = refl; few = omega arith; comes = record { gives = p.exact; caused = p.causes } }
why_unsigned items bytes order holder made refusals.Authority p = record { fault = refusals.Authority; number_is = refl; few = omega arith; comes = record { gives = p.exact; caused = p.causes } }
why_unsigned items bytes order holder made (refusals.NoSignature digest) p = record { gives = p.exact; caused = p.causes }
why_unsigned items bytes order holder made refusals.Provider p = refl
why_unsigned items bytes order holder made refusals.Memory p = refl

never : Rose 0 0 → ⊥
never rose = omega (arith, rose (λ e. omega (arith, e)))

pub never_fails : {V : Type 0} (result : Result V SignFault) → (names_provider result ≡ true → Rose 0 0) → IfErr result (λ fault. is_provider fault ≡ false)
never_fails (Ok out) failed = tt
never_fails (Err refusals.Form) failed = refl
never_fails (Err refusals.NoNumber) failed = refl
never_fails (Err refusals.Authority) failed = refl
never_fails (Err (refusals.NoSignature digest)) failed = refl
never_fails (Err refusals.Provider) failed = absurd (never (failed refl))
never_fails (Err refusals.Memory) failed = refl

-- ---- by what is handed in

pub signed_by : (key : KeyView) (given : Given) (message : List ℕ) (order : OrderView) (holder : HolderView) (made : Option (List ℕ)) (out : List ℕ) → IsHolderOf key holder
    → IsOrderOf given key.local order → GivesMessage message order holder made out → IsSignedBy key given message made out
signed_by key given message order holder made out held ordered gives =
    record { order = order; holder = holder; read = record { holder_is = held; order_is = ordered }; gives = gives }

pub unsigned_for : (key : KeyView) (given : Given) (message : List ℕ) (order : OrderView) (holder : HolderView) (made : Option (List ℕ)) (came : Unsigned) → IsHolderOf key holder
    → IsOrderOf given key.local order → IsUnsignedBy message order holder made came → IsUnsignedFor key given message made came
unsigned_for key given message order holder made (unsigned.Input fault) held ordered is = subst (IsUnread key given) (sym is) tt
unsigned_for key given message order holder made (unsigned.Withheld number) held ordered is = record {
  fault = is.fault;
  number_is = is.number_is;
  few = is.few;
  comes = record { order = order; holder = holder; read = record { holder_is = held; order_is = ordered }; gives = is.comes };
}
unsigned_for key given message order holder made (unsigned.Digest digest) held ordered is =
    record { order = order; holder = holder; read = record { holder_is = held; order_is = ordered }; gives = is }

pub bad_order : (key : KeyView) (given : Given) (holder : HolderView) → IsHolderOf key holder → IsNoOrder given key.local → IsUnread key given unread.Order
bad_order key given holder held none = record { holder = holder; holder_is = held; none = none }

-- without a signature nothing is signed
pub not_signed : (key : KeyView) (given : Given) (message out : List ℕ) → IsSignedBy key given message None out → ⊥
not_signed key given message out is = let none : ◌≡◌ {A = Option (List ℕ)} None (Some is.gives.says.signature) = is.gives.says.made in cc

-- ---- with the bytes of a signature

true_is_not_false : true ≡ false → ⊥
true_is_not_false e = cc

some_if : (t : Bool) (bytes made : List ℕ) → ◌≡◌ {A = Option (List ℕ)} (Some made) (if t then Some bytes else None) → (made ≡ bytes) × (t ≡ true)
some_if true bytes made is = (let same : ◌≡◌ {A = Option (List ℕ)} (Some made) (Some bytes) = is in cc, refl)
some_if false bytes made is = let none : ◌≡◌ {A = Option (List ℕ)} (Some made) None = is in absurd (cc)

none_if : (t : Bool) (bytes : List ℕ) → ◌≡◌ {A = Option (List ℕ)} None (if t then Some bytes else None) → t ≡ false
none_if true bytes is = let some : ◌≡◌ {A = Option (List ℕ)} None (Some bytes) = is in absurd (cc)
none_if false bytes is = refl

-- the signature that bytes are is these bytes, and they are 64
pub is_made : (signature made : List ℕ) → Some made ≡ signature_in signature → (made ≡ signature) × (length signature ≡ 64)
is_made signature made is =
    let both = some_if (length signature == 64) signature made is in
    (both.0, grind (arith, nat_tests, both.1))

-- bytes that are none aren't 64
pub not_sized : (signature : List ℕ) → None ≡ signature_in signature → length signature ≡ 64 → ⊥
not_sized signature is size = true_is_not_false (sym (subst (λ n. n == 64 ≡ true) (sym size) refl) ∙ none_if (length signature == 64) signature is)

pub signed_with : (key : KeyView) (given : Given) (message signature made out : List ℕ) → Some made ≡ signature_in signature → IsSignedBy key given message (Some made) out
    → IsSignedBy key given message (Some signature) out
signed_with key given message signature made out is by = subst (λ (m : List ℕ). IsSignedBy key given message (Some m) out) (is_made signature made is).0 by

with_made : (key : KeyView) (given : Given) (message made : List ℕ) (came : Unsigned) → length made ≡ 64 → IsUnsignedFor key given message (Some made) came
    → IsUnsignedWith key given message made came
with_made key given message made (unsigned.Input fault) long is = inr (long, is)
with_made key given message made (unsigned.Withheld number) long is = is
with_made key given message made (unsigned.Digest digest) long is = let none : ◌≡◌ {A = Option (List ℕ)} (Some made) None = is.gives.caused.none in cc

pub unsigned_with : (key : KeyView) (given : Given) (message signature made : List ℕ) (came : Unsigned) → Some made ≡ signature_in signature
    → IsUnsignedFor key given message (Some made) came → IsUnsignedWith key given message signature came
unsigned_with key given message signature made came is by =
    let both = is_made signature made is in
    with_made key given message signature came both.1 (subst (λ (m : List ℕ). IsUnsignedFor key given message (Some m) came) both.0 by)

pub no_signature : (key : KeyView) (given : Given) (message signature : List ℕ) → None ≡ signature_in signature
    → IsUnsignedWith key given message signature (unsigned.Input unread.Signature)
no_signature key given message signature is = inl (refl, not_sized signature is)
