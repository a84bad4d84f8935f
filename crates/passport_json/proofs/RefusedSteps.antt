-- Each check of a token by itself: when it refuses, and what it then says of the text.
use Rattle.std.proofs.Common.{◌≡◌, ◌≢◌, ℕ, ◌==◌, ◌⊎◌, inl, inr, Bool, true, false, cond, List, [], ◌∷◌, ◌++◌, length, Option, Some, None, Result, Ok, Err, codes, refl, sym, ap, subst, ◌∙◌, arith}
use Rattle.std.specs.Bool.{nat_eq}
use Rattle.std.specs.List.{starts_with}
use Rattle.std.proofs.lemmas.Bool.{eqb-true}
use Rattle.base64.specs.Engines.{url_safe_no_pad}
use Rattle.base64.specs.GeneralPurpose.{IsBytes, decode_of}
use Rattle.base64.specs.Rfc4648.{encode_symbols}
use Rattle.base64.specs.declared.decode.DecodeError.{DecodeError}
use Rattle.lists.specs.Steps.{◌>>=◌}
use Rattle.serde_json.specs.Data.{Data}
use Rattle.passport_json.specs.declared.fault.TokenFault.{TokenFault}
use Rattle.passport_json.specs.declared.fault.TokenFault.TheVariants as faults
use Rattle.passport_json.specs.Base64.{IsBase64}
use Rattle.passport_json.specs.Compact.{CallView, base_by, base_of, checked_base, or_compact_fault}
use Rattle.passport_json.specs.Object.{object_of}
use Rattle.passport_json.specs.Parts.{AreParts, PartTexts, dot, one_is_empty, parts_of}
use Rattle.passport_json.specs.Passport.{PassportView}
use Rattle.passport_json.specs.Refused.{HasBoth, HasNeither, IsNoBase64, IsNoObject, IsOneEmpty, IsSerialized, Lacks, Refused, called, calling, date, dots, has_type, one_empty}
use Rattle.passport_json.specs.Token.{checked_base64, checked_json, checked_parts, checked_signature, or_base64_fault, or_json_fault, whole_parts}
use Rattle.passport_json.proofs.CompactLaws.{begins_full_at}
use Rattle.passport_json.proofs.DecodedLaws.{base64_found}
use Rattle.passport_json.proofs.FoundLaws.{checked_found, object_found, parts_found}
use Rattle.passport_json.proofs.ObjectLaws.{json_again}
use Rattle.passport_json.proofs.PartLaws.{parts_again}
use Rattle.passport_json.proofs.TokenLaws.{base64_again, checked_again, signature_again}

-- a reading that is refused is refused at its first step, or after what this gave
pub stops : {A B E : Type 0} (r : Result A E) (f : A → Result B E) (fault : E) → r >>= f ≡ Err fault
    → (r ≡ Err fault) ⊎ ((a : A) × (r ≡ Ok a) × (f a ≡ Err fault))
stops (Ok a) f fault e = inr (a, refl, e)
stops {A} {B} {E} (Err x) f fault e =
    let same : x ≡ fault = cc in
    inl (ap (λ (x : E). let r : Result A E = Err x in r) same)

-- ---- three parts

one_empty_means : (a b : List ℕ) → one_is_empty a b ≡ true → IsOneEmpty a b
one_empty_means [] [] e = absurd cc
one_empty_means [] (b ∷ bs) e = inl (refl, λ n. absurd cc)
one_empty_means (a ∷ more) [] e = inr (λ n. absurd cc, refl)
one_empty_means (a ∷ more) (b ∷ bs) e = absurd cc

pub one_empty_not : (a b : List ℕ) → one_is_empty a b ≡ false → IsOneEmpty a b → ⊥
one_empty_not [] [] e (inl k) = k.1 refl
one_empty_not [] [] e (inr k) = k.0 refl
one_empty_not [] (b ∷ bs) e k = absurd cc
one_empty_not (a ∷ more) [] e k = absurd cc
one_empty_not (a ∷ more) (b ∷ bs) e (inl k) = let n = k.0 in absurd cc
one_empty_not (a ∷ more) (b ∷ bs) e (inr k) = let n = k.1 in absurd cc

means_one_empty : (a b : List ℕ) → IsOneEmpty a b → one_is_empty a b ≡ true
means_one_empty [] [] (inl k) = absurd (k.1 refl)
means_one_empty [] [] (inr k) = absurd (k.0 refl)
means_one_empty [] (b ∷ bs) k = refl
means_one_empty (a ∷ more) [] k = refl
means_one_empty (a ∷ more) (b ∷ bs) (inl k) = let n = k.0 in absurd cc
means_one_empty (a ∷ more) (b ∷ bs) (inr k) = let n = k.1 in absurd cc

means_not_one : (a b : List ℕ) → (IsOneEmpty a b → ⊥) → one_is_empty a b ≡ false
means_not_one [] [] n = refl
means_not_one [] (b ∷ bs) n = absurd (n (one_empty_means [] (b ∷ bs) refl))
means_not_one (a ∷ more) [] n = absurd (n (one_empty_means (a ∷ more) [] refl))
means_not_one (a ∷ more) (b ∷ bs) n = refl

refused_parts : (text : List ℕ) (call : CallView) (fault : TokenFault) (k : Option PartTexts) → parts_of text ≡ k → whole_parts k ≡ Err fault
    → Refused text call fault
refused_parts text call fault None e h =
    let is : faults.Parts ≡ fault = cc in
    dots (λ parts are. let again = parts_again text parts are in absurd cc) (sym is)
refused_parts text call fault (Some found) e h = of (one_is_empty found.header found.payload) refl h
  where
    of : (t : Bool) → one_is_empty found.header found.payload ≡ t → ◌≡◌ {A = Result PartTexts TokenFault} (cond t (Err faults.Parts) (Ok found)) (Err fault)
        → Refused text call fault
    of true t h =
        let is : faults.Parts ≡ fault = cc in
        one_empty found (parts_found text found e) (one_empty_means found.header found.payload t) (sym is)
    of false t h = absurd cc

-- if the parts are refused, they aren't there, or one of two is empty
pub parts_refused : (text : List ℕ) (call : CallView) (fault : TokenFault) → checked_parts text ≡ Err fault → Refused text call fault
parts_refused text call fault h = refused_parts text call fault (parts_of text) refl h

not_one : (parts : PartTexts) (k : Option PartTexts) → whole_parts k ≡ Ok parts → one_is_empty parts.header parts.payload ≡ false
not_one parts None h = absurd cc
not_one parts (Some found) h = of (one_is_empty found.header found.payload) refl h
  where
    of : (t : Bool) → one_is_empty found.header found.payload ≡ t → ◌≡◌ {A = Result PartTexts TokenFault} (cond t (Err faults.Parts) (Ok found)) (Ok parts)
        → one_is_empty parts.header parts.payload ≡ false
    of true t h = absurd cc
    of false t h =
        let same : found ≡ parts = cc in
        subst (λ (p : PartTexts). one_is_empty p.header p.payload ≡ false) same t

pub serialized : (text : List ℕ) (parts : PartTexts) → checked_parts text ≡ Ok parts → IsSerialized text parts
serialized text parts h = record {
  are = checked_found text parts h;
  both = one_empty_not parts.header parts.payload (not_one parts (parts_of text) h);
}

pub serialized_again : (text : List ℕ) (parts : PartTexts) → IsSerialized text parts → checked_parts text ≡ Ok parts
serialized_again text parts s = checked_again text parts s.are (means_not_one parts.header parts.payload s.both)

pub no_parts : (text : List ℕ) → ((parts : PartTexts) → AreParts text parts → ⊥) → checked_parts text ≡ Err faults.Parts
no_parts text none = of (parts_of text) refl
  where
    of : (k : Option PartTexts) → parts_of text ≡ k → whole_parts k ≡ Err faults.Parts
    of None e = refl
    of (Some found) e = absurd (none found (parts_found text found e))

pub one_part : (text : List ℕ) (parts : PartTexts) → AreParts text parts → IsOneEmpty parts.header parts.payload → checked_parts text ≡ Err faults.Parts
one_part text parts are one = rw (parts_again text parts are, means_one_empty parts.header parts.payload one) refl

-- ---- the two forms

some_by : (header payload : List ℕ) → (IsOneEmpty header payload → ⊥) → ((header ≡ []) × (payload ≡ []) → ⊥) → (header ≢ []) × (payload ≢ [])
some_by [] [] one none = absurd (none (refl, refl))
some_by [] (b ∷ bs) one none = absurd (one (one_empty_means [] (b ∷ bs) refl))
some_by (a ∷ more) [] one none = absurd (one (one_empty_means (a ∷ more) [] refl))
some_by (a ∷ more) (b ∷ bs) one none = (λ e. absurd cc, λ e. absurd cc)

pub bare_start : (text : List ℕ) (parts : PartTexts) → AreParts text parts → HasNeither parts → starts_with nat_eq text (codes "..") ≡ true
bare_start text parts are n = let h = n.0 in let p = n.1 in rw (are.joined, h, p) refl

true_not_false : (t : Bool) → t ≡ true → t ≡ false → ⊥
true_not_false true e f = absurd cc
true_not_false false e f = absurd cc

-- a text that doesn't begin with two dots has both
pub both_there : (text : List ℕ) (parts : PartTexts) → IsSerialized text parts → starts_with nat_eq text (codes "..") ≡ false → HasBoth parts
both_there text parts s start =
    some_by parts.header parts.payload s.both (λ n. true_not_false (starts_with nat_eq text (codes "..")) (bare_start text parts s.are n) start)

-- a text with a header doesn't begin with two dots
pub full_start : (text : List ℕ) (parts : PartTexts) → AreParts text parts → parts.header ≢ [] → starts_with nat_eq text (codes "..") ≡ false
full_start text parts are some = rw are.joined (begins_full_at parts.header (dot ∷ (parts.payload ++ dot ∷ parts.signature)) some are.header)

-- nor does one with a payload
pub payload_start : (text : List ℕ) (parts : PartTexts) → IsSerialized text parts → parts.payload ≢ [] → starts_with nat_eq text (codes "..") ≡ false
payload_start text parts s some = full_start text parts s.are (λ empty. s.both (inl (empty, some)))

-- ---- base64url

-- no bytes have the empty text
pub empty_encoded : IsBase64 [] []
unfolding encode_symbols
empty_encoded = record { are_bytes = λ i. omega arith; encoded = refl }

pub no_base64_some : (text : List ℕ) → IsNoBase64 text → text ≢ []
no_base64_some text none = λ empty. none [] (subst (λ (t : List ℕ). IsBase64 t []) (sym empty) empty_encoded)

pub base64_refused : (part : ℕ) (text : List ℕ) (fault : TokenFault) → checked_base64 part text ≡ Err fault → (fault ≡ faults.Base64 part) × IsNoBase64 text
base64_refused part text fault h = (of (decode_of url_safe_no_pad text) h, λ bytes is. let again = base64_again part text bytes is in absurd cc)
  where
    of : (r : Result (List ℕ) DecodeError) → or_base64_fault part r ≡ Err fault → fault ≡ faults.Base64 part
    of (Ok bytes) h = absurd cc
    of (Err error) h = let same : faults.Base64 part ≡ fault = cc in sym same

pub no_base64 : (part : ℕ) (text : List ℕ) → IsBytes text → IsNoBase64 text → checked_base64 part text ≡ Err (faults.Base64 part)
no_base64 part text bytes none = of (decode_of url_safe_no_pad text) refl
  where
    of : (r : Result (List ℕ) DecodeError) → decode_of url_safe_no_pad text ≡ r → or_base64_fault part r ≡ Err (faults.Base64 part)
    of (Ok found) e = absurd (none found (base64_found text found bytes e))
    of (Err error) e = refl

-- ---- the signature's length

pub signature_refused : (bytes : List ℕ) (fault : TokenFault) → checked_signature bytes ≡ Err fault
    → (fault ≡ faults.SignatureLength) × (length bytes ≢ 64)
signature_refused bytes fault h = (of (length bytes == 64) h, λ size. let again = signature_again bytes size in absurd cc)
  where
    of : (t : Bool) → ◌≡◌ {A = Result (List ℕ) TokenFault} (cond t (Ok bytes) (Err faults.SignatureLength)) (Err fault) → fault ≡ faults.SignatureLength
    of true h = absurd cc
    of false h = let same : faults.SignatureLength ≡ fault = cc in sym same

pub no_size : (bytes : List ℕ) → length bytes ≢ 64 → checked_signature bytes ≡ Err faults.SignatureLength
no_size bytes n = of (length bytes == 64) refl
  where
    of : (t : Bool) → (length bytes == 64) ≡ t
        → ◌≡◌ {A = Result (List ℕ) TokenFault} (cond t (Ok bytes) (Err faults.SignatureLength)) (Err faults.SignatureLength)
    of true e = absurd (n (eqb-true (length bytes) 64 e))
    of false e = refl

-- ---- objects

pub json_refused : (part : ℕ) (bytes : List ℕ) (fault : TokenFault) → checked_json part bytes ≡ Err fault → (fault ≡ faults.Json part) × IsNoObject bytes
json_refused part bytes fault h = (of (object_of bytes) h, λ value is. let again = json_again part bytes value is in absurd cc)
  where
    of : (k : Option Data) → or_json_fault part k ≡ Err fault → fault ≡ faults.Json part
    of None h = let same : faults.Json part ≡ fault = cc in sym same
    of (Some value) h = absurd cc

pub no_object : (part : ℕ) (bytes : List ℕ) → IsNoObject bytes → checked_json part bytes ≡ Err (faults.Json part)
no_object part bytes none = of (object_of bytes) refl
  where
    of : (k : Option Data) → object_of bytes ≡ k → or_json_fault part k ≡ Err (faults.Json part)
    of None e = refl
    of (Some value) e = absurd (none value (object_found part bytes value (ap (or_json_fault part) e)))

-- ---- what the call gives

lacks_by : (call : CallView) (iat : Option ℕ) (orig dest ppt : Option (List ℕ)) → call.iat ≡ iat → call.orig ≡ orig → call.dest ≡ dest → call.ppt ≡ ppt
    → base_by iat orig dest call.info ppt ≡ None → Lacks call
lacks_by call None orig dest ppt a b c d e = date a
lacks_by call (Some iat) None dest ppt a b c d e = calling b
lacks_by call (Some iat) (Some orig) None ppt a b c d e = called c
lacks_by call (Some iat) (Some orig) (Some dest) None a b c d e = absurd cc
lacks_by call (Some iat) (Some orig) (Some dest) (Some ppt) a b c d e = has_type ppt d

pub base_refused : (call : CallView) (fault : TokenFault) → checked_base call ≡ Err fault → (fault ≡ faults.Compact) × Lacks call
base_refused call fault h = of (base_of call) refl h
  where
    of : (k : Option PassportView) → base_of call ≡ k → or_compact_fault k ≡ Err fault → (fault ≡ faults.Compact) × Lacks call
    of None e h =
        let same : faults.Compact ≡ fault = cc in
        (sym same, lacks_by call call.iat call.orig call.dest call.ppt refl refl refl refl e)
    of (Some passport) e h = absurd cc

no_calling : (iat : Option ℕ) (dest : Option (List ℕ)) (info : List ℕ) (ppt : Option (List ℕ)) → base_by iat None dest info ppt ≡ None
no_calling None dest info ppt = refl
no_calling (Some iat) dest info ppt = refl

no_called : (iat : Option ℕ) (orig : Option (List ℕ)) (info : List ℕ) (ppt : Option (List ℕ)) → base_by iat orig None info ppt ≡ None
no_called None orig info ppt = refl
no_called (Some iat) None info ppt = refl
no_called (Some iat) (Some orig) info ppt = refl

a_type : (iat : Option ℕ) (orig dest : Option (List ℕ)) (info ppt : List ℕ) → base_by iat orig dest info (Some ppt) ≡ None
a_type None orig dest info ppt = refl
a_type (Some iat) None dest info ppt = refl
a_type (Some iat) (Some orig) None info ppt = refl
a_type (Some iat) (Some orig) (Some dest) info ppt = refl

pub no_base : (call : CallView) → Lacks call → base_of call ≡ None
no_base call (date e) = ap (λ (x : Option ℕ). base_by x call.orig call.dest call.info call.ppt) e
no_base call (calling e) =
    ap (λ (x : Option (List ℕ)). base_by call.iat x call.dest call.info call.ppt) e ∙ no_calling call.iat call.dest call.info call.ppt
no_base call (called e) =
    ap (λ (x : Option (List ℕ)). base_by call.iat call.orig x call.info call.ppt) e ∙ no_called call.iat call.orig call.info call.ppt
no_base call (has_type ppt e) =
    ap (λ (x : Option (List ℕ)). base_by call.iat call.orig call.dest call.info x) e ∙ a_type call.iat call.orig call.dest call.info ppt
