-- The compact form: its text begins with two dots, and what the checks give is what the relation says.
use Rattle.std.proofs.Common.{◌≡◌, ℕ, ◌==◌, ◌&&◌, not, true, false, List, [], ◌∷◌, ◌++◌, drop, length, Option, Some, None, Result, Ok, inl, inr, codes, refl, sym, subst, ap, ◌∙◌, arith}
use Rattle.std.specs.Bool.{nat_eq}
use Rattle.std.specs.List.{starts_with}
use Rattle.std.proofs.lemmas.Bool.Decides.{nat_tests}
use Rattle.serde_json.specs.Data.{Data}
use Rattle.text_grammar.specs.Cut.{lacks}
use Rattle.passport_json.specs.declared.fault.TokenFault.{TokenFault}
use Rattle.passport_json.specs.Base64.{IsBase64}
use Rattle.passport_json.specs.Compact.{CallView, CompactText, base, base_of, or_compact_fault, checked_base, rebuilt}
use Rattle.passport_json.specs.Deterministic.{IsWritable}
use Rattle.passport_json.specs.Parts.{PartTexts, AreParts, dot}
use Rattle.passport_json.specs.Passport.{PassportView, Header, Payload}
use Rattle.passport_json.specs.Reading.{Gives, IsOkUnlessMemory}
use Rattle.passport_json.specs.Token.{FullText, TokenText, read_compact, read_full, read_token}
use Rattle.passport_json.specs.View.{TokenView}
use Rattle.std.proofs.lemmas.Bool.{and_parts}
use Rattle.passport_json.proofs.TokenLaws.{token_again, checked_again, base64_again, signature_again, only_of}

pub header_writable : (value : Data) (iat : ℕ) (orig dest info : List ℕ) → value ≡ Header (base iat orig dest info) → IsWritable value
header_writable value iat orig dest info e = rw e (record { no_float = refl; shallow = omega arith })

pub payload_writable : (value : Data) (iat : ℕ) (orig dest info : List ℕ) → value ≡ Payload (base iat orig dest info) → IsWritable value
payload_writable value iat orig dest info e = rw e (record { no_float = refl; shallow = omega arith })

-- ---- a text that begins with two dots

two_dots : (text : List ℕ) → starts_with nat_eq text (codes "..") ≡ true → text ≡ dot ∷ dot ∷ drop 2 text
two_dots [] h = absurd cc
two_dots (x ∷ []) h = let k = and_parts (nat_eq dot x) false h in absurd cc
two_dots (x ∷ y ∷ rest) h =
    let k = and_parts (nat_eq dot x) (nat_eq dot y && true) h in
    let l = and_parts (nat_eq dot y) true k.1 in
    let first : x ≡ dot = grind (arith, nat_tests, k.0) in
    let second : y ≡ dot = grind (arith, nat_tests, l.0) in
    rw (first, second) refl

not_first : (x : ℕ) (xs : List ℕ) → lacks dot (x ∷ xs) ≡ true → x ≡ dot → ⊥
not_first x xs h e =
    let P : ℕ → Type 0 = λ z. lacks dot (z ∷ xs) ≡ true in
    let k : false ≡ true = subst P e h in
    absurd cc

empty_by : (header payload signature rest : List ℕ) → lacks dot header ≡ true → lacks dot payload ≡ true
    → header ++ dot ∷ (payload ++ dot ∷ signature) ≡ dot ∷ dot ∷ rest → (header ≡ []) × (payload ≡ [])
empty_by [] [] signature rest h p e = (refl, refl)
empty_by [] (y ∷ ys) signature rest h p e = let second : y ≡ dot = cc in absurd (not_first y ys p second)
empty_by (x ∷ xs) payload signature rest h p e = let first : x ≡ dot = cc in absurd (not_first x xs h first)

pub bare_parts : (text : List ℕ) (parts : PartTexts) → AreParts text parts → starts_with nat_eq text (codes "..") ≡ true
    → AreParts text (record { header = []; payload = []; signature = parts.signature })
bare_parts text parts are h =
    let both_empty = empty_by parts.header parts.payload parts.signature (drop 2 text) are.header are.payload (sym are.joined ∙ two_dots text h) in
    record {
      joined = are.joined ∙ rw (both_empty.0, both_empty.1) refl;
      header = refl;
      payload = refl;
      signature = are.signature;
    }

begins_compact : (text signature : List ℕ) → AreParts text (record { header = []; payload = []; signature = signature })
    → starts_with nat_eq text (codes "..") ≡ true
begins_compact text signature are = rw are.joined refl

begins_full_by : (x : ℕ) (xs rest : List ℕ) → lacks dot (x ∷ xs) ≡ true → starts_with nat_eq (x ∷ rest) (codes "..") ≡ false
begins_full_by x xs rest h =
    let k = and_parts (not (x == dot)) (lacks dot xs) h in
    let other : nat_eq dot x ≡ false = grind (arith, nat_tests, k.0) in
    rw other refl

pub begins_full_at : (header rest : List ℕ) → (header ≡ [] → ⊥) → lacks dot header ≡ true → starts_with nat_eq (header ++ rest) (codes "..") ≡ false
begins_full_at [] rest some h = absurd (some refl)
begins_full_at (x ∷ xs) rest some h = begins_full_by x xs (xs ++ rest) h

begins_full : (text : List ℕ) (token : TokenView) → FullText text token → starts_with nat_eq text (codes "..") ≡ false
begins_full text token t =
    rw t.are_parts.joined (begins_full_at t.parts.header (dot ∷ (t.parts.payload ++ dot ∷ t.parts.signature)) t.has_header t.are_parts.header)

-- ---- what is read is what the relation says

compact_again : (text : List ℕ) (call : CallView) (token : TokenView) → CompactText text call token → read_compact call text ≡ Ok token
unfolding read_compact
compact_again text call token t =
    let e : ◌≡◌ {A = Result TokenView TokenFault} (Ok (rebuilt t.passport token.signature)) (Ok token) = ap (λ k. Ok k) (sym t.is_rebuilt) in
    rw (
      checked_again text (record { header = []; payload = []; signature = t.signature_text }) t.are_parts refl,
      base64_again 3 t.signature_text token.signature t.signature_encoded,
      signature_again token.signature t.signature_length,
      t.is_base,
    ) e

pub read_again : (text : List ℕ) (call : CallView) (token : TokenView) → TokenText text call token → read_token call text ≡ Ok token
unfolding read_token
read_again text call token (inl full) = rw (begins_full text token full, token_again text token full) refl
read_again text call token (inr compact) =
    rw (begins_compact text compact.signature_text compact.are_parts, compact_again text call token compact) refl

pub read_unique : (text : List ℕ) (call : CallView) (one other : TokenView) → TokenText text call one → TokenText text call other → one ≡ other
read_unique text call one other a b =
    let e : ◌≡◌ {A = Result TokenView TokenFault} (Ok one) (Ok other) = sym (read_again text call one a) ∙ read_again text call other b in
    cc

pub read_dots : (text : List ℕ) (call : CallView) → starts_with nat_eq text (codes "..") ≡ true → read_token call text ≡ read_compact call text
unfolding read_token
read_dots text call h = rw h refl

pub read_else : (text : List ℕ) (call : CallView) → starts_with nat_eq text (codes "..") ≡ false → read_token call text ≡ read_full text
unfolding read_token
read_else text call h = rw h refl

pub only_dots : (text : List ℕ) (call : CallView) (result : Result TokenView TokenFault) → starts_with nat_eq text (codes "..") ≡ true
    → Gives (λ token. token) result (read_compact call text) → (token : TokenView) → TokenText text call token → IsOkUnlessMemory result (λ read. read ≡ token)
only_dots text call result h gives token t =
    only_of result (read_compact call text) gives token (sym (read_dots text call h) ∙ read_again text call token t)

pub only_else : (text : List ℕ) (call : CallView) (result : Result TokenView TokenFault) → starts_with nat_eq text (codes "..") ≡ false
    → Gives (λ token. token) result (read_full text) → (token : TokenView) → TokenText text call token → IsOkUnlessMemory result (λ read. read ≡ token)
only_else text call result h gives token t =
    only_of result (read_full text) gives token (sym (read_else text call h) ∙ read_again text call token t)

base_found : (given : Option PassportView) (passport : PassportView) → or_compact_fault given ≡ Ok passport → given ≡ Some passport
base_found None passport e = absurd cc
base_found (Some found) passport e = let same : found ≡ passport = cc in ap (λ k. Some k) same

pub compact_text : (text : List ℕ) (parts : PartTexts) (signature : List ℕ) (call : CallView) (passport : PassportView) (token : TokenView)
    → starts_with nat_eq text (codes "..") ≡ true → AreParts text parts → IsBase64 parts.signature signature
    → length signature ≡ 64 → checked_base call ≡ Ok passport → token ≡ rebuilt passport signature
    → CompactText text call token
compact_text text parts signature call passport token dots are s n b e = record {
  signature_text = parts.signature;
  passport = passport;
  are_parts = bare_parts text parts are dots;
  signature_encoded = rw e s;
  signature_length = rw e n;
  is_base = base_found (base_of call) passport b;
  is_rebuilt = let same : token.signature ≡ signature = ap (λ k. k.signature) e in e ∙ ap (rebuilt passport) (sym same);
}
