-- The payload that is built is ASCII as it is written, and is read back.
use Rattle.std.proofs.Common.{◌≡◌, ℕ, zero, suc, ◌^◌, ◌<◌, ◌≤◌, Bool, true, false, nat_lt, List, [], ◌∷◌, ◌++◌, codes, decimal, Option, Some, None, refl, sym, ◌∙◌, ap, subst, arith, append-nil, lt-ltb, ltb-true}
use Rattle.std.specs.Prelude.{IfSome, option_and_then}
use Rattle.std.specs.Char.{digit_value}
use Rattle.std.specs.List.{list_all}
use Rattle.std.specs.Str.Parse.{AllDigits}
use Rattle.std.proofs.lemmas.Bool.{and_parts}
use Rattle.std.proofs.lemmas.Bool.Decides.{nat_tests}
use Rattle.std.proofs.lemmas.Fmt.{decimal_is_IsNumeral}
use Rattle.base64.specs.GeneralPurpose.{IsBytes}
use Rattle.json.specs.Json.{Json, if_last, value}
use Rattle.json.specs.Lex.{tokens}
use Rattle.json.specs.Print.{escape, escape_byte, quoted}
use Rattle.json.specs.Token.{Token}
use Rattle.json.specs.Tree.{HasNumbers, json_tokens}
use Rattle.json.proofs.Printed.Decimals.{IsNumber-decimal}
use Rattle.json.proofs.Printed.Strings.{escape_byte_plain}
use Rattle.json.proofs.Printed.Tokens.{tokens-print}
use Rattle.json.proofs.Printed.Trees.{ArePrintable-json_tokens, value-json_tokens}
use Rattle.json.proofs.Printed.Utf8.{IsUtf8-are_ascii, are_ascii}
use Rattle.serde_json.specs.Data.{Data, Members, no_members, member, array, item, number, no_items, string, unsigned}
use Rattle.serde_json.specs.Read.{max_depth, of_json, read}
use Rattle.serde_json.specs.Written.{compact_text, members_text, outline}
use Rattle.serde_json.proofs.Numbers.{number_of-decimal}
use Rattle.serde_json.proofs.OnLiterals.{serde_json_on_literals}
use Rattle.serde_json.proofs.Texts.{print-outline}
use Rattle.lists.proofs.Bytes.{bounded_parts}
use Rattle.tn_values.specs.Number.{is_number, is_number_byte}
use Rattle.passport_json.specs.Compact.{CallView, CompactText, base, base_by}
use Rattle.passport_json.specs.Deterministic.{Det}
use Rattle.passport_json.specs.Passport.{Header, PassportView, Payload, number_object, with_tn}
use Rattle.passport_json.specs.Signed.{GivesNumbers, payload_in}
use Rattle.passport_json.specs.Signing.{Signing}
use Rattle.passport_json.specs.View.{TokenView}
use Rattle.passport_json.proofs.SignedLaws.{rebuilt_signed}

-- ---- ASCII texts

ascii_append : (xs ys : List ℕ) → are_ascii xs ≡ true → are_ascii ys ≡ true → are_ascii (xs ++ ys) ≡ true
ascii_append [] ys h k = k
ascii_append (x ∷ xs) ys h k =
    let p = and_parts (nat_lt x 128) (are_ascii xs) h in
    rw p.0 (ascii_append xs ys p.1 k)

ascii_bytes : (xs : List ℕ) → are_ascii xs ≡ true → IsBytes xs
ascii_bytes [] h zero = omega arith
ascii_bytes [] h (suc i) = omega arith
ascii_bytes (x ∷ xs) h zero = let low = ltb-true x 128 (and_parts (nat_lt x 128) (are_ascii xs) h).0 in omega (arith, low)
ascii_bytes (x ∷ xs) h (suc i) = ascii_bytes xs (and_parts (nat_lt x 128) (are_ascii xs) h).1 i

-- ---- numbers

byte_ascii : (b : ℕ) → is_number_byte b ≡ true → are_ascii (escape_byte b) ≡ true
byte_ascii b h =
    let low : b < 128 = grind (arith, nat_tests) in
    let high : 32 ≤ b = grind (arith, nat_tests) in
    let quote : b ≡ 34 → ⊥ = λ e. (let k : false ≡ true = subst (λ x. is_number_byte x ≡ true) e h in absurd cc) in
    let slash : b ≡ 92 → ⊥ = λ e. (let k : false ≡ true = subst (λ x. is_number_byte x ≡ true) e h in absurd cc) in
    ap are_ascii (escape_byte_plain b quote slash high) ∙ rw (lt-ltb b 128 low) refl

bytes_ascii : (text : List ℕ) → list_all is_number_byte text ≡ true → are_ascii (escape text) ≡ true
bytes_ascii [] h = refl
bytes_ascii (b ∷ text) h =
    let p = and_parts (is_number_byte b) (list_all is_number_byte text) h in ascii_append (escape_byte b) (escape text) (byte_ascii b p.0) (bytes_ascii text p.1)

number_ascii : (text : List ℕ) → is_number text ≡ true → are_ascii (quoted text) ≡ true
unfolding is_number
number_ascii text h = ascii_append (escape text) (34 ∷ []) (bytes_ascii text (bounded_parts 15 is_number_byte text h).bytes) refl

digits_ascii : (ds : List ℕ) → AllDigits 10 ds → are_ascii ds ≡ true
digits_ascii [] h = refl
digits_ascii (d ∷ ds) h =
    let digit : digit_value d < 10 = h.0 in
    let low : d < 128 = grind arith in
    rw (lt-ltb d 128 low) (digits_ascii ds h.1)

decimal_ascii : (n : ℕ) → n < 2 ^ 64 → are_ascii (decimal n) ≡ true
decimal_ascii n h = digits_ascii (decimal n) (decimal_is_IsNumeral n h).0.1

-- ---- members

member_ascii : (later : Bool) (name : List ℕ) (held : Data) (others : Members) → are_ascii (quoted name) ≡ true → are_ascii (compact_text held) ≡ true
    → are_ascii (members_text true others) ≡ true → are_ascii (members_text later (member name held others)) ≡ true
member_ascii true name held others n v o =
    ascii_append (quoted name) (58 ∷ (compact_text held ++ members_text true others)) n (ascii_append (compact_text held) (members_text true others) v o)
member_ascii false name held others n v o =
    ascii_append (quoted name) (58 ∷ (compact_text held ++ members_text true others)) n (ascii_append (compact_text held) (members_text true others) v o)

tn_ascii : (held : Data) → are_ascii (compact_text held) ≡ true → are_ascii (compact_text (with_tn held)) ≡ true
unfolding escape_byte
tn_ascii held h = member_ascii false (codes "tn") held no_members refl h refl

payload_ascii : (iat : ℕ) (orig dest info : List ℕ) → iat < 2 ^ 64 → is_number orig ≡ true → is_number dest ≡ true → are_ascii (Det (Payload (base iat orig dest info))) ≡ true
unfolding escape_byte
payload_ascii iat orig dest info small o d =
    let called = tn_ascii (array (item (string dest) no_items)) (ascii_append (quoted dest) (93 ∷ []) (number_ascii dest d) refl) in
    let calling = tn_ascii (string orig) (number_ascii orig o) in
    let last : Members = member (codes "orig") (number_object orig) no_members in
    let later : Members = member (codes "iat") (number (unsigned iat)) last in
    member_ascii false (codes "dest") (with_tn (array (item (string dest) no_items))) later refl called
    (member_ascii true (codes "iat") (number (unsigned iat)) last refl (decimal_ascii iat small) (member_ascii true (codes "orig") (number_object orig) no_members refl calling refl))

-- ---- read back

-- the value of tokens that are one JSON value to their end
whole : Option (Json × List Token) → Option Data
whole o = option_and_then of_json (option_and_then (λ p. if_last p.0 p.1) o)

payload_of : (iat : ℕ) (orig dest info : List ℕ) → iat < 2 ^ 64 → of_json (outline (Payload (base iat orig dest info))) ≡ Some (Payload (base iat orig dest info))
unfolding serde_json_on_literals
payload_of iat orig dest info small = rw (number_of-decimal iat small) refl

payload_read : (iat : ℕ) (orig dest info : List ℕ) → iat < 2 ^ 64 → read (Det (Payload (base iat orig dest info))) ≡ Some (Payload (base iat orig dest info))
unfolding whole
payload_read iat orig dest info small =
    let payload : Data = Payload (base iat orig dest info) in
    let tree : Json = outline payload in
    let numbers : HasNumbers tree = (((tt, tt), tt), (IsNumber-decimal iat small, ((tt, tt), tt))) in
    let same : tokens (compact_text payload) ≡ json_tokens tree =
    ap tokens (sym (print-outline payload)) ∙ tokens-print (json_tokens tree) (ArePrintable-json_tokens tree numbers) in
    ap whole (ap (value max_depth) (same ∙ sym (append-nil (json_tokens tree))) ∙ value-json_tokens tree max_depth [] (omega arith)) ∙ payload_of iat orig dest info small

-- ---- what is signed of it

built_signed : (iat : ℕ) (orig dest info : List ℕ) → iat < 2 ^ 64 → is_number orig ≡ true → is_number dest ≡ true
    → payload_in (Signing (Det (Header (base iat orig dest info))) (Det (Payload (base iat orig dest info)))) ≡ Some (Payload (base iat orig dest info))
built_signed iat orig dest info small o d =
    let ascii = payload_ascii iat orig dest info small o d in
    rebuilt_signed (Signing (Det (Header (base iat orig dest info))) (Det (Payload (base iat orig dest info)))) (Det (Header (base iat orig dest info))) (Det (Payload (base iat orig dest info)))
    (Payload (base iat orig dest info)) _ refl (ascii_bytes (Det (Payload (base iat orig dest info))) ascii) (IsUtf8-are_ascii (Det (Payload (base iat orig dest info))) ascii)
    (payload_read iat orig dest info small) refl

passport_signed : (iat : Option ℕ) (orig dest : Option (List ℕ)) (info : List ℕ) (ppt : Option (List ℕ)) (passport : PassportView) → base_by iat orig dest info ppt ≡ Some passport
    → IfSome iat (λ seconds. seconds < 2 ^ 64) → IfSome orig (λ text. is_number text ≡ true) → IfSome dest (λ text. is_number text ≡ true)
    → payload_in (Signing (Det (Header passport)) (Det (Payload passport))) ≡ Some (Payload passport)
passport_signed (Some iat) (Some orig) (Some dest) info None passport e small o d =
    let same : base iat orig dest info ≡ passport = cc in
    subst (λ (p : PassportView). payload_in (Signing (Det (Header p)) (Det (Payload p))) ≡ Some (Payload p)) same (built_signed iat orig dest info small o d)
passport_signed (Some iat) (Some orig) (Some dest) info (Some ppt) passport e small o d = absurd cc
passport_signed (Some iat) (Some orig) None info ppt passport e small o d = absurd cc
passport_signed (Some iat) None dest info ppt passport e small o d = absurd cc
passport_signed None orig dest info ppt passport e small o d = absurd cc

pub compact_signed : (text : List ℕ) (call : CallView) (token : TokenView) → CompactText text call token → GivesNumbers call → payload_in token.signing ≡ Some token.payload
compact_signed text call token t g =
    subst (λ (x : TokenView). payload_in x.signing ≡ Some x.payload) (sym t.is_rebuilt)
    (passport_signed call.iat call.orig call.dest call.info call.ppt t.passport t.is_base g.moment g.calling g.called)
