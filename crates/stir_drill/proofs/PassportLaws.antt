-- The header and the payload of the drill's PASSporTs, byte for byte, and how long what is signed is.
use Rattle.std.proofs.Common.{◌≡◌, ◌≤◌, ◌<◌, ℕ, zero, suc, ◌+◌, ◌*◌, ◌/◌, ◌%◌, ◌^◌, ◌==◌, Bool, true, false, not, ◌&&◌, nat_le, List, [], ◌∷◌, ◌++◌, length, codes, slice_index, refl, ap, subst, ◌∙◌, arith, append_assoc, length-append}
use Rattle.std.specs.Fmt.{decimal}
use Rattle.std.specs.Int.{byte_at, bytes_high_first}
use Rattle.std.proofs.lemmas.Bool.Decides.{nat_tests}
use Rattle.std.proofs.lemmas.Fmt.{decimal_by_steps, length-decimal-le}
use Rattle.std.proofs.lemmas.List.{append-nil}
use Rattle.std.proofs.lemmas.List.Concat.{flat_map-append}
use Rattle.base64.proofs.RoundTrip.{length-encode_symbols}
use Rattle.base64.proofs.Tables.{all_below_at}
use Rattle.base64.specs.Engines.{url_safe_no_pad}
use Rattle.base64.specs.GeneralPurpose.{encode_of}
use Rattle.base64.specs.Rfc4648.{encode_symbols}
use Rattle.hex.proofs.HexLemmas.{length-encode_with}
use Rattle.hex.specs.Hex.{encode_lower, encode_with, lower_digits}
use Rattle.json.specs.Print.{escape, escape_byte}
use Rattle.json.proofs.Printed.Strings.{escape_byte_plain}
use Rattle.passport_json.specs.Deterministic.{Det}
use Rattle.passport_json.specs.Passport.{Header, Payload}
use Rattle.passport_json.specs.Signing.{Signing}
use Rattle.stir_drill.specs.Change.{calling_in, issued_in}
use Rattle.stir_drill.specs.Message.{calling_text, moment_of, passport_of, passport_with, signing_of}
use Rattle.stir_drill.specs.Spelled.{header_text, payload_text, payload_with}
use Rattle.stir_drill.specs.declared.change.Change.{Change}
use Rattle.stir_drill.specs.declared.change.Change.TheVariants.{Plain, Repeats, Unsigned, Stale, Unconfirmed, Outside}
use Rattle.stir_drill.specs.declared.drawn.Drawn.{Drawn}

-- ---- what is written in a string as it is

abbrev is_plain : ℕ → Bool
is_plain b = nat_le 32 b && (not (b == 34) && not (b == 92))

plain_byte : (b : ℕ) → is_plain b ≡ true → escape_byte b ≡ b ∷ []
plain_byte b h =
    let quote : b ≡ 34 → ⊥ = λ e. (let k : false ≡ true = subst (λ x. is_plain x ≡ true) e h in absurd cc) in
    let slash : b ≡ 92 → ⊥ = λ e. (let k : false ≡ true = subst (λ x. is_plain x ≡ true) e h in absurd cc) in
    let high : 32 ≤ b = grind (arith, nat_tests) in
    escape_byte_plain b quote slash high

digit_plain : (d : ℕ) → d < 10 → escape_byte (48 + d) ≡ (48 + d) ∷ []
digit_plain d h = escape_byte_plain (48 + d) (λ e. omega arith) (λ e. omega arith) (omega arith)

-- decimal digits,
decimal_plain : (n : ℕ) → n < 2 ^ 64 → escape (decimal n) ≡ decimal n
decimal_plain n small = decimal_by_steps (λ m ds. escape ds ≡ ds)
    (λ m h. ap (λ x. x ++ []) (digit_plain m h))
    (λ m ds h e. flat_map-append escape_byte ds ((48 + m % 10) ∷ []) ∙ ap (λ x. x ++ (escape_byte (48 + m % 10) ++ [])) e
    ∙ ap (λ x. ds ++ (x ++ [])) (digit_plain (m % 10) (omega arith)))
    n small

-- and hex digits
hex_digit : (k : ℕ) → k < 16 → escape_byte (slice_index lower_digits k) ≡ slice_index lower_digits k ∷ []
hex_digit k h = plain_byte (slice_index lower_digits k) (all_below_at (λ i. is_plain (slice_index lower_digits i)) 16 k refl h)

byte_below : (k n : ℕ) → byte_at k n < 256
byte_below zero n = omega arith
byte_below (suc k) n = let q = n / 256 ^ suc k in let h : q % 256 < 256 = omega arith in h

hex_plain : (k n : ℕ) → escape (encode_lower (bytes_high_first k n)) ≡ encode_lower (bytes_high_first k n)
unfolding encode_with
hex_plain zero n = refl
hex_plain (suc k) n =
    let b = byte_at k n in
    let below = byte_below k n in
    let high = hex_digit (byte_at k n / 16) (omega (arith, below)) in
    let low = hex_digit (byte_at k n % 16) (omega arith) in
    ap (λ x. x ++ (escape_byte (slice_index lower_digits (byte_at k n % 16)) ++ escape (encode_lower (bytes_high_first k n)))) high
    ∙ ap (λ x. slice_index lower_digits (byte_at k n / 16) ∷ (x ++ escape (encode_lower (bytes_high_first k n)))) low
    ∙ ap (λ x. slice_index lower_digits (byte_at k n / 16) ∷ slice_index lower_digits (byte_at k n % 16) ∷ x) (hex_plain k n)

-- ---- header and payload

header_spelled : (call : Drawn) → header_text ≡ Det (Header (passport_of call))
unfolding escape_byte
header_spelled call = refl

json_shape : (a d b o q r c t p u : List ℕ) → p ≡ o → u ≡ t
    → (((((a ++ d) ++ b) ++ o) ++ (q ++ (r ++ c))) ++ t) ++ (q ++ r) ≡ a ++ (d ++ (b ++ (((p ++ q) ++ r) ++ (c ++ ((u ++ q) ++ r)))))
json_shape a d b o q r c t p u e f = simp (e, f, append_assoc) refl

payload_by : (iat : ℕ) (orig tail : List ℕ) → escape orig ≡ orig → escape tail ≡ tail
    → codes "{\"attest\":\"A\",\"dest\":{\"tn\":[\"12125551213\"]},\"iat\":" ++ decimal iat ++ codes ",\"orig\":{\"tn\":\"" ++ orig
    ++ codes "\"},\"origid\":\"00000000-0000-4000-8000-" ++ tail ++ codes "\"}"
    ≡ Det (Payload (passport_with iat orig (codes "00000000-0000-4000-8000-" ++ tail)))
unfolding escape_byte
payload_by iat orig tail o t = json_shape (codes "{\"attest\":\"A\",\"dest\":{\"tn\":[\"12125551213\"]},\"iat\":") (decimal iat)
    (codes ",\"orig\":{\"tn\":\"") orig (34 ∷ []) (125 ∷ []) (codes ",\"origid\":\"00000000-0000-4000-8000-") tail (escape orig) (escape tail) o t

payload_spelled : (call : Drawn) → calling_in call.change call.line < 2 ^ 64 → payload_text call ≡ Det (Payload (passport_of call))
payload_spelled call h = payload_by (issued_in call.change (moment_of call.number)) (calling_text call) (encode_lower (bytes_high_first 6 call.number))
    (decimal_plain (calling_in call.change call.line) h) (hex_plain 6 call.number)

-- ---- what is signed

calling_small : (change : Change) (line : ℕ) → line < 10000 → calling_in change line < 10 ^ 11
calling_small Plain line h = omega arith
calling_small Repeats line h = omega arith
calling_small Unsigned line h = omega arith
calling_small Stale line h = omega arith
calling_small Unconfirmed line h = omega arith
calling_small Outside line h = omega arith

pub signing_spelled : (call : Drawn) → call.line < 10000 → Signing header_text (payload_text call) ≡ signing_of call
signing_spelled call h =
    let small = calling_small call.change call.line h in
    ap (λ x. Signing x (payload_text call)) (header_spelled call)
    ∙ ap (λ x. Signing (Det (Header (passport_of call))) x) (payload_spelled call (omega (arith, small)))

issued_small : (change : Change) (moment : ℕ) → moment < 10 ^ 10 → issued_in change moment < 10 ^ 10
issued_small Plain moment h = h
issued_small Repeats moment h = h
issued_small Unsigned moment h = h
issued_small Stale moment h = omega arith
issued_small Unconfirmed moment h = h
issued_small Outside moment h = h

-- ---- how long it is

pub encoded_length : (bytes : List ℕ) → length (encode_of url_safe_no_pad bytes) ≡ (4 * length bytes + 2) / 3
encoded_length bytes = ap length (append-nil (encode_symbols url_safe_no_pad.encode_table bytes)) ∙ length-encode_symbols url_safe_no_pad.encode_table bytes

total : (a d b o m t z : List ℕ) → length (((((((a ++ d) ++ b) ++ o) ++ m) ++ t)) ++ z)
    ≡ length a + length d + length b + length o + length m + length t + length z
total a d b o m t z = omega (
  arith,
  length-append (((((a ++ d) ++ b) ++ o) ++ m) ++ t) z,
  length-append ((((a ++ d) ++ b) ++ o) ++ m) t,
  length-append (((a ++ d) ++ b) ++ o) m,
  length-append ((a ++ d) ++ b) o,
  length-append (a ++ d) b,
  length-append a d,
)

pub calling_most : (call : Drawn) → call.line < 10000 → length (calling_text call) ≤ 11
calling_most call h =
    let small = calling_small call.change call.line h in
    length-decimal-le 11 (calling_in call.change call.line) (omega arith) small (omega (arith, small))

pub payload_most : (call : Drawn) → call.number ≤ 100000 → call.line < 10000 → length (payload_text call) ≤ 137
payload_most call n h =
    let small = calling_small call.change call.line h in
    let soon = issued_small call.change (moment_of call.number) (omega (arith, n)) in
    let orig = calling_most call h in
    let iat : length (decimal (issued_in call.change (moment_of call.number))) ≤ 10
    = length-decimal-le 10 (issued_in call.change (moment_of call.number)) (omega arith) soon (omega (arith, soon)) in
    let tail : length (encode_lower (bytes_high_first 6 call.number)) ≡ 12 = length-encode_with lower_digits (bytes_high_first 6 call.number) in
    let all : length (payload_text call) ≡ 50 + length (decimal (issued_in call.change (moment_of call.number))) + 15 + length (calling_text call) + 37
    + length (encode_lower (bytes_high_first 6 call.number)) + 2
    = total (codes "{\"attest\":\"A\",\"dest\":{\"tn\":[\"12125551213\"]},\"iat\":") (decimal (issued_in call.change (moment_of call.number)))
    (codes ",\"orig\":{\"tn\":\"") (calling_text call) (codes "\"},\"origid\":\"00000000-0000-4000-8000-")
    (encode_lower (bytes_high_first 6 call.number)) (codes "\"}") in
    omega (arith, orig, iat, tail, all)

pub signing_short : (call : Drawn) → call.number ≤ 100000 → call.line < 10000 → length (Signing header_text (payload_text call)) ≤ 600
signing_short call n h =
    let of_header : length (encode_of url_safe_no_pad header_text) ≡ (4 * length header_text + 2) / 3 = encoded_length header_text in
    let header : length header_text ≤ 100 = omega arith in
    omega (
      arith,
      of_header,
      header,
      encoded_length (payload_text call),
      payload_most call n h,
      length-append (encode_of url_safe_no_pad header_text) (46 ∷ encode_of url_safe_no_pad (payload_text call)),
    )

-- ---- as it is written

payload_shape : (a d b o c t z : List ℕ) → a ++ (d ++ (b ++ (o ++ (c ++ (t ++ z))))) ≡ (((((a ++ d) ++ b) ++ o) ++ c) ++ t) ++ z
payload_shape a d b o c t z = simp append_assoc refl

pub payload_pieces : (iat orig : ℕ) (tail : List ℕ)
    → codes "{\"attest\":\"A\",\"dest\":{\"tn\":[\"12125551213\"]},\"iat\":" ++ (decimal iat ++ (codes ",\"orig\":{\"tn\":\"" ++ (decimal orig
    ++ (codes "\"},\"origid\":\"00000000-0000-4000-8000-" ++ (tail ++ codes "\"}")))))
    ≡ payload_with iat orig tail
payload_pieces iat orig tail = payload_shape (codes "{\"attest\":\"A\",\"dest\":{\"tn\":[\"12125551213\"]},\"iat\":") (decimal iat)
    (codes ",\"orig\":{\"tn\":\"") (decimal orig) (codes "\"},\"origid\":\"00000000-0000-4000-8000-") tail (codes "\"}")
