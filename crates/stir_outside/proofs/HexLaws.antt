-- A word of hex digits, of either case, is decoded to the bytes whose lower case text it is but for its case.
use Rattle.std.proofs.Common.{◌≡◌, ◌↔◌, ℕ, zero, suc, ◌+◌, ◌*◌, ◌/◌, ◌%◌, ◌<◌, ◌≤◌, ◌==◌, Bool, true, false, ◌&&◌, List, [], ◌∷◌, length, slice_index, map, drop, unwrap_or, inl, inr, Option, Some, None, Result, Ok, Err, refl, sym, ap, ◌∙◌, arith}
use Rattle.std.specs.Char.{to_ascii_lowercase}
use Rattle.std.specs.List.{AllPass}
use Rattle.std.specs.Option.{option_map}
use Rattle.std.specs.Result.{result_ok}
use Rattle.std.proofs.lemmas.Bool.{and_parts, cases_lt, eqb-true}
use Rattle.std.proofs.lemmas.Bool.Decides.{nat_tests}
use Rattle.std.proofs.lemmas.List.{length-map}
use Rattle.std.proofs.lemmas.List.Elements.{All-head, All-tail}
use Rattle.std.proofs.lemmas.Option.{same_Some}
use Rattle.hex.specs.Hex.{IsBytes, decode_pairs, decode_sized, digit_or_error, encode_lower, encode_with, hex_digit_value, is_hex_digit, lower_digits, ◌>>=◌}
use Rattle.hex.specs.declared.error.FromHexError.{FromHexError}
use Rattle.hex.proofs.HexLemmas.{IsDigits-lower_digits, decode_pairs-ok, decode_sized-ok, length-encode_with}
use Rattle.hex.proofs.Pairs.{decode_sized-pairs}
use Rattle.text_grammar.specs.Cut.{lacks}
use Rattle.text_grammar.specs.LineWords.{IsWord}
use Rattle.stir_outside.specs.AnswersText.{bytes_of}
use Rattle.stir_outside.specs.AnswersLine.{IsHex}

-- ---- a digit

-- its case doesn't matter
any_case : (c : ℕ) → hex_digit_value (to_ascii_lowercase c) ≡ hex_digit_value c
any_case c = grind (arith, nat_tests)

-- the digit of a value in lower case, if the byte is a digit; and a test of it that computes
abbrev is_its_digit : ℕ → Bool
is_its_digit c = unwrap_or (option_map (λ v. slice_index lower_digits v == to_ascii_lowercase c) (hex_digit_value c)) true

abbrev are_their_digits : ℕ → Bool
are_their_digits zero = true
are_their_digits (suc n) = is_its_digit n && are_their_digits n

each_digit : (n c : ℕ) → are_their_digits n ≡ true → c < n → is_its_digit c ≡ true
each_digit zero c h lt = absurd (omega arith)
each_digit (suc n) c h lt =
    let parts = and_parts (is_its_digit n) (are_their_digits n) h in
    elim (cases_lt c n) [
      | inl below ↦ each_digit n c parts.1 below
      | inr top ↦ let e : c ≡ n = omega arith in rw e parts.0
    ]

digit_below : (c v : ℕ) → hex_digit_value c ≡ Some v → c < 103
digit_below c v h = grind (arith, nat_tests)

digit_small : (c v : ℕ) → hex_digit_value c ≡ Some v → v < 16
digit_small c v h = grind (arith, nat_tests)

in_lower_case : (c v : ℕ) → hex_digit_value c ≡ Some v → to_ascii_lowercase c ≡ slice_index lower_digits v
in_lower_case c v h =
    let t : is_its_digit c ≡ true = each_digit 103 c refl (digit_below c v h) in
    let own : (slice_index lower_digits v == to_ascii_lowercase c) ≡ true = rw h at t in
    sym (eqb-true (slice_index lower_digits v) (to_ascii_lowercase c) own)

-- ---- pairs of digits

abbrev lower_text : List ℕ → List ℕ
lower_text word = map to_ascii_lowercase word

pair_text : (a b h l : ℕ) (rest bytes : List ℕ) → hex_digit_value a ≡ Some h → hex_digit_value b ≡ Some l → lower_text rest ≡ encode_lower bytes
    → lower_text (a ∷ b ∷ rest) ≡ encode_lower ((h * 16 + l) ∷ bytes)
unfolding encode_with
pair_text a b h l rest bytes x y e =
    let small : l < 16 = digit_small b l y in
    let high : (h * 16 + l) / 16 ≡ h = omega (arith, small) in
    let low : (h * 16 + l) % 16 ≡ l = omega (arith, small) in
    rw (high, low, in_lower_case a h x, in_lower_case b l y, e) refl

abbrev pair_then : ℕ → ℕ → ℕ → Option ℕ → Option ℕ → Result (List ℕ) FromHexError → Result (List ℕ) FromHexError
pair_then a b i x y r = (digit_or_error a i x >>= λ h. digit_or_error b (i + 1) y >>= λ l. Ok (h * 16 + l)) >>= λ byte. r >>= λ bytes. Ok (byte ∷ bytes)

ok_is : (a b : List ℕ) → ◌≡◌ {A = Result (List ℕ) FromHexError} (Ok a) (Ok b) → a ≡ b
ok_is a b e = cc

pairs_by : (a b i : ℕ) (rest bytes : List ℕ) (x y : Option ℕ) (r : Result (List ℕ) FromHexError) → hex_digit_value a ≡ x → hex_digit_value b ≡ y
    → ((more : List ℕ) → r ≡ Ok more → lower_text rest ≡ encode_lower more) → pair_then a b i x y r ≡ Ok bytes → lower_text (a ∷ b ∷ rest) ≡ encode_lower bytes
pairs_by a b i rest bytes None y r ex ey below h = absurd cc
pairs_by a b i rest bytes (Some high) None r ex ey below h = absurd cc
pairs_by a b i rest bytes (Some high) (Some low) (Err fault) ex ey below h = absurd cc
pairs_by a b i rest bytes (Some high) (Some low) (Ok more) ex ey below h =
    pair_text a b high low rest more ex ey (below more refl) ∙ ap encode_lower (ok_is ((high * 16 + low) ∷ more) bytes h)

pairs_lower : (i : ℕ) (word bytes : List ℕ) → decode_pairs i word ≡ Ok bytes → lower_text word ≡ encode_lower bytes
unfolding decode_pairs encode_with
pairs_lower i [] bytes h = ap encode_lower (ok_is [] bytes h)
pairs_lower i (a ∷ []) bytes h = absurd cc
pairs_lower i (a ∷ b ∷ rest) bytes h =
    pairs_by a b i rest bytes (hex_digit_value a) (hex_digit_value b) (decode_pairs (i + 2) rest) refl refl (λ more e. pairs_lower (i + 2) rest more e) h

pairs_again : (i : ℕ) (word bytes : List ℕ) → IsBytes bytes → lower_text word ≡ encode_lower bytes → decode_pairs i word ≡ Ok bytes
unfolding decode_pairs encode_with
pairs_again i [] [] fits e = refl
pairs_again i [] (x ∷ bytes) fits e = absurd cc
pairs_again i (a ∷ []) [] fits e = absurd cc
pairs_again i (a ∷ []) (x ∷ bytes) fits e = let k = ap length e in absurd (omega (arith, k))
pairs_again i (a ∷ b ∷ word) [] fits e = absurd cc
pairs_again i (a ∷ b ∷ word) (x ∷ bytes) fits e =
    let size : x < 256 = fits 0 in
    let high : x / 16 < 16 = omega (arith, size) in
    let low : x % 16 < 16 = omega arith in
    let one : hex_digit_value a ≡ Some (x / 16) =
    sym (any_case a) ∙ ap (λ (l : List ℕ). hex_digit_value (slice_index l 0)) e ∙ IsDigits-lower_digits (x / 16) high in
    let two : hex_digit_value b ≡ Some (x % 16) =
    sym (any_case b) ∙ ap (λ (l : List ℕ). hex_digit_value (slice_index l 1)) e ∙ IsDigits-lower_digits (x % 16) low in
    let rest : decode_pairs (i + 2) word ≡ Ok bytes = pairs_again (i + 2) word bytes (λ k. fits (suc k)) (ap (drop 2) e) in
    let whole : x / 16 * 16 + x % 16 ≡ x = omega arith in
    rw (one, two, rest) (ap (λ (n : ℕ). Ok (n ∷ bytes)) whole)

-- ---- words of so many bytes

size_of : (word bytes : List ℕ) → lower_text word ≡ encode_lower bytes → length word ≡ 2 * length bytes
size_of word bytes e = sym (length-map word to_ascii_lowercase) ∙ ap length e ∙ length-encode_with lower_digits bytes

sized : (word : List ℕ) (count : ℕ) → length word ≡ 2 * count → decode_sized word count ≡ decode_pairs 0 word
sized word count e =
    let even : length word % 2 ≡ 0 = omega (arith, e) in
    let half : length word / 2 ≡ count = omega (arith, e) in
    decode_sized-pairs word count even half

result_is : (r : Result (List ℕ) FromHexError) (bytes : List ℕ) → result_ok r ≡ Some bytes → r ≡ Ok bytes
result_is (Ok own) bytes h = ap (λ (x : List ℕ). Ok x) (same_Some own bytes h)
result_is (Err fault) bytes h = absurd cc

hex_found : (count : ℕ) (word bytes : List ℕ) → bytes_of count word ≡ Some bytes → IsHex count bytes word
hex_found count word bytes h =
    let decoded : decode_sized word count ≡ Ok bytes = result_is (decode_sized word count) bytes h in
    let twice : length word ≡ 2 * count = decode_sized-ok word count bytes decoded in
    let pairs : decode_pairs 0 word ≡ Ok bytes = sym (sized word count twice) ∙ decoded in
    let ok = decode_pairs-ok 0 word bytes pairs in
    let long : length word ≡ 2 * length bytes = ok.1 in
    record { size = omega (arith, long, twice); are_bytes = ok.2; digits = pairs_lower 0 word bytes pairs }

hex_again : (count : ℕ) (word bytes : List ℕ) → IsHex count bytes word → bytes_of count word ≡ Some bytes
hex_again count word bytes is =
    let twice : length word ≡ 2 * count = size_of word bytes is.digits ∙ ap (λ n. 2 * n) is.size in
    ap result_ok (sized word count twice ∙ pairs_again 0 word bytes is.are_bytes is.digits)

pub hex_is : (count : ℕ) (word bytes : List ℕ) → (bytes_of count word ≡ Some bytes) ↔ IsHex count bytes word
hex_is count word bytes = (hex_found count word bytes, hex_again count word bytes)

-- ---- such a word has no space

lacks_by : (c : ℕ) (word : List ℕ) → is_hex_digit c ≡ true → lacks 32 word ≡ true → lacks 32 (c ∷ word) ≡ true
lacks_by c word h more = let other : (c == 32) ≡ false = grind (arith, nat_tests) in rw (other, more) refl

digits_lack : (word : List ℕ) → AllPass is_hex_digit word → lacks 32 word ≡ true
digits_lack [] all = refl
digits_lack (c ∷ word) all = lacks_by c word (All-head (λ d. is_hex_digit d ≡ true) c word all) (digits_lack word (All-tail (λ d. is_hex_digit d ≡ true) c word all))

pub hex_word : (count : ℕ) (word bytes : List ℕ) → 1 ≤ count → IsHex count bytes word → IsWord word
hex_word count word bytes some is =
    let twice : length word ≡ 2 * count = size_of word bytes is.digits ∙ ap (λ n. 2 * n) is.size in
    record {
      some = omega (arith, twice, some);
      spaceless = digits_lack word (decode_pairs-ok 0 word bytes (pairs_again 0 word bytes is.are_bytes is.digits)).0;
    }
