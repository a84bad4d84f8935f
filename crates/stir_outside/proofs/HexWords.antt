-- A word of hex digits, decoded by a table of digits.
use Rattle.std.proofs.Common.{◌≡◌, ℕ, zero, suc, ◌+◌, ◌*◌, ◌/◌, ◌%◌, ◌<◌, ◌≤◌, ◌==◌, ◌&&◌, Bool, true, List, length, take, drop, replicate, slice_index, slice_set, inl, inr, Option, Some, None, unwrap_or, option_and_then, Result, Ok, Err, refl, sym, ap, ◌∙◌, arith}
use Rattle.std.specs.Option.{option_map}
use Rattle.std.specs.Result.{result_ok}
use Rattle.std.proofs.lemmas.Bool.{and_parts, cases_lt, eqb-true}
use Rattle.std.proofs.lemmas.Bool.Decides.{nat_tests}
use Rattle.std.proofs.lemmas.List.{length-replicate, length-set}
use Rattle.std.proofs.lemmas.Option.{same_Some}
use Rattle.hex.specs.Hex.{decode_pairs, digit_or_error, hex_digit_value, ◌>>=◌}
use Rattle.hex.specs.declared.error.FromHexError.{FromHexError}
use Rattle.hex.specs.declared.error.FromHexError.TheVariants.{InvalidHexCharacter}
use Rattle.hex.proofs.Pairs.{decode_done, decode_err, decode_sized-pairs, decode_start, decode_step, prepend}
use Rattle.stir_outside.specs.AnswersText.{byte_of, bytes_of}
use Rattle.stir_outside.specs.declared.answers.hex_word.TheConstants.{DIGITS}

-- ---- the table

abbrev has_value : ℕ → Bool
has_value c = slice_index DIGITS c == unwrap_or (hex_digit_value c) 255

abbrev have_values : ℕ → Bool
have_values zero = true
have_values (suc n) = has_value n && have_values n

each_value : (n c : ℕ) → have_values n ≡ true → c < n → has_value c ≡ true
each_value zero c h lt = absurd (omega arith)
each_value (suc n) c h lt =
    let parts = and_parts (has_value n) (have_values n) h in
    elim (cases_lt c n) [
      | inl below ↦ each_value n c parts.1 below
      | inr top ↦ let e : c ≡ n = omega arith in rw e parts.0
    ]

in_table : (c : ℕ) → c < 256 → slice_index DIGITS c ≡ unwrap_or (hex_digit_value c) 255
in_table c lt = eqb-true (slice_index DIGITS c) (unwrap_or (hex_digit_value c) 255) (each_value 256 c refl lt)

pub digit_small : (c v : ℕ) → hex_digit_value c ≡ Some v → v < 16
digit_small c v h = grind (arith, nat_tests)

value_by : (c d : ℕ) (x : Option ℕ) → hex_digit_value c ≡ x → d ≡ unwrap_or x 255 → d < 16 → x ≡ Some d
value_by c d None own e lt = absurd (omega (arith, e))
value_by c d (Some v) own e lt = ap Some (sym e)

none_by : (c d : ℕ) (x : Option ℕ) → hex_digit_value c ≡ x → d ≡ unwrap_or x 255 → 16 ≤ d → x ≡ None
none_by c d None own e le = refl
none_by c d (Some v) own e le = let small = digit_small c v own in absurd (omega (arith, e, small))

pub is_digit : (c : ℕ) → c < 256 → slice_index DIGITS c < 16 → Some (slice_index DIGITS c) ≡ hex_digit_value c
is_digit c fits lt = sym (value_by c (slice_index DIGITS c) (hex_digit_value c) refl (in_table c fits) lt)

pub no_digit : (c : ℕ) → c < 256 → 16 ≤ slice_index DIGITS c → None ≡ hex_digit_value c
no_digit c fits le = sym (none_by c (slice_index DIGITS c) (hex_digit_value c) refl (in_table c fits) le)

-- ---- two digits

abbrev pair_then : ℕ → ℕ → ℕ → Option ℕ → Option ℕ → Result ℕ FromHexError
pair_then a b i x y = digit_or_error a i x >>= λ h. digit_or_error b (i + 1) y >>= λ l. Ok (h * 16 + l)

abbrev byte_then : Option ℕ → Option ℕ → Option ℕ
byte_then x y = option_and_then (λ h. option_map (λ l. h * 16 + l) y) x

pair_good : (a b i v : ℕ) (x y : Option ℕ) → byte_then x y ≡ Some v → pair_then a b i x y ≡ Ok v
pair_good a b i v None y h = absurd cc
pair_good a b i v (Some high) None h = absurd cc
pair_good a b i v (Some high) (Some low) h = ap (λ (n : ℕ). Ok n) (same_Some (high * 16 + low) v h)

pair_fault : (a b i : ℕ) (x y : Option ℕ) → byte_then x y ≡ None → (e : FromHexError) × (pair_then a b i x y ≡ Err e)
pair_fault a b i None y h = (InvalidHexCharacter a i, refl)
pair_fault a b i (Some high) None h = (InvalidHexCharacter b (i + 1), refl)
pair_fault a b i (Some high) (Some low) h = absurd cc

-- ---- a word

-- so many bytes, of which those up to a place are decoded
pub record Decoded (count : ℕ) (word : List ℕ) (i : ℕ) (bytes : List ℕ) : Type 0 where
  pub size : length bytes ≡ count
  pub pairs : decode_pairs 0 word ≡ prepend (take i bytes) (decode_pairs (2 * i) (drop (2 * i) word))

pub none_decoded : (count : ℕ) (word : List ℕ) → Decoded count word 0 (replicate count 0)
none_decoded count word = record { size = length-replicate count 0; pairs = decode_start word (replicate count 0) }

pub pair_step : (count : ℕ) (word bytes : List ℕ) (i v : ℕ) → length word % 2 ≡ 0 → length word / 2 ≡ count → i < count
    → byte_of (slice_index word (2 * i)) (slice_index word (2 * i + 1)) ≡ Some v → Decoded count word i bytes → Decoded count word (i + 1) (slice_set bytes i v)
pair_step count word bytes i v even half below e known = record {
  size = length-set bytes i v ∙ known.size;
  pairs =
      let size = known.size in
      decode_step word bytes i v (omega (arith, even, half, below)) (omega (arith, size, below))
      (pair_good (slice_index word (2 * i)) (slice_index word (2 * i + 1)) (2 * i) v
      (hex_digit_value (slice_index word (2 * i))) (hex_digit_value (slice_index word (2 * i + 1))) e)
      known.pairs;
}

pub pair_bad : (count : ℕ) (word bytes : List ℕ) (i : ℕ) → length word % 2 ≡ 0 → length word / 2 ≡ count → i < count
    → byte_of (slice_index word (2 * i)) (slice_index word (2 * i + 1)) ≡ None → Decoded count word i bytes → None ≡ bytes_of count word
pair_bad count word bytes i even half below e known =
    let fault = pair_fault (slice_index word (2 * i)) (slice_index word (2 * i + 1)) (2 * i)
    (hex_digit_value (slice_index word (2 * i))) (hex_digit_value (slice_index word (2 * i + 1))) e in
    sym (ap result_ok (decode_sized-pairs word count even half ∙ decode_err word bytes i fault.0 (omega (arith, even, half, below)) fault.1 known.pairs))

pub pairs_done : (count : ℕ) (word bytes : List ℕ) (i : ℕ) → length word % 2 ≡ 0 → length word / 2 ≡ count → count ≤ i
    → Decoded count word i bytes → Some bytes ≡ bytes_of count word
pairs_done count word bytes i even half all known =
    let size = known.size in
    sym (ap result_ok (decode_sized-pairs word count even half ∙ decode_done word bytes i (omega (arith, size, all)) (omega (arith, even, half, all)) known.pairs))

pub other_size : (word : List ℕ) (count : ℕ) → (length word % 2 ≡ 0 → length word / 2 ≡ count → ⊥) → None ≡ bytes_of count word
other_size word count other = grind (arith, nat_tests)
