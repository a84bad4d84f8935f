-- No LF is in the deterministic form of a JSON value.
use Rattle.std.proofs.Common.{◌≡◌, ℕ, zero, suc, ◌+◌, ◌/◌, ◌%◌, ◌==◌, ◌&&◌, ◌||◌, Bool, true, false, not, cond, nat_lt, ℤ, pos, negsuc, List, [], ◌∷◌, ◌++◌, Option, Some, None, refl, ◌∙◌, ap, arith}
use Rattle.std.specs.Prelude.{decimal}
use Rattle.std.specs.Char.{digit_char}
use Rattle.std.specs.Fmt.{digit_glyph, digits, digits_onto, signed_decimal}
use Rattle.std.proofs.lemmas.Bool.{and_parts}
use Rattle.std.proofs.lemmas.Bool.Decides.{nat_tests}
use Rattle.json.specs.Print.{escape, escape_byte, escape_letter, quoted}
use Rattle.passport_json.specs.Deterministic.{Det}
use Rattle.serde_json.specs.Data.{Data, null, boolean, number, string, array, object, Items, no_items, item, Members, no_members, member, Num, unsigned, negative, float}
use Rattle.serde_json.specs.Written.{comma_if, compact_text, items_text, members_text, number_text}
use Rattle.text_grammar.specs.Cut.{lacks}
use Rattle.open_calls.specs.Claims.{has_form, said_text}

both : (a b : Bool) → a ≡ true → b ≡ true → (a && b) ≡ true
both a b first second = ap (λ t. t && b) first ∙ second

joined : (xs ys : List ℕ) → lacks 10 xs ≡ true → lacks 10 ys ≡ true → lacks 10 (xs ++ ys) ≡ true
joined [] ys first second = second
joined (x ∷ xs) ys first second =
    let parts = and_parts (not (x == 10)) (lacks 10 xs) first in
    both (not (x == 10)) (lacks 10 (xs ++ ys)) parts.0 (joined xs ys parts.1 second)

-- ---- numbers

glyph : (d : ℕ) → not (digit_glyph false d == 10) ≡ true
glyph d = of_test (nat_lt d 10) where
  of_test : (low : Bool) → not (cond low (48 + d) (87 + d) == 10) ≡ true
  of_test true = grind (arith, nat_tests)
  of_test false = grind (arith, nat_tests)

either : (test : Bool) (xs ys : List ℕ) → lacks 10 xs ≡ true → lacks 10 ys ≡ true → lacks 10 (cond test xs ys) ≡ true
either true xs ys first second = first
either false xs ys first second = second

onto : (k n : ℕ) (acc : List ℕ) → lacks 10 acc ≡ true → lacks 10 (digits_onto k 10 false n acc) ≡ true
onto zero n acc free = free
onto (suc k) n acc free =
    let more = both (not (digit_glyph false (n % 10) == 10)) (lacks 10 acc) (glyph (n % 10)) free in
    either (n / 10 == 0) (digit_glyph false (n % 10) ∷ acc) (digits_onto k 10 false (n / 10) (digit_glyph false (n % 10) ∷ acc)) more
    (onto k (n / 10) (digit_glyph false (n % 10) ∷ acc) more)

in_decimal : (n : ℕ) → lacks 10 (decimal n) ≡ true
unfolding digits
in_decimal n = onto 64 n [] refl

in_signed : (z : ℤ) → lacks 10 (signed_decimal z) ≡ true
in_signed (pos n) = in_decimal n
in_signed (negsuc n) = in_decimal (suc n)

in_number : (n : Num) → lacks 10 (number_text n) ≡ true
in_number (unsigned n) = in_decimal n
in_number (negative z) = in_signed z
in_number (float x) = refl

-- ---- strings

letter_by : (x : ℕ) (own b c d e f : Bool) → ((x == 34) || (x == 92)) ≡ own → not (cond own x (cond b 98 (cond c 102 (cond d 110 (cond e 114 (cond f 116 0))))) == 10) ≡ true
letter_by x true b c d e f is = grind (arith, nat_tests, is)
letter_by x false true c d e f is = refl
letter_by x false false true d e f is = refl
letter_by x false false false true e f is = refl
letter_by x false false false false true f is = refl
letter_by x false false false false false true is = refl
letter_by x false false false false false false is = refl

letter : (x : ℕ) → not (escape_letter x == 10) ≡ true
letter x = letter_by x ((x == 34) || (x == 92)) (x == 8) (x == 12) (x == 10) (x == 13) (x == 9) refl

hex : (d : ℕ) → not (digit_char d == 10) ≡ true
hex d = of_test (nat_lt d 10) where
  of_test : (low : Bool) → not (cond low (48 + d) (87 + d) == 10) ≡ true
  of_test true = grind (arith, nat_tests)
  of_test false = grind (arith, nat_tests)

plain : (x : ℕ) → nat_lt x 32 ≡ false → not (x == 10) ≡ true
plain x high = grind (arith, nat_tests, high)

byte_by : (x : ℕ) (short control : Bool) → nat_lt x 32 ≡ control
    → lacks 10 (cond short (92 ∷ escape_letter x ∷ []) (cond control (92 ∷ 117 ∷ 48 ∷ 48 ∷ digit_char (x / 16) ∷ digit_char (x % 16) ∷ []) (x ∷ []))) ≡ true
byte_by x true control is = both (not (escape_letter x == 10)) true (letter x) refl
byte_by x false true is = both (not (digit_char (x / 16) == 10)) (not (digit_char (x % 16) == 10) && true) (hex (x / 16)) (both (not (digit_char (x % 16) == 10)) true (hex (x % 16)) refl)
byte_by x false false is = both (not (x == 10)) true (plain x is) refl

byte : (x : ℕ) → lacks 10 (escape_byte x) ≡ true
unfolding escape_byte
byte x = byte_by x (nat_lt 0 (escape_letter x)) (nat_lt x 32) refl

escaped : (s : List ℕ) → lacks 10 (escape s) ≡ true
escaped [] = refl
escaped (x ∷ s) = joined (escape_byte x) (escape s) (byte x) (escaped s)

in_string : (s : List ℕ) → lacks 10 (quoted s) ≡ true
in_string s = joined (escape s) (34 ∷ []) (escaped s) refl

-- ---- values

comma : (later : Bool) → lacks 10 (comma_if later) ≡ true
comma true = refl
comma false = refl

mutual
  pub in_text : (value : Data) → lacks 10 (compact_text value) ≡ true
  in_text null = refl
  in_text (boolean true) = refl
  in_text (boolean false) = refl
  in_text (number n) = in_number n
  in_text (string s) = in_string s
  in_text (array items) = in_items false items
  in_text (object members) = in_members false members

  in_items : (later : Bool) (items : Items) → lacks 10 (items_text later items) ≡ true
  in_items later no_items = refl
  in_items later (item value items) =
      joined (comma_if later) (compact_text value ++ items_text true items) (comma later)
      (joined (compact_text value) (items_text true items) (in_text value) (in_items true items))

  in_members : (later : Bool) (members : Members) → lacks 10 (members_text later members) ≡ true
  in_members later no_members = refl
  in_members later (member name value members) =
      joined (comma_if later) (quoted name ++ 58 ∷ (compact_text value ++ members_text true members)) (comma later)
      (joined (quoted name) (58 ∷ (compact_text value ++ members_text true members)) (in_string name)
      (joined (compact_text value) (members_text true members) (in_text value) (in_members true members)))

formed : (value : Data) (form : Bool) → lacks 10 (cond form (Det value) (45 ∷ [])) ≡ true
formed value true = in_text value
formed value false = refl

-- of a PASSporT, whatever was signed
pub one_line : (payload : Option Data) → lacks 10 (said_text payload) ≡ true
one_line None = refl
one_line (Some payload) = formed payload (has_form payload)
