-- How long the members of a PASSporT are in its deterministic texts.
use Rattle.std.proofs.Common.{◌≡◌, ◌≤◌, ◌+◌, ◌*◌, ◌/◌, ◌%◌, ℕ, Bool, true, false, nat_lt, cond, List, [], ◌∷◌, ◌++◌, length, codes, refl, ap, subst, ◌∙◌, arith, length-append}
use Rattle.std.specs.Char.{digit_char}
use Rattle.std.specs.List.{list_all}
use Rattle.std.specs.Prelude.{IsTrue}
use Rattle.std.proofs.lemmas.Bool.{and_parts}
use Rattle.std.proofs.lemmas.Bool.Decides.{nat_tests}
use Rattle.std.proofs.lemmas.Fmt.{length-decimal-le}
use Rattle.json.specs.Print.{escape, escape_byte, escape_letter, quoted}
use Rattle.json.proofs.Printed.Strings.{escape_byte_plain}
use Rattle.serde_json.specs.Data.{Data, Members, array, item, member, no_items, no_members, number, string, unsigned}
use Rattle.serde_json.specs.Written.{comma_if, compact_text, members_text}
use Rattle.text_grammar.specs.Bytes.{is_uri_byte}
use Rattle.text_grammar.specs.Moment.{last_second}
use Rattle.text_grammar.specs.Uri.{is_uri}
use Rattle.text_grammar.proofs.UriLaws.{uri_parts}
use Rattle.lists.proofs.Bytes.{bounded_parts}
use Rattle.tn_values.specs.Number.{is_number, is_number_byte}
use Rattle.passport_json.specs.Passport.{number_object, with_tn}
use Rattle.passport_claims.specs.Kind.{attest_text}
use Rattle.passport_claims.specs.declared.kind.Attest.{Attest}
use Rattle.passport_claims.specs.declared.kind.Attest.TheVariants as levels

-- ---- strings

byte_by : (x : ℕ) (s t : Bool)
    → length (cond s (92 ∷ escape_letter x ∷ []) (cond t (92 ∷ 117 ∷ 48 ∷ 48 ∷ digit_char (x / 16) ∷ digit_char (x % 16) ∷ []) (x ∷ []))) ≤ 6
byte_by x true t = omega arith
byte_by x false true = omega arith
byte_by x false false = omega arith

byte_le : (x : ℕ) → length (escape_byte x) ≤ 6
unfolding escape_byte
byte_le x = byte_by x (nat_lt 0 (escape_letter x)) (nat_lt x 32)

escape_le : (text : List ℕ) → length (escape text) ≤ 6 * length text
escape_le [] = omega arith
escape_le (x ∷ xs) = omega (arith, byte_le x, escape_le xs, length-append (escape_byte x) (escape xs))

-- a string of at most so many bytes
pub quoted_le : (text : List ℕ) (n : ℕ) → length text ≤ n → length (quoted text) ≤ 2 + 6 * n
quoted_le text n h = omega (arith, escape_le text, length-append (escape text) (34 ∷ []), h)

pub name_le : (name : List ℕ) (n : ℕ) → length name ≡ n → length (quoted name) ≤ 2 + 6 * n
name_le name n e = quoted_le name n (omega (arith, e))

uri_byte : (b : ℕ) → is_uri_byte b ≡ true → escape_byte b ≡ b ∷ []
uri_byte b h =
    let high : 32 ≤ b = grind (arith, nat_tests) in
    let quote : b ≡ 34 → ⊥ = λ e. (let k : false ≡ true = subst (λ x. is_uri_byte x ≡ true) e h in absurd cc) in
    let slash : b ≡ 92 → ⊥ = λ e. (let k : false ≡ true = subst (λ x. is_uri_byte x ≡ true) e h in absurd cc) in
    escape_byte_plain b quote slash high

-- a URI is written in a string as it is
escape_uri : (text : List ℕ) → list_all is_uri_byte text ≡ true → escape text ≡ text
escape_uri [] h = refl
escape_uri (b ∷ bs) h =
    let t = and_parts (is_uri_byte b) (list_all is_uri_byte bs) h in
    ap (λ x. x ++ escape bs) (uri_byte b t.0) ∙ ap (λ x. b ∷ x) (escape_uri bs t.1)

pub uri_le : (x5u : List ℕ) → IsTrue (is_uri x5u) → (length (quoted x5u) ≤ 2 + length x5u) × (length x5u ≤ 2048)
uri_le x5u h =
    let parts = uri_parts x5u h in
    let same = ap length (escape_uri x5u parts.bytes) in
    (omega (arith, length-append (escape x5u) (34 ∷ []), same), parts.short)

number_le : (digits : List ℕ) → is_number digits ≡ true → length (quoted digits) ≤ 92
unfolding is_number
number_le digits h = quoted_le digits 15 (bounded_parts 15 is_number_byte digits h).short

-- ---- members

comma_le : (later : Bool) → length (comma_if later) ≤ 1
comma_le true = omega arith
comma_le false = omega arith

pub member_le : (later : Bool) (name : List ℕ) (held : Data) (others : Members) (n v o : ℕ) → length (quoted name) ≤ n → length (compact_text held) ≤ v
    → length (members_text true others) ≤ o → length (members_text later (member name held others)) ≤ 2 + n + v + o
member_le later name held others n v o hn hv ho =
    omega (
      arith,
      hn,
      hv,
      ho,
      comma_le later,
      length-append (comma_if later) (quoted name ++ 58 ∷ (compact_text held ++ members_text true others)),
      length-append (quoted name) (58 ∷ (compact_text held ++ members_text true others)),
      length-append (compact_text held) (members_text true others),
    )

tn_le : (held : Data) (v : ℕ) → length (compact_text held) ≤ v → length (compact_text (with_tn held)) ≤ 18 + v
tn_le held v h = omega (arith, member_le false (codes "tn") held no_members 14 v 1 (name_le (codes "tn") 2 refl) h (omega arith))

pub called_le : (digits : List ℕ) → is_number digits ≡ true → length (compact_text (with_tn (array (item (string digits) no_items)))) ≤ 112
called_le digits h = tn_le (array (item (string digits) no_items)) 94 (omega (arith, number_le digits h, length-append (quoted digits) (93 ∷ [])))

pub calling_le : (digits : List ℕ) → is_number digits ≡ true → length (compact_text (number_object digits)) ≤ 110
calling_le digits h = tn_le (string digits) 92 (number_le digits h)

moment_le : (iat : ℕ) → iat ≤ last_second → length (compact_text (number (unsigned iat))) ≤ 12
moment_le iat h = length-decimal-le 12 iat (omega arith) (omega (arith, h)) (omega (arith, h))

pub level_le : (level : Attest) → length (quoted (attest_text level)) ≤ 8
level_le levels.A = name_le (codes "A") 1 refl
level_le levels.B = name_le (codes "B") 1 refl
level_le levels.C = name_le (codes "C") 1 refl

-- ---- the header

pub header_end : (x5u : List ℕ) → length (quoted x5u) ≤ 2 + length x5u
    → length (members_text true (member (codes "typ") (string (codes "passport")) (member (codes "x5u") (string x5u) no_members))) ≤ 97 + length x5u
header_end x5u h =
    let last = member_le true (codes "x5u") (string x5u) no_members 20 (2 + length x5u) 1 (name_le (codes "x5u") 3 refl) h (omega arith) in
    omega (
      arith,
      member_le true (codes "typ") (string (codes "passport")) (member (codes "x5u") (string x5u) no_members) 20 50 (25 + length x5u)
          (name_le (codes "typ") 3 refl) (name_le (codes "passport") 8 refl) (omega (arith, last)),
    )

pub typed_end : (ppt : List ℕ) (x5u : List ℕ) → length ppt ≤ 6 → length (quoted x5u) ≤ 2 + length x5u
    → length (members_text true (member (codes "ppt") (string ppt) (member (codes "typ") (string (codes "passport")) (member (codes "x5u") (string x5u) no_members)))) ≤ 157 + length x5u
typed_end ppt x5u p h =
    omega (
      arith,
      member_le true (codes "ppt") (string ppt) (member (codes "typ") (string (codes "passport")) (member (codes "x5u") (string x5u) no_members)) 20 38 (97 + length x5u)
          (name_le (codes "ppt") 3 refl) (quoted_le ppt 6 p) (header_end x5u h),
    )

-- ---- the payload

pub orig_le : (orig : List ℕ) (others : Members) (o : ℕ) → is_number orig ≡ true → length (members_text true others) ≤ o
    → length (members_text true (member (codes "orig") (number_object orig) others)) ≤ 138 + o
orig_le orig others o n h = omega (arith, member_le true (codes "orig") (number_object orig) others 26 110 o (name_le (codes "orig") 4 refl) (calling_le orig n) h)

pub iat_le : (iat : ℕ) (orig : List ℕ) (others : Members) (o : ℕ) → iat ≤ last_second → is_number orig ≡ true → length (members_text true others) ≤ o
    → length (members_text true (member (codes "iat") (number (unsigned iat)) (member (codes "orig") (number_object orig) others))) ≤ 172 + o
iat_le iat orig others o w n h =
    omega (
      arith,
      member_le true (codes "iat") (number (unsigned iat)) (member (codes "orig") (number_object orig) others) 20 12 (138 + o)
          (name_le (codes "iat") 3 refl) (moment_le iat w) (orig_le orig others o n h),
    )

pub dest_le : (later : Bool) (called : List ℕ) (others : Members) (o : ℕ) → is_number called ≡ true → length (members_text true others) ≤ o
    → length (members_text later (member (codes "dest") (with_tn (array (item (string called) no_items))) others)) ≤ 140 + o
dest_le later called others o n h =
    omega (arith, member_le later (codes "dest") (with_tn (array (item (string called) no_items))) others 26 112 o (name_le (codes "dest") 4 refl) (called_le called n) h)
