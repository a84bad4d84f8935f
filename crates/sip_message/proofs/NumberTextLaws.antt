-- A text that stands for a number has no `;` and no `:`, so it is all of the number's text in a URI.
use Rattle.std.proofs.Common.{◌≡◌, ℕ, Bool, true, false, not, ◌==◌, List, [], ◌∷◌, refl, ap, sym, ◌∙◌, arith}
use Rattle.std.proofs.lemmas.Bool.{and_parts}
use Rattle.std.proofs.lemmas.Bool.Decides.{nat_tests}
use Rattle.lists.proofs.Bytes.{each}
use Rattle.tn_values.specs.Canon.{StandsFor, international, is_separator, national, plain, without_separators}
use Rattle.tn_values.specs.Local.{LocalView}
use Rattle.tn_values.specs.Number.{is_number, is_number_byte}
use Rattle.tn_values.proofs.NumberFacts.{number_parts}
use Rattle.sip_message.specs.Address.{before}
use Rattle.sip_message.specs.UpTo.{has_none, whole}
use Rattle.sip_message.specs.UriNumber.{ends_user}
use Rattle.sip_message.proofs.UpToLaws.{before_only, front_only}
use Rattle.sip_message.proofs.UriLaws.{user_front}

-- ---- its bytes

separator_is_none : (byte : ℕ) → is_separator byte ≡ true → not (ends_user byte) ≡ true
separator_is_none byte h = grind (arith, nat_tests)

number_byte_is_none : (byte : ℕ) → is_number_byte byte ≡ true → not (ends_user byte) ≡ true
number_byte_is_none byte h = grind (arith, nat_tests)

none_by : (byte : ℕ) (rest : List ℕ) (t : Bool) → is_separator byte ≡ t
    → (has_none ends_user (without_separators rest) ≡ true → has_none ends_user rest ≡ true)
    → has_none ends_user (without_separators (byte ∷ rest)) ≡ true → has_none ends_user (byte ∷ rest) ≡ true
none_by byte rest true e below h = let k = rw e at h in rw (separator_is_none byte e, below k) refl
none_by byte rest false e below h =
    let k = rw e at h in
    let t = and_parts (not (ends_user byte)) (has_none ends_user (without_separators rest)) k in
    rw (t.0, below t.1) refl

-- what is dropped from a text ends none either
none_dropped : (text : List ℕ) → has_none ends_user (without_separators text) ≡ true → has_none ends_user text ≡ true
none_dropped [] h = refl
none_dropped (byte ∷ rest) h = none_by byte rest (is_separator byte) refl (none_dropped rest) h

none_of : (number : List ℕ) → is_number number ≡ true → has_none ends_user number ≡ true
none_of number h = each is_number_byte (λ byte. not (ends_user byte)) number_byte_is_none number (number_parts number h).bytes

none : (text : List ℕ) (local : LocalView) (number : List ℕ) → StandsFor text local number → has_none ends_user text ≡ true
none text local number (international h kept) = none_dropped text (ap (has_none ends_user) kept ∙ none_of number h)
none text local number (plain h kept other) = none_dropped text (ap (has_none ends_user) kept ∙ none_of number h)
none text local number (national digits h kept own long parts) = none_dropped text (ap (has_none ends_user) kept ∙ none_of digits h)

-- ---- so it is all of the number's text

pub whole_user : (text : List ℕ) (local : LocalView) (number : List ℕ) → StandsFor text local number → text ≡ before 58 (before 59 text)
whole_user text local number s = front_only ends_user text text (whole (none text local number s) refl) ∙ sym (user_front text)

other_byte : (byte : ℕ) → not (ends_user byte) ≡ true → not (byte == 59) ≡ true
other_byte byte h = grind (arith, nat_tests)

pub whole_tel : (text : List ℕ) (local : LocalView) (number : List ℕ) → StandsFor text local number → text ≡ before 59 text
whole_tel text local number s =
    before_only 59 text text (whole (each (λ byte. not (ends_user byte)) (λ byte. not (byte == 59)) other_byte text (none text local number s)) refl)
