-- Laws of the canonical number.
use Rattle.std.proofs.Common.{◌≡◌, ℕ, Bool, true, false, cond, not, ◌&&◌, ◌==◌, List, [], ◌∷◌, ◌++◌, length, Option, Some, None, IfSome, arith, refl, sym, ◌∙◌, ap, eq-eqb, eqb-true}
use Rattle.std.proofs.lemmas.Bool.{and_parts}
use Rattle.std.proofs.lemmas.Bool.Decides.{nat_tests}
use Rattle.std.specs.Cmp.Derive.{both_true}
use Rattle.std.specs.List.{list_all}
use Rattle.std.specs.Option.{option_map}
use Rattle.tn_values.specs.Digit.{are_digits}
use Rattle.tn_values.specs.Number.{is_number_byte, is_number, exact}
use Rattle.tn_values.specs.Local.{LocalView}
use Rattle.tn_values.specs.Canon.{is_separator, plus, without_separators, is_national, with_country, number_of_kept, Canon, StandsFor, international, plain, national}
use Rattle.tn_values.proofs.NumberFacts.{number_parts}

-- ---- what a number keeps

stays : (byte : ℕ) → is_number_byte byte ≡ true → not (is_separator byte) ≡ true
stays byte h = grind (arith, nat_tests)

bytes_stay : (text : List ℕ) → list_all is_number_byte text ≡ true → without_separators text ≡ text
bytes_stay [] h = refl
bytes_stay (byte ∷ rest) h =
    let each = and_parts (is_number_byte byte) (list_all is_number_byte rest) h in
    ap (λ b. cond b (byte ∷ without_separators rest) (without_separators rest)) (stays byte each.0)
    ∙ ap (λ kept. byte ∷ kept) (bytes_stay rest each.1)

-- a number has no separators
pub number_stays : (number : List ℕ) → is_number number ≡ true → without_separators number ≡ number
number_stays number h = bytes_stay number (number_parts number h).bytes

no_plus : (byte : ℕ) → is_number_byte byte ≡ true → (byte == plus) ≡ false
no_plus byte h = grind (arith, nat_tests)

-- a number doesn't begin with `+`
without_plus : (number : List ℕ) (local : LocalView) → is_number number ≡ true
    → number_of_kept number local ≡ option_map (with_country local) (exact number)
unfolding is_number
without_plus [] local h = refl
without_plus (first ∷ rest) local h =
    let bytes = (number_parts (first ∷ rest) h).bytes in
    let each = and_parts (is_number_byte first) (list_all is_number_byte rest) bytes in
    ap (λ b. cond b (exact rest) (option_map (with_country local) (exact (first ∷ rest)))) (no_plus first each.0)

pub exact_number : (number : List ℕ) → is_number number ≡ true → exact number ≡ Some number
exact_number number h = ap (λ b. cond b (Some number) None) h

-- a number without a `+`
plain_number : (number : List ℕ) (local : LocalView) → is_number number ≡ true → number_of_kept number local ≡ Some (with_country local number)
plain_number number local h = without_plus number local h ∙ ap (option_map (with_country local)) (exact_number number h)

-- ---- national numbers

-- digits, as many as a national number has, are a national number
national_digits : (digits : List ℕ) (local : LocalView) → are_digits digits ≡ true → length digits ≡ local.national → is_national digits local ≡ true
national_digits digits local own long = both_true own (eq-eqb (length digits) local.national long)

other_by : (number : List ℕ) (local : LocalView) (t u : Bool) → are_digits number ≡ t → (length number == local.national) ≡ u
    → (are_digits number ≡ true → length number ≡ local.national → ⊥) → (t && u) ≡ false
other_by number local false u own long none = refl
other_by number local true false own long none = refl
other_by number local true true own long none = absurd (none own (eqb-true (length number) local.national long))

-- any other number isn't
other_number : (number : List ℕ) (local : LocalView) → (are_digits number ≡ true → length number ≡ local.national → ⊥) → is_national number local ≡ false
other_number number local none = other_by number local (are_digits number) (length number == local.national) refl refl none

-- ---- each way gives the number

pub given : (text : List ℕ) (local : LocalView) (number : List ℕ) → StandsFor text local number → Canon text local ≡ Some number
unfolding Canon
given text local number (international h kept) = ap (λ k. number_of_kept k local) kept ∙ exact_number number h
given text local number (plain h kept other) =
    ap (λ k. number_of_kept k local) kept ∙ plain_number number local h ∙ ap (λ b. Some (cond b (local.country ++ number) number)) (other_number number local other)
given text local number (national digits h kept own long whole) =
    ap (λ k. number_of_kept k local) kept ∙ plain_number digits local h
    ∙ ap (λ b. Some (cond b (local.country ++ digits) digits)) (national_digits digits local own long) ∙ ap Some (sym whole)

-- ---- and each number comes in one of the ways

exact_by : (text number : List ℕ) (b : Bool) → cond b (Some text) None ≡ Some number → (b ≡ true) × (text ≡ number)
exact_by text number true h = (refl, cc)
exact_by text number false h = cc

completed_by : (text number : List ℕ) (local : LocalView) (b : Bool)
    → option_map (with_country local) (cond b (Some text) None) ≡ Some number → (b ≡ true) × (with_country local text ≡ number)
completed_by text number local true h = (refl, cc)
completed_by text number local false h = cc

completed_stands : (text kept number : List ℕ) (local : LocalView) (b : Bool) → is_national kept local ≡ b → is_number kept ≡ true
    → without_separators text ≡ kept → cond b (local.country ++ kept) kept ≡ number → StandsFor text local number
completed_stands text kept number local true own h is whole =
    let each = and_parts (are_digits kept) (length kept == local.national) own in
    national kept h is each.0 (eqb-true (length kept) local.national each.1) (sym whole)
completed_stands text kept number local false other h is same =
    plain (ap is_number (sym same) ∙ h) (is ∙ same) (λ own long.
    let here : is_national number local ≡ false = ap (λ k. is_national k local) (sym same) ∙ other in
    let there : is_national number local ≡ true = national_digits number local own long in
    cc)

eq_plus : (first : ℕ) → (first == plus) ≡ true → first ≡ plus
eq_plus first h = grind (arith, nat_tests)

first_stands : (text rest number : List ℕ) (first : ℕ) (local : LocalView) (b : Bool) → (first == plus) ≡ b
    → without_separators text ≡ first ∷ rest
    → cond b (exact rest) (option_map (with_country local) (exact (first ∷ rest))) ≡ Some number → StandsFor text local number
first_stands text rest number first local true found is h =
    let read = exact_by rest number (is_number rest) h in
    international (ap is_number (sym read.1) ∙ read.0) (is ∙ ap (λ b. b ∷ rest) (eq_plus first found) ∙ ap (λ r. plus ∷ r) read.1)
first_stands text rest number first local false _ is h =
    let read = completed_by (first ∷ rest) number local (is_number (first ∷ rest)) h in
    completed_stands text (first ∷ rest) number local (is_national (first ∷ rest) local) refl read.0 is read.1

kept_stands : (text kept number : List ℕ) (local : LocalView) → without_separators text ≡ kept
    → number_of_kept kept local ≡ Some number → StandsFor text local number
kept_stands text [] number local is h = cc
kept_stands text (first ∷ rest) number local is h = first_stands text rest number first local (first == plus) refl is h

pub stands : (text : List ℕ) (local : LocalView) (number : List ℕ) → Canon text local ≡ Some number → StandsFor text local number
unfolding Canon
stands text local number h = kept_stands text (without_separators text) number local refl h

-- so what is read is a number that the text stands for
pub ways : (text : List ℕ) (local : LocalView) (read : Option (List ℕ)) → read ≡ Canon text local → IfSome read (λ number. StandsFor text local number)
ways text local None h = tt
ways text local (Some number) h = stands text local number (sym h)

-- texts that differ in their separators alone are read alike
pub read_alike : (text other : List ℕ) (local : LocalView) → without_separators other ≡ without_separators text → Canon other local ≡ Canon text local
unfolding Canon
read_alike text other local same = ap (λ k. number_of_kept k local) same

-- ---- a number reads back

pub international_again : (text number : List ℕ) (local : LocalView) → is_number number ≡ true → text ≡ plus ∷ number → Canon text local ≡ Some number
international_again text number local h is =
    given text local number (international h (ap without_separators is ∙ ap (λ kept. plus ∷ kept) (number_stays number h)))

pub plain_again : (number : List ℕ) (local : LocalView) → is_number number ≡ true → (are_digits number ≡ true → length number ≡ local.national → ⊥)
    → Canon number local ≡ Some number
plain_again number local h other = given number local number (plain h (number_stays number h) other)

-- ---- a text without separators stands for its number

pub stands_after_plus : (text rest : List ℕ) (local : LocalView) (read : Option (List ℕ)) → text ≡ plus ∷ rest → read ≡ exact rest → IfSome read (λ number. Canon text local ≡ Some number)
stands_after_plus text rest local None is h = tt
stands_after_plus text rest local (Some number) is h =
    let read = exact_by rest number (is_number rest) (sym h) in
    international_again text number local (ap is_number (sym read.1) ∙ read.0) (is ∙ ap (λ r. plus ∷ r) read.1)

pub stands_plainly : (text : List ℕ) (local : LocalView) (read : Option (List ℕ)) → read ≡ option_map (with_country local) (exact text) → IfSome read (λ number. Canon text local ≡ Some number)
unfolding Canon
stands_plainly text local None h = tt
stands_plainly text local (Some number) h =
    let read = completed_by text number local (is_number text) (sym h) in
    ap (λ kept. number_of_kept kept local) (number_stays text read.0) ∙ plain_number text local read.0 ∙ ap Some read.1
