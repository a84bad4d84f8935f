-- What words look like to clap.
use Rattle.std.proofs.Common.{◌≡◌, ℕ, suc, ◌+◌, ◌==◌, ◌||◌, Bool, true, false, not, cond, nat_lt, List, [], ◌∷◌, ◌++◌, length, take, drop, codes, Option, Some, None, refl, ap, arith}
use Rattle.std.specs.List.{after_first, before_first, position_or_len}
use Rattle.std.specs.Option.{option_map}
use Rattle.std.specs.Str.{bytes_eq}
use Rattle.std.proofs.lemmas.Bool.{and_parts}
use Rattle.std.proofs.lemmas.Option.{some_pair_parts}
use Rattle.clap.specs.Lexer.{has_byte, long_of, name_and_value, short_of}
use Rattle.text_grammar.specs.Cut.{lacks}
use Rattle.text_grammar.proofs.CutLaws.{cut_again}
use Rattle.stir_words.specs.Options.{is_filled, is_value}
use Rattle.lists.proofs.Tests.{not_true}

abbrev is_sign : ℕ → Bool
is_sign byte = byte == 61

or_true : (b : Bool) → (b || true) ≡ true
or_true true = refl
or_true false = refl

has_sign : (name rest : List ℕ) → has_byte 61 (name ++ 61 ∷ rest) ≡ true
has_sign [] rest = refl
has_sign (x ∷ xs) rest = rw (has_sign xs rest) (or_true (x == 61))

no_sign : (name : List ℕ) → lacks 61 name ≡ true → has_byte 61 name ≡ false
no_sign [] h = refl
no_sign (x ∷ xs) h =
    let parts = and_parts (not (x == 61)) (lacks 61 xs) h in
    rw (not_true (x == 61) parts.0, no_sign xs parts.1) refl

whole_before : (name : List ℕ) → lacks 61 name ≡ true → before_first is_sign name ≡ name
whole_before [] h = refl
whole_before (x ∷ xs) h =
    let parts = and_parts (not (x == 61)) (lacks 61 xs) h in
    let next : 1 + position_or_len is_sign xs ≡ suc (position_or_len is_sign xs) = omega arith in
    rw (parts.0, next) (ap (λ (rest : List ℕ). x ∷ rest) (whole_before xs parts.1))

cut_parts : (text name value : List ℕ) (t : Bool) → option_map {U = List ℕ × List ℕ} (λ place. (take place text, drop (place + 1) text)) (cond t (Some (position_or_len is_sign text)) None) ≡ Some (name, value)
    → (before_first is_sign text ≡ name) × (after_first is_sign text ≡ value)
cut_parts text name value true h = some_pair_parts (before_first is_sign text) name (after_first is_sign text) value h
cut_parts text name value false h = absurd cc

-- a name and a value with `=` between them
joined_parts : (name value : List ℕ) → lacks 61 name ≡ true → name_and_value (name ++ 61 ∷ value) ≡ (name, Some value)
joined_parts name value lacking =
    let text = name ++ 61 ∷ value in
    let parts = cut_parts text name value (nat_lt (position_or_len is_sign text) (length text)) (cut_again 61 name value lacking) in
    rw (has_sign name value, parts.0, parts.1) refl

alone_parts : (name : List ℕ) → lacks 61 name ≡ true → name_and_value name ≡ (name, None)
alone_parts name lacking = rw (no_sign name lacking, whole_before name lacking) refl

-- ---- what the word says

-- the word isn't `--`, and has this name, and after its `=` this value
pub record Says (word name : List ℕ) (value : Option (List ℕ)) : Type 0 where
  pub no_end : bytes_eq word (45 ∷ 45 ∷ []) ≡ false
  pub says : long_of word ≡ Some (name, value)

says_by : (text name : List ℕ) (value : Option (List ℕ)) → is_filled text ≡ true → name_and_value text ≡ (name, value) → Says (codes "--" ++ text) name value
says_by [] name value some parts = absurd cc
says_by (x ∷ xs) name value some parts = record { no_end = refl; says = ap (λ (p : List ℕ × Option (List ℕ)). Some p) parts }

filled_by : (name rest : List ℕ) → is_filled (name ++ 61 ∷ rest) ≡ true
filled_by [] rest = refl
filled_by (x ∷ xs) rest = refl

pub says_joined : (name value : List ℕ) → lacks 61 name ≡ true → Says (codes "--" ++ (name ++ 61 ∷ value)) name (Some value)
says_joined name value lacking = says_by (name ++ 61 ∷ value) name (Some value) (filled_by name value) (joined_parts name value lacking)

pub says_alone : (name : List ℕ) → is_filled name ≡ true → lacks 61 name ≡ true → Says (codes "--" ++ name) name None
says_alone name some lacking = says_by name name None some (alone_parts name lacking)

-- the word is neither `--` nor names an option
pub record IsPlain (word : List ℕ) : Type 0 where
  pub no_end : bytes_eq word (45 ∷ 45 ∷ []) ≡ false
  pub no_long : long_of word ≡ None
  pub no_short : short_of word ≡ None

pub plain_value : (word : List ℕ) → is_value word ≡ true → IsPlain word
plain_value [] h = absurd cc
plain_value (x ∷ xs) h =
    let other = not_true (x == 45) h in
    record { no_end = rw other refl; no_long = rw other refl; no_short = rw other refl }
