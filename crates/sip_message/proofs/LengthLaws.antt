-- A name of a known header field is as long as that field's name or its short form, so a name has to be compared only with those of its length.
use Rattle.std.proofs.Common.{◌≡◌, ℕ, ◌⊎◌, inl, inr, Bool, true, false, ◌||◌, ◌==◌, List, [], ◌∷◌, length, None, refl, sym, ◌∙◌, ap, arith}
use Rattle.std.specs.Prelude.{codes, filter, find}
use Rattle.std.specs.Str.{str_eq_ignore_ascii_case, str_to_ascii_lowercase}
use Rattle.std.specs.Char.{to_ascii_lowercase}
use Rattle.std.proofs.lemmas.Bool.{or_cases}
use Rattle.std.proofs.lemmas.Bool.Decides.{nat_tests}
use Rattle.std.proofs.lemmas.List.{length-map}
use Rattle.lists.proofs.Bytes.{bytes_same}
use Rattle.sip_message.specs.declared.known.Known.{Known}
use Rattle.sip_message.specs.declared.known.Known.TheVariants.{From, To, Identity, Asserted, Date}
use Rattle.sip_message.specs.Known.{is_named, kind_of}
use Rattle.sip_message.specs.Names.{is_either}

-- ---- how long a name is

-- whether names of this field have this length
abbrev fits : Known → ℕ → Bool
fits From size = (size == 4) || (size == 1)
fits To size = (size == 2) || (size == 1)
fits Identity size = (size == 8) || (size == 1)
fits Asserted size = size == 19
fits Date size = size == 4

same_length : (a b : List ℕ) → str_eq_ignore_ascii_case a b ≡ true → length a ≡ length b
same_length a b same =
    sym (length-map a to_ascii_lowercase) ∙ ap length (bytes_same (str_to_ascii_lowercase a) (str_to_ascii_lowercase b) same) ∙ length-map b to_ascii_lowercase

either_by : (name long short : List ℕ) → (str_eq_ignore_ascii_case name long ≡ true) ⊎ (str_eq_ignore_ascii_case name short ≡ true)
    → ((length name == length long) || (length name == length short)) ≡ true
either_by name long short (inl same) = let e = same_length name long same in grind (arith, nat_tests)
either_by name long short (inr same) = let e = same_length name short same in grind (arith, nat_tests)

either_length : (name long short : List ℕ) → is_either name long short ≡ true → ((length name == length long) || (length name == length short)) ≡ true
either_length name long short is = either_by name long short (or_cases (str_eq_ignore_ascii_case name long) (str_eq_ignore_ascii_case name short) is)

one_length : (name word : List ℕ) → str_eq_ignore_ascii_case name word ≡ true → (length name == length word) ≡ true
one_length name word same = let e = same_length name word same in grind (arith, nat_tests)

named_fits : (name : List ℕ) (known : Known) → is_named known name ≡ true → fits known (length name) ≡ true
named_fits name From is = either_length name (codes "from") (codes "f") is
named_fits name To is = either_length name (codes "to") (codes "t") is
named_fits name Identity is = either_length name (codes "identity") (codes "y") is
named_fits name Asserted is = one_length name (codes "p-asserted-identity") is
named_fits name Date is = one_length name (codes "date") is

-- ---- those of one length are enough

fitting_by : (test kept : Known → Bool) (one : Known) (others : List Known) (t k : Bool) → test one ≡ t → kept one ≡ k → (t ≡ true → k ≡ true)
    → find test (filter kept others) ≡ find test others → find test (filter kept (one ∷ others)) ≡ find test (one ∷ others)
fitting_by test kept one others true true e f implies below = rw (f, e) refl
fitting_by test kept one others true false e f implies below = let no : false ≡ true = implies refl in absurd cc
fitting_by test kept one others false true e f implies below = rw (f, e) below
fitting_by test kept one others false false e f implies below = rw (f, e) below

fitting : (test kept : Known → Bool) → ((known : Known) → test known ≡ true → kept known ≡ true) → (all : List Known) → find test (filter kept all) ≡ find test all
fitting test kept implies [] = refl
fitting test kept implies (one ∷ others) = fitting_by test kept one others (test one) (kept one) refl refl (implies one) (fitting test kept implies others)

-- those whose names have a length
abbrev of_length : ℕ → List Known
of_length size = filter (λ known. fits known size) (From ∷ To ∷ Identity ∷ Asserted ∷ Date ∷ [])

enough : (name : List ℕ) (size : ℕ) → length name ≡ size → find (λ known. is_named known name) (of_length size) ≡ kind_of name
unfolding kind_of
enough name size is =
    sym (ap (λ n. find (λ known. is_named known name) (of_length n)) is)
    ∙ fitting (λ known. is_named known name) (λ known. fits known (length name)) (named_fits name) (From ∷ To ∷ Identity ∷ Asserted ∷ Date ∷ [])

pub of_one : (name : List ℕ) → length name ≡ 1 → find (λ known. is_named known name) (From ∷ To ∷ Identity ∷ []) ≡ kind_of name
of_one name is = enough name 1 is

pub of_two : (name : List ℕ) → length name ≡ 2 → find (λ known. is_named known name) (To ∷ []) ≡ kind_of name
of_two name is = enough name 2 is

pub of_four : (name : List ℕ) → length name ≡ 4 → find (λ known. is_named known name) (From ∷ Date ∷ []) ≡ kind_of name
of_four name is = enough name 4 is

pub of_eight : (name : List ℕ) → length name ≡ 8 → find (λ known. is_named known name) (Identity ∷ []) ≡ kind_of name
of_eight name is = enough name 8 is

pub of_nineteen : (name : List ℕ) → length name ≡ 19 → find (λ known. is_named known name) (Asserted ∷ []) ≡ kind_of name
of_nineteen name is = enough name 19 is

pub of_another : (name : List ℕ) → (length name == 1) ≡ false → (length name == 2) ≡ false → (length name == 4) ≡ false → (length name == 8) ≡ false
    → (length name == 19) ≡ false → None ≡ kind_of name
of_another name one two four eight nineteen = rw (one, two, four, eight, nineteen) at (enough name (length name) refl)
