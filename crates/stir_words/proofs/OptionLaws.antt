-- The words that fall into options are these options one after the other.
use Rattle.std.proofs.Common.{◌≡◌, ℕ, ◌==◌, ◌⊎◌, inl, inr, Bool, true, false, not, cond, List, [], ◌∷◌, ◌++◌, codes, Option, Some, None, refl, sym, ◌∙◌, ap, position, ◌↔◌, ◌+◌, take, drop, option_and_then, subst}
use Rattle.std.specs.Option.{option_map}
use Rattle.text_grammar.specs.Cut.{behind, cut, lacks}
use Rattle.text_grammar.proofs.CutLaws.{behind_again, behind_found, cut_again, cut_first, cut_found, cut_none}
use Rattle.std.proofs.lemmas.Bool.{and_parts}
use Rattle.stir_words.specs.Options.{First, Joined, Named, Options, Pair, Parted, equals_sign, first_at, first_if, first_named, first_of, is_filled, is_value, long_of, named, pairs_from, pairs_of, with_value}
use Rattle.stir_words.proofs.TurnLaws.{not_stepped, stepped}

-- ---- what a word says

-- a name without `=`, and after it the value if there is one
abbrev SaysOf : List ℕ → List ℕ → Option (List ℕ) → Type 0
SaysOf text name None = (is_filled name ≡ true) × (text ≡ name)
SaysOf text name (Some value) = text ≡ name ++ equals_sign ∷ value

record Says (text : List ℕ) (said : Named) : Type 0 where
  name : lacks equals_sign said.name ≡ true
  parts : SaysOf text said.name said.value

first_lacks : (text : List ℕ) (k : Option ℕ) (parts : List ℕ × List ℕ) → position (λ b. b == equals_sign) text ≡ k
    → option_map (λ place. (take place text, drop (place + 1) text)) k ≡ Some parts → lacks equals_sign parts.0 ≡ true
first_lacks text None parts e h = absurd cc
first_lacks text (Some place) parts e h =
    let same : ◌≡◌ {A = List ℕ × List ℕ} (take place text, drop (place + 1) text) parts = cc in
    ap (λ (p : List ℕ × List ℕ). lacks equals_sign p.0) (sym same) ∙ cut_first equals_sign text place e

none_lacks : (text : List ℕ) (k : Option ℕ) → position (λ b. b == equals_sign) text ≡ k
    → ◌≡◌ {A = Option (List ℕ × List ℕ)} (option_map (λ place. (take place text, drop (place + 1) text)) k) None → lacks equals_sign text ≡ true
none_lacks text None e h = cut_none equals_sign text e
none_lacks text (Some place) e h = absurd cc

says_cut : (text : List ℕ) (k : Option (List ℕ × List ℕ)) → is_filled text ≡ true → cut equals_sign text ≡ k → Says text (with_value text k)
says_cut text None some e = record { name = none_lacks text _ refl e; parts = (some, refl) }
says_cut text (Some parts) some e = record { name = first_lacks text _ parts refl e; parts = cut_found equals_sign text parts e }

says_named : (text : List ℕ) (said : Named) (t : Bool) → is_filled text ≡ t → cond t (Some (with_value text (cut equals_sign text))) None ≡ Some said → Says text said
says_named text said true some h =
    let e : with_value text (cut equals_sign text) ≡ said = cc in
    let P : Named → Type 0 = Says text in subst P e (says_cut text _ some refl)
says_named text said false some h = absurd cc

-- the word is two dashes and what it says
record SaysWord (word : List ℕ) (said : Named) : Type 0 where
  text : List ℕ
  word_is : word ≡ codes "--" ++ text
  says : Says text said

says_behind : (word : List ℕ) (said : Named) (k : Option (List ℕ)) → behind (codes "--") word ≡ k → option_and_then named k ≡ Some said → SaysWord word said
says_behind word said None e h = absurd cc
says_behind word said (Some text) e h = record { text = text; word_is = behind_found (codes "--") word text e; says = says_named text said _ refl h }

says_word : (word : List ℕ) (said : Named) → long_of word ≡ Some said → SaysWord word said
unfolding long_of
says_word word said h = says_behind word said _ refl h

-- ---- the first option is what the first words are

abbrev Begins : List (List ℕ) → First → Type 0
Begins words first = Joined words first.pair first.rest ⊎ Parted words first.pair first.rest

begins_if : (words : List (List ℕ)) (found first : First) (t : Bool) → first_if t found ≡ Some first → (t ≡ true → Begins words found) → Begins words first
begins_if words found first true h begins = let e : found ≡ first = cc in subst (Begins words) e (begins refl)
begins_if words found first false h begins = absurd cc

begins_named : (word text name : List ℕ) (value : Option (List ℕ)) (words : List (List ℕ)) (first : First) → word ≡ codes "--" ++ text → lacks equals_sign name ≡ true
    → SaysOf text name value → first_named name value words ≡ Some first → Begins (word ∷ words) first
begins_named word text name (Some value) words first is lacking parts h =
    begins_if (word ∷ words) (record { pair = record { name = name; value = value }; rest = words }) first (is_filled value) h
    (λ some. inl (record { name = lacking; value = some; words_are = ap (λ x. x ∷ words) (is ∙ ap (λ x. codes "--" ++ x) parts) }))
begins_named word text name None [] first is lacking parts h = absurd cc
begins_named word text name None (value ∷ words) first is lacking parts h =
    begins_if (word ∷ value ∷ words) (record { pair = record { name = name; value = value }; rest = words }) first (is_value value) h
    (λ fits. inr (record { some = parts.0; name = lacking; value = fits; words_are = ap (λ x. x ∷ value ∷ words) (is ∙ ap (λ x. codes "--" ++ x) parts.1) }))

begins_at : (word : List ℕ) (words : List (List ℕ)) (first : First) (k : Option Named) → long_of word ≡ k → first_at k words ≡ Some first → Begins (word ∷ words) first
begins_at word words first None e h = absurd cc
begins_at word words first (Some said) e h =
    let s = says_word word said e in
    begins_named word s.text said.name said.value words first s.word_is s.says.name s.says.parts h

begins : (words : List (List ℕ)) (first : First) → first_of words ≡ Some first → Begins words first
begins [] first h = absurd cc
begins (word ∷ words) first h = begins_at word words first (long_of word) refl h

-- ---- and what the first words are is read

filled_name : (name rest : List ℕ) → is_filled (name ++ equals_sign ∷ rest) ≡ true
filled_name [] rest = refl
filled_name (x ∷ xs) rest = refl

sign_stands : (name rest : List ℕ) → lacks equals_sign (name ++ equals_sign ∷ rest) ≡ true → ⊥
sign_stands [] rest h = cc
sign_stands (x ∷ xs) rest h = sign_stands xs rest ((and_parts (not (x == equals_sign)) (lacks equals_sign (xs ++ equals_sign ∷ rest)) h).1)

not_cut_by : (text : List ℕ) (k : Option (List ℕ × List ℕ)) → lacks equals_sign text ≡ true → cut equals_sign text ≡ k → k ≡ None
not_cut_by text None lacking e = refl
not_cut_by text (Some parts) lacking e =
    let split = cut_found equals_sign text parts e in absurd (sign_stands parts.0 parts.1 (ap (lacks equals_sign) (sym split) ∙ lacking))

long_joined : (name value : List ℕ) → lacks equals_sign name ≡ true → long_of (codes "--" ++ (name ++ equals_sign ∷ value)) ≡ Some (record { name = name; value = Some value })
unfolding long_of
long_joined name value lacking =
    ap (option_and_then named) (behind_again (codes "--") (name ++ equals_sign ∷ value))
    ∙ rw (filled_name name value, cut_again equals_sign name value lacking) refl

long_alone : (name : List ℕ) → is_filled name ≡ true → lacks equals_sign name ≡ true → long_of (codes "--" ++ name) ≡ Some (record { name = name; value = None })
unfolding long_of
long_alone name some lacking =
    ap (option_and_then named) (behind_again (codes "--") name)
    ∙ rw (some, not_cut_by name _ lacking refl) refl

read_joined : (words rest : List (List ℕ)) (pair : Pair) → Joined words pair rest → first_of words ≡ Some (record { pair = pair; rest = rest })
read_joined words rest pair j =
    ap first_of j.words_are ∙ ap (λ k. first_at k rest) (long_joined pair.name pair.value j.name) ∙ rw j.value refl

read_parted : (words rest : List (List ℕ)) (pair : Pair) → Parted words pair rest → first_of words ≡ Some (record { pair = pair; rest = rest })
read_parted words rest pair p =
    ap first_of p.words_are ∙ ap (λ k. first_at k (pair.value ∷ rest)) (long_alone pair.name p.some p.name) ∙ rw p.value refl

-- ---- all of them

onto_found : (first : First) (k : Option (List Pair)) (pair : Pair) (pairs : List Pair) → option_map (λ (more : List Pair). first.pair ∷ more) k ≡ Some (pair ∷ pairs)
    → (first.pair ≡ pair) × (k ≡ Some pairs)
onto_found first None pair pairs h = absurd cc
onto_found first (Some more) pair pairs h = (cc, cc)

not_empty : (first : First) (k : Option (List Pair)) → option_map (λ (more : List Pair). first.pair ∷ more) k ≡ Some [] → ⊥
not_empty first None h = absurd cc
not_empty first (Some more) h = absurd cc

empty_by : (words : List (List ℕ)) (k : Option First) → first_of words ≡ k → pairs_from None words ≡ Some [] → words ≡ []
empty_by [] k e h = refl
empty_by (word ∷ words) None e h = let none = not_stepped word words e in absurd cc
empty_by (word ∷ words) (Some first) e h = absurd (not_empty first (pairs_from None first.rest) (sym (stepped (word ∷ words) first e) ∙ h))

first_is : (words : List (List ℕ)) (k : Option First) (pair : Pair) (pairs : List Pair) → first_of words ≡ k → pairs_from None words ≡ Some (pair ∷ pairs)
    → (first : First) × (first_of words ≡ Some first) × (first.pair ≡ pair) × (pairs_from None first.rest ≡ Some pairs)
first_is [] k pair pairs e h = absurd cc
first_is (word ∷ words) None pair pairs e h = let none = not_stepped word words e in absurd cc
first_is (word ∷ words) (Some first) pair pairs e h =
    let parts = onto_found first (pairs_from None first.rest) pair pairs (sym (stepped (word ∷ words) first e) ∙ h) in
    (first, e, parts.0, parts.1)

begins_with : (words : List (List ℕ)) (first : First) (pair : Pair) → first.pair ≡ pair → Begins words first → Joined words pair first.rest ⊎ Parted words pair first.rest
begins_with words first pair e b = let P : Pair → Type 0 = λ p. Joined words p first.rest ⊎ Parted words p first.rest in subst P e b

found_at : (pair : Pair) (pairs : List Pair) (words : List (List ℕ)) → pairs_from None words ≡ Some (pair ∷ pairs)
    → ((rest : List (List ℕ)) → pairs_from None rest ≡ Some pairs → Options rest pairs) → Options words (pair ∷ pairs)
found_at pair pairs words h others =
    let f = first_is words _ pair pairs refl h in
    (f.0.rest, begins_with words f.0 pair f.2 (begins words f.0 f.1), others f.0.rest f.3)

found : (pairs : List Pair) (words : List (List ℕ)) → pairs_from None words ≡ Some pairs → Options words pairs
found [] words h = empty_by words (first_of words) refl h
found (pair ∷ pairs) words h = found_at pair pairs words h (λ rest. found pairs rest)

read_first : (words rest : List (List ℕ)) (pair : Pair) → Joined words pair rest ⊎ Parted words pair rest → first_of words ≡ Some (record { pair = pair; rest = rest })
read_first words rest pair (inl j) = read_joined words rest pair j
read_first words rest pair (inr p) = read_parted words rest pair p

only : (pairs : List Pair) (words : List (List ℕ)) → Options words pairs → pairs_from None words ≡ Some pairs
only [] words h = ap (pairs_from None) h
only (pair ∷ pairs) words h =
    stepped words (record { pair = pair; rest = h.0 }) (read_first words h.0 pair h.1)
    ∙ ap (option_map (λ (more : List Pair). pair ∷ more)) (only pairs h.0 h.2)

-- the words fall into exactly the options that they are
pub options_are : (words : List (List ℕ)) (pairs : List Pair) → (pairs_of words ≡ Some pairs) ↔ Options words pairs
unfolding pairs_of
options_are words pairs = (found pairs words, only pairs words)
