-- The steps from a word to its name and value.
use Rattle.std.proofs.Common.{◌≡◌, ◌≢◌, ℕ, ◌<◌, ◌==◌, Bool, true, false, nat_lt, List, [], ◌∷◌, ◌++◌, length, drop, codes, Option, Some, None, refl, sym, ◌∙◌, ap, arith}
use Rattle.std.specs.List.{position_or_len, before_first, after_first}
use Rattle.std.proofs.lemmas.Bool.Decides.{nat_tests}
use Rattle.text_grammar.specs.Cut.{behind, cut}
use Rattle.text_grammar.proofs.CutLaws.{behind_again, behind_found}
use Rattle.stir_words.specs.Options.{named, with_value}

-- ---- the dashes

pub dashes_found : (word text : List ℕ) (count : ℕ) → word ≡ codes "--" ++ drop count word → text ≡ drop count word → Some text ≡ behind (codes "--") word
dashes_found word text count split is =
    sym (ap (behind (codes "--")) (split ∙ ap (λ x. codes "--" ++ x) (sym is)) ∙ behind_again (codes "--") text)

none_behind : (word : List ℕ) (k : Option (List ℕ)) → behind (codes "--") word ≡ k → ((rest : List ℕ) → word ≢ codes "--" ++ rest) → None ≡ k
none_behind word None e lacks = refl
none_behind word (Some rest) e lacks = absurd (lacks rest (behind_found (codes "--") word rest e))

pub no_dashes : (word : List ℕ) → ((rest : List ℕ) → word ≢ codes "--" ++ rest) → None ≡ behind (codes "--") word
no_dashes word lacks = none_behind word (behind (codes "--") word) refl lacks

-- ---- the `=`

abbrev is_equals : ℕ → Bool
is_equals byte = byte == 61

cut_there : (text : List ℕ) → position_or_len is_equals text < length text → cut 61 text ≡ Some (before_first is_equals text, after_first is_equals text)
cut_there text h = let t : nat_lt (position_or_len is_equals text) (length text) ≡ true = grind (arith, nat_tests) in rw t refl

cut_nowhere : (text : List ℕ) → position_or_len is_equals text ≡ length text → cut 61 text ≡ None
cut_nowhere text h = let t : nat_lt (position_or_len is_equals text) (length text) ≡ false = grind (arith, nat_tests) in rw t refl

filled : (text : List ℕ) → (length text == 0) ≡ false → named text ≡ Some (with_value text (cut 61 text))
filled [] h = absurd cc
filled (x ∷ xs) h = refl

pub cut_in_two : (text name value : List ℕ) → (length text == 0) ≡ false → name ≡ before_first is_equals text → value ≡ after_first is_equals text
    → position_or_len is_equals text < length text → Some (record { name = name; value = Some value }) ≡ named text
cut_in_two text name value some is_name is_value h =
    let parts : ◌≡◌ {A = List ℕ × List ℕ} (name, value) (before_first is_equals text, after_first is_equals text) = rw (is_name, is_value) refl in
    let both : Some (name, value) ≡ cut 61 text = ap (λ (x : List ℕ × List ℕ). Some x) parts ∙ sym (cut_there text h) in
    ap (λ k. Some (with_value text k)) both ∙ sym (filled text some)

pub not_cut : (text : List ℕ) → (length text == 0) ≡ false → position_or_len is_equals text ≡ length text → Some (record { name = text; value = None }) ≡ named text
not_cut text some h = sym (filled text some ∙ ap (λ k. Some (with_value text k)) (cut_nowhere text h))
