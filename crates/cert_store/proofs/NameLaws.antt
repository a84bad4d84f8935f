-- The name of a file in a chain map.
use Rattle.std.proofs.Common.{◌≡◌, ◌≤◌, ℕ, Bool, true, false, ◌&&◌, cond, nat_le, List, [], ◌∷◌, length, Option, Some, None, option_and_then, refl, sym, subst, arith}
use Rattle.std.specs.List.{list_all}
use Rattle.std.proofs.lemmas.Bool.Decides.{nat_tests}
use Rattle.std.proofs.lemmas.Option.{same_Some}
use Rattle.text_grammar.specs.LineWords.{is_word, line_words, parts}
use Rattle.cert_store.specs.ChainMap.{IsFileName, Row, is_file_name, is_x5u, row_of, row_of_words}

pub is_name : (word : List ℕ) → is_file_name word ≡ true → IsFileName word
is_name word is = record { most = grind (arith, nat_tests); visible = grind (arith, nat_tests) }

pub named : (word : List ℕ) → IsFileName word → is_file_name word ≡ true
named word is = let few = is.most in let all = is.visible in grind (arith, nat_tests)

not_none : {A : Type 0} → (a : A) → ◌≡◌ {A = Option A} None (Some a) → ⊥
not_none a e = cc

words_by : (t u : Bool) (these words : List (List ℕ)) → u ≡ list_all is_word these → cond t (cond u (Some these) None) None ≡ Some words → list_all is_word words ≡ true
words_by true true these words all is = subst (λ (x : List (List ℕ)). list_all is_word x ≡ true) (same_Some these words is) (sym all)
words_by true false these words all is = absurd (not_none words is)
words_by false u these words all is = absurd (not_none words is)

some_words : (line : List ℕ) (words : List (List ℕ)) → line_words line ≡ Some words → list_all is_word words ≡ true
unfolding line_words
some_words line words is = words_by (nat_le 2 (length (parts line)) && nat_le (length (parts line)) 4) (list_all is_word (parts line)) (parts line) words refl is

two_by : (t : Bool) (x5u file : List ℕ) (row : Row) → is_word file ≡ true → cond t (Some (record { x5u = x5u; file = file })) None ≡ Some row → 1 ≤ length row.file
two_by true x5u file row some is =
    subst (λ (r : Row). 1 ≤ length r.file) (same_Some (record { x5u = x5u; file = file }) row is) (let one : 1 ≤ length file = grind (arith, nat_tests) in one)
two_by false x5u file row some is = absurd (not_none row is)

second : (s t : Bool) → (s && (t && true)) ≡ true → t ≡ true
second true true both = refl
second true false both = both
second false true both = refl
second false false both = both

some_by : (words : List (List ℕ)) (row : Row) → list_all is_word words ≡ true → row_of_words words ≡ Some row → 1 ≤ length row.file
some_by [] row some is = absurd (not_none row is)
some_by (a ∷ []) row some is = absurd (not_none row is)
some_by (x5u ∷ file ∷ []) row some is = two_by (is_x5u x5u && is_file_name file) x5u file row (second (is_word x5u) (is_word file) some) is
some_by (a ∷ b ∷ c ∷ more) row some is = absurd (not_none row is)

row_by : (words : Option (List (List ℕ))) (row : Row) → ((these : List (List ℕ)) → words ≡ Some these → list_all is_word these ≡ true)
    → option_and_then row_of_words words ≡ Some row → 1 ≤ length row.file
row_by None row some is = absurd (not_none row is)
row_by (Some words) row some is = some_by words row (some words refl) is

pub some_name : (line : List ℕ) (row : Row) → row_of line ≡ Some row → 1 ≤ length row.file
unfolding row_of
some_name line row is = row_by (line_words line) row (some_words line) is
