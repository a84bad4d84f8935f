-- A line has these words exactly if it is these words with one space between each two.
use Rattle.std.proofs.Common.{◌≡◌, ◌↔◌, ℕ, ◌≤◌, Bool, true, false, ◌&&◌, nat_le, ◌==◌, cond, List, [], ◌∷◌, length, Some, None, refl, sym, ap, subst, ◌∙◌, arith}
use Rattle.std.specs.List.{onto_first, list_all, join_with_byte}
use Rattle.std.proofs.lemmas.Bool.{and_parts}
use Rattle.std.proofs.lemmas.Bool.Decides.{nat_tests}
use Rattle.std.proofs.lemmas.Option.{same_Some}
use Rattle.std.proofs.lemmas.List.Splits.{join_with_byte-slice_split}
use Rattle.text_grammar.specs.Cut.{lacks}
use Rattle.text_grammar.specs.LineWords.{parts, is_word, line_words, EachIsWord, IsLineOf}
use Rattle.text_grammar.proofs.Parts.{split_none, split_first}

-- ---- the parts of a line have no space

abbrev EachLacks : List (List ℕ) → Type 0
EachLacks [] = Unit {0}
EachLacks (part ∷ parts) = (lacks 32 part ≡ true) × EachLacks parts

onto_lacks : (b : ℕ) (ps : List (List ℕ)) → (b == 32) ≡ false → EachLacks ps → EachLacks (onto_first b ps)
onto_lacks b [] e h = (rw e refl, tt)
onto_lacks b (p ∷ ps) e h = (rw (e, h.0) refl, h.1)

next_lacks : (b : ℕ) (ps : List (List ℕ)) (t : Bool) → (b == 32) ≡ t → EachLacks ps → EachLacks (cond t ([] ∷ ps) (onto_first b ps))
next_lacks b ps true e h = (refl, h)
next_lacks b ps false e h = onto_lacks b ps e h

parts_lack : (line : List ℕ) → EachLacks (parts line)
parts_lack [] = (refl, tt)
parts_lack (b ∷ bs) = next_lacks b (parts bs) (b == 32) refl (parts_lack bs)

some_byte : (word : List ℕ) → is_word word ≡ true → 1 ≤ length word
some_byte word h = grind (arith, nat_tests)

each_word : (ps : List (List ℕ)) → EachLacks ps → list_all is_word ps ≡ true → EachIsWord ps
each_word [] h all = tt
each_word (p ∷ ps) h all =
    let a = and_parts (is_word p) (list_all is_word ps) all in
    (record { some = some_byte p a.0; spaceless = h.0 }, each_word ps h.1 a.1)

-- ---- found

chosen_words : (line : List ℕ) (words : List (List ℕ)) (s t : Bool) → list_all is_word (parts line) ≡ s → (nat_le 2 (length (parts line)) && nat_le (length (parts line)) 4) ≡ t
    → cond t (cond s (Some (parts line)) None) None ≡ Some words → IsLineOf line words
chosen_words line words s false each size h = absurd cc
chosen_words line words false true each size h = absurd cc
chosen_words line words true true each size h =
    let same : parts line ≡ words = same_Some (parts line) words h in
    let bounds = and_parts (nat_le 2 (length (parts line))) (nat_le (length (parts line)) 4) size in
    let low : nat_le 2 (length (parts line)) ≡ true = bounds.0 in
    let high : nat_le (length (parts line)) 4 ≡ true = bounds.1 in
    let some : 2 ≤ length (parts line) = grind (arith, nat_tests) in
    let few : length (parts line) ≤ 4 = grind (arith, nat_tests) in
    let whole : line ≡ join_with_byte 32 (parts line) = sym (join_with_byte-slice_split 32 line) in
    subst (λ (ws : List (List ℕ)). IsLineOf line ws) same (record { some = some; few = few; each = each_word (parts line) (parts_lack line) each; joined = whole })

words_found : (line : List ℕ) (words : List (List ℕ)) → line_words line ≡ Some words → IsLineOf line words
unfolding line_words
words_found line words h = chosen_words line words (list_all is_word (parts line)) (nat_le 2 (length (parts line)) && nat_le (length (parts line)) 4) refl refl h

-- ---- and again

parts_joined : (word : List ℕ) (words : List (List ℕ)) → EachIsWord (word ∷ words) → parts (join_with_byte 32 (word ∷ words)) ≡ word ∷ words
parts_joined word [] each = split_none 32 word each.0.spaceless
parts_joined word (next ∷ words) each =
    split_first 32 word (join_with_byte 32 (next ∷ words)) each.0.spaceless ∙ ap (λ (ps : List (List ℕ)). word ∷ ps) (parts_joined next words each.1)

all_words : (words : List (List ℕ)) → EachIsWord words → list_all is_word words ≡ true
all_words [] each = refl
all_words (word ∷ words) each =
    let some : 1 ≤ length word = each.0.some in
    let here : is_word word ≡ true = grind (arith, nat_tests) in
    rw (here, all_words words each.1) refl

parts_of_joined : (words : List (List ℕ)) → 2 ≤ length words → EachIsWord words → parts (join_with_byte 32 words) ≡ words
parts_of_joined [] some each = absurd (omega (arith, some))
parts_of_joined (word ∷ words) some each = parts_joined word words each

words_again : (line : List ℕ) (words : List (List ℕ)) → IsLineOf line words → line_words line ≡ Some words
unfolding line_words
words_again line words is =
    let split : parts line ≡ words = ap parts is.joined ∙ parts_of_joined words is.some is.each in
    let some : 2 ≤ length words = is.some in
    let few : length words ≤ 4 = is.few in
    let low : nat_le 2 (length words) ≡ true = grind (arith, nat_tests) in
    let high : nat_le (length words) 4 ≡ true = grind (arith, nat_tests) in
    rw (split, low, high, all_words words is.each) refl

pub words_are : (line : List ℕ) (words : List (List ℕ)) → (line_words line ≡ Some words) ↔ IsLineOf line words
words_are line words = (words_found line words, words_again line words)
