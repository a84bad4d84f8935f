-- A line of the answers file is read as a row exactly if it is the text of that row.
use Rattle.std.proofs.Common.{◌≡◌, ◌↔◌, ℕ, ◌==◌, Bool, true, false, ◌&&◌, nat_le, cond, List, [], ◌∷◌, length, slice_index, codes, Option, Some, None, option_and_then, refl, ap, subst, ◌∙◌, arith}
use Rattle.std.specs.List.{list_all, join_with_byte}
use Rattle.std.specs.Option.{option_map}
use Rattle.std.specs.Str.{bytes_eq}
use Rattle.std.specs.Cmp.Lexicographic.{bytes_decides}
use Rattle.std.proofs.lemmas.Bool.{and_parts, eqb-true}
use Rattle.std.proofs.lemmas.Bool.Decides.{nat_tests}
use Rattle.std.proofs.lemmas.Option.{same_Some}
use Rattle.text_grammar.specs.Cut.{lacks}
use Rattle.text_grammar.specs.LineWords.{IsLineOf, IsWord, line_words}
use Rattle.stir_outside.specs.KeyName.{is_name, is_name_byte}
use Rattle.stir_outside.specs.AnswersText.{bytes_of, confirm_of, key_of, row_of, row_of_words, sign_of}
use Rattle.stir_outside.specs.AnswersLine.{IsConfirmLine, IsHex, IsRowLine, IsSignLine}
use Rattle.stir_outside.specs.declared.answers.rows.Order.{Order}
use Rattle.stir_outside.specs.declared.answers.rows.Row.{Row}
use Rattle.stir_outside.specs.declared.answers.rows.Row.TheVariants.{Confirm, Sign}
use Rattle.stir_outside.specs.declared.answers.rows.Triple.{Triple}
use Rattle.stir_outside.proofs.HexLaws.{hex_is, hex_word}

abbrev pub WordsLaw : Type 0
WordsLaw = (line : List ℕ) (words : List (List ℕ)) → (line_words line ≡ Some words) ↔ IsLineOf line words

abbrev four : List ℕ → List ℕ → List ℕ → List ℕ → List (List ℕ)
four a b c d = a ∷ b ∷ c ∷ d ∷ []

-- ---- found

to_row : (line : List ℕ) (own row : Row) → own ≡ row → IsRowLine line own → IsRowLine line row
to_row line own row e is = subst (λ (r : Row). IsRowLine line r) e is

confirm_by : (line key digest signature : List ℕ) (row : Row) (x y z : Option (List ℕ)) → line ≡ join_with_byte 32 (four (codes "confirm") key digest signature)
    → key_of key ≡ x → ((k : List ℕ) → key_of key ≡ Some k → IsHex 65 k key × (slice_index k 0 ≡ 4)) → bytes_of 32 digest ≡ y → bytes_of 64 signature ≡ z
    → option_and_then (λ k. option_and_then (λ d. option_map (λ s. Confirm (record { key = k; digest = d; signature = s })) z) y) x ≡ Some row → IsRowLine line row
confirm_by line key digest signature row None y z e ex keyed ey ez h = absurd cc
confirm_by line key digest signature row (Some k) None z e ex keyed ey ez h = absurd cc
confirm_by line key digest signature row (Some k) (Some d) None e ex keyed ey ez h = absurd cc
confirm_by line key digest signature row (Some k) (Some d) (Some s) e ex keyed ey ez h =
    let own : Row = Confirm (record { key = k; digest = d; signature = s }) in
    to_row line own row (same_Some own row h) (record {
      key = key;
      digest = digest;
      signature = signature;
      line_is = e;
      key_is = (keyed k ex).0;
      uncompressed = (keyed k ex).1;
      digest_is = (hex_is 32 digest d).0 ey;
      signature_is = (hex_is 64 signature s).0 ez;
    })

point_by : (key own k : List ℕ) (t : Bool) → bytes_of 65 key ≡ Some own → (slice_index own 0 == 4) ≡ t → cond t (Some own) None ≡ Some k → IsHex 65 k key × (slice_index k 0 ≡ 4)
point_by key own k false e first h = absurd cc
point_by key own k true e first h =
    subst (λ (x : List ℕ). IsHex 65 x key × (slice_index x 0 ≡ 4)) (same_Some own k h) ((hex_is 65 key own).0 e, eqb-true (slice_index own 0) 4 first)

key_by : (key k : List ℕ) (x : Option (List ℕ)) → bytes_of 65 key ≡ x → option_and_then (λ own. cond (slice_index own 0 == 4) (Some own) None) x ≡ Some k
    → IsHex 65 k key × (slice_index k 0 ≡ 4)
key_by key k None e h = absurd cc
key_by key k (Some own) e h = point_by key own k (slice_index own 0 == 4) e refl h

confirm_found : (line key digest signature : List ℕ) (row : Row) → line ≡ join_with_byte 32 (four (codes "confirm") key digest signature)
    → confirm_of key digest signature ≡ Some row → IsRowLine line row
confirm_found line key digest signature row e h =
    confirm_by line key digest signature row (key_of key) (bytes_of 32 digest) (bytes_of 64 signature) e refl (λ k own. key_by key k (bytes_of 65 key) refl own) refl refl h

sign_by : (line name digest signature : List ℕ) (row : Row) (t : Bool) (y z : Option (List ℕ)) → line ≡ join_with_byte 32 (four (codes "sign") name digest signature)
    → is_name name ≡ t → bytes_of 32 digest ≡ y → bytes_of 64 signature ≡ z
    → option_and_then (λ n. option_and_then (λ d. option_map (λ s. Sign (record { name = n; digest = d }) s) z) y) (cond t (Some name) None) ≡ Some row → IsRowLine line row
sign_by line name digest signature row false y z e et ey ez h = absurd cc
sign_by line name digest signature row true None z e et ey ez h = absurd cc
sign_by line name digest signature row true (Some d) None e et ey ez h = absurd cc
sign_by line name digest signature row true (Some d) (Some s) e et ey ez h =
    let own : Row = Sign (record { name = name; digest = d }) s in
    to_row line own row (same_Some own row h)
    (record { digest = digest; signature = signature; line_is = e; name_is = et; digest_is = (hex_is 32 digest d).0 ey; signature_is = (hex_is 64 signature s).0 ez })

kind_by : (line kind subject digest signature : List ℕ) (row : Row) (s t : Bool) → bytes_eq kind (codes "confirm") ≡ s → bytes_eq kind (codes "sign") ≡ t
    → line ≡ join_with_byte 32 (four kind subject digest signature) → cond s (confirm_of subject digest signature) (cond t (sign_of subject digest signature) None) ≡ Some row
    → IsRowLine line row
kind_by line kind subject digest signature row true t es et e h =
    confirm_found line subject digest signature row (e ∙ ap (λ k. join_with_byte 32 (four k subject digest signature)) ((bytes_decides kind (codes "confirm")).0 es)) h
kind_by line kind subject digest signature row false true es et e h =
    sign_by line subject digest signature row (is_name subject) (bytes_of 32 digest) (bytes_of 64 signature)
    (e ∙ ap (λ k. join_with_byte 32 (four k subject digest signature)) ((bytes_decides kind (codes "sign")).0 et)) refl refl refl h
kind_by line kind subject digest signature row false false es et e h = absurd cc

words_by : (line : List ℕ) (words : List (List ℕ)) (row : Row) → line ≡ join_with_byte 32 words → row_of_words words ≡ Some row → IsRowLine line row
words_by line [] row e h = absurd cc
words_by line (a ∷ []) row e h = absurd cc
words_by line (a ∷ b ∷ []) row e h = absurd cc
words_by line (a ∷ b ∷ c ∷ []) row e h = absurd cc
words_by line (kind ∷ subject ∷ digest ∷ signature ∷ []) row e h =
    kind_by line kind subject digest signature row (bytes_eq kind (codes "confirm")) (bytes_eq kind (codes "sign")) refl refl e h
words_by line (a ∷ b ∷ c ∷ d ∷ f ∷ more) row e h = absurd cc

line_by : WordsLaw → (line : List ℕ) (words : Option (List (List ℕ))) (row : Row) → line_words line ≡ words → option_and_then row_of_words words ≡ Some row → IsRowLine line row
line_by law line None row e h = absurd cc
line_by law line (Some words) row e h = words_by line words row ((law line words).0 e).joined h

row_found : WordsLaw → (line : List ℕ) (row : Row) → row_of line ≡ Some row → IsRowLine line row
unfolding row_of
row_found law line row h = line_by law line (line_words line) row refl h

-- ---- and again

name_lacks : (text : List ℕ) → list_all is_name_byte text ≡ true → lacks 32 text ≡ true
name_lacks [] all = refl
name_lacks (b ∷ bs) all =
    let parts = and_parts (is_name_byte b) (list_all is_name_byte bs) all in
    let here : is_name_byte b ≡ true = parts.0 in
    let other : (b == 32) ≡ false = grind (arith, nat_tests) in
    rw (other, name_lacks bs parts.1) refl

name_word : (name : List ℕ) → is_name name ≡ true → IsWord name
unfolding is_name
name_word name h =
    let parts = and_parts (nat_le 1 (length name) && nat_le (length name) 64) (list_all is_name_byte name) h in
    let sizes = and_parts (nat_le 1 (length name)) (nat_le (length name) 64) parts.0 in
    let low : nat_le 1 (length name) ≡ true = sizes.0 in
    record { some = grind (arith, nat_tests); spaceless = name_lacks name parts.1 }

words_again : WordsLaw → (line a b c d : List ℕ) → IsWord a → IsWord b → IsWord c → IsWord d → line ≡ join_with_byte 32 (four a b c d) → line_words line ≡ Some (four a b c d)
words_again law line a b c d w x y z e =
    (law line (four a b c d)).1 (record { some = omega arith; few = omega arith; each = (w, (x, (y, (z, tt)))); joined = e })

confirm_word : IsWord (codes "confirm")
confirm_word = record { some = omega arith; spaceless = refl }

sign_word : IsWord (codes "sign")
sign_word = record { some = omega arith; spaceless = refl }

key_again : (key k : List ℕ) → IsHex 65 k key → slice_index k 0 ≡ 4 → key_of key ≡ Some k
key_again key k is first =
    let test : (slice_index k 0 == 4) ≡ true = ap (λ n. n == 4) first in
    rw ((hex_is 65 key k).1 is, test) refl

confirm_again : WordsLaw → (line : List ℕ) (triple : Triple) → IsConfirmLine line triple → row_of line ≡ Some (Confirm triple)
unfolding row_of
confirm_again law line triple is =
    let words : line_words line ≡ Some (four (codes "confirm") is.key is.digest is.signature) =
    words_again law line (codes "confirm") is.key is.digest is.signature confirm_word (hex_word 65 is.key triple.key (omega arith) is.key_is)
    (hex_word 32 is.digest triple.digest (omega arith) is.digest_is) (hex_word 64 is.signature triple.signature (omega arith) is.signature_is) is.line_is in
    rw (words, key_again is.key triple.key is.key_is is.uncompressed, (hex_is 32 is.digest triple.digest).1 is.digest_is, (hex_is 64 is.signature triple.signature).1 is.signature_is) refl

sign_again : WordsLaw → (line : List ℕ) (order : Order) (made : List ℕ) → IsSignLine line order made → row_of line ≡ Some (Sign order made)
unfolding row_of
sign_again law line order made is =
    let words : line_words line ≡ Some (four (codes "sign") order.name is.digest is.signature) =
    words_again law line (codes "sign") order.name is.digest is.signature sign_word (name_word order.name is.name_is)
    (hex_word 32 is.digest order.digest (omega arith) is.digest_is) (hex_word 64 is.signature made (omega arith) is.signature_is) is.line_is in
    rw (words, is.name_is, (hex_is 32 is.digest order.digest).1 is.digest_is, (hex_is 64 is.signature made).1 is.signature_is) refl

row_again : WordsLaw → (line : List ℕ) (row : Row) → IsRowLine line row → row_of line ≡ Some row
row_again law line (Confirm triple) is = confirm_again law line triple is
row_again law line (Sign order made) is = sign_again law line order made is

pub row_is : WordsLaw → (line : List ℕ) (row : Row) → (row_of line ≡ Some row) ↔ IsRowLine line row
row_is law line row = (row_found law line row, row_again law line row)
