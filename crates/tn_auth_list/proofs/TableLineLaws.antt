-- A line of the code table is read as a row exactly if it is the text of that row.
use Rattle.std.proofs.Common.{◌≡◌, ◌↔◌, ℕ, ◌^◌, ◌-◌, ◌<◌, ◌≤◌, ◌==◌, Bool, true, false, ◌&&◌, nat_le, cond, List, [], ◌∷◌, length, codes, Option, Some, None, option_and_then, refl, ap, subst, ◌∙◌, arith}
use Rattle.std.specs.Fmt.{decimal}
use Rattle.std.specs.List.{list_all, join_with_byte}
use Rattle.std.specs.Option.{option_map}
use Rattle.std.specs.Str.{bytes_eq}
use Rattle.std.specs.Cmp.Lexicographic.{bytes_decides}
use Rattle.std.proofs.lemmas.Bool.{and_parts}
use Rattle.std.proofs.lemmas.Bool.Decides.{nat_tests}
use Rattle.std.proofs.lemmas.Fmt.{decimal_nonempty}
use Rattle.std.proofs.lemmas.Option.{same_Some}
use Rattle.text_grammar.specs.Cut.{lacks}
use Rattle.text_grammar.specs.Decimal.{number_up_to}
use Rattle.text_grammar.proofs.DecimalLaws.{decimal_lacks, number_only, number_within, number_written}
use Rattle.text_grammar.specs.LineWords.{IsLineOf, IsWord, line_words}
use Rattle.tn_values.specs.Digit.{are_digits, is_digit}
use Rattle.tn_values.specs.Number.{exact, is_number, is_number_byte}
use Rattle.tn_values.specs.Span.{SpanView, is_span, span_of}
use Rattle.tn_auth_list.specs.Code.{is_code, is_code_byte}
use Rattle.tn_auth_list.specs.CodeTable.{given_of, range_of, row_of, row_of_words, with_code}
use Rattle.tn_auth_list.specs.TableLine.{IsRange, IsTableLine, MayGive, given_words}
use Rattle.tn_auth_list.specs.declared.table_rows.Gives.{Gives}
use Rattle.tn_auth_list.specs.declared.table_rows.Gives.TheVariants.{All, Range, Single}
use Rattle.tn_auth_list.specs.declared.table_rows.Row.{Row}

abbrev pub WordsLaw : Type 0
WordsLaw = (line : List ℕ) (words : List (List ℕ)) → (line_words line ≡ Some words) ↔ IsLineOf line words

-- ---- found

-- the words after the code are those of what is given
abbrev IsGiven : List (List ℕ) → Gives → Type 0
IsGiven rest given = MayGive given × (rest ≡ given_words given)

to_given : (rest : List (List ℕ)) (own given : Gives) → ◌≡◌ {A = Option Gives} (Some own) (Some given) → IsGiven rest own → IsGiven rest given
to_given rest own given e is = subst (λ (g : Gives). IsGiven rest g) (same_Some own given e) is

single_by : (word : List ℕ) (given : Gives) (t : Bool) → is_number word ≡ t → (word ≡ codes "*" → ⊥) → option_map Single (cond t (Some word) None) ≡ Some given → IsGiven (word ∷ []) given
single_by word given false e other h = absurd cc
single_by word given true e other h = to_given (word ∷ []) (Single word) given h ((e, other), refl)

given_by : (word : List ℕ) (given : Gives) (t : Bool) → bytes_eq word (42 ∷ []) ≡ t → cond t (Some All) (option_map Single (exact word)) ≡ Some given → IsGiven (word ∷ []) given
given_by word given true e h = to_given (word ∷ []) All given h (tt, ap (λ (w : List ℕ). w ∷ []) ((bytes_decides word (42 ∷ [])).0 e))
given_by word given false e h =
    single_by word given (is_number word) refl (λ same. let yes_one : bytes_eq word (42 ∷ []) ≡ true = (bytes_decides word (42 ∷ [])).1 same in absurd (cc)) h

given_found : (word : List ℕ) (given : Gives) → given_of word ≡ Some given → IsGiven (word ∷ []) given
given_found word given h = given_by word given (bytes_eq word (42 ∷ [])) refl h

lengths : (text : List ℕ) → is_number text ≡ true → (1 ≤ length text) × (length text ≤ 15)
unfolding is_number
lengths text h =
    let parts = and_parts (nat_le 1 (length text) && nat_le (length text) 15) (list_all is_number_byte text) h in
    let sizes = and_parts (nat_le 1 (length text)) (nat_le (length text) 15) parts.0 in
    let low : nat_le 1 (length text) ≡ true = sizes.0 in
    let high : nat_le (length text) 15 ≡ true = sizes.1 in
    (grind (arith, nat_tests), grind (arith, nat_tests))

span_by : (start count : List ℕ) (size : ℕ) (given : Gives) (t : Bool) → is_span start size ≡ t → is_number start ≡ true → nat_le 2 size ≡ true → size < 2 ^ 64 → count ≡ decimal size
    → option_map Range (cond t (Some (record { start = start; size = size })) None) ≡ Some given → IsGiven (start ∷ count ∷ []) given
span_by start count size given false e number two most text h = absurd cc
span_by start count size given true e number two most text h =
    let sizes = lengths start number in
    let parts = and_parts (are_digits start) (nat_le 1 size) e in
    to_given (start ∷ count ∷ []) (Range (record { start = start; size = size })) given h
    (record { digits = parts.0; some = sizes.0; few = sizes.1; two = grind (arith, nat_tests); most = most }, ap (λ (c : List ℕ). start ∷ c ∷ []) text)

two_by : (start count : List ℕ) (size : ℕ) (given : Gives) (t : Bool) → nat_le 2 size ≡ t → is_number start ≡ true → size < 2 ^ 64 → count ≡ decimal size
    → cond t (option_map Range (span_of start size)) None ≡ Some given → IsGiven (start ∷ count ∷ []) given
two_by start count size given false e number most text h = absurd cc
two_by start count size given true e number most text h = span_by start count size given (is_span start size) refl number e most text h

count_by_text : (start count : List ℕ) (given : Gives) (o : Option ℕ) → number_up_to (2 ^ 64 - 1) count ≡ o → is_number start ≡ true
    → option_and_then (λ size. cond (nat_le 2 size) (option_map Range (span_of start size)) None) o ≡ Some given → IsGiven (start ∷ count ∷ []) given
count_by_text start count given None e number h = absurd cc
count_by_text start count given (Some size) e number h =
    let most : size ≤ 2 ^ 64 - 1 = number_within (2 ^ 64 - 1) count size e in
    two_by start count size given (nat_le 2 size) refl number (omega (arith, most)) (number_written (2 ^ 64 - 1) count size (omega arith) e) h

range_by : (start count : List ℕ) (given : Gives) (t : Bool) → is_number start ≡ t
    → option_and_then (λ first. option_and_then (λ size. cond (nat_le 2 size) (option_map Range (span_of first size)) None) (number_up_to (2 ^ 64 - 1) count)) (cond t (Some start) None)
    ≡ Some given → IsGiven (start ∷ count ∷ []) given
range_by start count given false e h = absurd cc
range_by start count given true e h = count_by_text start count given (number_up_to (2 ^ 64 - 1) count) refl e h

range_found : (start count : List ℕ) (given : Gives) → range_of start count ≡ Some given → IsGiven (start ∷ count ∷ []) given
range_found start count given h = range_by start count given (is_number start) refl h

with_by : (line code : List ℕ) (rest : List (List ℕ)) (o : Option Gives) (row : Row) (t : Bool) → line ≡ join_with_byte 32 (code ∷ rest) → is_code code ≡ t
    → ((given : Gives) → o ≡ Some given → IsGiven rest given) → option_and_then (λ of. option_map (λ given. record { code = of; gives = given }) o) (cond t (Some code) None) ≡ Some row
    → IsTableLine line row
with_by line code rest o row false e ec is h = absurd cc
with_by line code rest None row true e ec is h = absurd cc
with_by line code rest (Some given) row true e ec is h =
    let own : Row = record { code = code; gives = given } in
    let k = is given refl in
    subst (λ (r : Row). IsTableLine line r) (same_Some own row h)
    (record { code = ec; gives = k.0; line_is = e ∙ ap (λ (r : List (List ℕ)). join_with_byte 32 (code ∷ r)) k.1 })

with_found : (line code : List ℕ) (rest : List (List ℕ)) (o : Option Gives) (row : Row) → line ≡ join_with_byte 32 (code ∷ rest)
    → ((given : Gives) → o ≡ Some given → IsGiven rest given) → with_code code o ≡ Some row → IsTableLine line row
with_found line code rest o row e is h = with_by line code rest o row (is_code code) e refl is h

words_by : (line : List ℕ) (words : List (List ℕ)) (row : Row) → line ≡ join_with_byte 32 words → row_of_words words ≡ Some row → IsTableLine line row
words_by line [] row e h = absurd cc
words_by line (a ∷ []) row e h = absurd cc
words_by line (code ∷ given ∷ []) row e h = with_found line code (given ∷ []) (given_of given) row e (λ g is. given_found given g is) h
words_by line (code ∷ start ∷ count ∷ []) row e h = with_found line code (start ∷ count ∷ []) (range_of start count) row e (λ g is. range_found start count g is) h
words_by line (a ∷ b ∷ c ∷ d ∷ more) row e h = absurd cc

line_by : WordsLaw → (line : List ℕ) (words : Option (List (List ℕ))) (row : Row) → line_words line ≡ words → option_and_then row_of_words words ≡ Some row → IsTableLine line row
line_by law line None row e h = absurd cc
line_by law line (Some words) row e h = words_by line words row ((law line words).0 e).joined h

row_found : WordsLaw → (line : List ℕ) (row : Row) → row_of line ≡ Some row → IsTableLine line row
unfolding row_of
row_found law line row h = line_by law line (line_words line) row refl h

-- ---- and again

each_lacks : (test : ℕ → Bool) (text : List ℕ) → ((b : ℕ) → test b ≡ true → (b == 32) ≡ false) → list_all test text ≡ true → lacks 32 text ≡ true
each_lacks test [] none all = refl
each_lacks test (b ∷ bs) none all =
    let parts = and_parts (test b) (list_all test bs) all in
    rw (none b parts.0, each_lacks test bs none parts.1) refl

code_word : (code : List ℕ) → is_code code ≡ true → IsWord code
unfolding is_code
code_word code h =
    let parts = and_parts (nat_le 1 (length code) && nat_le (length code) 32) (list_all is_code_byte code) h in
    let sizes = and_parts (nat_le 1 (length code)) (nat_le (length code) 32) parts.0 in
    let low : nat_le 1 (length code) ≡ true = sizes.0 in
    record { some = grind (arith, nat_tests); spaceless = each_lacks is_code_byte code (λ b is. grind (arith, nat_tests)) parts.1 }

number_word : (number : List ℕ) → is_number number ≡ true → IsWord number
unfolding is_number
number_word number h =
    let parts = and_parts (nat_le 1 (length number) && nat_le (length number) 15) (list_all is_number_byte number) h in
    record { some = (lengths number h).0; spaceless = each_lacks is_number_byte number (λ b is. grind (arith, nat_tests)) parts.1 }

digits_number : (text : List ℕ) → are_digits text ≡ true → list_all is_number_byte text ≡ true
digits_number [] all = refl
digits_number (b ∷ bs) all =
    let parts = and_parts (is_digit b) (are_digits bs) all in
    rw (parts.0, digits_number bs parts.1) refl

start_number : (span : SpanView) → IsRange span → is_number span.start ≡ true
unfolding is_number
start_number span is =
    let some : 1 ≤ length span.start = is.some in
    let few : length span.start ≤ 15 = is.few in
    let low : nat_le 1 (length span.start) ≡ true = grind (arith, nat_tests) in
    let high : nat_le (length span.start) 15 ≡ true = grind (arith, nat_tests) in
    rw (low, high, digits_number span.start is.digits) refl

count_word : (size : ℕ) → size < 2 ^ 64 → IsWord (decimal size)
count_word size most =
    let some : 0 < length (decimal size) = decimal_nonempty size most in
    record { some = omega (arith, some); spaceless = decimal_lacks size 32 most refl }

words_again : WordsLaw → (line code : List ℕ) (given : Gives) → is_code code ≡ true → MayGive given → line ≡ join_with_byte 32 (code ∷ given_words given)
    → line_words line ≡ Some (code ∷ given_words given)
words_again law line code All c may e =
    (law line (code ∷ codes "*" ∷ [])).1 (record { some = omega arith; few = omega arith; each = (code_word code c, (record { some = omega arith; spaceless = refl }, tt)); joined = e })
words_again law line code (Range span) c may e =
    (law line (code ∷ span.start ∷ decimal span.size ∷ [])).1
    (record { some = omega arith; few = omega arith; each = (code_word code c, (number_word span.start (start_number span may), (count_word span.size may.most, tt))); joined = e })
words_again law line code (Single number) c may e =
    (law line (code ∷ number ∷ [])).1 (record { some = omega arith; few = omega arith; each = (code_word code c, (number_word number may.0, tt)); joined = e })

other_by : (number : List ℕ) (t : Bool) → bytes_eq number (42 ∷ []) ≡ t → (number ≡ codes "*" → ⊥) → bytes_eq number (42 ∷ []) ≡ false
other_by number true e other = absurd (other ((bytes_decides number (42 ∷ [])).0 e))
other_by number false e other = e

with_again : (code : List ℕ) (given : Gives) → is_code code ≡ true → MayGive given → row_of_words (code ∷ given_words given) ≡ Some (record { code = code; gives = given })
with_again code All c may = rw c refl
with_again code (Range span) c may =
    let size : number_up_to (2 ^ 64 - 1) (decimal span.size) ≡ Some span.size =
    number_only (2 ^ 64 - 1) (decimal span.size) span.size (omega arith) (let most : span.size < 2 ^ 64 = may.most in omega (arith, most)) refl in
    let low : 2 ≤ span.size = may.two in
    let two : nat_le 2 span.size ≡ true = grind (arith, nat_tests) in
    let one : nat_le 1 span.size ≡ true = grind (arith, nat_tests) in
    rw (c, start_number span may, size, two, may.digits, one) refl
with_again code (Single number) c may = rw (c, other_by number (bytes_eq number (42 ∷ [])) refl may.1, may.0) refl

row_again : WordsLaw → (line : List ℕ) (row : Row) → IsTableLine line row → row_of line ≡ Some row
unfolding row_of
row_again law line row is =
    ap (option_and_then row_of_words) (words_again law line row.code row.gives is.code is.gives is.line_is) ∙ with_again row.code row.gives is.code is.gives

pub row_is : WordsLaw → (line : List ℕ) (row : Row) → (row_of line ≡ Some row) ↔ IsTableLine line row
row_is law line row = (row_found law line row, row_again law line row)
