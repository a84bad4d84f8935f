-- The answers are read line by line.
use Rattle.std.proofs.Common.{◌≡◌, ℕ, zero, suc, ◌+◌, ◌-◌, ◌*◌, ◌/◌, ◌%◌, ◌^◌, ◌<◌, ◌≤◌, ◌==◌, Bool, true, false, not, ◌&&◌, nat_lt, List, [], ◌∷◌, ◌++◌, length, filter, codes, slice_index, replicate, Option, Some, None, is_some, Result, Err, refl, sym, ap, subst, ◌∙◌, arith, append_assoc, length-append}
use Rattle.std.specs.Int.{byte_at, bytes_high_first, to_be_bytes, w32}
use Rattle.std.specs.List.{enumerate_from, flat_map, join_with_byte, list_all}
use Rattle.std.specs.Str.Lines.{strip_carriage_return}
use Rattle.std.proofs.lemmas.Bool.{and_parts}
use Rattle.std.proofs.lemmas.Bool.Decides.{nat_tests}
use Rattle.std.proofs.lemmas.List.Folds.{list_all-append}
use Rattle.base64.proofs.Tables.{all_below_at}
use Rattle.hex.proofs.HexLemmas.{decode_sized-encode_lower, length-encode_with}
use Rattle.hex.specs.Hex.{IsBytes, encode_lower, encode_with, lower_digits}
use Rattle.sha2.proofs.Facts256.{length-sha256}
use Rattle.sha2.specs.Sha256.{digest_bytes, final_hash, initial_hash_256, sha256}
use Rattle.std.specs.Result.{result_ok}
use Rattle.text_grammar.specs.Cut.{lacks}
use Rattle.text_grammar.proofs.LineLaws.{first_of}
use Rattle.text_grammar.proofs.LineOfLaws.{words_are}
use Rattle.text_grammar.specs.FileLines.{file_lines, is_passed_over, numbered_from, text_lines}
use Rattle.text_grammar.specs.LineWords.{IsWord, line_words}
use Rattle.text_grammar.specs.ReadLines.{go_on, read_lines}
use Rattle.stir_outside.proofs.HexLaws.{hex_is, hex_word}
use Rattle.stir_outside.specs.AnswersText.{add_row, answer_rows, bytes_of, row_of}
use Rattle.stir_drill.specs.Calls.{drawn_at}
use Rattle.stir_drill.specs.Certificates.{digest, intermediate, leaf, root, signed_text}
use Rattle.stir_drill.specs.Change.{is_confirmed}
use Rattle.stir_drill.specs.Message.{signing_of}
use Rattle.stir_drill.specs.World.{Triple, answer_line, answers_of, call_triple, call_triples, chain_triples, issued_by, triples_of}
use Rattle.stir_drill.specs.declared.drawn.Drawn.{Drawn}

-- ---- bytes

abbrev is_byte : ℕ → Bool
is_byte b = nat_lt b 256

abbrev are_bytes : List ℕ → Bool
are_bytes xs = list_all is_byte xs

-- what holds of all, and of 0, holds at each place
at_place : (f : ℕ → Bool) (xs : List ℕ) (i : ℕ) → f 0 ≡ true → list_all f xs ≡ true → f (slice_index xs i) ≡ true
at_place f [] i z h = z
at_place f (x ∷ xs) zero z h = (and_parts (f x) (list_all f xs) h).0
at_place f (x ∷ xs) (suc i) z h = at_place f xs i z (and_parts (f x) (list_all f xs) h).1

bytes_at : (xs : List ℕ) → are_bytes xs ≡ true → IsBytes xs
bytes_at xs h i = let k : nat_lt (slice_index xs i) 256 ≡ true = at_place is_byte xs i refl h in grind (arith, nat_tests)

joined : (f : ℕ → Bool) (xs ys : List ℕ) → list_all f xs ≡ true → list_all f ys ≡ true → list_all f (xs ++ ys) ≡ true
joined f xs ys a b = list_all-append f xs ys ∙ ap (λ t. t && list_all f ys) a ∙ b

small_byte : (k n : ℕ) → is_byte (byte_at k n) ≡ true
small_byte zero n = grind (arith, nat_tests)
small_byte (suc k) n = let q = n / 256 ^ suc k in let h : q % 256 < 256 = omega arith in grind (arith, nat_tests)

high_first : (k n : ℕ) → are_bytes (bytes_high_first k n) ≡ true
high_first zero n = refl
high_first (suc k) n = ap (λ t. t && are_bytes (bytes_high_first k n)) (small_byte k n) ∙ high_first k n

pub high_length : (k n : ℕ) → length (bytes_high_first k n) ≡ k
high_length zero n = refl
high_length (suc k) n = ap suc (high_length k n)

digest_are : (h : List ℕ) (n : ℕ) → are_bytes (digest_bytes h n) ≡ true
unfolding digest_bytes
digest_are h zero = refl
digest_are h (suc n) = joined is_byte (digest_bytes h n) (to_be_bytes w32 (slice_index h n)) (digest_are h n) (high_first 4 (slice_index h n))

sha_bytes : (m : List ℕ) → are_bytes (sha256 m) ≡ true
unfolding sha256
sha_bytes m = digest_are (final_hash initial_hash_256 m) 8

-- ---- hex digits may be in a line

-- no end of a line, and no CR
abbrev is_inner : ℕ → Bool
is_inner b = not (b == 10) && not (b == 13)

inner_digit : (k : ℕ) → k < 16 → is_inner (slice_index lower_digits k) ≡ true
inner_digit k h = all_below_at (λ i. is_inner (slice_index lower_digits i)) 16 k refl h

inner_hex : (xs : List ℕ) → are_bytes xs ≡ true → list_all is_inner (encode_lower xs) ≡ true
unfolding encode_with
inner_hex [] h = refl
inner_hex (x ∷ xs) h =
    let parts = and_parts (is_byte x) (are_bytes xs) h in
    let first : nat_lt x 256 ≡ true = parts.0 in
    let small : x < 256 = grind (arith, nat_tests) in
    ap (λ t. t && (is_inner (slice_index lower_digits (x % 16)) && list_all is_inner (encode_lower xs))) (inner_digit (x / 16) (omega (arith, small)))
    ∙ ap (λ t. t && list_all is_inner (encode_lower xs)) (inner_digit (x % 16) (omega arith))
    ∙ inner_hex xs parts.1

-- ---- a line

-- a triple that a line may have
record IsGood (one : Triple) : Type 0 where
  key : are_bytes one.key ≡ true
  key_size : length one.key ≡ 65
  uncompressed : slice_index one.key 0 ≡ 4
  digest : are_bytes one.digest ≡ true
  digest_size : length one.digest ≡ 32
  signature : are_bytes one.signature ≡ true
  signature_size : length one.signature ≡ 64

abbrev line_text : Triple → List ℕ
line_text one = join_with_byte 32 (codes "confirm" ∷ encode_lower one.key ∷ encode_lower one.digest ∷ encode_lower one.signature ∷ [])

abbrev hex_words : Triple → List (List ℕ)
hex_words one = codes "confirm" ∷ encode_lower one.key ∷ encode_lower one.digest ∷ encode_lower one.signature ∷ []

bytes_again : (count : ℕ) (bytes : List ℕ) → are_bytes bytes ≡ true → length bytes ≡ count → bytes_of count (encode_lower bytes) ≡ Some bytes
bytes_again count bytes are size = ap result_ok (decode_sized-encode_lower bytes count size (bytes_at bytes are))

word_is : (count : ℕ) (bytes : List ℕ) → 1 ≤ count → bytes_of count (encode_lower bytes) ≡ Some bytes → IsWord (encode_lower bytes)
word_is count bytes some is = hex_word count (encode_lower bytes) bytes some ((hex_is count (encode_lower bytes) bytes).0 is)

-- whatever was read before, the line is read
abbrev Always : {S : Type 0} → (S → List ℕ → Option S) → List ℕ → Type 0
Always {S} take line = (state : S) → is_some (take state line) ≡ true

line_read : (one : Triple) → IsGood one → Always add_row (line_text one)
unfolding row_of
line_read one good state =
    let key = bytes_again 65 one.key good.key good.key_size in
    let digest = bytes_again 32 one.digest good.digest good.digest_size in
    let signature = bytes_again 64 one.signature good.signature good.signature_size in
    let words : line_words (line_text one) ≡ Some (hex_words one) =
    (words_are (line_text one) (hex_words one)).1 (record {
      some = omega arith;
      few = omega arith;
      each = (record { some = omega arith; spaceless = refl }, (word_is 65 one.key (omega arith) key, (word_is 32 one.digest (omega arith) digest, (word_is 64 one.signature (omega arith) signature, tt))));
      joined = refl;
    }) in
    let first : (slice_index one.key 0 == 4) ≡ true = ap (λ n. n == 4) good.uncompressed in
    rw (words, key, first, digest, signature) refl

line_inner : (one : Triple) → IsGood one → list_all is_inner (line_text one) ≡ true
line_inner one good =
    let last = joined is_inner (encode_lower one.digest) (32 ∷ encode_lower one.signature) (inner_hex one.digest good.digest) (inner_hex one.signature good.signature) in
    joined is_inner (encode_lower one.key) (32 ∷ (encode_lower one.digest ++ 32 ∷ encode_lower one.signature)) (inner_hex one.key good.key) last

inner_lacks : (xs : List ℕ) → list_all is_inner xs ≡ true → lacks 10 xs ≡ true
inner_lacks [] h = refl
inner_lacks (x ∷ xs) h =
    let parts = and_parts (is_inner x) (list_all is_inner xs) h in
    let first = and_parts (not (x == 10)) (not (x == 13)) parts.0 in
    ap (λ t. t && lacks 10 xs) first.0 ∙ inner_lacks xs parts.1

keeps_by : (xs : List ℕ) (t : Bool) → (slice_index xs (length xs - 1) == 13) ≡ t → not t ≡ true → strip_carriage_return xs ≡ xs
keeps_by xs true e h = absurd cc
keeps_by xs false e h = rw e refl

keeps : (xs : List ℕ) → list_all is_inner xs ≡ true → strip_carriage_return xs ≡ xs
keeps xs h =
    let last = at_place is_inner xs (length xs - 1) refl h in
    keeps_by xs (slice_index xs (length xs - 1) == 13) refl (and_parts (not (slice_index xs (length xs - 1) == 10)) (not (slice_index xs (length xs - 1) == 13)) last).1

-- ---- all lines

abbrev AreGood : List Triple → Type 0
AreGood [] = Unit {0}
AreGood (one ∷ others) = IsGood one × AreGood others

lines_more : (one : Triple) (rest : List ℕ) → IsGood one → file_lines (answer_line one ++ rest) ≡ line_text one ∷ file_lines rest
lines_more one rest good =
    let inner = line_inner one good in
    first_of (answer_line one ++ rest) (line_text one) rest (append_assoc (line_text one) (10 ∷ []) rest) (inner_lacks (line_text one) inner)
    ∙ ap (λ x. x ∷ file_lines rest) (keeps (line_text one) inner)

numbered_more : (n : ℕ) (one : Triple) (rest : List ℕ) → IsGood one → numbered_from n (answer_line one ++ rest) ≡ (n, line_text one) ∷ numbered_from (n + 1) rest
numbered_more n one rest good = ap (λ ls. filter (λ line. not (is_passed_over line.1)) (enumerate_from n ls)) (lines_more one rest good)

abbrev AllAdd : {S : Type 0} → (S → List ℕ → Option S) → List (ℕ × List ℕ) → Type 0
AllAdd take [] = Unit {0}
AllAdd take (line ∷ more) = Always take line.1 × AllAdd take more

lines_add : (n : ℕ) (triples : List Triple) → AreGood triples → AllAdd add_row (numbered_from n (flat_map answer_line triples))
lines_add n [] good = tt
lines_add n (one ∷ others) good =
    subst (AllAdd add_row) (sym (numbered_more n one (flat_map answer_line others) good.0)) (line_read one good.0, lines_add (n + 1) others good.1)

goes_on : {S : Type 0} (found : Option S) (number bad : ℕ) (more : S → Result S ℕ) → is_some found ≡ true → ((state : S) → more state ≡ Err bad → ⊥) → go_on found number more ≡ Err bad → ⊥
goes_on None number bad more some below h = absurd cc
goes_on (Some state) number bad more some below h = below state h

never_bad : {S : Type 0} (take : S → List ℕ → Option S) (lines : List (ℕ × List ℕ)) (state : S) (bad : ℕ) → AllAdd take lines → read_lines take lines state ≡ Err bad → ⊥
never_bad take [] state bad all h = absurd cc
never_bad take (line ∷ more) state bad all h = goes_on (take state line.1) line.0 bad (λ next. read_lines take more next) (all.0 state) (λ next. never_bad take more next bad all.1) h

none_bad : (triples : List Triple) (bad : ℕ) → AreGood triples → answer_rows (flat_map answer_line triples) ≡ Err bad → ⊥
unfolding answer_rows
none_bad triples bad good = never_bad add_row (text_lines (flat_map answer_line triples)) [] bad (lines_add 1 triples good)

-- ---- the triples of the drill

good_both : (xs ys : List Triple) → AreGood xs → AreGood ys → AreGood (xs ++ ys)
good_both [] ys a b = b
good_both (x ∷ xs) ys a b = (a.0, good_both xs ys a.1 b)

chain_one : IsGood (issued_by intermediate leaf)
chain_one = record {
  key = refl;
  key_size = refl;
  uncompressed = refl;
  digest = sha_bytes (signed_text leaf);
  digest_size = length-sha256 (signed_text leaf);
  signature = refl;
  signature_size = refl;
}

chain_two : IsGood (issued_by root intermediate)
chain_two = record {
  key = refl;
  key_size = refl;
  uncompressed = refl;
  digest = sha_bytes (signed_text intermediate);
  digest_size = length-sha256 (signed_text intermediate);
  signature = refl;
  signature_size = refl;
}

chain_good : AreGood chain_triples
chain_good = (chain_one, (chain_two, tt))

call_good : (call : Drawn) → IsGood (call_triple call)
call_good call = record {
  key = refl;
  key_size = refl;
  uncompressed = refl;
  digest = sha_bytes (signing_of call);
  digest_size = length-sha256 (signing_of call);
  signature = joined is_byte (bytes_high_first 8 call.number) (replicate 56 0) (high_first 8 call.number) refl;
  signature_size = length-append (bytes_high_first 8 call.number) (replicate 56 0) ∙ ap (λ n. n + 56) (high_length 8 call.number);
}

good_by : (call : Drawn) (t : Bool) → is_confirmed call.change ≡ t → AreGood (triples_of call)
good_by call true e = rw e (call_good call, tt)
good_by call false e = rw e tt

calls_good : (seed count : ℕ) → AreGood (call_triples seed count)
unfolding call_triples
calls_good seed zero = tt
calls_good seed (suc n) = good_both (call_triples seed n) (triples_of (drawn_at seed (suc n))) (calls_good seed n) (good_by (drawn_at seed (suc n)) (is_confirmed (drawn_at seed (suc n)).change) refl)

all_good : (seed count : ℕ) → AreGood (chain_triples ++ call_triples seed count)
all_good seed count = good_both chain_triples (call_triples seed count) chain_good (calls_good seed count)

pub answers_read : (seed count bad : ℕ) → answer_rows (answers_of seed count) ≡ Err bad → ⊥
answers_read seed count bad = none_bad (chain_triples ++ call_triples seed count) bad (all_good seed count)

-- ---- how long they are

line_size : (one : Triple) → IsGood one → length (answer_line one) ≡ 333
line_size one good =
    let key = length-encode_with lower_digits one.key in
    let digest = length-encode_with lower_digits one.digest in
    let signature = length-encode_with lower_digits one.signature in
    omega (
      arith,
      key,
      digest,
      signature,
      good.key_size,
      good.digest_size,
      good.signature_size,
      length-append (line_text one) (10 ∷ []),
      length-append (encode_lower one.key) (32 ∷ (encode_lower one.digest ++ 32 ∷ encode_lower one.signature)),
      length-append (encode_lower one.digest) (32 ∷ encode_lower one.signature),
    )

lines_size : (triples : List Triple) → AreGood triples → length (flat_map answer_line triples) ≡ 333 * length triples
lines_size [] good = refl
lines_size (one ∷ others) good = omega (arith, line_size one good.0, lines_size others good.1, length-append (answer_line one) (flat_map answer_line others))

few_by : (call : Drawn) (t : Bool) → is_confirmed call.change ≡ t → length (triples_of call) ≤ 1
few_by call true e = rw e (omega arith)
few_by call false e = rw e (omega arith)

few : (seed count : ℕ) → length (call_triples seed count) ≤ count
unfolding call_triples
few seed zero = omega arith
few seed (suc n) = omega (arith, few seed n, few_by (drawn_at seed (suc n)) (is_confirmed (drawn_at seed (suc n)).change) refl, length-append (call_triples seed n) (triples_of (drawn_at seed (suc n))))

pub answers_size : (seed count : ℕ) → length (answers_of seed count) ≤ 333 * (count + 2)
answers_size seed count =
    let total = lines_size (chain_triples ++ call_triples seed count) (all_good seed count) in
    let both = length-append chain_triples (call_triples seed count) in
    omega (arith, total, both, few seed count)
