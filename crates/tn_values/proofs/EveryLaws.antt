-- What is asked of each of the list of all numbers is asked of every number.
use Rattle.std.proofs.Common.{◌≡◌, ℕ, zero, suc, ◌≤◌, Bool, true, ◌&&◌, inl, inr, List, [], ◌∷◌, map, length, arith, refl, sym, ◌∙◌}
use Rattle.std.proofs.lemmas.Bool.{cases_lt, and_parts}
use Rattle.std.proofs.lemmas.Bool.Decides.{nat_tests}
use Rattle.std.proofs.lemmas.List.Folds.{list_all-append, list_all-map}
use Rattle.std.specs.Cmp.Derive.{both_true}
use Rattle.std.specs.List.{flat_map, list_all}
use Rattle.tn_values.specs.Number.{is_number_byte, is_number}
use Rattle.tn_values.specs.Every.{number_bytes, texts_of, texts_up_to, every_number}
use Rattle.tn_values.proofs.NumberFacts.{number_parts}

-- ---- the bytes

-- each byte passes a test that all bytes of numbers pass
at_byte : (test : ℕ → Bool) (byte : ℕ) → list_all test number_bytes ≡ true → is_number_byte byte ≡ true → test byte ≡ true
at_byte test byte h is = grind (arith, nat_tests)

-- if a test passes each byte that another passes, it passes all bytes when the other does
all_by : (test other : ℕ → Bool) (bytes : List ℕ) → list_all other bytes ≡ true → ((byte : ℕ) → other byte ≡ true → test byte ≡ true)
    → list_all test bytes ≡ true
all_by test other [] h passes = refl
all_by test other (byte ∷ bytes) h passes =
    let each = and_parts (other byte) (list_all other bytes) h in
    both_true (passes byte each.0) (all_by test other bytes each.1 passes)

-- a test of all texts with one of the bytes before them is a test of each byte
fronts : (test : List ℕ → Bool) (bytes : List ℕ) (texts : List (List ℕ))
    → list_all test (flat_map (λ byte. map (λ text. byte ∷ text) texts) bytes) ≡ list_all (λ byte. list_all (λ text. test (byte ∷ text)) texts) bytes
fronts test [] texts = refl
fronts test (byte ∷ bytes) texts =
    list_all-append test (map (λ text. byte ∷ text) texts) (flat_map (λ byte. map (λ text. byte ∷ text) texts) bytes)
    ∙ (λ i. list_all-map test (λ text. byte ∷ text) texts i && fronts test bytes texts i)

-- ---- texts of one length

-- such a text passes a test that all of them pass
at_text : (n : ℕ) (test : List ℕ → Bool) (text : List ℕ) → list_all test (texts_of n) ≡ true → length text ≡ n
    → list_all is_number_byte text ≡ true → test text ≡ true
unfolding texts_of
at_text zero test [] h long bytes = (and_parts (test []) true h).0
at_text zero test (byte ∷ text) h long bytes = absurd (omega (arith, long))
at_text (suc n) test [] h long bytes = absurd (omega (arith, long))
at_text (suc n) test (byte ∷ text) h long bytes =
    let each = and_parts (is_number_byte byte) (list_all is_number_byte text) bytes in
    let behind = at_byte (λ byte. list_all (λ text. test (byte ∷ text)) (texts_of n)) byte (sym (fronts test number_bytes (texts_of n)) ∙ h) each.0 in
    at_text n (λ text. test (byte ∷ text)) text behind (omega (arith, long)) each.1

-- all of them pass a test that each such text passes
all_texts : (n : ℕ) (test : List ℕ → Bool) → ((text : List ℕ) → length text ≡ n → list_all is_number_byte text ≡ true → test text ≡ true)
    → list_all test (texts_of n) ≡ true
unfolding texts_of
all_texts zero test passes = both_true (passes [] refl refl) refl
all_texts (suc n) test passes =
    fronts test number_bytes (texts_of n)
    ∙ all_by (λ byte. list_all (λ text. test (byte ∷ text)) (texts_of n)) is_number_byte number_bytes refl
    (λ byte is. all_texts n (λ text. test (byte ∷ text)) (λ text long bytes. passes (byte ∷ text) (omega (arith, long)) (both_true is bytes)))

-- ---- texts up to a length

-- a text of 1 to so many bytes passes a test that all of them pass
at_most : (n : ℕ) (test : List ℕ → Bool) (text : List ℕ) → list_all test (texts_up_to n) ≡ true → 1 ≤ length text → length text ≤ n
    → list_all is_number_byte text ≡ true → test text ≡ true
unfolding texts_up_to
at_most zero test text h some short bytes = absurd (omega (arith, some, short))
at_most (suc n) test text h some short bytes =
    let each = and_parts (list_all test (texts_up_to n)) (list_all test (texts_of (suc n))) (sym (list_all-append test (texts_up_to n) (texts_of (suc n))) ∙ h) in
    elim (cases_lt n (length text)) [
      | inl above ↦ at_text (suc n) test text each.1 (omega (arith, above, short)) bytes
      | inr below ↦ at_most n test text each.0 some below bytes
    ]

-- all of them pass a test that each such text passes
all_up_to : (n : ℕ) (test : List ℕ → Bool)
    → ((text : List ℕ) → 1 ≤ length text → length text ≤ n → list_all is_number_byte text ≡ true → test text ≡ true)
    → list_all test (texts_up_to n) ≡ true
unfolding texts_up_to
all_up_to zero test passes = refl
all_up_to (suc n) test passes =
    list_all-append test (texts_up_to n) (texts_of (suc n))
    ∙ both_true (all_up_to n test (λ text some short bytes. passes text some (omega (arith, short)) bytes))
    (all_texts (suc n) test (λ text long bytes. passes text (omega (arith, long)) (omega (arith, long)) bytes))

-- ---- every number

-- a number passes a test that every one of the list passes
pub all_tested : (test : List ℕ → Bool) → list_all test every_number ≡ true → (number : List ℕ) → is_number number ≡ true → test number ≡ true
unfolding every_number
all_tested test h number is =
    let parts = number_parts number is in
    at_most 15 test number h parts.some parts.short parts.bytes

-- 1 to 15 such bytes are a number
number_from : (text : List ℕ) → 1 ≤ length text → length text ≤ 15 → list_all is_number_byte text ≡ true → is_number text ≡ true
unfolding is_number
number_from text some short bytes = grind (arith, nat_tests)

-- the list passes a test that every number passes
pub tested_all : (test : List ℕ → Bool) → ((number : List ℕ) → is_number number ≡ true → test number ≡ true) → list_all test every_number ≡ true
unfolding every_number
tested_all test passes = all_up_to 15 test (λ text some short bytes. passes text (number_from text some short bytes))
