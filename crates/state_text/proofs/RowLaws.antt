-- A line of a state is read as what it writes, and no other line is.
use Rattle.std.proofs.Common.{◌≡◌, ℕ, suc, ◌*◌, ◌^◌, ◌/◌, ◌%◌, ◌<◌, ◌≤◌, ◌==◌, Bool, true, false, not, cond, List, [], ◌∷◌, ◌++◌, length, Option, Some, None, option_and_then, Ok, Err, Result, codes, refl, sym, ◌∙◌, ap, subst, arith}
use Rattle.std.specs.Prelude.{slice_index}
use Rattle.std.specs.Fmt.{decimal}
use Rattle.std.specs.Str.{bytes_eq}
use Rattle.std.proofs.lemmas.Bool.Decides.{nat_tests}
use Rattle.std.proofs.lemmas.Option.{option_and_then_some}
use Rattle.hex.specs.Hex.{decode_pairs, decode_sized, encode_lower, encode_with, hex_digit_value, lower_digits}
use Rattle.hex.specs.declared.error.FromHexError.{FromHexError}
use Rattle.hex.proofs.HexLemmas.{IsDigits-lower_digits, decode_of-even, decode_pairs-ok, decode_sized-encode_lower, decode_sized-ok, decode_sized-twice}
use Rattle.lists.proofs.Bytes.{bytes_same, same_bytes}
use Rattle.text_grammar.specs.Bytes.{is_empty}
use Rattle.text_grammar.specs.Cut.{behind, cut, lacks}
use Rattle.text_grammar.specs.Decimal.{number_up_to}
use Rattle.text_grammar.proofs.CutLaws.{behind_again, behind_found, cut_again, cut_found}
use Rattle.text_grammar.proofs.DecimalLaws.{decimal_lacks, number_only, number_within, number_written}
use Rattle.state_text.specs.Reading.{call_number, call_on, ended_number, kept_by, kept_on, last_number, most_last, number_on, numbers_on, ticket_of, ticket_on, unless_zero, written_as}
use Rattle.state_text.specs.State.{Entry, IsEntry, IsTicket}
use Rattle.state_text.specs.StateText.{kept_line, number_line}

-- ---- numbers

-- a number up to the LF
pub ended_again : (most n : ℕ) → most < 2 ^ 64 → n ≤ most → ended_number most (decimal n ++ 10 ∷ []) ≡ Some n
unfolding ended_number
ended_again most n low small =
    let parted = cut_again 10 (decimal n) [] (decimal_lacks n 10 (omega arith) refl) in
    rw parted (number_only most (decimal n) n low small refl)

last_by : (most : ℕ) (front rest : List ℕ) (n : ℕ) (t : Bool) → is_empty rest ≡ t → cond t (number_up_to most front) None ≡ Some n → (rest ≡ []) × (number_up_to most front ≡ Some n)
last_by most front [] n true e h = (refl, h)
last_by most front [] n false e h = absurd (cc)
last_by most front (b ∷ bs) n true e h = absurd (cc)
last_by most front (b ∷ bs) n false e h = absurd (cc)

pub ended_found : (most : ℕ) (text : List ℕ) (n : ℕ) → most < 2 ^ 64 → ended_number most text ≡ Some n → (text ≡ decimal n ++ 10 ∷ []) × (n ≤ most)
unfolding ended_number
ended_found most text n low h =
    option_and_then_some (last_number most) (cut 10 text) n h
    (λ parts is at.
    let l = last_by most parts.0 parts.1 n (is_empty parts.1) refl at in
    let whole = cut_found 10 text parts is in
    let front = number_written most parts.0 n low l.1 in
    (whole ∙ ap (λ x. parts.0 ++ 10 ∷ x) l.0 ∙ ap (λ x. x ++ 10 ∷ []) front, number_within most parts.0 n l.1))

pub number_again : (name : List ℕ) (most n : ℕ) → most < 2 ^ 64 → n ≤ most → number_on name most (number_line name n) ≡ Some n
unfolding number_on
number_again name most n low small = rw (behind_again name (decimal n ++ 10 ∷ [])) (ended_again most n low small)

pub number_found : (name : List ℕ) (most : ℕ) (line : List ℕ) (n : ℕ) → most < 2 ^ 64 → number_on name most line ≡ Some n → (line ≡ number_line name n) × (n ≤ most)
unfolding number_on
number_found name most line n low h =
    option_and_then_some (ended_number most) (behind name line) n h
    (λ rest is at.
    let e = ended_found most rest n low at in
    (behind_found name line rest is ∙ ap (λ x. name ++ x) e.0, e.1))

-- ---- tickets

pub ticket_again : (ticket : List ℕ) → IsTicket ticket → ticket_of (encode_lower ticket) ≡ Some ticket
unfolding ticket_of
ticket_again ticket t = rw (decode_sized-encode_lower ticket 32 t.size t.bytes, same_bytes (encode_lower ticket)) refl

written_by : (word ticket found : List ℕ) (t : Bool) → bytes_eq (encode_lower found) word ≡ t → cond t (Some found) None ≡ Some ticket → (found ≡ ticket) × (word ≡ encode_lower ticket)
written_by word ticket found true e h = (let same : found ≡ ticket = cc in (same, sym (bytes_same (encode_lower found) word e) ∙ ap encode_lower same))
written_by word ticket found false e h = absurd cc

-- what decodes to 32 bytes
is_ticket : (word found : List ℕ) → decode_sized word 32 ≡ Ok found → IsTicket found
is_ticket word found h =
    let size : length word ≡ 2 * 32 = decode_sized-ok word 32 found h in
    let pairs : decode_pairs 0 word ≡ Ok found = sym (decode_of-even word (omega (arith, size))) ∙ sym (decode_sized-twice word 32 size) ∙ h in
    let p = decode_pairs-ok 0 word found pairs in
    record { size = omega (arith, size, p.1); bytes = p.2 }

pub record FoundTicket (word ticket : List ℕ) : Type 0 where
  pub is : IsTicket ticket
  pub text : word ≡ encode_lower ticket

pub ticket_found : (word ticket : List ℕ) → ticket_of word ≡ Some ticket → FoundTicket word ticket
unfolding ticket_of
ticket_found word ticket h = by_decoded (decode_sized word 32) refl h where
  by_decoded : (r : Result (List ℕ) FromHexError) → decode_sized word 32 ≡ r → written_as word r ≡ Some ticket → FoundTicket word ticket
  by_decoded (Err fault) e h = absurd cc
  by_decoded (Ok found) e h =
      let w = written_by word ticket found (bytes_eq (encode_lower found) word) refl h in
      record { is = subst IsTicket w.0 (is_ticket word found e); text = w.1 }

-- ---- entries

none_some : {A : Type 0} (x : A) → ◌≡◌ {A = Option A} None (Some x) → ⊥
none_some x e = cc

-- no digit of the hex table is this byte
no_such : (byte d : ℕ) → d < 16 → hex_digit_value byte ≡ None → (t : Bool) → (slice_index lower_digits d == byte) ≡ t → not t ≡ true
no_such byte d below none true e =
    let same : slice_index lower_digits d ≡ byte = grind (arith, nat_tests) in
    absurd (none_some d (sym none ∙ ap hex_digit_value (sym same) ∙ IsDigits-lower_digits d below))
no_such byte d below none false e = refl

digits_lack : (byte : ℕ) → hex_digit_value byte ≡ None → (bytes : List ℕ) → ((i : ℕ) → slice_index bytes i < 256) → lacks byte (encode_lower bytes) ≡ true
unfolding encode_with
digits_lack byte none [] small = refl
digits_lack byte none (b ∷ bs) small =
    let here : b < 256 = small 0 in
    let high = no_such byte (b / 16) (omega arith) none (slice_index lower_digits (b / 16) == byte) refl in
    let low = no_such byte (b % 16) (omega arith) none (slice_index lower_digits (b % 16) == byte) refl in
    let rest = digits_lack byte none bs (λ i. small (suc i)) in
    rw (high, low, rest) refl

pub hex_lacks : (byte : ℕ) (ticket : List ℕ) → hex_digit_value byte ≡ None → IsTicket ticket → lacks byte (encode_lower ticket) ≡ true
hex_lacks byte ticket none t = digits_lack byte none ticket t.bytes

pub kept_again : (most : ℕ) (entry : Entry) → most < 2 ^ 64 → IsEntry most entry → kept_on most (kept_line entry) ≡ Some entry
unfolding kept_on
kept_again most (ticket, kept) low i =
    let last : ended_number most_last (decimal kept.last ++ 10 ∷ []) ≡ Some kept.last = ended_again most_last kept.last (omega arith) i.last in
    let call : number_up_to most (decimal kept.call) ≡ Some kept.call = number_only most (decimal kept.call) kept.call low i.within refl in
    let nonzero : (kept.call == 0) ≡ false = grind (arith, nat_tests, i.some) in
    let small : kept.call < 2 ^ 64 = omega (arith, low, i.within) in
    let cut_call = cut_again 32 (decimal kept.call) (decimal kept.last ++ 10 ∷ []) (decimal_lacks kept.call 32 small refl) in
    let cut_ticket = cut_again 32 (encode_lower ticket) (decimal kept.call ++ 32 ∷ (decimal kept.last ++ 10 ∷ [])) (hex_lacks 32 ticket refl i.ticket) in
    rw (cut_ticket, ticket_again ticket i.ticket, cut_call, call, nonzero, last) refl

pub record FoundEntry (most : ℕ) (line : List ℕ) (entry : Entry) : Type 0 where
  pub is : IsEntry most entry
  pub text : line ≡ kept_line entry

record FoundNumbers (most : ℕ) (digits rest ticket : List ℕ) (entry : Entry) : Type 0 where
  ticket_is : entry.0 ≡ ticket
  call_is : number_up_to most digits ≡ Some entry.1.call
  some : 1 ≤ entry.1.call
  last_is : ended_number most_last rest ≡ Some entry.1.last

above_zero : (n m : ℕ) (t : Bool) → (n == 0) ≡ t → cond t None (Some n) ≡ Some m → (n ≡ m) × (1 ≤ m)
above_zero n m true e h = absurd cc
above_zero n m false e h = (let same : n ≡ m = cc in (same, grind (arith, nat_tests)))

call_by : (most : ℕ) (digits : List ℕ) (m : ℕ) (o : Option ℕ) → number_up_to most digits ≡ o → unless_zero o ≡ Some m → (number_up_to most digits ≡ Some m) × (1 ≤ m)
call_by most digits m None e h = absurd cc
call_by most digits m (Some n) e h = let a = above_zero n m (n == 0) refl h in (e ∙ ap (λ x. Some x) a.0, a.1)

numbers_by : (most : ℕ) (digits rest ticket : List ℕ) (entry : Entry) (c l : Option ℕ) → call_number most digits ≡ c → ended_number most_last rest ≡ l → kept_by ticket c l ≡ Some entry
    → FoundNumbers most digits rest ticket entry
numbers_by most digits rest ticket entry None l e f h = absurd cc
numbers_by most digits rest ticket entry (Some call) None e f h = absurd cc
numbers_by most digits rest ticket entry (Some call) (Some last) e f h =
    let made : Entry = (ticket, record { call = call; last = last }) in
    let same : made ≡ entry = cc in
    let c = call_by most digits call (number_up_to most digits) refl e in
    subst (FoundNumbers most digits rest ticket) same (record { ticket_is = refl; call_is = c.0; some = c.1; last_is = f })

pub kept_found : (most : ℕ) (line : List ℕ) (entry : Entry) → most < 2 ^ 64 → kept_on most line ≡ Some entry → FoundEntry most line entry
unfolding kept_on
kept_found most line entry low h =
    option_and_then_some (ticket_on most) (option_and_then (cut 32) (behind (codes "kept ") line)) entry h
    (λ parts is at. option_and_then_some (cut 32) (behind (codes "kept ") line) parts is
    (λ rest begins parted. option_and_then_some (call_on most parts.1) (ticket_of parts.0) entry at
    (λ ticket found more. option_and_then_some (numbers_on most ticket) (cut 32 parts.1) entry more
    (λ pair parted_again numbers.
    let n = numbers_by most pair.0 pair.1 ticket entry (call_number most pair.0) (ended_number most_last pair.1) refl refl numbers in
    let t = ticket_found parts.0 ticket found in
    let word : parts.0 ≡ encode_lower entry.0 = t.text ∙ ap encode_lower (sym n.ticket_is) in
    let call = number_written most pair.0 entry.1.call low n.call_is in
    let last = ended_found most_last pair.1 entry.1.last (omega arith) n.last_is in
    record {
      is = record { ticket = subst IsTicket (sym n.ticket_is) t.is; some = n.some; within = number_within most pair.0 entry.1.call n.call_is; last = last.1 };
      text = behind_found (codes "kept ") line rest begins
          ∙ ap (λ x. codes "kept " ++ x) (cut_found 32 rest parts parted ∙ ap (λ x. x ++ 32 ∷ parts.1) word
          ∙ ap (λ x. encode_lower entry.0 ++ 32 ∷ x) (cut_found 32 parts.1 pair parted_again ∙ ap (λ x. x ++ 32 ∷ pair.1) call ∙ ap (λ x. decimal entry.1.call ++ 32 ∷ x) last.0));
    }))))

-- the line that ends the entries is none
pub end_not_kept : (most n : ℕ) → kept_on most (number_line (codes "end ") n) ≡ None
unfolding kept_on
end_not_kept most n = refl
