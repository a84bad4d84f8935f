-- The log is whole, and its entries are short.
use Rattle.std.proofs.Common.{◌≡◌, ◌≤◌, ◌<◌, ℕ, zero, suc, ◌+◌, ◌*◌, ◌/◌, Bool, true, false, List, [], ◌∷◌, ◌++◌, length, replicate, codes, refl, sym, ap, subst, ◌∙◌, arith, length-append}
use Rattle.std.specs.Fmt.{decimal}
use Rattle.std.specs.Int.{bytes_high_first}
use Rattle.std.proofs.lemmas.Fmt.{length-decimal-le}
use Rattle.std.proofs.lemmas.List.{append-nil}
use Rattle.base64.specs.Engines.{url_safe_no_pad}
use Rattle.base64.specs.GeneralPurpose.{encode_of}
use Rattle.call_log.specs.Entry.{Entry, entry_text, headed}
use Rattle.call_log.specs.Log.{AreCalls, IsNext, LogText, NoEntry, Passed, after, after_all, start}
use Rattle.stir_drill.specs.Calls.{call_at, calls_of, drawn_at, log_of, message_after, message_at}
use Rattle.stir_drill.specs.Change.{has_identity, repeats}
use Rattle.stir_drill.specs.Message.{calling_text, identity_fields, identity_line, identity_of, message_of, moment_of, signature_of, signing_of}
use Rattle.stir_drill.specs.Pieces.{at_end, before_number, between}
use Rattle.stir_drill.specs.Readable.{AreUpTo}
use Rattle.stir_drill.specs.Spelled.{header_text, payload_text}
use Rattle.stir_drill.specs.declared.drawn.Drawn.{Drawn}
use Rattle.stir_drill.proofs.AnswerLaws.{high_length}
use Rattle.stir_drill.proofs.MessageLaws.{message_spelled}
use Rattle.stir_drill.proofs.PassportLaws.{calling_most, encoded_length, payload_most, signing_spelled}

-- ---- how long a message is

signing_most : (call : Drawn) → call.number ≤ 100000 → call.line < 10000 → length (signing_of call) ≤ 304
signing_most call n h =
    let of_header : length (encode_of url_safe_no_pad header_text) ≡ (4 * length header_text + 2) / 3 = encoded_length header_text in
    let header : length header_text ≡ 90 = refl in
    let same = ap length (signing_spelled call h) in
    omega (
      arith,
      of_header,
      header,
      same,
      encoded_length (payload_text call),
      payload_most call n h,
      length-append (encode_of url_safe_no_pad header_text) (46 ∷ encode_of url_safe_no_pad (payload_text call)),
    )

signature_size : (number : ℕ) → length (signature_of number) ≡ 64
signature_size number = length-append (bytes_high_first 8 number) (replicate 56 0) ∙ ap (λ n. n + 56) (high_length 8 number)

value_most : (call : Drawn) → call.number ≤ 100000 → call.line < 10000 → length (identity_of call) ≤ 456
value_most call n h =
    let encoded = encoded_length (signature_of call.number) in
    let end : length (codes ";info=<https://cert.example.org/drill.cer>;alg=ES256;ppt=\"shaken\"") ≡ 65 = refl in
    omega (
      arith,
      encoded,
      end,
      signature_size call.number,
      signing_most call n h,
      length-append (signing_of call ++ 46 ∷ encode_of url_safe_no_pad (signature_of call.number)) (codes ";info=<https://cert.example.org/drill.cer>;alg=ES256;ppt=\"shaken\""),
      length-append (signing_of call) (46 ∷ encode_of url_safe_no_pad (signature_of call.number)),
    )

line_by : (call : Drawn) (t : Bool) → has_identity call.change ≡ t → call.number ≤ 100000 → call.line < 10000 → length (identity_line call) ≤ 468
line_by call false e n h = rw e (omega arith)
line_by call true e n h =
    let spelled : identity_line call ≡ (codes "Identity" ++ 58 ∷ 32 ∷ (identity_of call ++ 13 ∷ 10 ∷ [])) ++ [] = rw e refl in
    omega (
      arith,
      ap length spelled,
      value_most call n h,
      length-append (codes "Identity") (58 ∷ 32 ∷ (identity_of call ++ 13 ∷ 10 ∷ [])),
      length-append (identity_of call) (13 ∷ 10 ∷ []),
      ap length (append-nil (codes "Identity" ++ 58 ∷ 32 ∷ (identity_of call ++ 13 ∷ 10 ∷ []))),
    )

own_most : (call : Drawn) → call.number ≤ 100000 → call.line < 10000 → length (message_of call) ≤ 723
own_most call n h =
    let spelled = ap length (message_spelled (calling_text call) (identity_fields call)) in
    let front : length before_number ≡ 126 = refl in
    let middle : length between ≡ 97 = refl in
    let end : length at_end ≡ 21 = refl in
    omega (
      arith,
      spelled,
      front,
      middle,
      end,
      calling_most call h,
      line_by call (has_identity call.change) refl n h,
      length-append before_number (calling_text call ++ (between ++ (identity_line call ++ at_end))),
      length-append (calling_text call) (between ++ (identity_line call ++ at_end)),
      length-append between (identity_line call ++ at_end),
      length-append (identity_line call) at_end,
    )

message_by : (call : Drawn) (before : List ℕ) (t : Bool) → repeats call.change ≡ t → length before ≤ 723 → length (message_of call) ≤ 723 → length (message_after call before) ≤ 723
message_by call before true e a b = rw e a
message_by call before false e a b = rw e b

message_most : (seed n : ℕ) → n ≤ 100000 → length (message_at seed n) ≤ 723
unfolding message_at
message_most seed zero h = omega arith
message_most seed (suc n) h =
    let call = drawn_at seed (suc n) in
    message_by call (message_at seed n) (repeats call.change) refl (message_most seed n (omega (arith, h))) (own_most call h (omega arith))

entry_most : (seed n : ℕ) → n ≤ 100000 → length (entry_text (call_at seed n)) ≤ 739
unfolding headed
entry_most seed n h =
    let size = message_most seed n h in
    let moment : length (decimal (moment_of n)) ≤ 10 = length-decimal-le 10 (moment_of n) (omega arith) (omega (arith, h)) (omega (arith, h)) in
    let said : length (decimal (length (message_at seed n))) ≤ 3 = length-decimal-le 3 (length (message_at seed n)) (omega arith) (omega (arith, size)) (omega (arith, size)) in
    omega (
      arith,
      size,
      moment,
      said,
      length-append (decimal (moment_of n)) (32 ∷ (decimal (length (message_at seed n)) ++ 10 ∷ message_at seed n)),
      length-append (decimal (length (message_at seed n))) (10 ∷ message_at seed n),
    )

-- ---- the calls follow one another

last_passed : (passed : Passed) (calls : List Entry) (call : Entry) → after_all passed (calls ++ call ∷ []) ≡ after (after_all passed calls) call
last_passed passed [] call = refl
last_passed passed (first ∷ calls) call = last_passed (after passed first) calls call

calls_more : (passed : Passed) (calls : List Entry) (call : Entry) → AreCalls passed calls → IsNext (after_all passed calls) call → AreCalls passed (calls ++ call ∷ [])
calls_more passed [] call are next = (next, tt)
calls_more passed (first ∷ calls) call are next = (are.0, calls_more (after passed first) calls call are.1 next)

-- what was passed after the first calls
record StandsAt (n : ℕ) (passed : Passed) : Type 0 where
  number : passed.number ≡ n
  count : passed.count ≡ n
  moment : passed.moment ≤ moment_of n

stands : (seed n : ℕ) → StandsAt n (after_all (start 0 0) (calls_of seed n))
unfolding calls_of
stands seed zero = record { number = refl; count = refl; moment = omega arith }
stands seed (suc n) =
    let before = stands seed n in
    subst (StandsAt (suc n)) (sym (last_passed (start 0 0) (calls_of seed n) (call_at seed (suc n))))
    (record { number = refl; count = omega (arith, before.count); moment = omega arith })

follow : (seed n : ℕ) → n ≤ 100000 → AreCalls (start 0 0) (calls_of seed n)
unfolding calls_of
follow seed zero h = tt
follow seed (suc n) h =
    let before = stands seed n in
    let size = message_most seed (suc n) h in
    calls_more (start 0 0) (calls_of seed n) (call_at seed (suc n)) (follow seed n (omega (arith, h))) (record {
      room = omega (arith, before.count, h);
      numbered = omega (arith, before.number);
      not_backward = omega (arith, before.moment);
      moment_within = omega (arith, h);
      length_within = omega (arith, size);
    })

no_more : (passed : Passed) → NoEntry passed []
unfolding headed
no_more passed call behind next e = absurd cc

pub is_whole : (seed count : ℕ) → count ≤ 100000 → LogText (start 0 0) (log_of seed count) (calls_of seed count) []
is_whole seed count h = record {
  text = sym (append-nil (log_of seed count));
  follow = follow seed count h;
  longest = no_more (after_all (start 0 0) (calls_of seed count));
}

short_more : (most : ℕ) (calls : List Entry) (call : Entry) → AreUpTo most calls → length (entry_text call) ≤ most → AreUpTo most (calls ++ call ∷ [])
short_more most [] call are one = (one, tt)
short_more most (first ∷ calls) call are one = (are.0, short_more most calls call are.1 one)

pub are_short : (seed count : ℕ) → count ≤ 100000 → AreUpTo 739 (calls_of seed count)
unfolding calls_of
are_short seed zero h = tt
are_short seed (suc n) h = short_more 739 (calls_of seed n) (call_at seed (suc n)) (are_short seed n (omega (arith, h))) (entry_most seed (suc n) h)
