-- What the pieces of an entry come to together, and why it stops where it does.
use Rattle.std.proofs.Common.{◌≡◌, ◌≢◌, ℕ, ◌+◌, ◌^◌, ◌<◌, ◌≤◌, false, List, [], ◌∷◌, ◌++◌, length, Option, Some, None, Result, Ok, Err, refl, sym, ◌∙◌, ap, subst, arith, inl, inr, append_assoc}
use Rattle.std.specs.Char.{is_ascii_digit}
use Rattle.std.specs.Fmt.{decimal}
use Rattle.std.specs.Io.KnownBytes.{Consumes, IsAtEnd}
use Rattle.std.specs.Result.{IsErrAnd}
use Rattle.std.proofs.KnownBytes.{Consumes-trans}
use Rattle.call_log.proofs.HeaderLaws.{NoHead, bad_head, headed_append, headed_parts, headed_some, no_end, no_entry, no_head_first, no_head_length, no_head_moment, no_head_nil, no_number, not_backward, opens, short_entry}
use Rattle.call_log.specs.Bytes.{MessageStops, TakesFewer}
use Rattle.call_log.specs.Entry.{Entry, headed, most_entries, most_message_length}
use Rattle.call_log.specs.Fault.{IsGrammar, Knows}
use Rattle.call_log.specs.Log.{NoEntry, Passed}
use Rattle.call_log.specs.Number.{FailsInNumber, NoNumber, TakesNoNumber}
use Rattle.call_log.specs.Reading.{Finds, FindsEntry, FindsFault, fault_of_read}
use Rattle.call_log.specs.declared.fault.LogFault.{LogFault}
use Rattle.call_log.specs.declared.fault.LogFault.TheVariants.{Grammar, Backward, Many, Source}
use Rattle.stir_outside.specs.declared.transfer.ReadFault.{ReadFault}
use Rattle.stir_outside.specs.declared.transfer.ReadFault.TheVariants.{Source as ReadSource, Memory as ReadMemory}
use Rattle.text_grammar.specs.Moment.{last_second}

-- ---- one piece more

pub goes_on : (passed : Passed) (front piece : List ℕ) (left mid now : Option (List ℕ)) (r : Result (Option Entry) LogFault) → Consumes left mid piece → (front ++ piece ≡ [] → ⊥) → Finds passed (front ++ piece) mid now r → Finds passed front left now r
goes_on passed front piece left mid now (Ok (Some call)) c some f = record {
  next = f.next;
  taken = piece ++ f.taken;
  consumed = Consumes-trans left mid now piece f.taken c f.consumed;
  whole = sym (append_assoc front piece f.taken) ∙ f.whole;
}
goes_on passed front piece left mid now (Ok None) c some f = absurd (some f.none_before)
goes_on passed front piece left mid now (Err fault) c some f = record {
  taken = piece ++ f.taken;
  consumed = Consumes-trans left mid now piece f.taken c f.consumed;
  known = subst (λ x. Knows passed x now fault) (append_assoc front piece f.taken) f.known;
}

-- a fault is handed on as the reader's own
pub hands_on : (passed : Passed) (front : List ℕ) (left now : Option (List ℕ)) (fault : LogFault) (r : Result (Option Entry) LogFault) → IsErrAnd r (λ f. f ≡ fault) → FindsFault passed front left now fault → Finds passed front left now r
hands_on passed front left now fault (Ok call) e f = absurd e
hands_on passed front left now fault (Err other) e f = let Fault : LogFault → Type 0 = λ x. FindsFault passed front left now x in subst Fault (sym e) f

-- ---- the first byte

pub many : (passed : Passed) (place : ℕ) (left now : Option (List ℕ)) (byte : ℕ) → place ≡ passed.place → Consumes left now (byte ∷ []) → passed.count ≡ most_entries → FindsFault passed [] left now (Many place)
many passed place left now byte at c full = record {
  taken = byte ∷ [];
  consumed = c;
  known = inl (record { front = []; byte = byte; split = refl; open_before = λ all. (all []).some refl; settled = λ more. record { at = at; full = full; some = λ e. cc } });
}

pub not_at : (passed : Passed) (place : ℕ) (left now : Option (List ℕ)) (byte : ℕ) → place ≡ passed.place → Consumes left now (byte ∷ []) → passed.count < most_entries → byte ≢ 64 → FindsFault passed [] left now (Grammar place)
not_at passed place left now byte at c room other = record {
  taken = byte ∷ [];
  consumed = c;
  known = inl (record {
    front = [];
    byte = byte;
    split = refl;
    open_before = opens passed place 0 0 [] (headed 0 0 []) (omega arith) (omega arith) refl;
    settled = λ more. bad_head passed place (byte ∷ more) at room (λ e. cc) (no_head_first byte more other);
  });
}

pub first_failed : (passed : Passed) (left now : Option (List ℕ)) → Consumes left now [] → FindsFault passed [] left now Source
first_failed passed left now c = record { taken = []; consumed = c; known = no_entry passed [] no_head_nil }

-- ---- a number of the header, after what was taken before

record Piece (most last : ℕ) (front : List ℕ) : Type 0 where
  low : most < 2 ^ 40
  no_digit : is_ascii_digit last ≡ false
  some : (bytes : List ℕ) → front ++ bytes ≢ []
  never : (bytes : List ℕ) → NoNumber most last bytes → NoHead (front ++ bytes)
  moment : ℕ → ℕ
  said : ℕ → ℕ
  rest : List ℕ
  moment_within : (n : ℕ) → n ≤ most → moment n ≤ last_second
  said_within : (n : ℕ) → n ≤ most → said n ≤ most_message_length
  whole : (n : ℕ) → front ++ (decimal n ++ rest) ≡ headed (moment n) (said n) []

stops : (most last : ℕ) (passed : Passed) (place : ℕ) (front : List ℕ) (left now : Option (List ℕ)) → place ≡ passed.place → Piece most last front → passed.count < most_entries → TakesNoNumber most last left now → FindsFault passed front left now (Grammar place)
stops most last passed place front left now at piece room t = record {
  taken = t.bytes;
  consumed = t.taken;
  known = elim t.breaks [
    | inl b ↦ inl (record {
      front = front ++ b.front;
      byte = b.byte;
      split = ap (λ x. front ++ x) b.split ∙ sym (append_assoc front b.front (b.byte ∷ []));
      open_before = opens passed place (piece.moment b.begun.number) (piece.said b.begun.number) (front ++ b.front) (b.begun.more ++ piece.rest) (piece.moment_within b.begun.number b.begun.within) (piece.said_within b.begun.number b.begun.within) (append_assoc front b.front (b.begun.more ++ piece.rest) ∙ ap (λ x. front ++ x) (sym (append_assoc b.front b.begun.more piece.rest) ∙ ap (λ x. x ++ piece.rest) b.begun.whole) ∙ piece.whole b.begun.number);
      settled = λ more. subst (IsGrammar passed place) (sym (append_assoc front t.bytes more)) (bad_head passed place (front ++ (t.bytes ++ more)) at room (piece.some (t.bytes ++ more)) (piece.never (t.bytes ++ more) (b.settled more)));
    })
    | inr b ↦ inr (record {
      ended = b.ended;
      holds = bad_head passed place (front ++ t.bytes) at room (piece.some t.bytes) (piece.never t.bytes (no_number most last t.bytes piece.low piece.no_digit b.begun));
    })
  ];
}

fails : (most last : ℕ) (passed : Passed) (front : List ℕ) (left now : Option (List ℕ)) → Piece most last front → FailsInNumber most left now → FindsFault passed front left now Source
fails most last passed front left now piece t = record { taken = t.bytes; consumed = t.taken; known = no_entry passed (front ++ t.bytes) (piece.never t.bytes (no_number most last t.bytes piece.low piece.no_digit t.begun)) }

in_moment : Piece last_second 32 (64 ∷ [])
unfolding headed
in_moment = record {
  low = omega arith;
  no_digit = refl;
  some = λ bytes e. cc;
  never = no_head_moment;
  moment = λ n. n;
  said = λ n. 0;
  rest = 32 ∷ (decimal 0 ++ 10 ∷ []);
  moment_within = λ n h. h;
  said_within = λ n h. omega arith;
  whole = λ n. refl;
}

in_length : (moment : ℕ) → moment ≤ last_second → Piece most_message_length 10 (64 ∷ (decimal moment ++ 32 ∷ []))
in_length moment within = record {
  low = omega arith;
  no_digit = refl;
  some = λ bytes e. cc;
  never = λ bytes. no_head_length moment bytes within;
  moment = λ n. moment;
  said = λ n. n;
  rest = 10 ∷ [];
  moment_within = λ n h. within;
  said_within = λ n h. h;
  whole = λ n. headed_parts moment n [];
}

pub moment_stops : (passed : Passed) (place : ℕ) (left now : Option (List ℕ)) → place ≡ passed.place → passed.count < most_entries → TakesNoNumber last_second 32 left now → FindsFault passed (64 ∷ []) left now (Grammar place)
moment_stops passed place left now at room t = stops last_second 32 passed place (64 ∷ []) left now at in_moment room t

pub moment_fails : (passed : Passed) (left now : Option (List ℕ)) → FailsInNumber last_second left now → FindsFault passed (64 ∷ []) left now Source
moment_fails passed left now t = fails last_second 32 passed (64 ∷ []) left now in_moment t

pub length_stops : (passed : Passed) (place moment : ℕ) (left now : Option (List ℕ)) → place ≡ passed.place → moment ≤ last_second → passed.count < most_entries → TakesNoNumber most_message_length 10 left now
    → FindsFault passed (64 ∷ (decimal moment ++ 32 ∷ [])) left now (Grammar place)
length_stops passed place moment left now at within room t = stops most_message_length 10 passed place (64 ∷ (decimal moment ++ 32 ∷ [])) left now at (in_length moment within) room t

pub length_fails : (passed : Passed) (moment : ℕ) (left now : Option (List ℕ)) → moment ≤ last_second → FailsInNumber most_message_length left now → FindsFault passed (64 ∷ (decimal moment ++ 32 ∷ [])) left now Source
length_fails passed moment left now within t = fails most_message_length 10 passed (64 ∷ (decimal moment ++ 32 ∷ [])) left now (in_length moment within) t

-- ---- the whole header

pub backward : (passed : Passed) (place moment said : ℕ) (left now : Option (List ℕ)) → place ≡ passed.place → passed.count < most_entries → moment ≤ last_second → said ≤ most_message_length → moment < passed.moment
    → Consumes left now (decimal said ++ 10 ∷ []) → FindsFault passed (64 ∷ (decimal moment ++ 32 ∷ [])) left now (Backward place)
backward passed place moment said left now at room m s below c =
    let front = 64 ∷ (decimal moment ++ 32 ∷ []) in
    record {
      taken = decimal said ++ 10 ∷ [];
      consumed = c;
      known = inl (record {
        front = front ++ decimal said;
        byte = 10;
        split = sym (append_assoc front (decimal said) (10 ∷ []));
        open_before = λ all. no_end passed moment said m s (all []).backward;
        settled = λ more. record {
          at = at;
          room = room;
          backward = record {
            moment = moment;
            said = said;
            behind = more;
            text = append_assoc front (decimal said ++ 10 ∷ []) more ∙ ap (λ x. front ++ x) (append_assoc (decimal said) (10 ∷ []) more) ∙ headed_parts moment said more;
            moment_within = m;
            length_within = s;
            below = below;
          };
        };
      });
    }

pub header_goes_on : (passed : Passed) (moment said : ℕ) (left mid now : Option (List ℕ)) (r : Result (Option Entry) LogFault) → Consumes left mid (decimal said ++ 10 ∷ []) → Finds passed (headed moment said []) mid now r
    → Finds passed (64 ∷ (decimal moment ++ 32 ∷ [])) left now r
header_goes_on passed moment said left mid now r c f =
    goes_on passed (64 ∷ (decimal moment ++ 32 ∷ [])) (decimal said ++ 10 ∷ []) left mid now r c (λ e. cc) (subst (λ x. Finds passed x mid now r) (sym (headed_parts moment said [])) f)

-- ---- the message

whole_head : (moment said : ℕ) (bytes : List ℕ) → headed moment said [] ++ bytes ≡ headed moment said bytes
whole_head moment said bytes = headed_append moment said [] bytes

pub short : (passed : Passed) (place moment said : ℕ) (left now : Option (List ℕ)) → place ≡ passed.place → passed.count < most_entries → moment ≤ last_second → said ≤ most_message_length → passed.moment ≤ moment
    → TakesFewer said left now → IsAtEnd now → FindsFault passed (headed moment said []) left now (Grammar place)
short passed place moment said left now at room m s forward t end = record {
  taken = t.bytes;
  consumed = t.taken;
  known = inr (record {
    ended = end;
    holds = subst (IsGrammar passed place) (sym (whole_head moment said t.bytes)) (record {
      at = at;
      room = room;
      some = headed_some moment said t.bytes;
      not_backward = not_backward passed moment said t.bytes m s forward;
      no_entry = short_entry passed moment said t.bytes m s t.fewer;
    });
  });
}

pub message_fails : (passed : Passed) (moment said : ℕ) (left now : Option (List ℕ)) (fault : ReadFault) → moment ≤ last_second → said ≤ most_message_length → MessageStops said left now fault
    → FindsFault passed (headed moment said []) left now (fault_of_read fault)
message_fails passed moment said left now ReadSource m s t = record { taken = t.bytes; consumed = t.taken; known = subst (NoEntry passed) (sym (whole_head moment said t.bytes)) (short_entry passed moment said t.bytes m s t.fewer) }
message_fails passed moment said left now ReadMemory m s t = record { taken = t.bytes; consumed = t.taken; known = tt }

pub found : (passed : Passed) (call : Entry) (moment said number : ℕ) (message : List ℕ) (left now : Option (List ℕ)) → call ≡ record { number = number + 1; moment = moment; message = message } → number ≡ passed.number → passed.count < most_entries
    → moment ≤ last_second → said ≤ most_message_length → passed.moment ≤ moment → length message ≡ said → Consumes left now message → FindsEntry passed (headed moment said []) left now call
found passed call moment said number message left now e n room m s forward size c =
    let Found : Entry → Type 0 = λ x. FindsEntry passed (headed moment said []) left now x in
    subst Found (sym e) (record {
      next = record { room = room; numbered = ap (λ x. x + 1) n; not_backward = forward; moment_within = m; length_within = omega (arith, size, s) };
      taken = message;
      consumed = c;
      whole = whole_head moment said message ∙ ap (λ x. headed moment x message) (sym size);
    })

-- ---- what goes on

pub moment_goes_on : (passed : Passed) (moment : ℕ) (left mid now : Option (List ℕ)) (r : Result (Option Entry) LogFault) → Consumes left mid (decimal moment ++ 32 ∷ []) → Finds passed (64 ∷ (decimal moment ++ 32 ∷ [])) mid now r
    → Finds passed (64 ∷ []) left now r
moment_goes_on passed moment left mid now r c f = goes_on passed (64 ∷ []) (decimal moment ++ 32 ∷ []) left mid now r c (λ e. cc) f
