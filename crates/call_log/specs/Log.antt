-- The text of a call log: entries one after the other, whose moments don't fall (this project's own format).
use Rattle.std.specs.Prelude.{◌≡◌, ℕ, ◌+◌, ◌<◌, ◌≤◌, List, [], ◌∷◌, ◌++◌, length}
use Rattle.call_log.specs.Entry.{Entry, entry_text, most_entries, most_message_length}
use Rattle.text_grammar.specs.Moment.{last_second}

-- how far a log was read: the number and the moment of the last entry, how many entries, and the offset of the byte
-- after them
pub record Passed : Type 0 where
  pub number : ℕ
  pub moment : ℕ
  pub count : ℕ
  pub place : ℕ

-- nothing was read of a log that goes on from this number and this moment
abbrev pub start : ℕ → ℕ → Passed
start number moment = record { number = number; moment = moment; count = 0; place = 0 }

-- one more entry was read
abbrev pub after : Passed → Entry → Passed
after passed call = record {
  number = call.number;
  moment = call.moment;
  count = passed.count + 1;
  place = passed.place + length (entry_text call);
}

-- the call may come next in the log
pub record IsNext (passed : Passed) (call : Entry) : Type 0 where
  pub room : passed.count < most_entries
  pub numbered : call.number ≡ passed.number + 1
  pub not_backward : passed.moment ≤ call.moment
  pub moment_within : call.moment ≤ last_second
  pub length_within : length call.message ≤ most_message_length

-- the calls may come next, one after the other
abbrev pub AreCalls : Passed → List Entry → Type 0
AreCalls passed [] = Unit {0}
AreCalls passed (call ∷ others) = IsNext passed call × AreCalls (after passed call) others

abbrev pub after_all : Passed → List Entry → Passed
after_all passed [] = passed
after_all passed (call ∷ others) = after_all (after passed call) others

-- the bytes of the entries
abbrev pub entry_texts : List Entry → List ℕ
entry_texts [] = []
entry_texts (call ∷ others) = entry_text call ++ entry_texts others

-- the bytes don't begin with an entry that may come next
abbrev pub NoEntry : Passed → List ℕ → Type 0
NoEntry passed bytes = (call : Entry) (behind : List ℕ) → IsNext passed call → bytes ≡ entry_text call ++ behind → ⊥

-- the bytes are the entries of the calls and then the rest, and they begin with no further entry
pub record LogText (passed : Passed) (bytes : List ℕ) (calls : List Entry) (rest : List ℕ) : Type 0 where
  pub text : bytes ≡ entry_texts calls ++ rest
  pub follow : AreCalls passed calls
  pub longest : NoEntry (after_all passed calls) rest
