-- The calls of the drill, by its seed (this project's own rule).
use Rattle.std.specs.Prelude.{ℕ, zero, suc, List, [], ◌∷◌, ◌++◌, length, if◌then◌else◌}
use Rattle.call_log.specs.Entry.{Entry, headed}
use Rattle.call_log.specs.Log.{entry_texts}
use Rattle.stir_drill.specs.Change.{change_of_call, repeats}
use Rattle.stir_drill.specs.Draw.{kind_of, line_of}
use Rattle.stir_drill.specs.declared.drawn.Drawn.{Drawn}
use Rattle.stir_drill.specs.Message.{message_of, moment_of}

-- the call of this number, as it is drawn
abbrev pub drawn_at : ℕ → ℕ → Drawn
drawn_at seed number =
    record { number = number; change = change_of_call number (kind_of seed number); line = line_of seed number }

-- the message of a call: that of the call before, if it repeats it, or its own
abbrev pub message_after : Drawn → List ℕ → List ℕ
message_after call before = if repeats call.change then before else message_of call

-- the entry of a call, after this message
abbrev pub entry_of : Drawn → List ℕ → List ℕ
entry_of call before = headed (moment_of call.number) (length (message_after call before)) (message_after call before)

-- the message of the call of this number, the first being 1
unfoldable pub message_at : ℕ → ℕ → List ℕ
message_at seed zero = []
message_at seed (suc before) = message_after (drawn_at seed (suc before)) (message_at seed before)

abbrev pub call_at : ℕ → ℕ → Entry
call_at seed number = record { number = number; moment = moment_of number; message = message_at seed number }

-- the first calls, so many
unfoldable pub calls_of : ℕ → ℕ → List Entry
calls_of seed zero = []
calls_of seed (suc before) = calls_of seed before ++ call_at seed (suc before) ∷ []

-- the log of so many calls
abbrev pub log_of : ℕ → ℕ → List ℕ
log_of seed count = entry_texts (calls_of seed count)
