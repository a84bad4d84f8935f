-- The reader hands out the log one by one: each answer, said of all the bytes that were left.
use Rattle.std.specs.Prelude.{◌≡◌, ℕ, ◌≤◌, List, [], ◌∷◌, ◌++◌, length, Option, Some, None, Result, Ok, Err, ⊤}
use Rattle.call_log.specs.Entry.{Entry}
use Rattle.call_log.specs.Fault.{IsBackward, IsGrammar, IsMany}
use Rattle.call_log.specs.Log.{AreCalls, LogText, Passed, after, entry_texts}
use Rattle.call_log.specs.declared.fault.LogFault.{LogFault}
use Rattle.call_log.specs.declared.fault.LogFault.TheVariants.{Grammar, Backward, Many, Source, Memory}

-- the call comes before all calls of the log that is left
pub record HandsCall (passed : Passed) (bytes : List ℕ) (left_now : Option (List ℕ)) (call : Entry) : Type 0 where
  pub behind : List ℕ
  pub left : left_now ≡ Some behind
  pub goes_on : (others : List Entry) (rest : List ℕ) → LogText (after passed call) behind others rest
      → LogText passed bytes (call ∷ others) rest

-- no call comes before the fault
pub record HandsFault (passed : Passed) (bytes : List ℕ) (Has : List ℕ → Type 0) : Type 0 where
  pub log : LogText passed bytes [] bytes
  pub has : Has bytes

abbrev pub HandsNone : Passed → List ℕ → LogFault → Type 0
HandsNone passed bytes (Grammar place) = HandsFault passed bytes (IsGrammar passed place)
HandsNone passed bytes (Backward place) = HandsFault passed bytes (IsBackward passed place)
HandsNone passed bytes (Many place) = HandsFault passed bytes (IsMany passed place)
HandsNone passed bytes Source = ⊤
HandsNone passed bytes Memory = ⊤

abbrev pub HandsOut : Passed → List ℕ → Option (List ℕ) → Result (Option Entry) LogFault → Type 0
HandsOut passed bytes left_now (Ok (Some call)) = HandsCall passed bytes left_now call
HandsOut passed bytes left_now (Ok None) = LogText passed bytes [] []
HandsOut passed bytes left_now (Err fault) = HandsNone passed bytes fault

-- the same if it is known what was left
abbrev pub HandsOutOf : Passed → Option (List ℕ) → Option (List ℕ) → Result (Option Entry) LogFault → Type 0
HandsOutOf passed None left_now result = ⊤
HandsOutOf passed (Some bytes) left_now result = HandsOut passed bytes left_now result

-- bytes are one log
abbrev pub OneLog : Type 0
OneLog = (passed : Passed) (bytes : List ℕ) (calls others : List Entry) (rest behind : List ℕ)
    → LogText passed bytes calls rest → LogText passed bytes others behind → (calls ≡ others) × (rest ≡ behind)

-- no longer list of calls is that of the log
abbrev pub NoLongerLog : Type 0
NoLongerLog = (passed : Passed) (bytes : List ℕ) (calls others : List Entry) (rest behind : List ℕ)
    → LogText passed bytes calls rest → AreCalls passed others → bytes ≡ entry_texts others ++ behind
    → length others ≤ length calls
