-- What is wrong with a log that isn't whole, said of the bytes after its entries. An entry too many comes first, then
-- one whose moment falls, then any other.
use Rattle.std.specs.Prelude.{◌≡◌, ◌≢◌, ℕ, ◌<◌, ◌≤◌, List, [], ◌∷◌, ◌++◌, ⊤, ◌⊎◌, Option}
use Rattle.std.specs.Io.KnownBytes.{IsAtEnd}
use Rattle.call_log.specs.Entry.{headed, most_entries, most_message_length}
use Rattle.call_log.specs.Log.{NoEntry, Passed}
use Rattle.call_log.specs.declared.fault.LogFault.{LogFault}
use Rattle.call_log.specs.declared.fault.LogFault.TheVariants.{Grammar, Backward, Many, Source, Memory}
use Rattle.text_grammar.specs.Moment.{last_second}

-- the bytes begin with a header within its limits whose moment is below the last
pub record BeginsBackward (passed : Passed) (bytes : List ℕ) : Type 0 where
  pub moment : ℕ
  pub said : ℕ
  pub behind : List ℕ
  pub text : bytes ≡ headed moment said behind
  pub moment_within : moment ≤ last_second
  pub length_within : said ≤ most_message_length
  pub below : moment < passed.moment

-- something comes after the last entry that a log may have
pub record IsMany (passed : Passed) (place : ℕ) (bytes : List ℕ) : Type 0 where
  pub at : place ≡ passed.place
  pub full : passed.count ≡ most_entries
  pub some : bytes ≢ []

-- the next entry's moment falls
pub record IsBackward (passed : Passed) (place : ℕ) (bytes : List ℕ) : Type 0 where
  pub at : place ≡ passed.place
  pub room : passed.count < most_entries
  pub backward : BeginsBackward passed bytes

-- what comes next is no entry
pub record IsGrammar (passed : Passed) (place : ℕ) (bytes : List ℕ) : Type 0 where
  pub at : place ≡ passed.place
  pub room : passed.count < most_entries
  pub some : bytes ≢ []
  pub not_backward : BeginsBackward passed bytes → ⊥
  pub no_entry : NoEntry passed bytes

-- at its last byte, and at none before, the bytes show what holds of all that begins with them
pub record ShowsAtByte (P : List ℕ → Type 0) (bytes : List ℕ) : Type 0 where
  pub front : List ℕ
  pub byte : ℕ
  pub split : bytes ≡ front ++ byte ∷ []
  pub open_before : ((more : List ℕ) → P (front ++ more)) → ⊥
  pub settled : (more : List ℕ) → P (bytes ++ more)

-- the bytes are all there are, and it holds of them
pub record ShowsAtEnd (P : List ℕ → Type 0) (bytes : List ℕ) (left_now : Option (List ℕ)) : Type 0 where
  pub ended : IsAtEnd left_now
  pub holds : P bytes

-- it is known of the bytes taken: whatever follows them, and of no fewer; or since nothing follows
abbrev pub Shows : (List ℕ → Type 0) → List ℕ → Option (List ℕ) → Type 0
Shows P taken left_now = ShowsAtByte P taken ⊎ ShowsAtEnd P taken left_now

-- why the bytes taken after the entries stopped the reader. If the source failed, they hold no further entry; memory
-- may run out at any time
abbrev pub Knows : Passed → List ℕ → Option (List ℕ) → LogFault → Type 0
Knows passed taken left_now (Grammar place) = Shows (IsGrammar passed place) taken left_now
Knows passed taken left_now (Backward place) = Shows (IsBackward passed place) taken left_now
Knows passed taken left_now (Many place) = Shows (IsMany passed place) taken left_now
Knows passed taken left_now Source = NoEntry passed taken
Knows passed taken left_now Memory = ⊤
