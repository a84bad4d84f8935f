-- How often a run over rounds of calls reads files of certificates (this project's own rule).
use Rattle.std.specs.Prelude.{◌≡◌, ℕ, ◌+◌, ◌≤◌, true, List, length, is_some, Option}
use Rattle.call_log.specs.Entry.{Entry}
use Rattle.call_log.specs.Log.{Passed}
use Rattle.cert_store.specs.ChainMap.{listed}
use Rattle.cert_store.specs.Files.{Files as ChainFiles}
use Rattle.cert_store.specs.Using.{has}
use Rattle.log_run.specs.Reading.{CallsRead}
use Rattle.verify_rules.specs.declared.settings.Settings.{Settings}
use Rattle.verify_service.specs.Needed.{named}

-- They are at most 4,096, and each x5u text that the calls name and for which a file is listed is one of them.
pub record HaveNamed (settings : Settings) (chains : ChainFiles) (calls : List Entry)
    (texts : List (List ℕ)) : Type 0 where
  pub few : length texts ≤ 4096
  pub named : (x5u : List ℕ) → has x5u (named settings calls) ≡ true
      → is_some (listed chains x5u) ≡ true → has x5u texts ≡ true

-- Whichever these texts are, files were read at most as often as there are texts.
abbrev pub ReadsNamed : Settings → ChainFiles → List Entry → ℕ → ℕ → Type 0
ReadsNamed settings chains calls reads reads_now = (texts : List (List ℕ)) → HaveNamed settings chains calls texts
    → reads_now ≤ reads + length texts

-- These are calls with which the log begins, and files were read for no others, whatever ended the run.
pub record ReadsFirst (settings : Settings) (chains : ChainFiles) (passed : Passed) (left : Option (List ℕ))
    (reads reads_now : ℕ) : Type 0 where
  pub calls : List Entry
  pub first : CallsRead passed left calls
  pub few : ReadsNamed settings chains calls reads reads_now
