-- What a round reads and asks, and how long it holds what it judged.
use Rattle.std.specs.Prelude.{◌≡◌, ℕ, ◌+◌, ◌≤◌, ◌||◌, true, false, not, List, [], ◌∷◌, filter, length, is_some, Option}
use Rattle.std.specs.Prelude.{Some}
use Rattle.call_log.specs.Entry.{Entry}
use Rattle.cert_store.specs.Asking.{is_failed}
use Rattle.cert_store.specs.ChainMap.{listed}
use Rattle.cert_store.specs.Files.{Files}
use Rattle.cert_store.specs.Holding.{Chains, Holding, chain_of}
use Rattle.cert_store.specs.Judged.{JudgedView}
use Rattle.cert_store.specs.Rules.{Says}
use Rattle.cert_store.specs.Using.{AreAmong, HeldUnless, IsOnce, has, names}
use Rattle.cert_store.specs.declared.world.World.{World as Materials}
use Rattle.stir_outside.specs.Count.{AtMost}
use Rattle.stir_outside.specs.Files.{Files as ShelfFiles}
use Rattle.verify_rules.specs.States.{have}
use Rattle.verify_rules.specs.declared.settings.Settings.{Settings}
use Rattle.call_judging.specs.Chains.{IsRightWhere}
use Rattle.verify_service.specs.Needed.{named, round_texts}

-- how many of these texts have no chain that is held
abbrev pub unheld : List (List ℕ) → List (List ℕ) → ℕ
unheld texts held = length (filter (λ x5u. not (has x5u held)) texts)

-- They are at most 4,096; each x5u text that these calls name and for which a file is listed is one of them, and so is
-- each whose chain is held.
pub record AreTexts (settings : Settings) (files : Files) (entries : List Entry)
    (held texts : List (List ℕ)) : Type 0 where
  pub few : length texts ≤ 4096
  pub named : (x5u : List ℕ) → has x5u (named settings entries) ≡ true
      → is_some (listed files x5u) ≡ true → has x5u texts ≡ true
  pub held_among : AreAmong held texts

-- At most as many files were read as more of these are held now; and the held ones are among them.
pub record ReadOnce (texts held held_now : List (List ℕ)) (reads reads_now : ℕ) : Type 0 where
  pub fewer : reads_now + unheld texts held_now ≤ reads + unheld texts held
  pub among : AreAmong held_now texts

-- the same of all such texts
abbrev pub ReadsFew : Settings → Files → List Entry → List (List ℕ) → List (List ℕ) → ℕ → ℕ → Type 0
ReadsFew settings files entries held held_now reads reads_now =
    (texts : List (List ℕ)) → AreTexts settings files entries held texts → ReadOnce texts held held_now reads reads_now

-- ---- what a round reads and asks

-- how many certificates these chains have
abbrev pub certificates_in : Chains → ℕ
certificates_in [] = 0
certificates_in (entry ∷ entries) = length entry.1.certificates + certificates_in entries

-- each of these texts that a file is listed for, or whose chain is held, is one of those that are used
abbrev pub AreUsed : Files → Chains → List (List ℕ) → List (List ℕ) → Type 0
AreUsed files held texts used = (x5u : List ℕ) → has x5u texts ≡ true
    → (is_some (listed files x5u) || is_some (chain_of x5u held)) ≡ true → has x5u used ≡ true

-- Of the chains that were judged, a worker's provider was asked at most for the certificates of those of the worker's
-- texts; and for each PASSporT of its calls, which name these.
pub record HasAsked (judged : Chains) (texts named_texts : List (List ℕ)) (asks asks_now : ℕ) : Type 0 where
  pub most : asks_now ≤ asks + (certificates_in (filter (λ entry. has entry.0 texts) judged) + length named_texts)

-- The chains that a round judged, by x5u: each of a text that its calls name, that is listed and whose chain wasn't
-- held; and each is right. As many files were read in the round as there are chains, no more and no fewer, and none is
-- the chain of a text whose file couldn't be read. Each of which every question was answered is held from then on,
-- unless 4,096 others were used since. `Asked` is what is said of the workers' providers.
pub record HasJudged (told : Option ShelfFiles) (materials : Materials) (says : Says)
    (named_texts unread : List (List ℕ)) (held held_now : Holding) (reads reads_now : ℕ)
    (Asked : Chains → Type 0) : Type 0 where
  pub judged : Chains
  pub once : IsOnce (names judged)
  pub among : AreAmong (names judged) (round_texts materials.chains held.entries named_texts)
  pub right : (x5u : List ℕ) (one : JudgedView) → chain_of x5u judged ≡ Some one
      → IsRightWhere told materials says x5u (have one)
  pub read : reads_now ≤ reads + length judged
  pub counted : AtMost (length judged) reads reads_now
  pub apart : (x5u : List ℕ) → has x5u unread ≡ true → has x5u (names judged) ≡ false
  pub asked : Asked judged
  pub kept : (x5u : List ℕ) (one : JudgedView) → chain_of x5u judged ≡ Some one → is_failed one.asked ≡ false
      → (used : List (List ℕ)) → AreUsed materials.chains held.entries named_texts used
      → HeldUnless 4096 used x5u held_now.entries

-- a chain that is held stays so, unless 4,096 others were used since its last use
pub record StaysHeld (files : Files) (named_texts : List (List ℕ)) (held held_now : Holding) : Type 0 where
  pub stays : (used : List (List ℕ)) (x5u : List ℕ) → AreUsed files held.entries named_texts used
      → HeldUnless 4096 used x5u held.entries → HeldUnless 4096 used x5u held_now.entries
