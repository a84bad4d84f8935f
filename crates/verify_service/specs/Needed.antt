-- Which chains the calls of a round need and aren't held: each once, in the order in which their x5u first appears
-- (this project's own rule).
use Rattle.std.specs.Prelude.{◌≡◌, ℕ, Bool, not, ◌&&◌, List, [], ◌∷◌, ◌++◌, map, filter, is_some, Option, Some, None}
use Rattle.std.specs.Prelude.{if◌then◌else◌}
use Rattle.std.specs.List.{list_any}
use Rattle.std.specs.Str.{bytes_eq}
use Rattle.call_log.specs.Entry.{Entry}
use Rattle.cert_store.specs.ChainMap.{listed}
use Rattle.cert_store.specs.Files.{Files}
use Rattle.cert_store.specs.Holding.{Chains, chain_of, touched}
use Rattle.verify_rules.specs.Call.{Call, Reading, in_call_order}
use Rattle.verify_rules.specs.Rules.{early_rules, first}
use Rattle.verify_rules.specs.declared.refusal.Refusal.{Refusal}
use Rattle.verify_rules.specs.declared.settings.Settings.{Settings}
use Rattle.verify_service.specs.Judging.{call_in}
use Rattle.verify_service.specs.declared.screening.ReadyCall.{ReadyCall}
use Rattle.verify_service.specs.declared.screening.Screening.{Screening}
use Rattle.verify_service.specs.declared.screening.Screening.TheVariants.{Open, Refused, Passed}

-- ---- the x5u texts that calls name

abbrev pub x5u_of : Reading → List ℕ
x5u_of one = one.passport.x5u

-- those of these PASSporTs, in turn
abbrev pub x5us : List Reading → List (List ℕ)
x5us readings = map x5u_of readings

abbrev pub named_unless : Option Refusal → Call → List (List ℕ)
named_unless None call = x5us (in_call_order call)
named_unless (Some refused) call = []

-- those of the PASSporTs of a call that the rules of the call don't refuse, in the order in which it went
unfoldable pub named_in : Call → List (List ℕ)
named_in call = named_unless (first early_rules call) call

-- those of calls, in turn
abbrev pub named : Settings → List Entry → List (List ℕ)
named settings [] = []
named settings (entry ∷ entries) = named_in (call_in settings entry) ++ named settings entries

-- the same of calls that were screened
abbrev pub named_by : Screening → List (List ℕ)
named_by Open = []
named_by (Refused refused) = []
named_by (Passed screened) = x5us screened.readings

abbrev pub all_named : List ReadyCall → List (List ℕ)
all_named [] = []
all_named (call ∷ calls) = named_by call.screening ++ all_named calls

-- ---- those whose chains have to be read

-- a file is listed for it, and its chain isn't held
abbrev pub is_needed : Files → Chains → List ℕ → Bool
is_needed files held x5u = is_some (listed files x5u) && not (is_some (chain_of x5u held))

abbrev pub needed : Files → Chains → List (List ℕ) → List (List ℕ)
needed files held texts = filter (is_needed files held) texts

-- each of them once, after those that were found before
abbrev pub once : List (List ℕ) → List (List ℕ) → List (List ℕ)
once found [] = found
once found (x ∷ xs) = if list_any (bytes_eq x) found then once found xs else once (found ++ x ∷ []) xs

-- the texts of a round whose calls name these
abbrev pub round_texts : Files → Chains → List (List ℕ) → List (List ℕ)
round_texts files held texts = once [] (needed files held texts)

-- a list begins with another
pub record BeginsWith (first all : List (List ℕ)) : Type 0 where
  pub others : List (List ℕ)
  pub all_are : all ≡ first ++ others

-- ---- those whose chains are held

-- each of them is used, in turn
abbrev pub touch_all : List (List ℕ) → Chains → Chains
touch_all [] held = held
touch_all (x ∷ xs) held = touch_all xs (touched x held)
