-- What comes of a call by itself: by what it is known again, and what all rules but the one on replay say of it.
use Rattle.std.specs.Prelude.{◌≡◌, ⊤, ℕ, List, [], Option, Some, None, unwrap_or}
use Rattle.cert_store.specs.Rules.{Says}
use Rattle.stir_outside.specs.Files.{Files}
use Rattle.verify_rules.specs.Call.{Call}
use Rattle.verify_rules.specs.Screened.{last_of_call, ticket_of}
use Rattle.verify_rules.specs.Signed.{IsKnownAgain}
use Rattle.verify_rules.specs.World.{World, First, MayBeUnread, MayBeUnasked}
use Rattle.verify_rules.specs.declared.verdict.Verdict.{Verdict}
use Rattle.verify_rules.specs.declared.verdict.Verdict.TheVariants as verdicts
use Rattle.call_judging.specs.Chains.{world_by}
use Rattle.call_judging.specs.declared.finding.Finding.{Finding}
use Rattle.call_judging.specs.declared.finding.Finding.TheVariants as found
use Rattle.cert_store.specs.declared.world.World.{World as Materials}

-- ---- by which a call is known again

-- its ticket, the digest of what was signed as its last PASSporT in the order in which it went; nothing if it has none
unfoldable pub ticket_or_none : Call → List ℕ
ticket_or_none call = unwrap_or (ticket_of call) []

-- the last second at which this PASSporT is fresh, in Unix time
unfoldable pub last_second : Call → ℕ
last_second call = last_of_call call

-- ---- what the rules but the one on replay say of a call, in a world

-- a call that isn't set aside is refused by the first rule that it breaks, or passes; and it is set aside only if it
-- may be
abbrev pub IsFound : World → Call → Finding → Type 0
IsFound world call (found.Refused refused) = First world call ≡ Some refused
IsFound world call (found.Unread bad) = MayBeUnread world call bad
IsFound world call (found.Unasked bad) = MayBeUnasked world call bad
IsFound world call (found.Passes pass) = First world call ≡ None

-- a verdict by the rules on chains says the same of it
abbrev pub IsOfVerdict : Verdict → Finding → Type 0
IsOfVerdict verdict (found.Refused refused) = verdict ≡ verdicts.Refused refused
IsOfVerdict verdict (found.Unread bad) = verdict ≡ verdicts.Unread bad
IsOfVerdict verdict (found.Unasked bad) = verdict ≡ verdicts.Unasked bad
IsOfVerdict verdict (found.Passes pass) = verdict ≡ verdicts.Passed

-- over the files that a shelf tells
abbrev pub IsFoundWhere : Option Files → Materials → Says → Call → Finding → Type 0
IsFoundWhere None materials says call finding = ⊤
IsFoundWhere (Some files) materials says call finding = IsFound (world_by materials files says) call finding

-- a call that passes is known again by this ticket, up to this second
pub record IsKnownBy (call : Call) (ticket : List ℕ) (last : ℕ) : Type 0 where
  pub ticket_is : ticket ≡ ticket_or_none call
  pub last_is : last ≡ last_second call

abbrev pub HasTicket : Call → Finding → Type 0
HasTicket call (found.Refused refused) = ⊤
HasTicket call (found.Unread bad) = ⊤
HasTicket call (found.Unasked bad) = ⊤
HasTicket call (found.Passes pass) = IsKnownBy call pass.ticket pass.last

-- and by what was signed as its last PASSporT, of which both are made
abbrev pub HasSigned : Call → Finding → Type 0
HasSigned call (found.Refused refused) = ⊤
HasSigned call (found.Unread bad) = ⊤
HasSigned call (found.Unasked bad) = ⊤
HasSigned call (found.Passes pass) = IsKnownAgain call
