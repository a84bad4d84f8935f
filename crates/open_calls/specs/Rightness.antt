-- A world of the rules that leads to the chains that were given, and whose provider says what the host said of them.
use Rattle.std.specs.Prelude.{◌≡◌, ⊤, ℕ, List, [], ◌∷◌, Option, Some, None}
use Rattle.cert_store.specs.Questions.{AgreeOn}
use Rattle.cert_store.specs.Rules.{QuestionView, Says}
use Rattle.open_calls.specs.Confirmed.{confirmed, says_by}
use Rattle.verify_rules.specs.Call.{Reading}
use Rattle.verify_rules.specs.World.{World, content_of}
use Rattle.open_calls.specs.OpenCalls.{CallView, judged_in, x5u_in}
use Rattle.open_calls.specs.OpenChains.{GivenChain, chain_asked}
use Rattle.open_calls.specs.Worlds.{WorldView}

-- a provider says of these questions what the host said: yes to those that it confirmed, and no to the others
abbrev pub SaysAsTold : Says → List QuestionView → List ℕ → Type 0
SaysAsTold says questions good = AgreeOn says (says_by (confirmed questions good)) questions

-- the x5u leads to the bytes of the chain (RFC 7515, section 4.1.5), of whose questions the provider says what the host
-- said; or to none
abbrev pub LeadsTo : World → WorldView → List ℕ → Option GivenChain → Type 0
LeadsTo rules world x5u None = content_of rules x5u ≡ None
LeadsTo rules world x5u (Some one) =
    (content_of rules x5u ≡ Some one.bytes) × SaysAsTold rules.says (chain_asked world one.bytes) one.good

abbrev pub AllLead : World → WorldView → List Reading → List (Option GivenChain) → Type 0
AllLead rules world [] [] = ⊤
AllLead rules world [] (one ∷ given) = ⊥
AllLead rules world (reading ∷ readings) [] = ⊥
AllLead rules world (reading ∷ readings) (one ∷ given) =
    LeadsTo rules world (x5u_in reading) one × AllLead rules world readings given

-- The anchors and the codes are those of the world under which all was opened. Each PASSporT's x5u leads to what was
-- given for it. And the provider says what the host said of the chains' questions, and of the PASSporTs' own.
pub record IsWorldFor (rules : World) (world : WorldView) (call : CallView) (given : List (Option GivenChain))
    (own : List QuestionView) (good : List ℕ) : Type 0 where
  pub anchors_are : rules.anchors ≡ world.anchors
  pub table_is : rules.table ≡ world.table
  pub chains_are : AllLead rules world (judged_in call) given
  pub own_are : SaysAsTold rules.says own good
