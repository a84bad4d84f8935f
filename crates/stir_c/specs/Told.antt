-- What a call to the library says, in the numbers that C sees.
use Rattle.std.specs.Prelude.{◌≡◌, ℕ, List, Option, Some, None, replicate}
use Rattle.call_judging.specs.Judging.{IsKnownBy}
use Rattle.verify_rules.specs.Call.{Call}
use Rattle.verify_rules.specs.Code.{code_of}
use Rattle.verify_rules.specs.Rules.{place, refusal}
use Rattle.verify_rules.specs.World.{First, World}
use Rattle.stir_c.specs.declared.said.Said.{Said}

-- ---- the numbers

abbrev pub no_ticket : List ℕ
no_ticket = replicate 32 0

-- of this kind, and nothing else
abbrev pub plain : ℕ → ℕ → Said
plain kind input = record {
  kind = kind;
  input = input;
  rule = 0;
  code = 0;
  field = 0;
  part = 0;
  last = 0;
  size = 0;
  ticket = no_ticket;
}

-- the input of this number is bad; if there is none, memory ran out
abbrev pub said_by_input : Option ℕ → Said
said_by_input (Some input) = plain 2 input
said_by_input None = plain 3 0

abbrev pub no_room : ℕ → Said
no_room size =
    record { kind = 4; input = 0; rule = 0; code = 0; field = 0; part = 0; last = 0; size = size; ticket = no_ticket }

-- ---- what they tell of a call

-- it breaks none of the rules of the call and the chains, and is known again by this ticket up to this second
pub record Passed (world : World) (call : Call) (said : Said) : Type 0 where
  pub none : First world call ≡ None
  pub known : IsKnownBy call said.ticket said.last

-- it breaks this rule first, there; and the rule has this code
pub record Broken (world : World) (call : Call) (said : Said) : Type 0 where
  pub first : First world call ≡ Some (refusal said.rule (place said.field said.part))
  pub code_is : said.code ≡ code_of said.rule

-- Of kind 0 the call passes; of kind 1 it breaks a rule.
pub record Tells (world : World) (call : Call) (said : Said) : Type 0 where
  pub passes : said.kind ≡ 0 → Passed world call said
  pub breaks : said.kind ≡ 1 → Broken world call said
