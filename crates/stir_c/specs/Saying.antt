-- What is said of handles and of what they hold.
use Rattle.std.specs.Prelude.{◌≡◌, ◌⊎◌, ℕ, Bool, true, false, List, length, Option, Some, None}
use Rattle.verify_rules.specs.Code.{code_of}
use Rattle.open_calls.specs.declared.found.Found.{Found}
use Rattle.open_calls.specs.declared.found.Found.TheVariants.{Refused, Passes}
use Rattle.stir_c.specs.Told.{no_room, no_ticket, plain}
use Rattle.stir_c.specs.Written.{HasWritten}
use Rattle.stir_c.specs.WrittenText.{ToldText}
use Rattle.stir_c.specs.declared.said.Said.{Said}

-- If the handle is closed that is said, and nothing else; if it is open, what is said is this of what it holds.
abbrev pub IfOpen : {V : Type 0} → Option V → (V → Type 0) → Said → Type 0
IfOpen None Says said = said ≡ plain 5 0
IfOpen (Some held) Says said = Says held

-- what was found of a call, and so many bytes are written, or so many PASSporTs are judged
abbrev pub said_found : Found → ℕ → Said
said_found (Refused refused) size = record {
  kind = 1;
  input = 0;
  rule = refused.rule;
  code = code_of refused.rule;
  field = refused.place.field;
  part = refused.place.part;
  last = 0;
  size = size;
  ticket = no_ticket;
}
said_found (Passes pass) size = record {
  kind = 0;
  input = 0;
  rule = 0;
  code = 0;
  field = 0;
  part = 0;
  last = pass.last;
  size = size;
  ticket = pass.ticket;
}

-- the same beside a text of so many bytes, which was written or not
abbrev pub found_beside : Found → ℕ → Bool → Said
found_beside found size true = said_found found size
found_beside found size false = no_room size

-- a text was written or not, and beside it what was found of a call is told
pub record ToldBeside (text : List ℕ) (found : Found) (before now : List ℕ) (said : Said) : Type 0 where
  pub written : Bool
  pub wrote : HasWritten text before now written
  pub told_is : said ≡ found_beside found (length text) written

-- a text was written or not; or there is none, and nothing is written
abbrev pub ToldMaybe : Option (List ℕ) → List ℕ → List ℕ → Said → Type 0
ToldMaybe None before now said = said ≡ plain 6 0
ToldMaybe (Some text) before now said = ToldText text before now said

-- of one of these kinds, and nothing else is said
abbrev pub IsOneOf : ℕ → ℕ → ℕ → Said → Type 0
IsOneOf a b c said = (said ≡ plain a 0) ⊎ (said ≡ plain b 0) ⊎ (said ≡ plain c 0)
