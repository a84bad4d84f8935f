-- What an answers file says, as it is kept: its triples, and its signatures by what they sign, in no order that a
-- contract names.
use Rattle.std.specs.Prelude.{◌≡◌, ℕ, Bool, ◌&&◌, List, Option, Some, None, Ok, if◌then◌else◌}
use Rattle.std.specs.List.{list_any}
use Rattle.std.specs.Map.{lookup}
use Rattle.std.specs.Str.{bytes_eq}
use Rattle.stir_outside.specs.AnswersText.{says, signs, is_repeated, add_row, answer_rows}
use Rattle.stir_outside.specs.KeyName.{is_name}
use Rattle.stir_outside.specs.declared.answers.held.AnswerFault.{AnswerFault}
use Rattle.stir_outside.specs.declared.answers.held.AnswerFault.TheVariants.{Line, Memory}
use Rattle.lists.specs.Given.{IsFaultOf}
use Rattle.text_grammar.specs.Rows as file
use Rattle.stir_outside.specs.declared.answers.rows.Triple.{Triple}
use Rattle.stir_outside.specs.declared.answers.rows.Order.{Order}
use Rattle.stir_outside.specs.declared.answers.rows.Row.{Row}

pub record Held : Type 0 where
  pub triples : List Triple
  pub signatures : List (Order × List ℕ)

abbrev pub same_triple : Triple → Triple → Bool
same_triple a b = bytes_eq a.key b.key && (bytes_eq a.digest b.digest && bytes_eq a.signature b.signature)

abbrev pub same_order : Order → Order → Bool
same_order a b = bytes_eq a.name b.name && bytes_eq a.digest b.digest

-- this signature over this digest is held as good under this key
abbrev pub held_says : Held → List ℕ → List ℕ → List ℕ → Bool
held_says held key digest signature =
    list_any (same_triple (record { key = key; digest = digest; signature = signature })) held.triples

abbrev pub held_for : Held → List ℕ → List ℕ → Option (List ℕ)
held_for held name digest = lookup (same_order (record { name = name; digest = digest })) held.signatures

-- the signature that is held for this name and digest; there is none for a text that is no name of a key
abbrev pub held_signs : Held → List ℕ → List ℕ → Option (List ℕ)
held_signs held name digest = if is_name name then held_for held name digest else None

-- the text is an answers file, and what is held is what its rows say
pub record AnswersOf (text : List ℕ) (held : Held) : Type 0 where
  pub rows : List Row
  pub read : answer_rows text ≡ Ok rows
  pub says : held_says held ≡ says rows
  pub signs : held_signs held ≡ signs rows

-- the line of a fault, and None if memory ran out
abbrev pub line_of : AnswerFault → Option ℕ
line_of (Line number) = Some number
line_of Memory = None

-- the fault names the first bad line
abbrev pub FaultOf : List ℕ → AnswerFault → Type 0
FaultOf text fault = IsFaultOf (line_of fault) (answer_rows text)

-- each look-up gives what the rows read so far say
pub record HoldsRows (rows : List Row) (held : Held) : Type 0 where
  pub says : (key digest signature : List ℕ) → held_says held key digest signature ≡ says rows key digest signature
  pub signs : (name digest : List ℕ) → held_for held name digest ≡ signs rows name digest

-- a row was added, or it repeats one
abbrev pub Adds : Held → Held → Row → Bool → Type 0
Adds = file.Adds is_repeated HoldsRows

-- a line was added, or it is bad
abbrev pub AddsLine : Held → Held → List ℕ → Bool → Type 0
AddsLine = file.AddsLine add_row HoldsRows

-- the rows read so far are held, and the lines that are left lead on from them to what the whole text gives
abbrev pub Reached : List ℕ → List (ℕ × List ℕ) → Held → Type 0
Reached text lines held = file.Reached add_row HoldsRows (answer_rows text) lines held
