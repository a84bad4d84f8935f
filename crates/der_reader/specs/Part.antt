-- Elements one after another within the element around them, each with its place in the whole text, which counts from
-- the text's first byte: this project's own rule.
use Rattle.std.specs.Prelude.{ℕ, ◌+◌, ◌-◌, ◌==◌, List, length, Option, Some, None, Result, Ok, Err, if◌then◌else◌}
use Rattle.lists.specs.Steps.{◌>>=◌}
use Rattle.der_reader.specs.declared.fault.DerFault.{DerFault}
use Rattle.der_reader.specs.declared.part.Fault.{Fault}
use Rattle.der_reader.specs.declared.part.Part.{Part}
use Rattle.der_reader.specs.declared.part.Item.{Item}
use Rattle.der_reader.specs.declared.part.Outer.{Outer}
use Rattle.der_reader.specs.Elem.{Element, element_of}
use Rattle.der_reader.specs.Next.{next_at}

-- a fault of this kind at this place
abbrev pub at_kind : ℕ → ℕ → Fault
at_kind kind place = record { kind = kind; place = place }

-- the bytes that are left up to the end of the element around them, and the place of the first of them in the whole
-- text
pub record PartView : Type 0 where
  pub left : List ℕ
  pub place : ℕ

-- all bytes of a text
abbrev pub whole_text : List ℕ → PartView
whole_text bytes = record { left = bytes; place = 0 }

-- an element: its tag, all its bytes, its place in the whole text, its content, and what comes after it in the element
-- around it
pub record ItemView : Type 0 where
  pub tag : ℕ
  pub whole : List ℕ
  pub place : ℕ
  pub content : PartView
  pub behind : PartView

-- the element at this place, and what comes after it
abbrev pub item_in : ℕ → Element → List ℕ → ItemView
item_in place element rest = record {
  tag = element.tag;
  whole = element.whole;
  place = place;
  content = record { left = element.content; place = place + (length element.whole - length element.content) };
  behind = record { left = rest; place = place + length element.whole };
}

-- the element that a part begins with; a fault is as far after the part's place as in the part
abbrev pub item_from : ℕ → Result (Element × List ℕ) DerFault → Result ItemView Fault
item_from place (Ok found) = Ok (item_in place found.0 found.1)
item_from place (Err fault) = Err (at_kind 1 (place + fault.place))

unfoldable pub item_at : PartView → Result ItemView Fault
item_at part = item_from part.place (next_at part.left)

-- the same, if it has this tag
unfoldable pub element_at : ℕ → PartView → Result ItemView Fault
element_at tag part = do
  item ← item_at part
  if item.tag == tag then Ok item else Err (at_kind 1 item.place)

-- nothing is left over
abbrev pub end_at : {A : Type 0} → PartView → A → Result A Fault
end_at part value = if length part.left == 0 then Ok value else Err (at_kind 1 part.place)

-- a value, or the fault that there is none
abbrev pub or_fault : {A : Type 0} → Option A → Fault → Result A Fault
or_fault (Some value) fault = Ok value
or_fault None fault = Err fault

-- what is read; any fault in it becomes this one
abbrev pub or_broken : {A E : Type 0} → Result A E → Fault → Result A Fault
or_broken (Ok value) broken = Ok value
or_broken (Err fault) broken = Err broken

-- ---- what the views show

abbrev pub part_of : Part → PartView
part_of part = record { left = part.left.now; place = part.place }

-- where a part ends in the whole text
abbrev pub end_of : Part → ℕ
end_of part = part.place + length part.left.now

-- where an element's content ends in the whole text
abbrev pub content_end : Item → ℕ
content_end item = item.inside + length item.der.content.now

abbrev pub item_of : Item → ItemView
item_of item = record {
  tag = item.der.tag;
  whole = item.der.whole.now;
  place = item.place;
  content = record { left = item.der.content.now; place = item.inside };
  behind = part_of item.behind;
}

abbrev pub item_view : Result Item Fault → Result ItemView Fault
item_view (Ok item) = Ok (item_of item)
item_view (Err fault) = Err fault

abbrev pub outer_of : Outer → ItemView
outer_of outer = item_in 0 (element_of outer.der) outer.behind.now

abbrev pub outer_view : Result Outer Fault → Result ItemView Fault
outer_view (Ok outer) = Ok (outer_of outer)
outer_view (Err fault) = Err fault
