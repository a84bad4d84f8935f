-- Why elements in order can't be read: the first of them, in the order in which they come, that is no element or isn't
-- as it has to be. Places count from the whole text's first byte. This is this project's own rule.
use Rattle.std.specs.Prelude.{◌≡◌, ◌⊎◌, ℕ, ◌+◌, ◌≤◌, List, [], length, Err}
use Rattle.der_reader.specs.declared.fault.DerFault.{DerFault}
use Rattle.der_reader.specs.declared.part.Fault.{Fault}
use Rattle.der_reader.specs.Elem.{BeginsWith, Element}
use Rattle.der_reader.specs.Next.{next_at}
use Rattle.der_reader.specs.Part.{ItemView, PartView, at_kind, item_in}

-- no element can be read where the part begins; the fault is as far after the part's place as in the part
pub record IsUnreadable (part : PartView) (fault : Fault) : Type 0 where
  pub broken : DerFault
  pub read : next_at part.left ≡ Err broken
  pub is : fault ≡ at_kind 1 (part.place + broken.place)

-- an element comes first in the part, and this is wrong with it or with what comes after it
pub record IsWrongFirst (Wrong : ItemView → Fault → Type 0) (part : PartView) (fault : Fault) : Type 0 where
  pub element : Element
  pub rest : List ℕ
  pub begins : BeginsWith part.left element rest
  pub wrong : Wrong (item_in part.place element rest) fault

abbrev pub First : (ItemView → Fault → Type 0) → PartView → Fault → Type 0
First Wrong part fault = IsUnreadable part fault ⊎ IsWrongFirst Wrong part fault

-- the element isn't so, which is a fault of this kind where it begins; or it is so, and this is wrong
abbrev pub Unless : (ItemView → Type 0) → ℕ → (ItemView → Fault → Type 0) → ItemView → Fault → Type 0
Unless Good kind Wrong item fault =
    ((Good item → ⊥) × (fault ≡ at_kind kind item.place)) ⊎ (Good item × Wrong item fault)

-- it has this tag
abbrev pub IsTagged : ℕ → ItemView → Type 0
IsTagged tag item = item.tag ≡ tag

-- this is wrong with what comes after the element
abbrev pub Behind : (PartView → Fault → Type 0) → ItemView → Fault → Type 0
Behind Wrong item fault = Wrong item.behind fault

-- the first element has to be so, and another is a fault of this kind where it begins; or it is so, and this is wrong
-- after it
abbrev pub Followed : (ItemView → Type 0) → ℕ → (PartView → Fault → Type 0) → PartView → Fault → Type 0
Followed Good kind Wrong = First (Unless Good kind (Behind Wrong))

-- this is wrong in the part, up to its end; or the part is so, and this is wrong elsewhere
abbrev pub Through : (PartView → Fault → Type 0) → (List ℕ → Type 0) → (Fault → Type 0) → PartView → Fault → Type 0
Through Inner Good Wrong part fault = Inner part fault ⊎ (Good part.left × Wrong fault)

-- the same of an element's content
abbrev pub Within : (PartView → Fault → Type 0) → (List ℕ → Type 0) → (ItemView → Fault → Type 0)
    → ItemView → Fault → Type 0
Within Inner Good Wrong item = Through Inner Good (Wrong item) item.content

-- bytes are left over
abbrev pub LeftOver : PartView → Fault → Type 0
LeftOver part fault = (1 ≤ length part.left) × (fault ≡ at_kind 1 part.place)

-- bytes are left over, or none are and this is wrong
abbrev pub AtEnd : (Fault → Type 0) → PartView → Fault → Type 0
AtEnd Wrong part fault = LeftOver part fault ⊎ ((part.left ≡ []) × Wrong fault)
