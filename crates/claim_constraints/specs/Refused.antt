-- Bytes that are no constraints, and their first fault: what is wrong with the first of their elements with which
-- anything is, of a kind of `ConstraintFault`. This is this project's own rule.
use Rattle.std.specs.Prelude.{◌≡◌, ◌⊎◌, ⊤, ℕ, ◌+◌, ◌≤◌, true, List, ◌∷◌, ◌++◌, length, Result, Ok, Err}
use Rattle.der_reader.specs.declared.part.Fault.{Fault}
use Rattle.der_reader.specs.Broken.{Behind, First, IsTagged, LeftOver, Unless, Within}
use Rattle.der_reader.specs.Each.{OneAfterAnother}
use Rattle.der_reader.specs.Elem.{Elem}
use Rattle.der_reader.specs.Part.{ItemView, PartView, at_kind, whole_text}
use Rattle.der_reader.specs.Tags.{sequence_tag}
use Rattle.claim_constraints.specs.declared.fault.ConstraintFault.{ConstraintFault}
use Rattle.claim_constraints.specs.declared.fault.ConstraintFault.TheVariants.{At, Memory}
use Rattle.claim_constraints.specs.declared.form.Form.{Form}
use Rattle.claim_constraints.specs.declared.form.Form.TheVariants.{Name, Value}
use Rattle.claim_constraints.specs.Constraints.{ConstraintsView, IsConstraints}
use Rattle.claim_constraints.specs.ConstraintsText.{must_tag, parts_text, permits_tag}
use Rattle.claim_constraints.specs.Elements.{FormText, PermitText}
use Rattle.claim_constraints.specs.Form.{kind_of, passes, tag_of}

-- ---- what elements have to be

-- a SEQUENCE that isn't empty
abbrev pub IsFilled : ItemView → Type 0
IsFilled sequence = 1 ≤ length sequence.content.left

-- an IA5String that is a name, or a UTF8String that is a value
abbrev pub IsOfForm : Form → ItemView → Type 0
IsOfForm form string = passes form string.content.left ≡ true

-- the content is some of these, one after another
abbrev pub AreAll : {X : Type 0} → (List ℕ → X → Type 0) → List ℕ → Type 0
AreAll Text content = (xs : List _) × OneAfterAnother Text xs content

-- the bytes are a SEQUENCE of these, of which there is one at least
pub record SomeText {X : Type 0} (Text : List ℕ → X → Type 0) (bytes : List ℕ) (xs : List X) : Type 0 where
  pub content : List ℕ
  pub elem : Elem bytes sequence_tag content
  pub some : 1 ≤ length content
  pub each : OneAfterAnother Text xs content

abbrev pub AreSome : {X : Type 0} → (List ℕ → X → Type 0) → List ℕ → Type 0
AreSome Text bytes = (xs : List _) × SomeText Text bytes xs

-- the content is the two parts of constraints
abbrev pub AreParts : List ℕ → Type 0
AreParts content = (c : ConstraintsView) × IsConstraints c × (content ≡ parts_text c)

-- the bytes begin with this tag
abbrev pub BeginsBy : ℕ → List ℕ → Type 0
BeginsBy tag bytes = (rest : List ℕ) × (bytes ≡ tag ∷ rest)

-- ---- what is wrong with them

-- nothing is
abbrev pub Nothing : ItemView → Fault → Type 0
Nothing item fault = ⊥

-- a name: an IA5String, else kind 1, of 1 to 64 visible bytes, else kind 3; or a value: a UTF8String, else kind 1, of
-- UTF-8, else kind 4
abbrev pub WrongText : Form → ItemView → Fault → Type 0
WrongText form = Unless (IsTagged (tag_of form)) 1 (Unless (IsOfForm form) (kind_of form) Nothing)

-- after some that are right more bytes follow, and their first element is wrong
pub record WrongAfter {X : Type 0} (Text : List ℕ → X → Type 0) (Wrong : ItemView → Fault → Type 0) (part : PartView)
    (fault : Fault) : Type 0 where
  pub before : List X
  pub front : List ℕ
  pub rest : List ℕ
  pub split : part.left ≡ front ++ rest
  pub each : OneAfterAnother Text before front
  pub some : 1 ≤ length rest
  pub wrong : First Wrong (record { left = rest; place = part.place + length front }) fault

-- a SEQUENCE, else kind 1, that isn't empty, else kind 2, of such elements, and nothing after it
abbrev pub WrongSome : {X : Type 0} → (List ℕ → X → Type 0) → (ItemView → Fault → Type 0) → PartView → Fault → Type 0
WrongSome Text Wrong = First (Unless (IsTagged sequence_tag) 1
    (Unless IsFilled 2 (Within (WrongAfter Text Wrong) (AreAll Text) (Behind LeftOver))))

-- in an entry: a name, and a SEQUENCE of one value or more
abbrev pub WrongPermit : PartView → Fault → Type 0
WrongPermit = First (Unless (IsTagged (tag_of Name)) 1
    (Unless (IsOfForm Name) (kind_of Name) (Behind (WrongSome (FormText Value) (WrongText Value)))))

-- an entry: a SEQUENCE, else kind 1, that isn't empty, else kind 2
abbrev pub WrongEntry : ItemView → Fault → Type 0
WrongEntry = Unless (IsTagged sequence_tag) 1 (Unless IsFilled 2 (λ entry. WrongPermit entry.content))

-- A part that may be absent: the bytes begin with its tag, and its element isn't a SEQUENCE of one or more of these, or
-- it is and this is wrong after it; or they don't begin so, and this is wrong with them.
abbrev pub WrongPart : {X : Type 0} → ℕ → (List ℕ → X → Type 0) → (ItemView → Fault → Type 0)
    → (PartView → Fault → Type 0) → PartView → Fault → Type 0
WrongPart tag Text Wrong Next part fault = (BeginsBy tag part.left
    × First (Unless (IsTagged tag) 1 (Within (WrongSome Text Wrong) (AreSome Text) (Behind Next))) part fault)
    ⊎ ((BeginsBy tag part.left → ⊥) × Next part fault)

-- the names of the claims that must be there, then the entries of those with values, and nothing more
abbrev pub WrongParts : PartView → Fault → Type 0
WrongParts = WrongPart must_tag (FormText Name) (WrongText Name) (WrongPart permits_tag PermitText WrongEntry LeftOver)

-- the bytes are no constraints, which are one SEQUENCE that isn't empty and nothing after it, and this is their first
-- fault
abbrev pub Refused : List ℕ → Fault → Type 0
Refused bytes = First (Unless (IsTagged sequence_tag) 1
    (Unless IsFilled 2 (Within WrongParts AreParts (Behind LeftOver)))) (whole_text bytes)

-- an answer other than constraints and `Memory` is the first fault of the bytes
abbrev pub IsRefused : {A : Type 0} → List ℕ → Result A ConstraintFault → Type 0
IsRefused bytes (Ok constraints) = ⊤
IsRefused bytes (Err (At kind place)) = Refused bytes (at_kind kind place)
IsRefused bytes (Err Memory) = ⊤
