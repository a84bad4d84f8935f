-- What reading constraints gives: them, or the first fault in byte order.
use Rattle.std.specs.Prelude.{ℕ, ◌==◌, nat_le, Bool, false, List, [], ◌∷◌, ◌++◌, length, Result, Ok, Err, if◌then◌else◌}
use Rattle.lists.specs.Steps.{◌>>=◌}
use Rattle.der_reader.specs.declared.part.Fault.{Fault}
use Rattle.der_reader.specs.Each.{each_in}
use Rattle.der_reader.specs.Part.{ItemView, PartView, at_kind, element_at, end_at, item_at, part_of, whole_text}
use Rattle.der_reader.specs.declared.part.Part.{Part}
use Rattle.der_reader.specs.Tags.{sequence_tag}
use Rattle.claim_constraints.specs.Constraints.{ConstraintsView, PermitView, permit_of}
use Rattle.claim_constraints.specs.ConstraintsText.{must_tag, permits_tag}
use Rattle.claim_constraints.specs.Form.{kind_of, passes, tag_of}
use Rattle.claim_constraints.specs.declared.form.Form.{Form}
use Rattle.claim_constraints.specs.declared.form.Form.TheVariants.{Name, Value}

-- the element, if it has this tag; another is a fault where it begins
abbrev pub tagged : ℕ → ItemView → Result ItemView Fault
tagged tag item = if item.tag == tag then Ok item else Err (at_kind 1 item.place)

-- the text of an element of this form
unfoldable pub text_of : Form → ItemView → Result (List ℕ) Fault
text_of form item = do
  string ← tagged (tag_of form) item
  if passes form string.content.left then Ok string.content.left else Err (at_kind (kind_of form) string.place)

-- a text more
unfoldable pub text_with : Form → List (List ℕ) → ItemView → Result (List (List ℕ)) Fault
text_with form texts item = text_of form item >>= λ text. Ok (texts ++ text ∷ [])

-- the content of a SEQUENCE, which isn't empty
abbrev pub filled : ItemView → Result PartView Fault
filled sequence = if nat_le 1 (length sequence.content.left) then Ok sequence.content
    else Err (at_kind 2 sequence.place)

abbrev pub part_view : Result Part Fault → Result PartView Fault
part_view (Ok part) = Ok (part_of part)
part_view (Err fault) = Err fault

-- what the elements of a SEQUENCE come to from this start on; there is one at least
unfoldable pub some_in : {S : Type 0} → (S → ItemView → Result S Fault) → S → ItemView → Result S Fault
some_in step start sequence = filled sequence >>= λ content. each_in step start content

-- a claim and its values
unfoldable pub permit_in : PartView → Result PermitView Fault
permit_in part = do
  name ← item_at part
  claim ← text_with Name [] name
  sequence ← element_at sequence_tag name.behind
  texts ← some_in (text_with Value) claim sequence
  end_at sequence.behind (permit_of texts)

-- a claim with its values more
unfoldable pub permit_with : List PermitView → ItemView → Result (List PermitView) Fault
permit_with permits item = do
  sequence ← tagged sequence_tag item
  content ← filled sequence
  permit ← permit_in content
  Ok (permits ++ permit ∷ [])

-- ---- the two parts

-- the bytes begin with this tag
abbrev pub begins : ℕ → List ℕ → Bool
begins tag [] = false
begins tag (first ∷ rest) = first == tag

-- the element with this tag around one SEQUENCE of such elements, and what comes after it
unfoldable pub marked_in : {X : Type 0} → ℕ → (List X → ItemView → Result (List X) Fault) → PartView
    → Result (List X × PartView) Fault
marked_in tag step part = do
  marked ← element_at tag part
  sequence ← element_at sequence_tag marked.content
  each ← some_in step [] sequence
  end_at sequence.behind (each, marked.behind)

-- the same, if it is there
unfoldable pub optional_in : {X : Type 0} → ℕ → (List X → ItemView → Result (List X) Fault) → PartView
    → Result (List X × PartView) Fault
optional_in tag step part = if begins tag part.left then marked_in tag step part else Ok ([], part)

-- the parts, of which the SEQUENCE isn't empty
unfoldable pub parts_in : PartView → Result ConstraintsView Fault
parts_in part = do
  must ← optional_in must_tag (text_with Name) part
  permits ← optional_in permits_tag permit_with must.1
  end_at permits.1 (record { must = must.0; permits = permits.0 })

-- the constraints that the bytes are, or their first fault
unfoldable pub read_constraints : List ℕ → Result ConstraintsView Fault
read_constraints bytes = do
  sequence ← element_at sequence_tag (whole_text bytes)
  content ← filled sequence
  constraints ← parts_in content
  end_at sequence.behind constraints
