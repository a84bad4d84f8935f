-- The one DER text of constraints (after RFC 8226, section 8, in the encoding of X.690, section 10; the form is this
-- project's own).
use Rattle.std.specs.Prelude.{◌≡◌, ℕ, ◌<◌, List, [], ◌∷◌, ◌++◌, length}
use Rattle.der_reader.specs.Elem.{element_text}
use Rattle.der_reader.specs.Tags.{ia5_string_tag, sequence_tag}
use Rattle.claim_constraints.specs.Constraints.{ConstraintsView, IsConstraints, PermitView}
use Rattle.claim_constraints.specs.Form.{utf8_string_tag}

-- the tags [0] and [1] of the two parts
abbrev pub must_tag : ℕ
must_tag = 0xA0

abbrev pub permits_tag : ℕ
permits_tag = 0xA1

-- the elements of this tag with these contents, one after another
abbrev pub elements : {X : Type 0} → ℕ → (X → List ℕ) → List X → List ℕ
elements tag content [] = []
elements tag content (x ∷ others) = element_text tag (content x) ++ elements tag content others

-- names as IA5Strings, and values as UTF8Strings (section 8.23)
abbrev pub itself : List ℕ → List ℕ
itself text = text

abbrev pub names_text : List (List ℕ) → List ℕ
names_text names = elements ia5_string_tag itself names

abbrev pub values_text : List (List ℕ) → List ℕ
values_text values = elements utf8_string_tag itself values

-- in the SEQUENCE of an entry: the claim's name, and the SEQUENCE of its values
abbrev pub permit_content : PermitView → List ℕ
permit_content permit =
    element_text ia5_string_tag permit.claim ++ element_text sequence_tag (values_text permit.values)

-- a part is a SEQUENCE in an element of the part's tag; one of nothing is left out
abbrev pub part_text : {X : Type 0} → ℕ → ℕ → (X → List ℕ) → List X → List ℕ
part_text mark tag content [] = []
part_text mark tag content (x ∷ others) =
    element_text mark (element_text sequence_tag (elements tag content (x ∷ others)))

-- mustInclude [0] and permittedValues [1]
abbrev pub must_part : List (List ℕ) → List ℕ
must_part names = part_text must_tag ia5_string_tag itself names

abbrev pub permits_part : List PermitView → List ℕ
permits_part permits = part_text permits_tag sequence_tag permit_content permits

abbrev pub parts_text : ConstraintsView → List ℕ
parts_text c = must_part c.must ++ permits_part c.permits

-- the SEQUENCE of the two parts
unfoldable pub constraints_text : ConstraintsView → List ℕ
constraints_text c = element_text sequence_tag (parts_text c)

-- The bytes are the one DER text of the constraints, of which an element's content is at most 65,535 bytes.
pub record ConstraintsText (bytes : List ℕ) (c : ConstraintsView) : Type 0 where
  pub form : IsConstraints c
  pub size : length (parts_text c) < 65536
  pub is : bytes ≡ constraints_text c
