-- Elements by what they say: names, values, and claims with their values.
use Rattle.std.specs.Prelude.{◌≡◌, ℕ, Bool, true, List}
use Rattle.der_reader.specs.Elem.{Elem}
use Rattle.der_reader.specs.Tags.{sequence_tag}
use Rattle.claim_constraints.specs.Constraints.{PermitView, is_permit}
use Rattle.claim_constraints.specs.ConstraintsText.{itself, permit_content}
use Rattle.claim_constraints.specs.Form.{passes, tag_of}
use Rattle.claim_constraints.specs.declared.form.Form.{Form}

-- the bytes are the element of this tag whose content says this, which passes the test
pub record Says {X : Type 0} (tag : ℕ) (content : X → List ℕ) (good : X → Bool) (bytes : List ℕ) (x : X) : Type 0 where
  pub elem : Elem bytes tag (content x)
  pub is_good : good x ≡ true

-- a name or a value
abbrev pub FormText : Form → List ℕ → List ℕ → Type 0
FormText form = Says (tag_of form) itself (passes form)

-- an entry: a claim's name and its values
abbrev pub PermitText : List ℕ → PermitView → Type 0
PermitText = Says sequence_tag permit_content is_permit
