-- The two forms of texts in constraints.
use Rattle.std.specs.Prelude.{ℕ, Bool, List}
use Rattle.std.specs.Str.{is_utf8}
use Rattle.der_reader.specs.Tags.{ia5_string_tag}
use Rattle.claim_constraints.specs.Constraints.{is_name}
use Rattle.claim_constraints.specs.declared.form.Form.{Form}
use Rattle.claim_constraints.specs.declared.form.Form.TheVariants.{Name, Value}

-- a UTF8String (X.690, section 8.23)
abbrev pub utf8_string_tag : ℕ
utf8_string_tag = 0x0C

abbrev pub tag_of : Form → ℕ
tag_of Name = ia5_string_tag
tag_of Value = utf8_string_tag

abbrev pub kind_of : Form → ℕ
kind_of Name = 3
kind_of Value = 4

abbrev pub passes : Form → List ℕ → Bool
passes Name text = is_name text
passes Value text = is_utf8 text
