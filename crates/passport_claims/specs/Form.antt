-- In which form the PASSporT of a call's origin is signed: without a type, in full or compact (RFC 8225, section 7), or
-- `shaken` (RFC 8588).
use Rattle.passport_claims.specs.declared.form.Form.{Form}
use Rattle.passport_claims.specs.declared.form.Form.TheVariants as forms
use Rattle.passport_claims.specs.declared.kind.Kind.{Kind}
use Rattle.passport_claims.specs.declared.kind.Kind.TheVariants as kinds

-- the type of the PASSporT: none in the compact form
abbrev pub form_kind : Form → Kind
form_kind forms.Base = kinds.Base
form_kind forms.Compact = kinds.Base
form_kind (forms.Shaken level origid) = kinds.Shaken level origid
