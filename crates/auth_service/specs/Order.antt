-- What is to be signed, by which key, and for whom (RFC 8224, section 4.1; RFC 8225, sections 5 and 7; RFC 8588,
-- section 4; RFC 8946, section 4).
use Rattle.std.specs.Prelude.{◌≡◌, ◌↔◌, ℕ, Bool, ◌&&◌, nat_le, List, Option, Some, None}
use Rattle.std.specs.Borrow.{Bor}
use Rattle.text_grammar.specs.Moment.{last_second}
use Rattle.text_grammar.specs.Uri.{is_uri}
use Rattle.tn_auth_list.specs.declared.entries.Entry.{Entry}
use Rattle.tn_values.specs.Local.{LocalView}
use Rattle.delegation.specs.Coverage.{Table}
use Rattle.passport_claims.specs.Form.{form_kind}
use Rattle.passport_claims.specs.Made.{has_origid}
use Rattle.passport_claims.specs.declared.form.Form.{Form}
use Rattle.passport_claims.specs.declared.form.Form.TheVariants as forms
use Rattle.passport_claims.specs.declared.kind.Kind.{Kind}
use Rattle.passport_claims.specs.declared.kind.Kind.TheVariants as kinds
use Rattle.auth_service.specs.declared.order.DivertOrder.{DivertOrder}
use Rattle.auth_service.specs.declared.order.Holder.{Holder}
use Rattle.auth_service.specs.declared.order.SignOrder.{SignOrder}
use Rattle.auth_service.specs.declared.wanted.Shape.{Shape}
use Rattle.auth_service.specs.declared.wanted.Shape.TheVariants as shapes
use Rattle.auth_service.specs.declared.wanted.Wanted.{Wanted}

-- how the PASSporT is written, in full with its type or compact; the name of the key, the URI of its certificates, when
-- it is issued in Unix seconds, and the local numbering
pub record OrderView : Type 0 where
  pub shape : Shape
  pub key : List ℕ
  pub x5u : List ℕ
  pub iat : ℕ
  pub local : LocalView

-- the type of the PASSporT: none in the compact form
abbrev pub kind_of : Shape → Kind
kind_of (shapes.Full kind) = kind
kind_of shapes.Compact = kinds.Base

abbrev pub shape_of : Form → Shape
shape_of forms.Base = shapes.Full kinds.Base
shape_of forms.Compact = shapes.Compact
shape_of (forms.Shaken level origid) = shapes.Full (kinds.Shaken level origid)

-- What is signed is in this form: of the form's type, and compact exactly if the form is (RFC 8225, section 7).
pub record IsInForm (form : Form) (shape : Shape) : Type 0 where
  pub kind : kind_of shape ≡ form_kind form
  pub compact : (shape ≡ shapes.Compact) ↔ (form ≡ forms.Compact)

-- of the origin of a call, in the order's form
abbrev pub order_of : SignOrder → OrderView
order_of order = record {
  shape = shape_of order.form;
  key = order.key.now;
  x5u = order.x5u.now;
  iat = order.iat;
  local = order.local;
}

abbrev pub shape_of_diversion : List ℕ → Shape
shape_of_diversion earlier = shapes.Full (kinds.Div earlier)

-- of a diversion, by the number that was called before it
abbrev pub divert_order_of : DivertOrder → OrderView
divert_order_of order = record {
  shape = shape_of_diversion order.earlier;
  key = order.key.now;
  x5u = order.x5u.now;
  iat = order.iat;
  local = order.local;
}

-- of what either of the two wants
abbrev pub wanted_of : Wanted → OrderView
wanted_of order =
    record { shape = order.shape; key = order.key.now; x5u = order.x5u.now; iat = order.iat; local = order.local }

-- what can be signed: the URI is one of a certificate, the second is none past the year 9999, and the identifier of the
-- call, if the type has one, is a UUID in 36 characters
abbrev pub is_order : OrderView → Bool
is_order order = is_uri order.x5u && nat_le order.iat last_second && has_origid (kind_of order.shape)

-- ---- the holder of the key

-- the entries of the authority list of its certificate, and what the codes among them stand for
pub record HolderView : Type 0 where
  pub entries : List Entry
  pub table : Table

abbrev pub holder_of : Holder → HolderView
holder_of holder = record { entries = holder.list.now; table = holder.table.now }

abbrev pub holder_seen : Option (Bor Holder) → Option HolderView
holder_seen None = None
holder_seen (Some holder) = Some (holder_of holder.now)
