-- What is to be signed of a message, as it is handed in, and what it is read as.
use Rattle.std.specs.Prelude.{◌≡◌, ℕ, ◌==◌, List, [], Option, Some, None, IsTrue, if◌then◌else◌}
use Rattle.std.specs.Option.{option_map}
use Rattle.auth_service.specs.Order.{OrderView, divert_order_of, is_order, order_of, shape_of, shape_of_diversion}
use Rattle.passport_claims.specs.Origid.{is_origid}
use Rattle.passport_claims.specs.declared.form.Form.{Form}
use Rattle.passport_claims.specs.declared.form.Form.TheVariants as forms
use Rattle.passport_claims.specs.declared.kind.Attest.{Attest}
use Rattle.passport_claims.specs.declared.kind.Attest.TheVariants as attests
use Rattle.tn_values.specs.Local.{LocalView}
use Rattle.tn_values.specs.Number.{exact}
use Rattle.open_calls.specs.declared.order.Order.{Order}
use Rattle.open_calls.specs.declared.order.Order.TheVariants as orders
use Rattle.open_calls.specs.declared.wanted.Wanted.{Wanted}
use Rattle.open_calls.specs.declared.wanted.Wanted.TheVariants as wanted

-- Where the call of a message comes from (RFC 8224, section 4.1): the second of signing in Unix time, the number of the
-- form, the identifier of the call and the URI of the certificates. Or that the message goes to another number than
-- before (RFC 8946, section 4.1): the second, the earlier number and the URI.
pub data Given : Type 0 where
  origin : (iat form : ℕ) (origid x5u : List ℕ) → Given
  diversion : (iat : ℕ) (earlier x5u : List ℕ) → Given

abbrev pub given_of : Order → Given
given_of (orders.Origin iat form origid x5u) = origin iat form origid.now x5u.now
given_of (orders.Diversion iat earlier x5u) = diversion iat earlier.now x5u.now

-- ---- the form

-- `shaken` (RFC 8588) with a UUID in 36 characters
abbrev pub shaken_of : Attest → List ℕ → Option Form
shaken_of attest origid = if is_origid origid then Some (forms.Shaken attest origid) else None

-- 0 without a type, 1 compact (RFC 8225, section 7), and for `shaken` the letter of the attestation
abbrev pub form_of : ℕ → List ℕ → Option Form
form_of number origid = if number == 0 then Some forms.Base else if number == 1 then Some forms.Compact
    else if number == 65 then shaken_of attests.A origid else if number == 66 then shaken_of attests.B origid
    else if number == 67 then shaken_of attests.C origid else None

-- ---- the order: who asks for a signature knows the key, so it has no name

abbrev pub origin_by : ℕ → List ℕ → LocalView → Form → OrderView
origin_by iat x5u local form = record { shape = shape_of form; key = []; x5u = x5u; iat = iat; local = local }

-- of the type `div` with the earlier number
abbrev pub diversion_by : ℕ → List ℕ → LocalView → List ℕ → OrderView
diversion_by iat x5u local earlier =
    record { shape = shape_of_diversion earlier; key = []; x5u = x5u; iat = iat; local = local }

-- in this form; or from the earlier number, 1 to 15 bytes of digits, `*` and `#`
abbrev pub order_in : Given → LocalView → Option OrderView
order_in (origin iat form origid x5u) local = option_map (origin_by iat x5u local) (form_of form origid)
order_in (diversion iat earlier x5u) local = option_map (diversion_by iat x5u local) (exact earlier)

-- what is handed in is this order, and it can be signed
pub record IsOrderOf (given : Given) (local : LocalView) (order : OrderView) : Type 0 where
  pub read : order_in given local ≡ Some order
  pub valid : IsTrue (is_order order)

abbrev pub IsNoOrder : Given → LocalView → Type 0
IsNoOrder given local = (order : OrderView) → IsOrderOf given local order → ⊥

-- what the authentication service is asked to sign
abbrev pub wanted_of : Wanted → OrderView
wanted_of (wanted.Origin order) = order_of order
wanted_of (wanted.Diversion order) = divert_order_of order

-- it is read as this order; or it is none
abbrev pub IsReadAs : Given → LocalView → Option Wanted → Type 0
IsReadAs given local (Some one) = IsOrderOf given local (wanted_of one)
IsReadAs given local None = IsNoOrder given local
