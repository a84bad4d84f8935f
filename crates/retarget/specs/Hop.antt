-- Where a call goes on, and by which key its diversion is signed (RFC 8946, section 4).
use Rattle.std.specs.Prelude.{ℕ, Bool, ◌&&◌, nat_le, List, Option, None, if◌then◌else◌}
use Rattle.text_grammar.specs.Moment.{last_second}
use Rattle.text_grammar.specs.Uri.{is_uri}
use Rattle.tn_values.specs.Local.{LocalView}
use Rattle.sip_message.specs.Address.{uri_number}
use Rattle.sip_message.specs.HeadAlphabet.{is_target}
use Rattle.auth_service.specs.Order.{OrderView, shape_of_diversion}
use Rattle.retarget.specs.declared.hop.Hop.{Hop}

-- the request URI of the message that goes on, the name of the key, the URI of its certificates, when it is signed in
-- Unix seconds, and how numbers are read
pub record HopView : Type 0 where
  pub target : List ℕ
  pub key : List ℕ
  pub x5u : List ℕ
  pub iat : ℕ
  pub local : LocalView

abbrev pub hop_of : Hop → HopView
hop_of hop = record { target = hop.target.now; key = hop.key.now; x5u = hop.x5u.now; iat = hop.iat; local = hop.local }

-- the URI of the certificates is one, and the second isn't after the year 9999
abbrev pub is_hop : HopView → Bool
is_hop hop = is_uri hop.x5u && nat_le hop.iat last_second

-- the number of the target (RFC 3261, section 19.1.6; RFC 3966, section 3), if the target can be written in a start
-- line
abbrev pub next_number : HopView → Option (List ℕ)
next_number hop = if is_target hop.target then uri_number hop.target hop.local else None

-- what is signed: a diversion from the number that was called before
abbrev pub diversion : HopView → List ℕ → OrderView
diversion hop earlier =
    record { shape = shape_of_diversion earlier; key = hop.key; x5u = hop.x5u; iat = hop.iat; local = hop.local }
