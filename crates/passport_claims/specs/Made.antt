-- What a PASSporT is made of, and when it is refused (the limits are this project's own).
use Rattle.std.specs.Prelude.{ℕ, Bool, true, ◌&&◌, not, nat_le, nat_lt, List, length, Result, Ok, Err, if◌then◌else◌}
use Rattle.std.specs.Option.{option_map_or}
use Rattle.text_grammar.specs.Moment.{last_second}
use Rattle.text_grammar.specs.Uri.{is_uri}
use Rattle.passport_claims.specs.Kind.{origid_in, ppt_of}
use Rattle.passport_claims.specs.Origid.{is_origid}
use Rattle.passport_claims.specs.Passport.{ClaimsView, most_called}
use Rattle.passport_claims.specs.declared.fault.ClaimFault.{ClaimFault}
use Rattle.passport_claims.specs.declared.fault.ClaimFault.TheVariants as faults
use Rattle.passport_claims.specs.declared.kind.Kind.{Kind}

-- some are called, and no more than the type allows
abbrev pub is_called_count : Kind → ℕ → Bool
is_called_count kind count = nat_le 1 count && nat_le count (most_called (ppt_of kind))

-- the identifier of the call, if the type has one, is a UUID in 36 characters
abbrev pub has_origid : Kind → Bool
has_origid kind = option_map_or is_origid (origid_in kind) true

-- the PASSporT of these parts, or the first part that is refused: the URI, the time, how many are called, the
-- identifier
unfoldable pub made : Kind → List ℕ → ℕ → List ℕ → List (List ℕ) → Result ClaimsView ClaimFault
made kind x5u iat orig dest =
    if not (is_uri x5u) then Err faults.X5u
    else if nat_lt last_second iat then Err faults.Iat
    else if not (is_called_count kind (length dest)) then Err faults.Dest
    else if not (has_origid kind) then Err faults.Origid
    else Ok (record { kind = kind; x5u = x5u; iat = iat; orig = orig; dest = dest })
