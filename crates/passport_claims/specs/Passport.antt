-- What a PASSporT says (RFC 8225, sections 4 and 5; RFC 8588, section 4; RFC 8946, section 4).
use Rattle.std.specs.Prelude.{◌≡◌, ℕ, ◌≤◌, Bool, true, false, List, length, Option, Some, None, IfSome, codes}
use Rattle.std.specs.Prelude.{if◌then◌else◌}
use Rattle.std.specs.List.{list_all}
use Rattle.std.specs.Option.{option_map}
use Rattle.std.specs.Str.{bytes_eq}
use Rattle.tn_values.specs.Number.{is_number}
use Rattle.text_grammar.specs.Moment.{last_second}
use Rattle.passport_json.specs.Passport.{PassportView}
use Rattle.passport_claims.specs.Kind.{attest_text, div_in, level_in, origid_in, ppt_of}
use Rattle.passport_claims.specs.Origid.{IsOrigid}
use Rattle.passport_claims.specs.declared.kind.Kind.{Kind}

-- its type with the claims of that type, the certificate's URI, when it was issued in Unix seconds, the calling number
-- and the called ones
pub record ClaimsView : Type 0 where
  pub kind : Kind
  pub x5u : List ℕ
  pub iat : ℕ
  pub orig : List ℕ
  pub dest : List (List ℕ)

-- the members of its deterministic header and payload
abbrev pub members_of : ClaimsView → PassportView
members_of claims = record {
  ppt = ppt_of claims.kind;
  x5u = claims.x5u;
  attest = option_map attest_text (level_in claims.kind);
  dest = claims.dest;
  div = div_in claims.kind;
  iat = claims.iat;
  orig = claims.orig;
  origid = origid_in claims.kind;
}

-- ---- how many numbers may be called

abbrev pub is_text : List ℕ → Option (List ℕ) → Bool
is_text text None = false
is_text text (Some value) = bytes_eq value text

-- one in a PASSporT of type `div` (RFC 8946, section 4.1), and at most 32 in any other (this project's own limit)
abbrev pub most_called : Option (List ℕ) → ℕ
most_called ppt = if is_text (codes "div") ppt then 1 else 32

-- the same as a relation: 1 to 32 numbers, and exactly one if the type is `div`
pub record IsCalledCount (ppt : Option (List ℕ)) (count : ℕ) : Type 0 where
  pub some : 1 ≤ count
  pub few : count ≤ 32
  pub one : ppt ≡ Some (codes "div") → count ≡ 1

-- ---- what each PASSporT meets

-- the identifier of the call is one, if the type has it
abbrev pub IsKind : Kind → Type 0
IsKind kind = IfSome (origid_in kind) IsOrigid

pub record IsPassport (claims : ClaimsView) : Type 0 where
  pub iat_within : claims.iat ≤ last_second
  pub called : IsCalledCount (ppt_of claims.kind) (length claims.dest)
  pub kind_ok : IsKind claims.kind

-- its numbers are numbers: the calling one, the called ones, and the diverted one, if there is one
abbrev pub IsDiverted : Kind → Type 0
IsDiverted kind = IfSome (div_in kind) (λ number. is_number number ≡ true)

pub record AreNumbers (claims : ClaimsView) : Type 0 where
  pub orig : is_number claims.orig ≡ true
  pub dest : list_all is_number claims.dest ≡ true
  pub div : IsDiverted claims.kind
