-- How contracts see a certificate and its parts.
use Rattle.std.specs.Prelude.{ℕ, ℤ, Bool, false, List, Option, Some, None, Result, Ok, Err}
use Rattle.claim_constraints.specs.Constraints.{ConstraintsView}
use Rattle.tn_auth_list.specs.declared.entries.Entry.{Entry}

-- an answer whose value is seen so
abbrev pub seen : {X Y E : Type 0} → (X → Y) → Result X E → Result Y E
seen view (Ok value) = Ok (view value)
seen view (Err fault) = Err fault

-- an extension: its OID, whether it is critical, and its content
pub record ExtensionView : Type 0 where
  pub oid : List ℕ
  pub critical : Bool
  pub value : List ℕ

-- basic constraints (RFC 5280, section 4.2.1.9)
pub record BasicView : Type 0 where
  pub is_ca : Bool
  pub path_length : Option ℕ

-- what the extensions of the profile say, each if it is there
pub record Values : Type 0 where
  pub basic : Option BasicView
  pub usage : Option ℕ
  pub subject_key : Option (List ℕ)
  -- the inner option is that of the identifier
  pub authority : Option (Option (List ℕ))
  pub list : Option (List Entry)
  pub constraints : Option ConstraintsView

abbrev pub no_values : Values
no_values = record { basic = None; usage = None; subject_key = None; authority = None; list = None; constraints = None }

-- the first and the last second at which a certificate is valid, in Unix time
pub record ValidityView : Type 0 where
  pub not_before : ℤ
  pub not_after : ℤ

-- a signed part
pub record TbsView : Type 0 where
  pub issuer : List ℕ
  pub validity : ValidityView
  pub subject : List ℕ
  pub key : List ℕ
  pub extensions : Values

-- the signed part of these names, this validity and key, with what its extensions say
abbrev pub tbs_with : List ℕ → ValidityView → List ℕ → List ℕ → Values → TbsView
tbs_with issuer validity subject key values =
    record { issuer = issuer; validity = validity; subject = subject; key = key; extensions = values }

-- a certificate
pub record CertView : Type 0 where
  -- all its bytes
  pub whole : List ℕ
  -- the names, as whole elements
  pub subject : List ℕ
  pub issuer : List ℕ
  -- the first and the last second at which it is valid, in Unix time
  pub not_before : ℤ
  pub not_after : ℤ
  -- the point of the key: the byte 04, and 32 bytes each of x and y
  pub key : List ℕ
  -- the SHA-256 of the signed part, the whole element
  pub digest : List ℕ
  -- the numbers r and s, 32 bytes each
  pub signature : List ℕ
  pub is_ca : Bool
  pub path_length : Option ℕ
  -- bit i of the BIT STRING as bit i
  pub usage : Option ℕ
  pub subject_key : Option (List ℕ)
  pub authority_key : Option (List ℕ)
  -- the telephone numbers that the holder may speak for
  pub list : Option (List Entry)
  -- what it demands of the claims of a PASSporT that is judged under it
  pub constraints : Option ConstraintsView

-- whether basic constraints say that the key may sign certificates
abbrev pub says_ca : Option BasicView → Bool
says_ca (Some basic) = basic.is_ca
says_ca None = false

-- the path length in basic constraints
abbrev pub path_length_of : Option BasicView → Option ℕ
path_length_of (Some basic) = basic.path_length
path_length_of None = None

-- the identifier of the issuer's key, if the extension is there and has one
abbrev pub identifier_in_values : Option (Option (List ℕ)) → Option (List ℕ)
identifier_in_values (Some key) = key
identifier_in_values None = None

-- the certificate of these bytes, of which these are the signed part, its SHA-256, and the signature
abbrev pub view_of : List ℕ → TbsView → List ℕ → List ℕ → CertView
view_of all tbs digest signature = record {
  whole = all;
  subject = tbs.subject;
  issuer = tbs.issuer;
  not_before = tbs.validity.not_before;
  not_after = tbs.validity.not_after;
  key = tbs.key;
  digest = digest;
  signature = signature;
  is_ca = says_ca tbs.extensions.basic;
  path_length = path_length_of tbs.extensions.basic;
  usage = tbs.extensions.usage;
  subject_key = tbs.extensions.subject_key;
  authority_key = identifier_in_values tbs.extensions.authority;
  list = tbs.extensions.list;
  constraints = tbs.extensions.constraints;
}
