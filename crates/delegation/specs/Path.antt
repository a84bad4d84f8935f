-- Paths of certificates, from the leaf up to a trust anchor (RFC 5280, section 6.1). A chain is a list of
-- certificates, the leaf first, and each next one is to be the issuer of the one before it.
use Rattle.std.specs.Prelude.{◌≡◌, ℕ, suc, ◌+◌, ◌-◌, ◌<◌, nat_lt, Bool, true, false, List, [], ◌∷◌, length, Option}
use Rattle.std.specs.Prelude.{Some, None, Result, Ok, Err, if◌then◌else◌}
use Rattle.std.specs.List.{list_any, slice_get}
use Rattle.std.specs.Str.{bytes_eq}
use Rattle.lists.specs.Steps.{◌>>=◌}
use Rattle.x509_profile.specs.View.{CertView}
use Rattle.delegation.specs.declared.fault.PathFault.{PathFault}
use Rattle.delegation.specs.Usage.{may_certify, may_sign}

-- a fault of this kind at this certificate; the leaf is 1
abbrev pub fault_at : ℕ → ℕ → PathFault
fault_at kind place = record { kind = kind; place = place }

-- there may be so many certificates between this one and the leaf
abbrev pub is_long_enough : Option ℕ → ℕ → Bool
is_long_enough None between = true
is_long_enough (Some most) between = if nat_lt most between then false else true

-- two key identifiers are one, if both are given
abbrev pub agree : Option (List ℕ) → Option (List ℕ) → Bool
agree (Some a) (Some b) = bytes_eq a b
agree (Some a) None = true
agree None b = true

-- an anchor fits if it may be the issuer of the last of n certificates
abbrev pub fits : ℕ → CertView → CertView → Bool
fits n last anchor =
    if bytes_eq anchor.subject last.issuer
    then (if is_long_enough anchor.path_length (n - 1) then agree anchor.subject_key last.authority_key else false)
    else false

-- ---- a path

-- a certificate is one of the anchors, byte for byte
abbrev pub is_listed : CertView → List CertView → Bool
is_listed c anchors = list_any (λ anchor. bytes_eq anchor.whole c.whole) anchors

-- The anchor of the last of n certificates: none if that certificate is itself an anchor, and else the number of the
-- first anchor that fits.
abbrev pub IsAnchor : ℕ → CertView → List CertView → Option ℕ → Type 0
IsAnchor n last anchors None = is_listed last anchors ≡ true
IsAnchor n last anchors (Some i) =
    (is_listed last anchors ≡ false)
    × (anchor : CertView) × (slice_get anchors i ≡ Some anchor) × (fits n last anchor ≡ true)
    × ((j : ℕ) (other : CertView) → j < i → slice_get anchors j ≡ Some other → fits n last other ≡ false)

-- Certificate i is the issuer of the one before it, certificate i - 1: its subject is that one's issuer, byte for byte,
-- it may certify others, and so many may be between it and the leaf.
pub record Issues (i : ℕ) (c below : CertView) : Type 0 where
  pub names : c.subject ≡ below.issuer
  pub issuer : may_certify c ≡ true
  pub length : is_long_enough c.path_length (i - 2) ≡ true

-- The chain is a path up to this anchor. Places in the list count from 0, so the first certificate above the leaf is
-- certificate 2 and is at place 1.
pub record Path (chain anchors : List CertView) (anchor : Option ℕ) : Type 0 where
  pub leaf : CertView
  pub last : CertView
  -- how many certificates are below the last
  pub below : ℕ
  pub is_leaf : slice_get chain 0 ≡ Some leaf
  pub count : length chain ≡ suc below
  pub is_last : slice_get chain below ≡ Some last
  pub leaf_use : may_sign leaf ≡ true
  pub issued : (i : ℕ) (c b : CertView) → slice_get chain (suc i) ≡ Some c
      → slice_get chain i ≡ Some b → Issues (2 + i) c b
  pub anchored : IsAnchor (suc below) last anchors anchor

-- the certificate above a path: its anchor, or the last certificate if that is itself an anchor
abbrev pub anchor_of : List CertView → List CertView → Option ℕ → Option CertView
anchor_of chain anchors None = slice_get chain (length chain - 1)
anchor_of chain anchors (Some i) = slice_get anchors i

-- The issuer of certificate i of a path: certificate i + 1, and of the last the certificate above the path.
abbrev pub issuer_of : List CertView → List CertView → Option ℕ → ℕ → Option CertView
issuer_of chain anchors anchor i =
    if nat_lt i (length chain) then slice_get chain i else anchor_of chain anchors anchor

-- ---- the path's anchor, or the first fault

-- certificate i, if it is the issuer of the one before it
unfoldable pub link_at : ℕ → CertView → CertView → Result CertView PathFault
link_at i below c =
    if bytes_eq c.subject below.issuer
    then (if may_certify c
    then (if is_long_enough c.path_length (i - 2) then Ok c else Err (fault_at 4 i))
    else Err (fault_at 3 i))
    else Err (fault_at 2 i)

-- the last certificate, if those from i on are each the issuer of the one before it
unfoldable pub last_of : ℕ → CertView → List CertView → Result CertView PathFault
last_of i below [] = Ok below
last_of i below (c ∷ above) = link_at i below c >>= λ c. last_of (suc i) c above

-- the number of the first that fits; the first of these has number i
unfoldable pub first_from : (CertView → Bool) → ℕ → List CertView → Option ℕ
first_from test i [] = None
first_from test i (c ∷ cs) = if test c then Some i else first_from test (suc i) cs

-- the first that fits, or a fault
abbrev pub some_anchor : ℕ → Option ℕ → Result (Option ℕ) PathFault
some_anchor n (Some i) = Ok (Some i)
some_anchor n None = Err (fault_at 5 n)

-- the anchor of the last of n certificates
unfoldable pub find_anchor : ℕ → CertView → List CertView → Result (Option ℕ) PathFault
find_anchor n last anchors =
    if is_listed last anchors then Ok None else some_anchor n (first_from (fits n last) 0 anchors)

-- Faults are tried in this order: no certificate; the leaf's key may not sign; from the second certificate
-- on, its subject isn't the issuer before it, it may not certify, too many are below it; no anchor.
unfoldable pub shape_of : List CertView → List CertView → Result (Option ℕ) PathFault
shape_of [] anchors = Err (fault_at 1 0)
shape_of (leaf ∷ above) anchors =
    if may_sign leaf
    then (last_of 2 leaf above >>= λ last. find_anchor (suc (length above)) last anchors)
    else Err (fault_at 6 1)
