-- The links of a diverted call (RFC 8946, section 3): its PASSporTs of type `div`, one for each diversion. A link is
-- spoken of by its number, which counts from 1 in the order of the message.
use Rattle.std.specs.Prelude.{◌≡◌, ℕ, ◌-◌, ◌≤◌, List, [], ◌∷◌, Some, codes, unwrap_or, slice_index_or, ⊤}
use Rattle.std.specs.List.{slice_get}
use Rattle.std.specs.Option.{option_map_or}
use Rattle.passport_claims.specs.Kind.{div_in, ppt_of}
use Rattle.passport_claims.specs.Passport.{ClaimsView}

-- a PASSporT of type `div`
abbrev pub IsLink : ClaimsView → Type 0
IsLink link = ppt_of link.kind ≡ Some (codes "div")

-- the number that was called before the diversion
abbrev pub div_of : ClaimsView → List ℕ
div_of link = unwrap_or (div_in link.kind) []

-- the number to which the call went then, the only one that a PASSporT of type `div` calls
abbrev pub dest_of : ClaimsView → List ℕ
dest_of link = slice_index_or link.dest 0 []

-- both, of the link with this number
unfoldable pub div_at : List ClaimsView → ℕ → List ℕ
div_at links link = option_map_or div_of (slice_get links (link - 1)) []

unfoldable pub dest_at : List ClaimsView → ℕ → List ℕ
dest_at links link = option_map_or dest_of (slice_get links (link - 1)) []

-- one of so many links has this number
pub record IsOneOf (count link : ℕ) : Type 0 where
  pub low : 1 ≤ link
  pub high : link ≤ count

-- each of these numbers is that of a link
abbrev pub AreWithin : ℕ → List ℕ → Type 0
AreWithin count [] = ⊤
AreWithin count (link ∷ links) = IsOneOf count link × AreWithin count links
