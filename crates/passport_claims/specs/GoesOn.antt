-- One diversion more (RFC 8946, section 4.2): a link by which a call goes on from the number that it has come to.
use Rattle.std.specs.Prelude.{◌≡◌, ℕ, ◌≤◌, List, [], ◌∷◌, length, Some}
use Rattle.passport_claims.specs.Passport.{ClaimsView}
use Rattle.passport_claims.specs.Links.{IsOneOf, dest_at, dest_of, div_at, div_of}
use Rattle.passport_claims.specs.Order.{IsOrder}

-- a call that was diverted hasn't been at this number: it is no link's dest, nor the div of the first
pub record IsApartFrom (links : List ClaimsView) (first : ℕ) (number : List ℕ) : Type 0 where
  pub dests : (link : ℕ) → IsOneOf (length links) link → dest_at links link ≡ number → ⊥
  pub start : div_at links first ≡ number → ⊥

-- nor has one that wasn't, if it is another number than the called one
abbrev pub IsNewTo : List ClaimsView → List ℕ → List ℕ → List ℕ → Type 0
IsNewTo links [] called number = number ≡ called → ⊥
IsNewTo links (first ∷ later) called number = IsApartFrom links first number

-- The links, of which there are at most 7, are in this order up to the link's div; and the call hasn't been at the
-- link's dest.
pub record GoesOn (origin : ClaimsView) (links : List ClaimsView) (turn : List ℕ) (link : ClaimsView) : Type 0 where
  pub few : length links ≤ 7
  pub order : IsOrder origin links (Some (div_of link)) turn
  pub new : IsNewTo links turn (div_of link) (dest_of link)
