-- The order in which a diverted call went (RFC 8946, section 4.2): from a number that its originating PASSporT calls,
-- by one diversion after another, to the number that is called now.
use Rattle.std.specs.Prelude.{◌≡◌, ℕ, ◌==◌, ◌≤◌, Bool, true, List, [], ◌∷◌, length, Option, Some, ⊤, Contains}
use Rattle.std.specs.List.{list_any}
use Rattle.passport_claims.specs.Passport.{ClaimsView}
use Rattle.passport_claims.specs.Links.{AreWithin, IsOneOf, dest_at, div_at}

-- a link is among these
abbrev pub is_among : ℕ → List ℕ → Bool
is_among link turn = list_any (λ other. other == link) turn

-- no link is there twice
abbrev pub NoneTwice : List ℕ → Type 0
NoneTwice [] = ⊤
NoneTwice (link ∷ links) = (is_among link links ≡ true → ⊥) × NoneTwice links

-- each of so many links is there, exactly once, and nothing else
pub record ListsOnce (count : ℕ) (turn : List ℕ) : Type 0 where
  pub within : AreWithin count turn
  pub each : (link : ℕ) → IsOneOf count link → is_among link turn ≡ true
  pub once : NoneTwice turn
  pub as_many : length turn ≡ count

-- the last of some links
abbrev pub last_of : ℕ → List ℕ → ℕ
last_of link [] = link
last_of link (next ∷ later) = last_of next later

-- the div of each next link is the dest of the one before it
abbrev pub Follow : List ClaimsView → ℕ → List ℕ → Type 0
Follow links link [] = ⊤
Follow links link (next ∷ later) = (div_at links next ≡ dest_at links link) × Follow links next later

-- the dests of all links are distinct, and the div of the first is none of them
pub record AreApart (links : List ClaimsView) (first : ℕ) : Type 0 where
  pub dests : (one other : ℕ) → IsOneOf (length links) one → IsOneOf (length links) other
      → dest_at links one ≡ dest_at links other → one ≡ other
  pub start : (link : ℕ) → IsOneOf (length links) link → dest_at links link ≡ div_at links first → ⊥

-- an unbroken way: the first div is one of these dests, each later div is the dest before it, and the last dest is
-- called
pub record IsWay (dests : List (List ℕ)) (links : List ClaimsView) (called : Option (List ℕ)) (first : ℕ)
    (later : List ℕ) : Type 0 where
  pub start : Contains dests (div_at links first)
  pub follow : Follow links first later
  pub end : called ≡ Some (dest_at links (last_of first later))
  pub apart : AreApart links first

-- a call that wasn't diverted goes to one of these dests
abbrev pub IsCalled : List (List ℕ) → Option (List ℕ) → Type 0
IsCalled dests called = (number : List ℕ) × (called ≡ Some number) × Contains dests number

abbrev pub Way : List (List ℕ) → List ClaimsView → Option (List ℕ) → List ℕ → Type 0
Way dests links called [] = IsCalled dests called
Way dests links called (first ∷ later) = IsWay dests links called first later

-- The links, of which there are at most 8 (this project's own limit), are in this order: each once, as an unbroken way
-- from the originating PASSporT to the called number.
pub record IsOrder (origin : ClaimsView) (links : List ClaimsView) (called : Option (List ℕ))
    (turn : List ℕ) : Type 0 where
  pub few : length links ≤ 8
  pub once : ListsOnce (length links) turn
  pub way : Way origin.dest links called turn
