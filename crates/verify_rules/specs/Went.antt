-- The order of a call's PASSporTs in words (RFC 8946, section 4.2): the originating one comes first, and then each link
-- once, in the order in which the call was diverted.
use Rattle.std.specs.Prelude.{◌≡◌, ⊤, ℕ, ◌≤◌, List, [], ◌∷◌, length, Option, Some}
use Rattle.std.specs.List.{slice_get}
use Rattle.passport_claims.specs.Order.{IsOrder}
use Rattle.verify_rules.specs.Call.{Reading, passports_of}
use Rattle.verify_rules.specs.declared.facts.Facts.{Facts}

-- the number that is called now: To's if the call wasn't diverted, else that of the request URI
pub record IsCalledNow (said : Facts) (links : List Reading) (called : Option (List ℕ)) : Type 0 where
  pub undiverted : length links ≡ 0 → called ≡ said.to
  pub diverted : 1 ≤ length links → called ≡ said.target

-- the PASSporTs in the order of the message: the originating one, the links, and the number that is called now
pub record AreCalled (said : Facts) (readings : List Reading) : Type 0 where
  pub origin : Reading
  pub links : List Reading
  pub are : readings ≡ origin ∷ links
  pub called : Option (List ℕ)
  pub now : IsCalledNow said links called

-- the PASSporTs with these numbers, one after another: the originating one has number 0, and links count from 1 in the
-- order of the message
abbrev pub AreAt : List Reading → List ℕ → List Reading → Type 0
AreAt readings [] [] = ⊤
AreAt readings [] (one ∷ later) = ⊥
AreAt readings (number ∷ turn) [] = ⊥
AreAt readings (number ∷ turn) (one ∷ later) = (slice_get readings number ≡ Some one) × AreAt readings turn later

-- of PASSporTs in the order of the message, these are all in the order in which the call went
pub record WentSo (said : Facts) (readings went : List Reading) : Type 0 where
  pub of : AreCalled said readings
  -- the links are in this order, up to the number that is called now
  pub turn : List ℕ
  pub order : IsOrder of.origin.passport (passports_of of.links) of.called turn
  -- the originating one, and the links in that order
  pub later : List Reading
  pub first : went ≡ of.origin ∷ later
  pub each : AreAt readings turn later
