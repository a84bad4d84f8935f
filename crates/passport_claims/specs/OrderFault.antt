-- Why links are in no order, and which link shows it: the first of five faults, tried one after another (this project's
-- own order; RFC 8946, section 4.2).
use Rattle.std.specs.Prelude.{◌≡◌, ◌⊎◌, ℕ, suc, zero, ◌-◌, ◌<◌, ◌≤◌, List, length, Option, Some, Contains}
use Rattle.passport_claims.specs.Passport.{ClaimsView}
use Rattle.passport_claims.specs.Links.{IsOneOf, dest_at, div_at}
use Rattle.passport_claims.specs.Order.{IsCalled}
use Rattle.passport_claims.specs.declared.order.ChainFault.{ChainFault}

-- of so many links, this is the first of which it holds
pub record IsFirst (Holds : ℕ → Type 0) (count link : ℕ) : Type 0 where
  pub is : IsOneOf count link
  pub holds : Holds link
  pub before : (other : ℕ) → IsOneOf (link - 1) other → Holds other → ⊥

-- of so many links, it holds of none
abbrev pub OfNone : (ℕ → Type 0) → ℕ → Type 0
OfNone Holds count = (link : ℕ) → IsOneOf count link → Holds link → ⊥

-- ---- what is wrong with one link

-- its div is its own dest, or an earlier link has its div, or an earlier link has its dest
abbrev pub Repeats : List ClaimsView → ℕ → Type 0
Repeats links link = (div_at links link ≡ dest_at links link) ⊎ ((other : ℕ) × IsOneOf (link - 1) other
    × ((div_at links other ≡ div_at links link) ⊎ (dest_at links other ≡ dest_at links link)))

-- its div is no link's dest
abbrev pub MayStart : List ClaimsView → ℕ → Type 0
MayStart links link = OfNone (λ other. dest_at links other ≡ div_at links link) (length links)

-- it is the start, or is reached from it in so many steps, each from a dest to the link that has it as div
abbrev pub ReachedIn : List ClaimsView → ℕ → ℕ → ℕ → Type 0
ReachedIn links start zero link = link ≡ start
ReachedIn links start (suc steps) link = (before : ℕ) × IsOneOf (length links) before
    × ReachedIn links start steps before × (div_at links link ≡ dest_at links before)

abbrev pub IsLeft : List ClaimsView → ℕ → ℕ → Type 0
IsLeft links start link = (steps : ℕ) → ReachedIn links start steps link → ⊥

-- no link has its dest as div
abbrev pub IsLast : List ClaimsView → ℕ → Type 0
IsLast links link = OfNone (λ other. div_at links other ≡ dest_at links link) (length links)

-- ---- the start

-- this link and no other may start, and its div is one of these dests
pub record IsStart (dests : List (List ℕ)) (links : List ClaimsView) (start : ℕ) : Type 0 where
  pub is : IsFirst (MayStart links) (length links) start
  pub only : (other : ℕ) → IsOneOf (length links) other → MayStart links other → other ≡ start
  pub called : Contains dests (div_at links start)

-- there are links, and none of them may start: the first shows it
pub record NoneStarts (links : List ClaimsView) (link : ℕ) : Type 0 where
  pub some : 1 ≤ length links
  pub none : OfNone (MayStart links) (length links)
  pub named : link ≡ 1

-- more than one may start: the second that may shows it
pub record TwoStart (links : List ClaimsView) (link : ℕ) : Type 0 where
  pub first : ℕ
  pub is : IsFirst (MayStart links) (length links) first
  pub second : IsFirst (λ other. (first < other) × MayStart links other) (length links) link

-- one alone may start, and its div is none of these dests
pub record StartsElsewhere (dests : List (List ℕ)) (links : List ClaimsView) (link : ℕ) : Type 0 where
  pub is : IsFirst (MayStart links) (length links) link
  pub only : (other : ℕ) → IsOneOf (length links) other → MayStart links other → other ≡ link
  pub elsewhere : Contains dests (div_at links link) → ⊥

-- ---- the five faults

-- 1: there are more than 8 links, and the ninth shows it
pub record Many (links : List ClaimsView) (fault : ChainFault) : Type 0 where
  pub kind : fault.kind ≡ 1
  pub link : fault.link ≡ 9
  pub many : 8 < length links

-- 2: a link repeats, and the first that does shows it
pub record Repeat (links : List ClaimsView) (fault : ChainFault) : Type 0 where
  pub kind : fault.kind ≡ 2
  pub few : length links ≤ 8
  pub repeats : IsFirst (Repeats links) (length links) fault.link

-- 3: there is no start
pub record Start (dests : List (List ℕ)) (links : List ClaimsView) (fault : ChainFault) : Type 0 where
  pub kind : fault.kind ≡ 3
  pub few : length links ≤ 8
  pub apart : OfNone (Repeats links) (length links)
  pub no_start : NoneStarts links fault.link ⊎ (TwoStart links fault.link ⊎ StartsElsewhere dests links fault.link)

-- 4: a link isn't reached from the start, and the first that isn't shows it
pub record Cut (dests : List (List ℕ)) (links : List ClaimsView) (fault : ChainFault) : Type 0 where
  pub kind : fault.kind ≡ 4
  pub few : length links ≤ 8
  pub apart : OfNone (Repeats links) (length links)
  pub start : ℕ
  pub starts : IsStart dests links start
  pub left : IsFirst (IsLeft links start) (length links) fault.link

-- 5: the call ends elsewhere: there are no links, and the called number is none of these dests; or all links are
-- reached, and the dest of the last isn't the called number
pub record EndsAtOnce (dests : List (List ℕ)) (links : List ClaimsView)
    (called : Option (List ℕ)) (link : ℕ) : Type 0 where
  pub none : length links ≡ 0
  pub named : link ≡ 0
  pub elsewhere : IsCalled dests called → ⊥

pub record EndsLater (dests : List (List ℕ)) (links : List ClaimsView)
    (called : Option (List ℕ)) (link : ℕ) : Type 0 where
  pub few : length links ≤ 8
  pub apart : OfNone (Repeats links) (length links)
  pub start : ℕ
  pub starts : IsStart dests links start
  pub reached : (other : ℕ) → IsOneOf (length links) other → (steps : ℕ) × ReachedIn links start steps other
  pub is : IsOneOf (length links) link
  pub last : IsLast links link
  pub elsewhere : called ≡ Some (dest_at links link) → ⊥

pub record Called (dests : List (List ℕ)) (links : List ClaimsView) (called : Option (List ℕ))
    (fault : ChainFault) : Type 0 where
  pub kind : fault.kind ≡ 5
  pub ends : EndsAtOnce dests links called fault.link ⊎ EndsLater dests links called fault.link

-- the links are in no order, and this is why
abbrev pub IsFault : ClaimsView → List ClaimsView → Option (List ℕ) → ChainFault → Type 0
IsFault origin links called fault = Many links fault ⊎ (Repeat links fault
    ⊎ (Start origin.dest links fault ⊎ (Cut origin.dest links fault ⊎ Called origin.dest links called fault)))
