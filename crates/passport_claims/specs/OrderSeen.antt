-- An order as callers see it: a list of links, and what each order meets.
use Rattle.std.specs.Prelude.{◌≡◌, ℕ, ◌-◌, ◌<◌, ◌≤◌, List, length, take, drop, replicate, slice_index, Result, Ok, Err}
use Rattle.passport_claims.specs.Links.{AreWithin, IsOneOf}
use Rattle.passport_claims.specs.declared.order.ChainFault.{ChainFault}
use Rattle.passport_claims.specs.declared.order.Order.{Order}

-- the links in this order
abbrev pub turn_of : Order → List ℕ
turn_of order = take order.length order.turn

abbrev pub order_seen : Result Order ChainFault → Result (List ℕ) ChainFault
order_seen (Ok order) = Ok (turn_of order)
order_seen (Err fault) = Err fault

-- the entries after its links are zeros
pub record IsFilled (order : Order) : Type 0 where
  pub few : order.length ≤ 8
  pub turns : length (turn_of order) ≡ order.length
  pub rest : drop order.length order.turn ≡ replicate (8 - order.length) 0

-- An order of so many links has as many entries, and each of these is the number of a link, so that it can be looked up
-- without a test. After them come zeros.
pub record IsTurn (links : ℕ) (order : Order) : Type 0 where
  pub all : order.length ≡ links
  pub few : order.length ≤ 8
  pub turns : length (turn_of order) ≡ order.length
  pub within : AreWithin links (turn_of order)
  pub each : (place : ℕ) → place < order.length → IsOneOf links (slice_index order.turn place)
  pub rest : drop order.length order.turn ≡ replicate (8 - order.length) 0
