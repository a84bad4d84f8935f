-- What was found, and after it what is found from the number now called, is all; and the entries to come are zeros.
use Rattle.std.proofs.Common.{◌≡◌, ◌∷◌, ◌++◌, ◌-◌, length, take, drop, replicate}
use Rattle.passport_claims.specs.OrderReading.{behind, walk}
use Rattle.passport_claims.proofs.diversion.walk.Given as goal

abbrev pub invariant-loop-place : goal.invariant-loop-place
invariant-loop-place g l = record {
  turn : take l.place l.turn ++ walk (g.L.Passports.list l.links) (length (g.L.Passports.list l.links) - l.place) l.number ≡ l.start ∷ behind (g.L.Passports.list l.links) l.start;
  rest : drop l.place l.turn ≡ replicate (8 - l.place) 0;
  size : length l.turn ≡ 8;
}
