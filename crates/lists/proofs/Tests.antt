-- What a test says, and one test more of several.
use Rattle.std.proofs.Common.{◌≡◌, Bool, true, false, not, ◌||◌, cond, refl, sym}
use Rattle.std.proofs.Math.Bool.{or-true, or-false}

pub not_true : (b : Bool) → not b ≡ true → b ≡ false
not_true true h = absurd cc
not_true false h = refl

pub or_more : (b t : Bool) → cond t true b ≡ (b || (t || false))
or_more b true = sym (or-true b)
or_more b false = sym (or-false b)
