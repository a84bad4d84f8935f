-- The lines of a report on tickets (this project's own format): `N won`, `N lost` or `N full LEVEL`. N is the number of
-- the ticket from 1, and LEVEL is 1 to 6.
use Rattle.std.specs.Prelude.{ℕ, suc, Bool, true, false, List, [], ◌∷◌, ◌++◌, codes}
use Rattle.std.specs.Fmt.{decimal}
use Rattle.std.specs.List.{list_all}
use Rattle.live_desk.specs.declared.claim.LiveClaim.{LiveClaim}
use Rattle.live_desk.specs.declared.claim.LiveClaim.TheVariants.{Won, Lost, Full}

abbrev pub full_text : ℕ → List ℕ
full_text level = codes " full " ++ (decimal level ++ codes "\n")

-- what a line says after the number
abbrev pub came_text : LiveClaim → List ℕ
came_text Won = codes " won\n"
came_text Lost = codes " lost\n"
came_text (Full level) = full_text level

-- the line of the claim with this number
abbrev pub claim_line : ℕ → LiveClaim → List ℕ
claim_line number claim = decimal number ++ came_text claim

-- the lines of these claims, the first of which has this number
abbrev pub lines_from : ℕ → List LiveClaim → List ℕ
lines_from number [] = []
lines_from number (claim ∷ claims) = claim_line number claim ++ lines_from (suc number) claims

abbrev pub claim_lines : List LiveClaim → List ℕ
claim_lines claims = lines_from 1 claims

abbrev pub is_won : LiveClaim → Bool
is_won Won = true
is_won Lost = false
is_won (Full level) = false

-- each of them is won
abbrev pub all_won : List LiveClaim → Bool
all_won claims = list_all is_won claims
