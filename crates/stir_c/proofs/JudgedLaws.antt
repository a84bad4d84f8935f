-- What is told of a call that is open, from what is found of it.
use Rattle.std.proofs.Common.{◌≡◌, ℕ, ◌≤◌, List, Option, sym, refl, subst, arith}
use Rattle.verify_rules.specs.Call.{Call}
use Rattle.verify_rules.specs.World.{World}
use Rattle.cert_store.specs.Rules.{Says}
use Rattle.open_calls.specs.Founds.{IsFound, IsFoundOver}
use Rattle.open_calls.specs.OpenCalls.{call_in}
use Rattle.open_calls.specs.OpenChains.{ChainView, GivenChain, states_of}
use Rattle.open_calls.specs.OwnQuestions.{Confirms, own_asked}
use Rattle.open_calls.specs.Worlds.{WorldView}
use Rattle.open_calls.specs.declared.found.Found.{Found}
use Rattle.open_calls.specs.declared.found.Found.TheVariants.{Refused, Passes}
use Rattle.stir_c.specs.Holding.{HeldCallView}
use Rattle.stir_c.specs.Judged.{IsAsked, IsFoundOf, own_of}
use Rattle.stir_c.specs.QuestionBytes.{questions_bytes}
use Rattle.stir_c.specs.Right.{IsRightFor, IsRightFound}
use Rattle.stir_c.specs.Saying.{ToldBeside, said_found}
use Rattle.stir_c.specs.Told.{Tells}
use Rattle.stir_c.specs.declared.said.Said.{Said}

tells : (rules : World) (call : Call) (found : Found) (size : ℕ) → IsFound rules call found → Tells rules call (said_found found size)
tells rules call (Refused refused) size is = record { passes = λ (e : 1 ≡ 0). absurd (omega arith); breaks = λ e. record { first = is; code_is = refl } }
tells rules call (Passes pass) size is = record { passes = λ e. record { none = is.0; known = is.1 }; breaks = λ (e : 0 ≡ 1). absurd (omega arith) }

pub told_right : (rules : World) (files : List (Option GivenChain)) (held : HeldCallView) (good : List ℕ) (found : Found) (said : Said) (size : ℕ)
    → IsRightFound rules files held good found → said ≡ said_found found size → IsRightFor rules files held good said
told_right rules files held good found said size right is = λ given world. subst (Tells rules (call_in held.call)) (sym is) (tells rules (call_in held.call) found size (right given world))

-- ---- what is asked

-- what is found over these chains is found of the call that has them
abbrev pub FoundIfAll : WorldView → List (Option ChainView) → Call → Found → Type 0
FoundIfAll world chains call found = (says : Says) → Confirms says (own_asked world.table (states_of chains) call) → IsFoundOver says world.table (states_of chains) call found

pub same_over : (held : HeldCallView) (world : WorldView) (chains : List (Option ChainView)) (found : Found) → world ≡ held.world → chains ≡ held.chains
    → FoundIfAll world chains (call_in held.call) found → FoundIfAll held.world held.chains (call_in held.call) found
same_over held world chains found under is over =
    subst (λ (w : WorldView). FoundIfAll w held.chains (call_in held.call) found) under
    (subst (λ (cs : List (Option ChainView)). FoundIfAll world cs (call_in held.call) found) is over)

pub asked_told : (held : HeldCallView) (text : List ℕ) (found : Found) (before now : List ℕ) (said : Said) → ((says : Says) → Confirms says (own_of held) → IsFoundOf says held found)
    → text ≡ questions_bytes (own_of held) → ToldBeside text found before now said → IsAsked held before now said
asked_told held text found before now said over is told =
    record { found = found; over = over; told_is = subst (λ (t : List ℕ). ToldBeside t found before now said) is told }
