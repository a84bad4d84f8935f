-- What a run promises, by what its words order.
use Rattle.std.proofs.Common.{◌≡◌, ℕ, ◌≤◌, inl, inr, List, Option, Some, None, refl, sym, subst, arith}
use Rattle.std.specs.Io.KnownBytes.{Appends}
use Rattle.stir_outside.specs.Ending.{EndsAs}
use Rattle.stir_words.specs.Order.{AskBy, DivertBy, DrillBy, ExplainBy, ClaimingView, DrillingView, OnceBy, OrderView, RetargetBy, RetargetingView, ShowCertificates, SignBy, VerifyBy}
use Rattle.stir_cmd.specs.Outside.{Outside}
use Rattle.stir_cmd.specs.Causes.{HasCauses, IsComplete, IsRefusal, IsSaid, IsThrough, Ran, RanOrShort, course_of, no_course}
use Rattle.stir_cmd.specs.Claiming.{once_answering}
use Rattle.stir_cmd.specs.Drilling.{CameDrill}
use Rattle.stir_cmd.specs.Gateway.{gateway_course}
use Rattle.stir_cmd.specs.Headline.{Headline}
use Rattle.stir_cmd.specs.Input.{CameInput}
use Rattle.stir_cmd.specs.Showing.{show_answering}
use Rattle.stir_cmd.specs.Signing.{diverting_command, signing_command}
use Rattle.stir_cmd.proofs.DrillLaws as drilling
use Rattle.stir_cmd.proofs.ExplainedLaws as explaining
use Rattle.stir_cmd.proofs.GatewayLaws as sending
use Rattle.stir_cmd.proofs.Keeps.{KeepsAll}
use Rattle.stir_cmd.proofs.OnceLaws as claiming
use Rattle.stir_cmd.proofs.ShowLaws as showing
use Rattle.stir_cmd.proofs.SignLaws as signing
use Rattle.stir_cmd.proofs.StatusCauses.{CauseOf, at_memory, at_words, at_write}
use Rattle.stir_cmd.proofs.StopLaws.{ends_quiet}
use Rattle.stir_cmd.proofs.VerifyLaws as verifying

-- ---- the commands

-- the laws of the crates below on which they rest
pub record Laws : Type 0 where
  pub texts : explaining.TextsLaw
  pub well : explaining.WellLaw

pub laws : explaining.TextsLaw → explaining.WellLaw → Laws
laws texts well = record { texts = texts; well = well }

keeps_all : Laws → (order : OrderView) → KeepsAll (course_of order)
keeps_all laws ShowCertificates = showing.keeps_all
keeps_all laws (VerifyBy order) = verifying.keeps_all order
keeps_all laws (ExplainBy judging) = explaining.explain_keeps judging
keeps_all laws (AskBy words) = explaining.ask_keeps laws.texts laws.well words
keeps_all laws (SignBy words) = signing.keeps_all (signing_command words)
keeps_all laws (DivertBy words) = signing.keeps_all (diverting_command words)
keeps_all laws (RetargetBy words) = sending.keeps_all words
keeps_all laws (DrillBy order) = drilling.keeps_all order
keeps_all laws (OnceBy order) = claiming.keeps_all order.size

-- what it came to, if memory may have run out for the words
pub ran : Laws → (order : Option OrderView) (before now : Outside) (status : ℕ) → RanOrShort order before now status → Ran order before now status
ran laws order before now status (inl came) = came
ran laws None before now status (inr short) = inr short
ran laws (Some order) before now status (inr short) = (keeps_all laws order).wanting before now status short.untouched short.ends

-- certificates were shown
pub ran_show : (order : Option OrderView) (before now : Outside) (status : ℕ) → order ≡ Some ShowCertificates → CameInput show_answering before now status → RanOrShort order before now status
ran_show order before now status is shown = subst (λ (x : Option OrderView). RanOrShort x before now status) (sym is) (inl shown)

-- a drill was made, judged and summed up
pub ran_drill : (order : Option OrderView) (drill : DrillingView) (before now : Outside) (status : ℕ) → order ≡ Some (DrillBy drill) → CameDrill drill before now status → RanOrShort order before now status
ran_drill order drill before now status is came = subst (λ (x : Option OrderView). RanOrShort x before now status) (sym is) (inl came)

-- a message was sent on, or why not was said
pub ran_retarget : (order : Option OrderView) (words : RetargetingView) (before now : Outside) (status : ℕ) → order ≡ Some (RetargetBy words) → (gateway_course words).Came before now status → RanOrShort order before now status
ran_retarget order words before now status is came = subst (λ (x : Option OrderView). RanOrShort x before now status) (sym is) (inl came)

-- tickets were claimed
pub ran_once : (order : Option OrderView) (claims : ClaimingView) (before now : Outside) (status : ℕ) → order ≡ Some (OnceBy claims) → CameInput (once_answering claims.size) before now status → RanOrShort order before now status
ran_once order claims before now status is came = subst (λ (x : Option OrderView). RanOrShort x before now status) (sym is) (inl came)

-- ---- no command

none_low : (before now : Outside) (status said : ℕ) (line : List ℕ) → EndsAs before.written now.written before.write_faults now.write_faults status line said → 2 ≤ said → status ≤ 1 → ⊥
none_low before now status said line (inl ends) high low = omega (arith, ends.0, high, low)
none_low before now status said line (inr ends) high low = omega (arith, ends.0, low)

-- the status is neither 0 nor 1
none_done : (before now : Outside) (status : ℕ) → Ran None before now status → status ≤ 1 → ⊥
none_done before now status (inl refused) low = none_low before now status 2 _ refused.ends (omega arith) low
none_done before now status (inr short) low = none_low before now status 6 _ short.ends (omega arith) low

abbrev NoCauses : Outside → Outside → ℕ → Type 0
NoCauses before now status = CauseOf ⊥ (Unit {0}) ⊥ (no_course.Unwritten before now) ⊥ (no_course.Short before now) status

-- the line that ends a run without an order
of_line : (before now : Outside) (status said : ℕ) (line : List ℕ) → IsRefusal line → EndsAs before.written now.written before.write_faults now.write_faults status line said
    → (status ≡ said → Appends before.written now.written line → NoCauses before now status) → NoCauses before now status
of_line before now status said line is (inl ends) written = written ends.0 ends.1
of_line before now status said line is (inr ends) written = at_write status ends.0 (record { rose = ends.1; line = line; says = is; front = ends.2 })

none_causes : (before now : Outside) (status : ℕ) → Ran None before now status → NoCauses before now status
none_causes before now status (inl refused) = of_line before now status 2 _ (inl refl) refused.ends (λ e written. at_words status e tt)
none_causes before now status (inr short) = of_line before now status 6 _ (inr refl) short.ends (λ e written. at_memory status e written)

-- ---- the promises

pub headline : (order : Option OrderView) (before now : Outside) (status : ℕ) → Ran order before now status → Headline order before now status
headline (Some (VerifyBy order)) before now status came = verifying.headline order before now status came
headline other before now status came = tt

pub causes : Laws → (order : Option OrderView) (before now : Outside) (status : ℕ) → Ran order before now status → HasCauses order before now status
causes laws None before now status ran =
    let c = none_causes before now status ran in
    record { known = c.known; done = c.done; words = λ h. refl; read = c.read; write = c.write; input = c.input; memory = c.memory }
causes laws (Some order) before now status ran =
    let c = (keeps_all laws order).keeps.causes before now status ran in
    record { known = c.known; done = c.done; words = λ h. absurd (c.words h); read = c.read; write = c.write; input = c.input; memory = c.memory }

pub complete : Laws → (order : Option OrderView) (before now : Outside) (status : ℕ) → Ran order before now status → IsComplete order before now status
complete laws None before now status (inl refused) = λ q. inl (ends_quiet before now status 2 _ q refused.ends)
complete laws None before now status (inr short) = λ q. inr (ends_quiet before now status 6 _ q short.ends)
complete laws (Some order) before now status ran = (keeps_all laws order).keeps.answers before now status ran

pub ended : Laws → (order : Option OrderView) (before now : Outside) (status : ℕ) → Ran order before now status → status ≤ 1 → IsThrough order before now status
ended laws None before now status ran low = none_done before now status ran low
ended laws (Some order) before now status ran low = (keeps_all laws order).keeps.through before now status ran low

pub says : Laws → (order : Option OrderView) (before now : Outside) (status : ℕ) → Ran order before now status → status ≤ 1 → IsSaid order before now status
says laws None before now status ran low = none_done before now status ran low
says laws (Some order) before now status ran low = (keeps_all laws order).keeps.says before now status ran low
