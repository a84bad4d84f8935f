-- The world in which a call is judged, and the first rule of all that it breaks there.
use Rattle.std.specs.Prelude.{◌≡◌, ⊤, ◌⊎◌, ℕ, ◌<◌, ◌≤◌, nat_lt, Bool, true, false, List, [], ◌∷◌, ◌++◌, map, take}
use Rattle.std.specs.Prelude.{slice_index, length, Option, Some, None, option_and_then, if◌then◌else◌}
use Rattle.std.specs.List.{slice_get}
use Rattle.stir_outside.specs.Files.{Files, file}
use Rattle.x509_profile.specs.View.{CertView}
use Rattle.delegation.specs.Coverage.{Table}
use Rattle.cert_store.specs.Asking.{IsOpen}
use Rattle.cert_store.specs.ChainMap.{listed}
use Rattle.cert_store.specs.Judged.{JudgedAs, JudgedView, judged_of}
use Rattle.cert_store.specs.Rules.{Says}
use Rattle.verify_rules.specs.Call.{Call, Reading, in_call_order}
use Rattle.verify_rules.specs.Late.{is_signed_by, number, rules_after, rules_before, tell}
use Rattle.verify_rules.specs.Rules.{HoldAll, Rule, early_rules, each, first, place}
use Rattle.verify_rules.specs.States.{State, have, no_chain, long, unread}
use Rattle.verify_rules.specs.declared.late.LateRule.{LateRule}
use Rattle.verify_rules.specs.declared.late.LateRule.TheVariants as late
use Rattle.verify_rules.specs.declared.late.RuleResult.{RuleResult}
use Rattle.verify_rules.specs.declared.late.RuleResult.TheVariants as results
use Rattle.verify_rules.specs.declared.refusal.Place.{Place}
use Rattle.verify_rules.specs.declared.refusal.Refusal.{Refusal}
use Rattle.verify_rules.specs.declared.verdict.Verdict.{Verdict}
use Rattle.verify_rules.specs.declared.verdict.Verdict.TheVariants.{Passed, Refused, Unread, Unasked}

-- which file has the certificates of which x5u, what the files hold, the trust anchors, the numbers that each code
-- stands for, and which signatures are good
pub record World : Type 0 where
  pub chains : Files
  pub files : Files
  pub anchors : List CertView
  pub table : Table
  pub says : Says

-- the world with another provider of signatures
abbrev pub with_says : World → Says → World
with_says world says =
    record { chains = world.chains; files = world.files; anchors = world.anchors; table = world.table; says = says }

-- each file holds bytes
abbrev pub HoldsBytes : World → Type 0
HoldsBytes world = (name content : List ℕ) → file name world.files ≡ Some content → (i : ℕ)
    → slice_index content i < 256

-- ---- what there is to know of a chain

-- the bytes of the file that is listed for an x5u (RFC 7515, section 4.1.5), if one is listed and there
abbrev pub content_of : World → List ℕ → Option (List ℕ)
content_of world x5u = option_and_then (λ name. file name world.files) (listed world.chains x5u)

-- a chain file has at most 49,152 bytes, which is six certificates of 8,192 (this project's own rule); of one that has
-- no more, what the rules on a chain say of its bytes if every question is answered
abbrev pub truth_by : World → Option (List ℕ) → State
truth_by world None = no_chain
truth_by world (Some bytes) = if nat_lt 49152 (length bytes) then long
    else have (judged_of world.anchors world.table world.says bytes)

unfoldable pub truth_of : World → List ℕ → State
truth_of world x5u = truth_by world (content_of world x5u)

abbrev pub truth_for : World → Reading → State
truth_for world one = truth_of world one.passport.x5u

abbrev pub truths : World → List Reading → List State
truths world readings = map (truth_for world) readings

-- ---- the rules over the world, as rules of a call

-- where a rule is broken by what it says of a PASSporT whose field has this number
abbrev pub part_at : ℕ → RuleResult → Option Place
part_at field results.Holds = None
part_at field (results.Broken part) = Some (place field part)
part_at field results.Unknown = None
part_at field (results.Unasked part) = None

-- where a PASSporT breaks one of the rules of the chains but 16
unfoldable pub broken_by : World → LateRule → ℕ → Reading → Option Place
broken_by world rule moment one = part_at one.mark.field (tell rule world.table moment one (truth_for world one))

abbrev pub late_rule : World → LateRule → Rule
late_rule world rule =
    record { number = number rule; broken = λ call. each (broken_by world rule call.moment) (in_call_order call) }

abbrev pub unless_good : ℕ → Bool → Option Place
unless_good field true = None
unless_good field false = Some (place field 0)

abbrev pub forged_by : World → Reading → State → Option Place
forged_by world one (have judged) =
    unless_good one.mark.field (is_signed_by world.says one (slice_get judged.certificates 0))
forged_by world one no_chain = None
forged_by world one long = None
forged_by world one unread = None

-- where a PASSporT breaks rule 16
unfoldable pub forged : World → Reading → Option Place
forged world one = forged_by world one (truth_for world one)

abbrev pub asking_rule : World → Rule
asking_rule world = record { number = 16; broken = λ call. each (forged world) (in_call_order call) }

-- those that ask for no signature before the first that does
abbrev pub unsigned_rules : List LateRule
unsigned_rules = late.Listed ∷ late.Profile ∷ late.Shape ∷ late.Dates ∷ late.Authority ∷ []

-- rules 10 to 14
abbrev pub certificate_rules : World → List Rule
certificate_rules world = map (late_rule world) unsigned_rules

-- the rules from 15 on: those that ask for signatures, and the two after them
abbrev pub signature_rules : World → List Rule
signature_rules world = late_rule world late.Asked ∷ asking_rule world ∷ map (late_rule world) rules_after

-- the rules of the chains
abbrev pub late_rules : World → List Rule
late_rules world = map (late_rule world) rules_before ++ asking_rule world ∷ map (late_rule world) rules_after

-- The first broken rule of all, with its place: what the report says of a call.
abbrev pub First : World → Call → Option Refusal
First world call = first (early_rules ++ late_rules world) call

-- ---- what is known of the chains is right

-- it is what there is to know, as far as the questions for signatures were answered; of an x5u whose chain isn't known
-- a file is listed
abbrev pub IsRight : World → List ℕ → State → Type 0
IsRight world x5u (have judged) = (truth : JudgedView) × (truth_of world x5u ≡ have truth) × JudgedAs truth judged
IsRight world x5u no_chain = truth_of world x5u ≡ no_chain
IsRight world x5u long = truth_of world x5u ≡ long
IsRight world x5u unread = (name : List ℕ) × (listed world.chains x5u ≡ Some name)

-- of each of these PASSporTs
abbrev pub AreRight : World → List Reading → List State → Type 0
AreRight world [] [] = ⊤
AreRight world [] (state ∷ states) = ⊥
AreRight world (one ∷ others) [] = ⊥
AreRight world (one ∷ others) (state ∷ states) = IsRight world one.passport.x5u state × AreRight world others states

-- The call breaks none of the rules of the call; these are its PASSporTs and its moment; and the codes and the
-- signatures are those of the world.
pub record IsJudgedBy (world : World) (call : Call) (table : Table) (says : Says) (moment : ℕ)
    (readings : List Reading) : Type 0 where
  pub early : first early_rules call ≡ None
  pub in_order : readings ≡ in_call_order call
  pub now : moment ≡ call.moment
  pub grants : table ≡ world.table
  pub answers : says ≡ world.says

-- ---- what sets a call aside

-- The rules of the call hold; the place is that of a PASSporT for whose x5u a file is listed; and rule 10 holds for
-- each before it.
pub record MayBeUnread (world : World) (call : Call) (bad : Place) : Type 0 where
  pub early : HoldAll early_rules call
  pub at : ℕ
  pub here : Reading
  pub is : slice_get (in_call_order call) at ≡ Some here
  pub stands : bad ≡ place here.mark.field 0
  pub name : List ℕ
  pub named : listed world.chains here.passport.x5u ≡ Some name
  pub before : each (broken_by world late.Listed call.moment) (take at (in_call_order call)) ≡ None

-- The place is that of a certificate; rule 15 holds for each PASSporT before, and for each certificate before it in its
-- chain.
pub record IsOpenAtChain (world : World) (call : Call) (bad : Place) : Type 0 where
  pub at : ℕ
  pub here : Reading
  pub is : slice_get (in_call_order call) at ≡ Some here
  pub part : ℕ
  pub some : 1 ≤ part
  pub stands : bad ≡ place here.mark.field part
  pub before : each (broken_by world late.Asked call.moment) (take at (in_call_order call)) ≡ None
  pub truth : JudgedView
  pub known : truth_for world here ≡ have truth
  pub certificates : IsOpen part truth.asked

-- The place is that of a PASSporT; rule 15 holds, and rule 16 for each PASSporT before it.
pub record IsOpenAtPassport (world : World) (call : Call) (bad : Place) : Type 0 where
  pub at : ℕ
  pub here : Reading
  pub is : slice_get (in_call_order call) at ≡ Some here
  pub stands : bad ≡ place here.mark.field 0
  pub signed : each (broken_by world late.Asked call.moment) (in_call_order call) ≡ None
  pub before : each (forged world) (take at (in_call_order call)) ≡ None

-- Rules 1 to 14 hold; and 15 up to some certificate, or 15 wholly and 16 up to some PASSporT.
pub record MayBeUnasked (world : World) (call : Call) (bad : Place) : Type 0 where
  pub early : HoldAll early_rules call
  pub chains : HoldAll (certificate_rules world) call
  pub signatures : IsOpenAtChain world call bad ⊎ IsOpenAtPassport world call bad

-- ---- what a verdict says of the world

abbrev pub VerdictOf : World → Call → Verdict → Type 0
VerdictOf world call Passed = First world call ≡ None
VerdictOf world call (Refused refused) = First world call ≡ Some refused
VerdictOf world call (Unread bad) = MayBeUnread world call bad
VerdictOf world call (Unasked bad) = MayBeUnasked world call bad
