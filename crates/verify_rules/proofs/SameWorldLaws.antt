-- In worlds in which the same is said of each thing each call breaks the same rule first.
use Rattle.std.proofs.Common.{◌≡◌, ◌↔◌, inl, inr, ℕ, Bool, ◌&&◌, ◌||◌, cond, nat_lt, List, [], ◌∷◌, ◌++◌, map, length, is_some, Option, Some, None, option_and_then, refl, sym, ◌∙◌, ap}
use Rattle.std.specs.Prelude.{IsTrue, ⊤}
use Rattle.std.specs.List.{list_any, slice_get}
use Rattle.std.specs.Option.{option_or}
use Rattle.std.proofs.lemmas.Bool.Decides.{same_from_decides}
use Rattle.stir_outside.specs.Files.{file}
use Rattle.tn_auth_list.specs.Grant.{GrantHolds, grant_in}
use Rattle.tn_auth_list.specs.declared.entries.Entry.{Entry}
use Rattle.tn_auth_list.specs.declared.entries.Entry.TheVariants.{Code, Range, Single}
use Rattle.x509_profile.specs.View.{CertView}
use Rattle.delegation.specs.Coverage.{Covers, In, Table, Within}
use Rattle.delegation.specs.Decided.{covers_number, is_within}
use Rattle.cert_store.specs.Judged.{JudgedView, asked_where, judged_of}
use Rattle.cert_store.specs.Links.{Link, chain_in, links_of, path_of}
use Rattle.cert_store.specs.ChainMap.{listed}
use Rattle.cert_store.specs.Rules.{Says, first_outside, first_unauthorized, keys_of, lies_within, periods_from, rule_11, rule_12, rule_15}
use Rattle.passport_claims.specs.Kind.{div_in, level_in}
use Rattle.passport_claims.specs.Passport.{ClaimsView}
use Rattle.passport_claims.specs.declared.kind.Kind.{Kind}
use Rattle.verify_rules.specs.Call.{Call, Reading, in_call_order}
use Rattle.verify_rules.specs.Late.{allows_code, covers_by, covers_kind, covers_leaf, is_code, is_signed_by, or_broken, rules_after, rules_before, tell, vouched}
use Rattle.verify_rules.specs.Rules.{Rule, each, early_rules, first, or_later}
use Rattle.verify_rules.specs.States.{State, have, long, no_chain, unread}
use Rattle.verify_rules.specs.World.{First, World, asking_rule, broken_by, content_of, forged, forged_by, late_rule, late_rules, part_at, truth_by, truth_for, truth_of, unless_good}
use Rattle.verify_rules.specs.declared.late.LateRule.{LateRule}
use Rattle.verify_rules.specs.declared.late.LateRule.TheVariants as late
use Rattle.verify_rules.specs.declared.refusal.Place.{Place}
use Rattle.verify_rules.proofs.WorldEvents.{first_append}
use Rattle.verify_rules.specs.SameWorld.{SayTheSame}

-- ---- what a table grants

-- the tests of coverage and of one list within another decide them
abbrev pub CoversLaw : Type 0
CoversLaw = (entries : List Entry) (table : Table) (number : List ℕ) → IsTrue (covers_number entries table number) ↔ Covers entries table number

abbrev pub WithinLaw : Type 0
WithinLaw = (child parent : Option (List Entry)) (table : Table) → IsTrue (is_within child parent table) ↔ Within child parent table

-- each code has the same numbers
abbrev GrantSame : Table → Table → Type 0
GrantSame table other = (code number : List ℕ) → GrantHolds (grant_in table code) number ↔ GrantHolds (grant_in other code) number

turned : (table other : Table) → GrantSame table other → GrantSame other table
turned table other same code number = ((same code number).1, (same code number).0)

in_other : (table other : Table) → GrantSame table other → (number : List ℕ) (entry : Entry) → In table number entry → In other number entry
in_other table other same number (Code code) h = (same code number).0 h
in_other table other same number (Range span) h = h
in_other table other same number (Single own) h = h

covers_other : (table other : Table) → GrantSame table other → (entries : List Entry) (number : List ℕ) → Covers entries table number → Covers entries other number
covers_other table other same [] number h = h
covers_other table other same (entry ∷ entries) number (inl here) = inl (in_other table other same number entry here)
covers_other table other same (entry ∷ entries) number (inr later) = inr (covers_other table other same entries number later)

within_other : (table other : Table) → GrantSame table other → (child parent : Option (List Entry)) → Within child parent table → Within child parent other
within_other table other same child None h = tt
within_other table other same None (Some parent) h = h
within_other table other same (Some child) (Some parent) h =
    record { codes = h.codes; numbers = λ number is owned. covers_other table other same parent number (h.numbers number is owned) }

covers_same : CoversLaw → (table other : Table) → GrantSame table other → (entries : List Entry) (number : List ℕ)
    → covers_number entries table number ≡ covers_number entries other number
covers_same law table other same entries number =
    same_from_decides (covers_number entries table number) (covers_number entries other number) (
      (λ is. covers_other table other same entries number ((law entries table number).0 is)),
      (λ h. (law entries table number).1 (covers_other other table (turned table other same) entries number h)),
    )
    (law entries other number)

within_same : WithinLaw → (table other : Table) → GrantSame table other → (child parent : Option (List Entry)) → is_within child parent table ≡ is_within child parent other
within_same law table other same child parent =
    same_from_decides (is_within child parent table) (is_within child parent other) (
      (λ is. within_other table other same child parent ((law child parent table).0 is)),
      (λ h. (law child parent table).1 (within_other other table (turned table other same) child parent h)),
    )
    (law child parent other)

-- ---- a chain

outside_same : WithinLaw → (table other : Table) → GrantSame table other → (links : List Link) → first_outside table links ≡ first_outside other links
outside_same law table other same [] = refl
outside_same law table other same (link ∷ links) =
    ap (λ (t : Bool). cond t (first_outside table links) (Some link.number)) (within_same law table other same link.certificate.list link.issuer.list)
    ∙ ap (λ found. cond (lies_within other link) found (Some link.number)) (outside_same law table other same links)

unauthorized_same : WithinLaw → (table other : Table) → GrantSame table other → (links : List Link) → first_unauthorized table links ≡ first_unauthorized other links
unauthorized_same law table other same [] = refl
unauthorized_same law table other same (leaf ∷ above) =
    ap (λ found. cond (is_some leaf.certificate.list) found (Some 1)) (outside_same law table other same (leaf ∷ above))

-- what the rules on a chain say, by what rule 14 says
abbrev judged_with : List CertView → Says → List ℕ → Option ℕ → JudgedView
judged_with anchors says bytes authority = record {
  profile = rule_11 bytes;
  shape = rule_12 anchors bytes;
  authority = authority;
  asked = asked_where (rule_11 bytes) (rule_12 anchors bytes) authority (rule_15 anchors says bytes);
  certificates = chain_in bytes;
  periods = periods_from anchors 1 (path_of anchors (chain_in bytes));
  keys = keys_of anchors (links_of anchors (chain_in bytes));
}

judged_same : WithinLaw → (table other : Table) → GrantSame table other → (anchors : List CertView) (says : Says) (bytes : List ℕ)
    → judged_of anchors table says bytes ≡ judged_of anchors other says bytes
unfolding judged_of
judged_same law table other same anchors says bytes =
    ap (judged_with anchors says bytes) (unauthorized_same law table other same (links_of anchors (chain_in bytes)))

judged_in : WithinLaw → (world other : World) → SayTheSame world other → (bytes : List ℕ)
    → judged_of world.anchors world.table world.says bytes ≡ judged_of other.anchors other.table other.says bytes
judged_in law world other same bytes =
    judged_same law world.table other.table same.grants world.anchors world.says bytes
    ∙ ap (λ anchors. judged_of anchors other.table world.says bytes) same.anchors
    ∙ ap (λ says. judged_of other.anchors other.table says bytes) same.says

truth_same_by : WithinLaw → (world other : World) → SayTheSame world other → (content : Option (List ℕ)) → truth_by world content ≡ truth_by other content
truth_same_by law world other same None = refl
truth_same_by law world other same (Some bytes) = ap (λ judged. cond (nat_lt 49152 (length bytes)) long (have judged)) (judged_in law world other same bytes)

content_by : (world other : World) → SayTheSame world other → (found : Option (List ℕ))
    → option_and_then (λ name. file name world.files) found ≡ option_and_then (λ name. file name other.files) found
content_by world other same None = refl
content_by world other same (Some name) = same.files name

content_same : (world other : World) → SayTheSame world other → (x5u : List ℕ) → content_of world x5u ≡ content_of other x5u
content_same world other same x5u =
    ap (λ found. option_and_then (λ name. file name world.files) found) (same.chains x5u)
    ∙ content_by world other same (listed other.chains x5u)

truth_same : WithinLaw → (world other : World) → SayTheSame world other → (one : Reading) → truth_for world one ≡ truth_for other one
unfolding truth_of
truth_same law world other same one =
    truth_same_by law world other same (content_of world one.passport.x5u) ∙ ap (truth_by other) (content_same world other same one.passport.x5u)

-- ---- the rules

kind_same : CoversLaw → (table other : Table) → GrantSame table other → (entries : List Entry) (orig : List ℕ) (kind : Kind)
    → covers_kind table entries orig kind ≡ covers_kind other entries orig kind
kind_same law table other same entries orig kind =
    ap (λ t. t || (allows_code (level_in kind) && list_any is_code entries)) (covers_same law table other same entries (vouched orig (div_in kind)))

list_same : CoversLaw → (table other : Table) → GrantSame table other → (passport : ClaimsView) (list : Option (List Entry))
    → covers_by table passport list ≡ covers_by other passport list
list_same law table other same passport None = refl
list_same law table other same passport (Some entries) = kind_same law table other same entries passport.orig passport.kind

leaf_same : CoversLaw → (table other : Table) → GrantSame table other → (passport : ClaimsView) (leaf : Option CertView)
    → covers_leaf table passport leaf ≡ covers_leaf other passport leaf
leaf_same law table other same passport None = refl
leaf_same law table other same passport (Some leaf) = list_same law table other same passport leaf.list

tell_same : CoversLaw → (table other : Table) → GrantSame table other → (rule : LateRule) (moment : ℕ) (one : Reading) (state : State)
    → tell rule table moment one state ≡ tell rule other moment one state
tell_same law table other same late.Covers moment one (have judged) = ap or_broken (leaf_same law table other same one.passport (slice_get judged.certificates 0))
tell_same law table other same rule moment one (have judged) = refl
tell_same law table other same rule moment one no_chain = refl
tell_same law table other same rule moment one long = refl
tell_same law table other same rule moment one unread = refl

broken_same : CoversLaw → WithinLaw → (world other : World) → SayTheSame world other → (rule : LateRule) (moment : ℕ) (one : Reading)
    → broken_by world rule moment one ≡ broken_by other rule moment one
unfolding broken_by
broken_same covers within world other same rule moment one =
    ap (part_at one.mark.field) (tell_same covers world.table other.table same.grants rule moment one (truth_for world one)
    ∙ ap (tell rule other.table moment one) (truth_same within world other same one))

forged_in : (world other : World) → SayTheSame world other → (one : Reading) (state : State) → forged_by world one state ≡ forged_by other one state
forged_in world other same one (have judged) = ap (λ says. unless_good one.mark.field (is_signed_by says one (slice_get judged.certificates 0))) same.says
forged_in world other same one no_chain = refl
forged_in world other same one long = refl
forged_in world other same one unread = refl

forged_same : WithinLaw → (world other : World) → SayTheSame world other → (one : Reading) → forged world one ≡ forged other one
unfolding forged
forged_same law world other same one = forged_in world other same one (truth_for world one) ∙ ap (forged_by other one) (truth_same law world other same one)

each_same : (broken other : Reading → Option Place) → ((one : Reading) → broken one ≡ other one) → (readings : List Reading) → each broken readings ≡ each other readings
each_same broken other same [] = refl
each_same broken other same (one ∷ readings) =
    ap (λ found. option_or found (each broken readings)) (same one) ∙ ap (option_or (other one)) (each_same broken other same readings)

-- ---- a call

-- the same rules, broken at the same places
abbrev AreBrokenAlike : List Rule → List Rule → Call → Type 0
AreBrokenAlike [] [] call = ⊤
AreBrokenAlike [] (other ∷ others) call = ⊥
AreBrokenAlike (rule ∷ rules) [] call = ⊥
AreBrokenAlike (rule ∷ rules) (other ∷ others) call = (rule.number ≡ other.number) × (rule.broken call ≡ other.broken call) × AreBrokenAlike rules others call

first_alike : (rules others : List Rule) (call : Call) → AreBrokenAlike rules others call → first rules call ≡ first others call
first_alike [] [] call same = refl
first_alike [] (other ∷ others) call same = absurd same
first_alike (rule ∷ rules) [] call same = absurd same
first_alike (rule ∷ rules) (other ∷ others) call (numbers, places, more) =
    ap (λ number. or_later number (rule.broken call) (first rules call)) numbers
    ∙ ap (λ broken. or_later other.number broken (first rules call)) places
    ∙ ap (or_later other.number (other.broken call)) (first_alike rules others call more)

late_same : CoversLaw → WithinLaw → (world other : World) → SayTheSame world other → (rule : LateRule) (call : Call)
    → each (broken_by world rule call.moment) (in_call_order call) ≡ each (broken_by other rule call.moment) (in_call_order call)
late_same covers within world other same rule call =
    each_same (broken_by world rule call.moment) (broken_by other rule call.moment) (broken_same covers within world other same rule call.moment) (in_call_order call)

chains_alike : CoversLaw → WithinLaw → (world other : World) → SayTheSame world other → (call : Call) → (rules : List LateRule) → (later later_now : List Rule)
    → AreBrokenAlike later later_now call → AreBrokenAlike (map (late_rule world) rules ++ later) (map (late_rule other) rules ++ later_now) call
chains_alike covers within world other same call [] later later_now more = more
chains_alike covers within world other same call (rule ∷ rules) later later_now more =
    (refl, late_same covers within world other same rule call, chains_alike covers within world other same call rules later later_now more)

all_late_same : CoversLaw → WithinLaw → (world other : World) → SayTheSame world other → (call : Call) → first (late_rules world) call ≡ first (late_rules other) call
all_late_same covers within world other same call =
    let signed = each_same (forged world) (forged other) (forged_same within world other same) (in_call_order call) in
    let after = chains_alike covers within world other same call rules_after [] [] tt in
    let all = chains_alike covers within world other same call rules_before (asking_rule world ∷ map (late_rule world) rules_after) (asking_rule other ∷ map (late_rule other) rules_after)
    (refl, signed, after) in
    first_alike (late_rules world) (late_rules other) call all

pub first_same : CoversLaw → WithinLaw → (world other : World) → SayTheSame world other → (call : Call) → First world call ≡ First other call
first_same covers within world other same call =
    first_append early_rules (late_rules world) call
    ∙ ap (option_or (first early_rules call)) (all_late_same covers within world other same call)
    ∙ sym (first_append early_rules (late_rules other) call)
