-- What the holding of rules 16 and 17 means, of one PASSporT whose chain is one of certificates of the profile.
use Rattle.std.proofs.Common.{◌≡◌, ◌↔◌, ◌⊎◌, inl, inr, ℕ, Bool, true, false, ◌&&◌, ◌||◌, List, [], ◌∷◌, Option, Some, None, refl, sym, ◌∙◌, ap}
use Rattle.std.specs.Prelude.{IsTrue}
use Rattle.std.specs.List.{list_any, slice_get}
use Rattle.std.proofs.lemmas.Bool.{and_parts, or_cases}
use Rattle.tn_auth_list.specs.declared.entries.Entry.{Entry}
use Rattle.tn_auth_list.specs.declared.entries.Entry.TheVariants.{Code, Range, Single}
use Rattle.x509_profile.specs.View.{CertView}
use Rattle.delegation.specs.Coverage.{Covers, NamesCode, Table}
use Rattle.delegation.specs.Decided.{covers_number}
use Rattle.passport_claims.specs.Kind.{div_in, level_in}
use Rattle.passport_claims.specs.declared.kind.Attest.{Attest}
use Rattle.passport_claims.specs.declared.kind.Attest.TheVariants as levels
use Rattle.passport_claims.specs.declared.kind.Kind.{Kind}
use Rattle.verify_rules.specs.Call.{Reading}
use Rattle.verify_rules.specs.Late.{allows_code, covers_by, covers_kind, covers_leaf, is_code, is_signed_by, or_broken, vouched}
use Rattle.verify_rules.specs.LateWords.{AllowsCode, CoversKind, CoversVouched, HasChain, HasLeaf, IsCovered, IsGenuine, IsInProfile}
use Rattle.verify_rules.specs.States.{State, have}
use Rattle.verify_rules.specs.World.{HoldsBytes, World, broken_by, forged, forged_by, part_at, truth_for, unless_good}
use Rattle.verify_rules.specs.declared.late.LateRule.TheVariants as late
use Rattle.verify_rules.proofs.ChainMeans.{ChainLaws, Known, known, said_of}

-- the test of coverage decides it
abbrev pub CoversLaw : Type 0
CoversLaw = (entries : List Entry) (table : Table) (phone : List ℕ) → IsTrue (covers_number entries table phone) ↔ Covers entries table phone

-- ---- the leaf

leaf_of : (world : World) (one : Reading) (leaf : CertView) (h : HasLeaf world one leaf) (k : Known world one h.chain) → slice_get k.judged.certificates 0 ≡ Some leaf
leaf_of world one leaf h k = ap (λ (c : List CertView). slice_get c 0) k.certificates ∙ h.first

-- ---- rule 16

forged_says : (world : World) (one : Reading) (state : State) → truth_for world one ≡ state → forged world one ≡ forged_by world one state
unfolding forged
forged_says world one state is = ap (forged_by world one) is

good_by : (field : ℕ) (t : Bool) → unless_good field t ≡ None → t ≡ true
good_by field true h = refl
good_by field false h = absurd cc

genuine_by : (world : World) (one : Reading) (chain : List CertView) (leaf : Option CertView) → HasChain world one chain → slice_get chain 0 ≡ leaf
    → unless_good one.mark.field (is_signed_by world.says one leaf) ≡ None → IsGenuine world one
genuine_by world one chain None h first none = absurd cc
genuine_by world one chain (Some leaf) h first none =
    (leaf, record { chain = chain; has_chain = h; first = first }, good_by one.mark.field (world.says leaf.key one.mark.digest one.mark.signature) none)

pub genuine_means : ChainLaws → (world : World) → HoldsBytes world → (one : Reading) → IsInProfile world one → (forged world one ≡ None) ↔ IsGenuine world one
genuine_means laws world typed one (chain, h) = (
  (λ none.
      let k = known laws world typed one chain h in
      let here : unless_good one.mark.field (is_signed_by world.says one (slice_get chain 0)) ≡ None =
      ap (λ (c : List CertView). unless_good one.mark.field (is_signed_by world.says one (slice_get c 0))) (sym k.certificates) ∙ sym (forged_says world one (have k.judged) k.is) ∙ none in
      genuine_by world one chain (slice_get chain 0) h refl here),
  (λ (p : IsGenuine world one).
      let k = known laws world typed one p.1.chain p.1.has_chain in
      forged_says world one (have k.judged) k.is
      ∙ ap (λ leaf. unless_good one.mark.field (is_signed_by world.says one leaf)) (leaf_of world one p.0 p.1 k) ∙ ap (unless_good one.mark.field) p.2),
)

-- ---- rule 17, by the entries

either_again : (a b : Bool) → (a ≡ true) ⊎ (b ≡ true) → (a || b) ≡ true
either_again true b h = refl
either_again false b (inl h) = absurd cc
either_again false b (inr h) = h

code_by : (entry : Entry) → is_code entry ≡ true → (code : List ℕ) × (entry ≡ Code code)
code_by (Code code) h = (code, refl)
code_by (Range span) h = absurd cc
code_by (Single own) h = absurd cc

named_here : (entry : Entry) (entries : List Entry) → ((code : List ℕ) × (entry ≡ Code code)) → (code : List ℕ) × NamesCode (entry ∷ entries) code
named_here entry entries p = (p.0, inl p.1)

named_later : (entry : Entry) (entries : List Entry) → ((code : List ℕ) × NamesCode entries code) → (code : List ℕ) × NamesCode (entry ∷ entries) code
named_later entry entries p = (p.0, inr p.1)

named_by : (entries : List Entry) → list_any is_code entries ≡ true → (code : List ℕ) × NamesCode entries code
named_by [] h = absurd cc
named_by (entry ∷ entries) h =
    elim (or_cases (is_code entry) (list_any is_code entries) h) [ inl here ↦ named_here entry entries (code_by entry here) | inr more ↦ named_later entry entries (named_by entries more) ]

named_again : (entries : List Entry) (code : List ℕ) → NamesCode entries code → list_any is_code entries ≡ true
named_again [] code p = absurd p
named_again (entry ∷ entries) code (inl same) = either_again (is_code entry) (list_any is_code entries) (inl (ap is_code same))
named_again (entry ∷ entries) code (inr more) = either_again (is_code entry) (list_any is_code entries) (inr (named_again entries code more))

vouched_by : CoversLaw → (table : Table) (entries : List Entry) (orig : List ℕ) (diverted : Option (List ℕ)) → covers_number entries table (vouched orig diverted) ≡ true
    → CoversVouched table entries orig diverted
vouched_by law table entries orig None h = (law entries table orig).0 h
vouched_by law table entries orig (Some phone) h = (law entries table phone).0 h

vouched_again : CoversLaw → (table : Table) (entries : List Entry) (orig : List ℕ) (diverted : Option (List ℕ)) → CoversVouched table entries orig diverted
    → covers_number entries table (vouched orig diverted) ≡ true
vouched_again law table entries orig None p = (law entries table orig).1 p
vouched_again law table entries orig (Some phone) p = (law entries table phone).1 p

allows_by : (level : Option Attest) → allows_code level ≡ true → AllowsCode level
allows_by None h = absurd cc
allows_by (Some levels.A) h = absurd cc
allows_by (Some levels.B) h = tt
allows_by (Some levels.C) h = tt

allows_again : (level : Option Attest) → AllowsCode level → allows_code level ≡ true
allows_again None p = absurd p
allows_again (Some levels.A) p = absurd p
allows_again (Some levels.B) p = refl
allows_again (Some levels.C) p = refl

both_again : (a b : Bool) → a ≡ true → b ≡ true → (a && b) ≡ true
both_again a b h k = rw (h, k) refl

-- the test of a list decides what is asked of it
pub kind_by : CoversLaw → (table : Table) (entries : List Entry) (orig : List ℕ) (kind : Kind) → covers_kind table entries orig kind ≡ true → CoversKind table entries orig kind
kind_by law table entries orig kind h =
    elim (or_cases (covers_number entries table (vouched orig (div_in kind))) (allows_code (level_in kind) && list_any is_code entries) h) [
      | inl here ↦ inl (vouched_by law table entries orig (div_in kind) here)
      | inr more ↦
          let k = and_parts (allows_code (level_in kind)) (list_any is_code entries) more in
          inr (allows_by (level_in kind) k.0, named_by entries k.1)
    ]

pub kind_again : CoversLaw → (table : Table) (entries : List Entry) (orig : List ℕ) (kind : Kind) → CoversKind table entries orig kind → covers_kind table entries orig kind ≡ true
kind_again law table entries orig kind (inl covered) =
    either_again (covers_number entries table (vouched orig (div_in kind))) (allows_code (level_in kind) && list_any is_code entries)
    (inl (vouched_again law table entries orig (div_in kind) covered))
kind_again law table entries orig kind (inr p) =
    either_again (covers_number entries table (vouched orig (div_in kind))) (allows_code (level_in kind) && list_any is_code entries)
    (inr (both_again (allows_code (level_in kind)) (list_any is_code entries) (allows_again (level_in kind) p.0) (named_again entries p.1.0 p.1.1)))

-- ---- rule 17

holds_by : (field : ℕ) (t : Bool) → part_at field (or_broken t) ≡ None → t ≡ true
holds_by field true h = refl
holds_by field false h = absurd cc

listed_by : CoversLaw → (world : World) (one : Reading) (leaf : CertView) (entries : Option (List Entry)) → HasLeaf world one leaf → leaf.list ≡ entries
    → covers_by world.table one.passport entries ≡ true → IsCovered world one
listed_by law world one leaf None h is covered = absurd cc
listed_by law world one leaf (Some entries) h is covered =
    record { leaf = leaf; has_leaf = h; entries = entries; has_list = is; covers = kind_by law world.table entries one.passport.orig one.passport.kind covered }

covered_by : CoversLaw → (world : World) (one : Reading) (chain : List CertView) (leaf : Option CertView) → HasChain world one chain → slice_get chain 0 ≡ leaf
    → covers_leaf world.table one.passport leaf ≡ true → IsCovered world one
covered_by law world one chain None h first covered = absurd cc
covered_by law world one chain (Some leaf) h first covered = listed_by law world one leaf leaf.list (record { chain = chain; has_chain = h; first = first }) refl covered

-- what rule 17 says by the leaf
covers_says : (world : World) (moment : ℕ) (one : Reading) (chain : List CertView) (k : Known world one chain) (leaf : Option CertView) → slice_get k.judged.certificates 0 ≡ leaf
    → broken_by world late.Covers moment one ≡ part_at one.mark.field (or_broken (covers_leaf world.table one.passport leaf))
covers_says world moment one chain k leaf first =
    said_of world late.Covers moment one (have k.judged) k.is ∙ ap (λ x. part_at one.mark.field (or_broken (covers_leaf world.table one.passport x))) first

pub coverage_means : ChainLaws → CoversLaw → (world : World) → HoldsBytes world → (moment : ℕ) (one : Reading) → IsInProfile world one
    → (broken_by world late.Covers moment one ≡ None) ↔ IsCovered world one
coverage_means laws law world typed moment one (chain, h) = (
  (λ none.
      let k = known laws world typed one chain h in
      let first : slice_get k.judged.certificates 0 ≡ slice_get chain 0 = ap (λ (c : List CertView). slice_get c 0) k.certificates in
      covered_by law world one chain (slice_get chain 0) h refl
      (holds_by one.mark.field (covers_leaf world.table one.passport (slice_get chain 0)) (sym (covers_says world moment one chain k (slice_get chain 0) first) ∙ none))),
  (λ (p : IsCovered world one).
      let k = known laws world typed one p.has_leaf.chain p.has_leaf.has_chain in
      let covered : covers_by world.table one.passport p.leaf.list ≡ true =
      ap (covers_by world.table one.passport) p.has_list ∙ kind_again law world.table p.entries one.passport.orig one.passport.kind p.covers in
      covers_says world moment one p.has_leaf.chain k (Some p.leaf) (leaf_of world one p.leaf p.has_leaf k) ∙ ap (λ t. part_at one.mark.field (or_broken t)) covered),
)
