-- A call with one link more, at its next hop (RFC 8946, section 4): the rules of the chains.
use Rattle.std.specs.Prelude.{◌≡◌, ⊤, ℕ, true, List, [], ◌∷◌, ◌++◌, None, Some}
use Rattle.std.specs.List.{slice_get}
use Rattle.tn_auth_list.specs.declared.entries.Entry.{Entry}
use Rattle.x509_profile.specs.View.{CertView}
use Rattle.cert_store.specs.Judged.{JudgedView}
use Rattle.verify_rules.specs.Call.{Call, Reading, in_call_order}
use Rattle.verify_rules.specs.Late.{covers_kind}
use Rattle.verify_rules.specs.Rules.{HoldAll, Holds}
use Rattle.verify_rules.specs.States.{have}
use Rattle.verify_rules.specs.World.{World, broken_by, late_rule, late_rules, truth_for}
use Rattle.verify_rules.specs.declared.late.LateRule.{LateRule}
use Rattle.verify_rules.specs.declared.late.LateRule.TheVariants as late

-- a rule holds of this PASSporT
abbrev pub HoldsOf : World → LateRule → ℕ → Reading → Type 0
HoldsOf world rule moment one = broken_by world rule moment one ≡ None

-- rule 13 holds of the call: the certificates of each of its PASSporTs are valid at its moment
abbrev pub AreInDate : World → Call → Type 0
AreInDate world call = Holds (late_rule world late.Dates) call

-- a rule on chains that looks neither at the moment, as rule 13 does, nor at what the leaf covers, as rule 17
abbrev pub IsOfChain : LateRule → Type 0
IsOfChain late.Dates = ⊥
IsOfChain late.Covers = ⊥
IsOfChain rule = ⊤

-- The chain map lists a chain for the PASSporT, of which each of these rules holds: 10 to 12, 14, 15 and 19. Its leaf
-- has this list, and under the leaf's key the signature of the PASSporT is good.
pub record HasGoodChain (world : World) (moment : ℕ) (one : Reading) (entries : List Entry) : Type 0 where
  pub rules : (rule : LateRule) → IsOfChain rule → HoldsOf world rule moment one
  pub judged : JudgedView
  pub chain : truth_for world one ≡ have judged
  pub leaf : CertView
  pub first : slice_get judged.certificates 0 ≡ Some leaf
  pub list : leaf.list ≡ Some entries
  pub genuine : world.says leaf.key one.mark.digest one.mark.signature ≡ true

-- The rules of the chains hold of a call, and so they hold of it with a link more after the others: one whose chain is
-- good and whose leaf covers what it vouches for, at a moment at which all certificates are valid.
abbrev pub LinkMore : Type 0
LinkMore = (world : World) (call out : Call) (link : Reading) (entries : List Entry)
    → in_call_order out ≡ in_call_order call ++ link ∷ [] → HoldAll (late_rules world) call → AreInDate world out
    → HasGoodChain world out.moment link entries
    → covers_kind world.table entries link.passport.orig link.passport.kind ≡ true → HoldAll (late_rules world) out
