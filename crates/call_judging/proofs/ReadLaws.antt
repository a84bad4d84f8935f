-- What is known of a chain is right over the files that the shelf tells, from the laws on what is told.
use Rattle.std.proofs.Common.{◌≡◌, ℕ, zero, suc, ◌+◌, ◌<◌, ◌≤◌, List, [], ◌∷◌, ◌++◌, length, take, Option, Some, None, refl, ap, sym, ◌∙◌, subst, arith}
use Rattle.std.specs.List.{slice_get}
use Rattle.std.specs.Option.{option_map}
use Rattle.std.proofs.lemmas.Option.{same_Some}
use Rattle.cert_store.specs.ChainMap.{listed}
use Rattle.cert_store.specs.Judged.{JudgedAs, JudgedView, judged_of}
use Rattle.cert_store.specs.Rules.{Says}
use Rattle.stir_outside.specs.Files.{Files, IsLonger, OfFile, file}
use Rattle.passport_claims.specs.Passport.{ClaimsView}
use Rattle.verify_rules.specs.Call.{Reading, passport_in}
use Rattle.verify_rules.specs.States.{State, have, no_chain, long}
use Rattle.verify_rules.specs.World.{World, AreRight, IsRight}
use Rattle.call_judging.specs.Chains.{AreRightWhere, IsRightWhere, world_by}
use Rattle.cert_store.specs.declared.world.World.{World as Materials}

pub right_unlisted : (told : Option Files) (materials : Materials) (says : Says) (x5u : List ℕ)
    → ((world : World) (x5u : List ℕ) → listed world.chains x5u ≡ None → IsRight world x5u no_chain)
    → listed materials.chains x5u ≡ None → IsRightWhere told materials says x5u no_chain
right_unlisted None materials says x5u law none = tt
right_unlisted (Some files) materials says x5u law none = law (world_by materials files says) x5u none

pub right_missing : (told : Option Files) (materials : Materials) (says : Says) (x5u name : List ℕ)
    → ((world : World) (x5u name : List ℕ) → listed world.chains x5u ≡ Some name → file name world.files ≡ None → IsRight world x5u no_chain)
    → listed materials.chains x5u ≡ Some name → OfFile told name (λ held. held ≡ None) → IsRightWhere told materials says x5u no_chain
right_missing None materials says x5u name law is missing = tt
right_missing (Some files) materials says x5u name law is missing = law (world_by materials files says) x5u name is missing

pub right_long : (told : Option Files) (materials : Materials) (says : Says) (x5u name : List ℕ)
    → ((world : World) (x5u name : List ℕ) → listed world.chains x5u ≡ Some name → IsLonger 49152 (file name world.files) → IsRight world x5u long)
    → listed materials.chains x5u ≡ Some name → OfFile told name (IsLonger 49152) → IsRightWhere told materials says x5u long
right_long None materials says x5u name law is longer = tt
right_long (Some files) materials says x5u name law is longer = law (world_by materials files says) x5u name is longer

pub right_judged : (told : Option Files) (materials : Materials) (says : Says) (x5u name bytes : List ℕ) (judged : JudgedView)
    → ((world : World) (x5u name bytes : List ℕ) (judged : JudgedView) → listed world.chains x5u ≡ Some name → file name world.files ≡ Some bytes
    → length bytes ≤ 49152 → JudgedAs (judged_of world.anchors world.table world.says bytes) judged → IsRight world x5u (have judged))
    → listed materials.chains x5u ≡ Some name → OfFile told name (λ held. held ≡ Some bytes) → length bytes ≤ 49152
    → JudgedAs (judged_of materials.anchors materials.table says bytes) judged → IsRightWhere told materials says x5u (have judged)
right_judged None materials says x5u name bytes judged law is found short as_judged = tt
right_judged (Some files) materials says x5u name bytes judged law is found short as_judged = law (world_by materials files says) x5u name bytes judged is found short as_judged

-- ---- one chain more

pub right_more : (told : Option Files) (materials : Materials) (says : Says) (readings : List Reading) (states : List State) (one : Reading) (state : State)
    → ((world : World) (readings : List Reading) (states : List State) (one : Reading) (state : State) → AreRight world readings states
    → IsRight world one.passport.x5u state → AreRight world (readings ++ one ∷ []) (states ++ state ∷ []))
    → AreRightWhere told materials says readings states → IsRightWhere told materials says one.passport.x5u state
    → AreRightWhere told materials says (readings ++ one ∷ []) (states ++ state ∷ [])
right_more None materials says readings states one state law right here = tt
right_more (Some files) materials says readings states one state law right here = law (world_by materials files says) readings states one state right here

pub right_none : (told : Option Files) (materials : Materials) (says : Says) → AreRightWhere told materials says [] []
right_none None materials says = tt
right_none (Some files) materials says = tt

-- ---- the PASSporTs in turn

-- a PASSporT at an index, with those before it
pub record StandsAt (readings : List Reading) (i : ℕ) (passport : ClaimsView) : Type 0 where
  pub one : Reading
  pub more : take (i + 1) readings ≡ take i readings ++ one ∷ []
  pub says : one.passport ≡ passport

pub stands_at : (readings : List Reading) (i : ℕ) (passport : ClaimsView) → i < length readings → option_map passport_in (slice_get readings i) ≡ Some passport
    → StandsAt readings i passport
stands_at [] i passport within is = absurd (omega arith)
stands_at (r ∷ readings) zero passport within is = record { one = r; more = refl; says = same_Some r.passport passport is }
stands_at (r ∷ readings) (suc i) passport within is =
    let further : StandsAt readings i passport = stands_at readings i passport (omega arith) is in
    let next : suc i + 1 ≡ suc (i + 1) = omega arith in
    record {
      one = further.one;
      more = ap (λ n. take n (r ∷ readings)) next ∙ ap (λ (rs : List Reading). r ∷ rs) further.more;
      says = further.says;
    }

-- the chains of the PASSporTs up to an index are right, and so is that of the one there
pub right_next : (told told_now : Option Files) (materials : Materials) (says says_now : Says) (readings : List Reading) (states : List State) (i : ℕ) (passport : ClaimsView)
    (x5u : List ℕ) (state : State)
    → ((world : World) (readings : List Reading) (states : List State) (one : Reading) (state : State) → AreRight world readings states
    → IsRight world one.passport.x5u state → AreRight world (readings ++ one ∷ []) (states ++ state ∷ []))
    → told_now ≡ told → says_now ≡ says → AreRightWhere told materials says (take i readings) states → i < length readings
    → option_map passport_in (slice_get readings i) ≡ Some passport → x5u ≡ passport.x5u → IsRightWhere told_now materials says_now x5u state
    → AreRightWhere told materials says (take (i + 1) readings) (states ++ state ∷ [])
right_next told told_now materials says says_now readings states i passport x5u state law files_same says_same right within is text here =
    let at : StandsAt readings i passport = stands_at readings i passport within is in
    let one : IsRightWhere told materials says_now x5u state = subst (λ (t : Option Files). IsRightWhere t materials says_now x5u state) files_same here in
    let two : IsRightWhere told materials says x5u state = subst (λ (s : Says). IsRightWhere told materials s x5u state) says_same one in
    let three : IsRightWhere told materials says at.one.passport.x5u state =
    subst (λ (t : List ℕ). IsRightWhere told materials says t state) (text ∙ ap (λ (p : ClaimsView). p.x5u) (sym at.says)) two in
    subst (λ (rs : List Reading). AreRightWhere told materials says rs (states ++ state ∷ [])) (sym at.more)
    (right_more told materials says (take i readings) states at.one state law right three)
