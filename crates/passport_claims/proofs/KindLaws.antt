-- What a type adds to the claims is read if the payload has it, and refused just for what is wrong in it.
use Rattle.std.proofs.Common.{◌≡◌, ◌⊎◌, inl, inr, ℕ, List, Option, Some, None, Result, Ok, Err, codes, refl, sym, ap, subst, ◌∙◌, arith}
use Rattle.std.specs.Prelude.{IfSome, option_and_then}
use Rattle.std.proofs.lemmas.Option.{cond_some, option_and_then_some}
use Rattle.lists.specs.Given.{IsFaultOf}
use Rattle.lists.specs.Steps.{◌>>=◌}
use Rattle.lists.proofs.StepLaws.{came}
use Rattle.serde_json.specs.Data.{Data}
use Rattle.serde_json.specs.Find.{get}
use Rattle.passport_claims.specs.HasKind.{HasKind, IsTypeRefused, checked_kind, read_div, read_shaken, wrong_attest, wrong_div, wrong_origid}
use Rattle.passport_claims.specs.Kind.{IsKnown, IsTypeText, attest_of, attest_text, ppt_of}
use Rattle.passport_claims.specs.Members.{HasNumber, HasText, number_in, text_in}
use Rattle.passport_claims.specs.Origid.{IsOrigid, is_origid, origid_of}
use Rattle.passport_claims.specs.Passport.{IsKind}
use Rattle.passport_claims.specs.Reading.{fault_seen, or_fault}
use Rattle.passport_claims.specs.declared.fault.ClaimFault.{ClaimFault}
use Rattle.passport_claims.specs.declared.fault.ClaimFault.TheVariants as faults
use Rattle.passport_claims.specs.declared.kind.Attest.{Attest}
use Rattle.passport_claims.specs.declared.kind.Kind.{Kind}
use Rattle.passport_claims.specs.declared.kind.Kind.TheVariants as kinds
use Rattle.passport_claims.proofs.MemberLaws.{attest_again, attest_only, found_text, number_again, number_only}
use Rattle.passport_claims.proofs.OrigidLaws.{origid_again, origid_tells}
use Rattle.passport_claims.proofs.RefusedSteps.{none_holds, none_read, nothing_there, stops, there}

-- ---- its text

pub type_text : (kind : Kind) → IfSome (ppt_of kind) IsTypeText
type_text kinds.Base = tt
type_text (kinds.Shaken level origid) = record { each = refl; some = omega arith; within = omega arith }
type_text (kinds.Div number) = record { each = refl; some = omega arith; within = omega arith }

-- ---- what is read of the claims of a type is what it has, and nothing else

pub kind_again : (payload : Data) (kind : Kind) → HasKind payload kind → checked_kind (ppt_of kind) payload ≡ Ok kind
kind_again payload kinds.Base h = refl
kind_again payload (kinds.Shaken level origid) h = rw (h.0, attest_again level, h.1, origid_again origid h.2) refl
kind_again payload (kinds.Div div) h = rw (number_again (codes "div") payload div h) refl

attest_found : (payload : Data) (level : Attest) → option_and_then attest_of (text_in (codes "attest") payload) ≡ Some level → HasText (codes "attest") (attest_text level) payload
attest_found payload level h =
    option_and_then_some attest_of (text_in (codes "attest") payload) level h
    (λ text et el. subst (λ t. HasText (codes "attest") t payload) (attest_only text level el) (found_text (get (codes "attest") payload) text et))

origid_found : (payload : Data) (origid : List ℕ) → option_and_then origid_of (text_in (codes "origid") payload) ≡ Some origid → HasText (codes "origid") origid payload × IsOrigid origid
origid_found payload origid h =
    option_and_then_some origid_of (text_in (codes "origid") payload) origid h
    (λ text et eo. let k = cond_some (is_origid text) text origid eo in
    (subst (λ t. HasText (codes "origid") t payload) k.1 (found_text (get (codes "origid") payload) text et), subst IsOrigid k.1 (origid_tells text k.0)))

pub record IsOfType (payload : Data) (ppt : Option (List ℕ)) (kind : Kind) : Type 0 where
  pub has : HasKind payload kind
  pub type_is : ppt_of kind ≡ ppt

shaken_only : (payload : Data) (kind : Kind) → read_shaken payload ≡ Ok kind → IsOfType payload (Some (codes "shaken")) kind
shaken_only payload kind h =
    let first = came (or_fault faults.Attest (option_and_then attest_of (text_in (codes "attest") payload))) (λ level. or_fault faults.Origid (option_and_then origid_of (text_in (codes "origid") payload)) >>= (λ origid. Ok (kinds.Shaken level origid))) kind h in
    let second = came (or_fault faults.Origid (option_and_then origid_of (text_in (codes "origid") payload))) (λ origid. Ok (kinds.Shaken first.0 origid)) kind first.2 in
    let is : kinds.Shaken first.0 second.0 ≡ kind = let e = second.2 in cc in
    let level = attest_found payload first.0 (there faults.Attest (option_and_then attest_of (text_in (codes "attest") payload)) first.0 first.1) in
    let origid = origid_found payload second.0 (there faults.Origid (option_and_then origid_of (text_in (codes "origid") payload)) second.0 second.1) in
    let here : IsOfType payload (Some (codes "shaken")) (kinds.Shaken first.0 second.0) = record { has = (level, origid.0, origid.1); type_is = refl } in
    subst (IsOfType payload (Some (codes "shaken"))) is here

div_only : (payload : Data) (kind : Kind) → read_div payload ≡ Ok kind → IsOfType payload (Some (codes "div")) kind
div_only payload kind h =
    let first = came (or_fault faults.Div (number_in (codes "div") payload)) (λ div. Ok (kinds.Div div)) kind h in
    let is : kinds.Div first.0 ≡ kind = let e = first.2 in cc in
    let div = number_only (codes "div") payload first.0 (there faults.Div (number_in (codes "div") payload) first.0 first.1) in
    let here : IsOfType payload (Some (codes "div")) (kinds.Div first.0) = record { has = div; type_is = refl } in
    subst (IsOfType payload (Some (codes "div"))) is here

base_only : (payload : Data) (kind : Kind) → checked_kind None payload ≡ Ok kind → IsOfType payload None kind
base_only payload kind h =
    let is : kinds.Base ≡ kind = cc in
    let here : IsOfType payload None kinds.Base = record { has = tt; type_is = refl } in
    subst (IsOfType payload None) is here

pub kind_only : (payload : Data) (ppt : Option (List ℕ)) (kind : Kind) → IsKnown ppt → checked_kind ppt payload ≡ Ok kind → IsOfType payload ppt kind
kind_only payload ppt kind (inl e) h = rw e (base_only payload kind (subst (λ p. checked_kind p payload ≡ Ok kind) e h))
kind_only payload ppt kind (inr (inl e)) h = rw e (shaken_only payload kind (subst (λ p. checked_kind p payload ≡ Ok kind) e h))
kind_only payload ppt kind (inr (inr e)) h = rw e (div_only payload kind (subst (λ p. checked_kind p payload ≡ Ok kind) e h))

-- what is read meets what each PASSporT meets
pub kind_meets : (payload : Data) (kind : Kind) → HasKind payload kind → IsKind kind
kind_meets payload kinds.Base h = tt
kind_meets payload (kinds.Shaken level origid) h = h.2
kind_meets payload (kinds.Div div) h = tt

-- ---- they are refused for the first that is broken, and the first that is broken is what they are refused for

attest_read : (payload : Data) (level : Attest) → HasText (codes "attest") (attest_text level) payload
    → option_and_then attest_of (text_in (codes "attest") payload) ≡ Some level
attest_read payload level has = rw has (attest_again level)

origid_read : (payload : Data) (text : List ℕ) → HasText (codes "origid") text payload × IsOrigid text
    → option_and_then origid_of (text_in (codes "origid") payload) ≡ Some text
origid_read payload text h = rw (h.0, origid_again text h.1) refl

shaken_refused : (payload : Data) (fault : ClaimFault) → read_shaken payload ≡ Err fault → IsTypeRefused payload (Some (codes "shaken")) fault
shaken_refused payload fault h =
    elim (stops (or_fault faults.Attest (option_and_then attest_of (text_in (codes "attest") payload))) _ fault h) [
      | inl k ↦
          let n = nothing_there faults.Attest fault (option_and_then attest_of (text_in (codes "attest") payload)) k in
          wrong_attest refl
          (none_holds (λ level. HasText (codes "attest") (attest_text level) payload) (option_and_then attest_of (text_in (codes "attest") payload)) n.0 (attest_read payload)) n.1
      | inr p ↦
          let level = attest_found payload p.0 (there faults.Attest (option_and_then attest_of (text_in (codes "attest") payload)) p.0 p.1) in
          elim (stops (or_fault faults.Origid (option_and_then origid_of (text_in (codes "origid") payload))) _ fault p.2) [
            | inl k ↦
                let n = nothing_there faults.Origid fault (option_and_then origid_of (text_in (codes "origid") payload)) k in
                wrong_origid refl p.0 level
                (λ text has is. none_holds (λ text. HasText (codes "origid") text payload × IsOrigid text) (option_and_then origid_of (text_in (codes "origid") payload)) n.0 (origid_read payload) text (has, is)) n.1
            | inr q ↦ absurd (let e = q.2 in cc)
          ]
    ]

div_refused : (payload : Data) (fault : ClaimFault) → read_div payload ≡ Err fault → IsTypeRefused payload (Some (codes "div")) fault
div_refused payload fault h =
    elim (stops (or_fault faults.Div (number_in (codes "div") payload)) _ fault h) [
      | inl k ↦
          let n = nothing_there faults.Div fault (number_in (codes "div") payload) k in
          wrong_div refl
          (none_holds (λ number. HasNumber (codes "div") payload number) (number_in (codes "div") payload) n.0 (number_again (codes "div") payload)) n.1
      | inr p ↦ absurd (let e = p.2 in cc)
    ]

pub type_refused : (payload : Data) (ppt : Option (List ℕ)) (fault : ClaimFault) → IsKnown ppt → checked_kind ppt payload ≡ Err fault → IsTypeRefused payload ppt fault
type_refused payload ppt fault (inl e) h = absurd (let k = subst (λ p. checked_kind p payload ≡ Err fault) e h in cc)
type_refused payload ppt fault (inr (inl e)) h = rw e (shaken_refused payload fault (subst (λ p. checked_kind p payload ≡ Err fault) e h))
type_refused payload ppt fault (inr (inr e)) h = rw e (div_refused payload fault (subst (λ p. checked_kind p payload ≡ Err fault) e h))

attest_missing : (payload : Data) → ((level : Attest) → HasText (codes "attest") (attest_text level) payload → ⊥) → read_shaken payload ≡ Err faults.Attest
attest_missing payload none =
    rw (none_read (λ level. HasText (codes "attest") (attest_text level) payload) (option_and_then attest_of (text_in (codes "attest") payload)) (attest_found payload) none) refl

origid_missing : (payload : Data) (level : Attest) → HasText (codes "attest") (attest_text level) payload
    → ((text : List ℕ) → HasText (codes "origid") text payload → IsOrigid text → ⊥) → read_shaken payload ≡ Err faults.Origid
origid_missing payload level has none =
    rw (
      attest_read payload level has,
      none_read (λ text. HasText (codes "origid") text payload × IsOrigid text) (option_and_then origid_of (text_in (codes "origid") payload)) (origid_found payload) (λ text h. none text h.0 h.1),
    ) refl

div_missing : (payload : Data) → ((number : List ℕ) → HasNumber (codes "div") payload number → ⊥) → read_div payload ≡ Err faults.Div
div_missing payload none =
    rw (none_read (λ number. HasNumber (codes "div") payload number) (number_in (codes "div") payload) (number_only (codes "div") payload) none) refl

abbrev refused_kind : ClaimFault → Result Kind ClaimFault
refused_kind fault = Err fault

pub type_wrong : (payload : Data) (ppt : Option (List ℕ)) (fault : ClaimFault) → IsTypeRefused payload ppt fault → checked_kind ppt payload ≡ Err fault
type_wrong payload ppt fault (wrong_attest is none e) = rw is (attest_missing payload none ∙ ap refused_kind (sym e))
type_wrong payload ppt fault (wrong_origid is level has none e) = rw is (origid_missing payload level has none ∙ ap refused_kind (sym e))
type_wrong payload ppt fault (wrong_div is none e) = rw is (div_missing payload none ∙ ap refused_kind (sym e))

-- ---- a fault that an answer has is out of memory, or what is read

pub memory_or_read : {A : Type 0} (fault : ClaimFault) (read : Result A ClaimFault) → IsFaultOf (fault_seen fault) read → (fault ≡ faults.Memory) ⊎ (read ≡ Err fault)
memory_or_read faults.Kind read h = inr h
memory_or_read faults.Alg read h = inr h
memory_or_read faults.Ppt read h = inr h
memory_or_read faults.X5u read h = inr h
memory_or_read faults.Iat read h = inr h
memory_or_read faults.Orig read h = inr h
memory_or_read faults.Dest read h = inr h
memory_or_read faults.Attest read h = inr h
memory_or_read faults.Origid read h = inr h
memory_or_read faults.Div read h = inr h
memory_or_read faults.Memory read h = inl refl
