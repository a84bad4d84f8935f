-- Header and payload are refused for the first claim that is broken, and the first that is broken is what they are refused for.
use Rattle.std.proofs.Common.{◌≡◌, inl, inr, ℕ, Bool, true, false, not, cond, List, length, Option, Some, None, Result, Ok, Err, codes, refl, sym, ap, subst, ◌∙◌}
use Rattle.std.specs.Prelude.{IfSome}
use Rattle.lists.specs.Given.{IsFaultOf}
use Rattle.lists.specs.Steps.{◌>>=◌}
use Rattle.serde_json.specs.Data.{Data}
use Rattle.serde_json.specs.Find.{get}
use Rattle.passport_json.specs.IssuedAt.{IsIssuedAt, issued_at}
use Rattle.passport_json.specs.Passport.{text_where}
use Rattle.passport_claims.specs.HasKind.{checked_kind}
use Rattle.passport_claims.specs.Kind.{IsKnown}
use Rattle.passport_claims.specs.Members.{HasNumber, HasNumbers, HasText, called_in, number_in}
use Rattle.passport_claims.specs.Passport.{ClaimsView, IsCalledCount, most_called}
use Rattle.passport_claims.specs.Read.{checked_header, has_text, has_text_where, read_claims}
use Rattle.passport_claims.specs.Reading.{Gives, IfRefused, fault_seen, or_fault}
use Rattle.passport_claims.specs.Refused.{HasCalled, HasCalling, HasHeader, HasTime, IsOfFieldType, IsSigned256, Refused, wrong_alg, wrong_dest, wrong_iat, wrong_orig, wrong_ppt, wrong_typ, wrong_type, wrong_x5u}
use Rattle.passport_claims.specs.declared.fault.ClaimFault.{ClaimFault}
use Rattle.passport_claims.specs.declared.fault.ClaimFault.TheVariants as faults
use Rattle.passport_claims.specs.declared.kind.Kind.{Kind}
use Rattle.passport_claims.proofs.ClaimsLaws.{header_again, header_only, issued_again, issued_only}
use Rattle.passport_claims.proofs.KindLaws.{type_refused, type_wrong}
use Rattle.passport_claims.proofs.MemberLaws.{called_again, called_count, called_only, count_called, number_again, number_only, text_again, text_found, where_again, where_found}
use Rattle.passport_claims.proofs.RefusedSteps.{false_means, means_false, none_holds, none_read, nothing_there, stops, there}

-- ---- the header

header_refused : (header payload : Data) (ppt : Option (List ℕ)) (info : List ℕ) (fault : ClaimFault) → checked_header header ppt info ≡ Err fault
    → Refused header payload ppt info fault
header_refused header payload ppt info fault h =
    of (has_text (codes "typ") (codes "passport") header) (has_text (codes "alg") (codes "ES256") header) (has_text_where (codes "ppt") ppt header)
    (has_text (codes "x5u") info header) refl refl refl refl h
  where
    of : (a b c d : Bool) → has_text (codes "typ") (codes "passport") header ≡ a → has_text (codes "alg") (codes "ES256") header ≡ b
        → has_text_where (codes "ppt") ppt header ≡ c → has_text (codes "x5u") info header ≡ d
        → ◌≡◌ {A = Result (List ℕ) ClaimFault} (cond (not a) (Err faults.Kind) (cond (not b) (Err faults.Alg) (cond (not c) (Err faults.Ppt) (cond (not d) (Err faults.X5u) (Ok info))))) (Err fault)
        → Refused header payload ppt info fault
    of false b c d ea eb ec ed h =
        let is : faults.Kind ≡ fault = cc in
        wrong_typ (false_means _ _ ea (text_again (codes "typ") (codes "passport") header)) (sym is)
    of true false c d ea eb ec ed h =
        let is : faults.Alg ≡ fault = cc in
        wrong_alg (text_found (codes "typ") (codes "passport") header ea) (false_means _ _ eb (text_again (codes "alg") (codes "ES256") header)) (sym is)
    of true true false d ea eb ec ed h =
        let is : faults.Ppt ≡ fault = cc in
        wrong_ppt (record { typ = text_found (codes "typ") (codes "passport") header ea; alg = text_found (codes "alg") (codes "ES256") header eb })
        (false_means _ _ ec (where_again (codes "ppt") ppt header)) (sym is)
    of true true true false ea eb ec ed h =
        let is : faults.X5u ≡ fault = cc in
        wrong_x5u (record {
          before = record { typ = text_found (codes "typ") (codes "passport") header ea; alg = text_found (codes "alg") (codes "ES256") header eb };
          same_ppt = where_found (codes "ppt") ppt header ec;
        }) (false_means _ _ ed (text_again (codes "x5u") info header)) (sym is)
    of true true true true ea eb ec ed h = absurd cc

-- ---- what is left to read after each claim, and that its fault is that of header and payload

abbrev claims_of : List ℕ → ℕ → List ℕ → List (List ℕ) → Kind → ClaimsView
claims_of x5u iat orig dest kind = record { kind = kind; x5u = x5u; iat = iat; orig = orig; dest = dest }

abbrev behind_dest : Data → Option (List ℕ) → List ℕ → ℕ → List ℕ → List (List ℕ) → Result ClaimsView ClaimFault
behind_dest payload ppt x5u iat orig dest = checked_kind ppt payload >>= λ kind. Ok (claims_of x5u iat orig dest kind)

abbrev behind_orig : Data → Option (List ℕ) → List ℕ → ℕ → List ℕ → Result ClaimsView ClaimFault
behind_orig payload ppt x5u iat orig = or_fault faults.Dest (called_in (most_called ppt) payload) >>= λ dest. behind_dest payload ppt x5u iat orig dest

abbrev behind_iat : Data → Option (List ℕ) → List ℕ → ℕ → Result ClaimsView ClaimFault
behind_iat payload ppt x5u iat = or_fault faults.Orig (number_in (codes "orig") payload) >>= λ orig. behind_orig payload ppt x5u iat orig

abbrev behind_header : Data → Option (List ℕ) → List ℕ → Result ClaimsView ClaimFault
behind_header payload ppt x5u = or_fault faults.Iat (issued_at payload) >>= λ iat. behind_iat payload ppt x5u iat

-- the called numbers, and that there are as many as the type allows
called_read : (payload : Data) (ppt : Option (List ℕ)) (numbers : List (List ℕ)) → HasNumbers payload numbers × IsCalledCount ppt (length numbers)
    → called_in (most_called ppt) payload ≡ Some numbers
called_read payload ppt numbers h = called_again (most_called ppt) payload numbers h.0 h.1.some (count_called ppt (length numbers) h.1)

called_holds : (payload : Data) (ppt : Option (List ℕ)) (numbers : List (List ℕ)) → called_in (most_called ppt) payload ≡ Some numbers
    → HasNumbers payload numbers × IsCalledCount ppt (length numbers)
called_holds payload ppt numbers h =
    let k = called_only (most_called ppt) payload numbers h in
    (k.has, called_count ppt (length numbers) k.some k.few)

last_refused : (header payload : Data) (ppt : Option (List ℕ)) (info : List ℕ) (fault : ClaimFault) (x5u : List ℕ) (iat : ℕ) (orig : List ℕ) (dest : List (List ℕ))
    → IsKnown ppt → HasCalled header payload ppt info → behind_dest payload ppt x5u iat orig dest ≡ Err fault → Refused header payload ppt info fault
last_refused header payload ppt info fault x5u iat orig dest known before h =
    elim (stops (checked_kind ppt payload) _ fault h) [
      | inl k ↦ wrong_type before (type_refused payload ppt fault known k)
      | inr p ↦ absurd (let e = p.2 in cc)
    ]

dest_refused : (header payload : Data) (ppt : Option (List ℕ)) (info : List ℕ) (fault : ClaimFault) (x5u : List ℕ) (iat : ℕ) (orig : List ℕ)
    → IsKnown ppt → HasCalling header payload ppt info → behind_orig payload ppt x5u iat orig ≡ Err fault → Refused header payload ppt info fault
dest_refused header payload ppt info fault x5u iat orig known before h =
    elim (stops (or_fault faults.Dest (called_in (most_called ppt) payload)) _ fault h) [
      | inl k ↦
          let n = nothing_there faults.Dest fault (called_in (most_called ppt) payload) k in
          wrong_dest before
          (λ numbers has count. none_holds (λ numbers. HasNumbers payload numbers × IsCalledCount ppt (length numbers)) (called_in (most_called ppt) payload) n.0
          (called_read payload ppt) numbers (has, count)) n.1
      | inr p ↦
          let k = called_holds payload ppt p.0 (there faults.Dest (called_in (most_called ppt) payload) p.0 p.1) in
          last_refused header payload ppt info fault x5u iat orig p.0 known (record { dest = p.0; before = before; called = k.0; count = k.1 }) p.2
    ]

orig_refused : (header payload : Data) (ppt : Option (List ℕ)) (info : List ℕ) (fault : ClaimFault) (x5u : List ℕ) (iat : ℕ)
    → IsKnown ppt → HasTime header payload ppt info → behind_iat payload ppt x5u iat ≡ Err fault → Refused header payload ppt info fault
orig_refused header payload ppt info fault x5u iat known before h =
    elim (stops (or_fault faults.Orig (number_in (codes "orig") payload)) _ fault h) [
      | inl k ↦
          let n = nothing_there faults.Orig fault (number_in (codes "orig") payload) k in
          wrong_orig before
          (none_holds (λ number. HasNumber (codes "orig") payload number) (number_in (codes "orig") payload) n.0 (number_again (codes "orig") payload)) n.1
      | inr p ↦
          let calling = number_only (codes "orig") payload p.0 (there faults.Orig (number_in (codes "orig") payload) p.0 p.1) in
          dest_refused header payload ppt info fault x5u iat p.0 known (record { orig = p.0; before = before; calling = calling }) p.2
    ]

iat_refused : (header payload : Data) (ppt : Option (List ℕ)) (info : List ℕ) (fault : ClaimFault) (x5u : List ℕ) → IsKnown ppt → HasHeader header ppt info
    → behind_header payload ppt x5u ≡ Err fault → Refused header payload ppt info fault
iat_refused header payload ppt info fault x5u known before h =
    elim (stops (or_fault faults.Iat (issued_at payload)) _ fault h) [
      | inl k ↦
          let n = nothing_there faults.Iat fault (issued_at payload) k in
          wrong_iat before (none_holds (λ seconds. IsIssuedAt payload seconds) (issued_at payload) n.0 (issued_again payload)) n.1
      | inr p ↦
          let issued = issued_only payload p.0 (there faults.Iat (issued_at payload) p.0 p.1) in
          orig_refused header payload ppt info fault x5u p.0 known (record { iat = p.0; before = before; issued = issued }) p.2
    ]

-- what is read as a fault is the first claim that is broken
refused_found : (header payload : Data) (ppt : Option (List ℕ)) (info : List ℕ) (fault : ClaimFault) → IsKnown ppt → read_claims header payload ppt info ≡ Err fault
    → Refused header payload ppt info fault
unfolding read_claims
refused_found header payload ppt info fault known h =
    elim (stops (checked_header header ppt info) _ fault h) [
      | inl k ↦ header_refused header payload ppt info fault k
      | inr p ↦ iat_refused header payload ppt info fault p.0 known (header_only header ppt info p.0 p.1).0 p.2
    ]

-- ---- the other way round

iat_read : (header payload : Data) (ppt : Option (List ℕ)) (info : List ℕ) → HasHeader header ppt info → ((seconds : ℕ) → IsIssuedAt payload seconds → ⊥)
    → read_claims header payload ppt info ≡ Err faults.Iat
unfolding read_claims
iat_read header payload ppt info before none =
    let nothing : issued_at payload ≡ None = none_read (λ seconds. IsIssuedAt payload seconds) (issued_at payload) (issued_only payload) none in
    rw (header_again header ppt info before, nothing) refl

orig_read : (header payload : Data) (ppt : Option (List ℕ)) (info : List ℕ) → HasTime header payload ppt info
    → ((number : List ℕ) → HasNumber (codes "orig") payload number → ⊥) → read_claims header payload ppt info ≡ Err faults.Orig
unfolding read_claims
orig_read header payload ppt info before none =
    let nothing : number_in (codes "orig") payload ≡ None = none_read (λ number. HasNumber (codes "orig") payload number) (number_in (codes "orig") payload) (number_only (codes "orig") payload) none in
    rw (header_again header ppt info before.before, issued_again payload before.iat before.issued, nothing) refl

dest_read : (header payload : Data) (ppt : Option (List ℕ)) (info : List ℕ) → HasCalling header payload ppt info
    → ((numbers : List (List ℕ)) → HasNumbers payload numbers → IsCalledCount ppt (length numbers) → ⊥) → read_claims header payload ppt info ≡ Err faults.Dest
unfolding read_claims
dest_read header payload ppt info before none =
    let nothing : called_in (most_called ppt) payload ≡ None
    = none_read (λ numbers. HasNumbers payload numbers × IsCalledCount ppt (length numbers)) (called_in (most_called ppt) payload) (called_holds payload ppt)
    (λ numbers h. none numbers h.0 h.1) in
    rw (
      header_again header ppt info before.before.before,
      issued_again payload before.before.iat before.before.issued,
      number_again (codes "orig") payload before.orig before.calling,
      nothing,
    ) refl

-- what is read if all but the type's own claims are right
type_read : (header payload : Data) (ppt : Option (List ℕ)) (info : List ℕ) (fault : ClaimFault) → HasCalled header payload ppt info
    → checked_kind ppt payload ≡ Err fault → read_claims header payload ppt info ≡ Err fault
unfolding read_claims
type_read header payload ppt info fault before wrong =
    rw (
      header_again header ppt info before.before.before.before,
      issued_again payload before.before.before.iat before.before.before.issued,
      number_again (codes "orig") payload before.before.orig before.before.calling,
      called_read payload ppt before.dest (before.called, before.count),
      wrong,
    ) refl

abbrev refused_claims : ClaimFault → Result ClaimsView ClaimFault
refused_claims fault = Err fault

typ_read : (header payload : Data) (ppt : Option (List ℕ)) (info : List ℕ) → (HasText (codes "typ") (codes "passport") header → ⊥)
    → read_claims header payload ppt info ≡ Err faults.Kind
unfolding read_claims
typ_read header payload ppt info wrong = rw (means_false _ _ (text_found (codes "typ") (codes "passport") header) wrong) refl

alg_read : (header payload : Data) (ppt : Option (List ℕ)) (info : List ℕ) → HasText (codes "typ") (codes "passport") header
    → (HasText (codes "alg") (codes "ES256") header → ⊥) → read_claims header payload ppt info ≡ Err faults.Alg
unfolding read_claims
alg_read header payload ppt info typ wrong =
    rw (text_again (codes "typ") (codes "passport") header typ, means_false _ _ (text_found (codes "alg") (codes "ES256") header) wrong) refl

ppt_read : (header payload : Data) (ppt : Option (List ℕ)) (info : List ℕ) → IsSigned256 header → (get (codes "ppt") header ≡ text_where ppt → ⊥)
    → read_claims header payload ppt info ≡ Err faults.Ppt
unfolding read_claims
ppt_read header payload ppt info before wrong =
    rw (
      text_again (codes "typ") (codes "passport") header before.typ,
      text_again (codes "alg") (codes "ES256") header before.alg,
      means_false _ _ (where_found (codes "ppt") ppt header) wrong,
    ) refl

x5u_read : (header payload : Data) (ppt : Option (List ℕ)) (info : List ℕ) → IsOfFieldType header ppt → (HasText (codes "x5u") info header → ⊥)
    → read_claims header payload ppt info ≡ Err faults.X5u
unfolding read_claims
x5u_read header payload ppt info before wrong =
    rw (
      text_again (codes "typ") (codes "passport") header before.before.typ,
      text_again (codes "alg") (codes "ES256") header before.before.alg,
      where_again (codes "ppt") ppt header before.same_ppt,
      means_false _ _ (text_found (codes "x5u") info header) wrong,
    ) refl

-- the first claim that is broken is what is read
refused_again : (header payload : Data) (ppt : Option (List ℕ)) (info : List ℕ) (fault : ClaimFault) → Refused header payload ppt info fault
    → read_claims header payload ppt info ≡ Err fault
refused_again header payload ppt info fault (wrong_typ wrong e) = typ_read header payload ppt info wrong ∙ ap refused_claims (sym e)
refused_again header payload ppt info fault (wrong_alg typ wrong e) = alg_read header payload ppt info typ wrong ∙ ap refused_claims (sym e)
refused_again header payload ppt info fault (wrong_ppt before wrong e) = ppt_read header payload ppt info before wrong ∙ ap refused_claims (sym e)
refused_again header payload ppt info fault (wrong_x5u before wrong e) = x5u_read header payload ppt info before wrong ∙ ap refused_claims (sym e)
refused_again header payload ppt info fault (wrong_iat before none e) = iat_read header payload ppt info before none ∙ ap refused_claims (sym e)
refused_again header payload ppt info fault (wrong_orig before none e) = orig_read header payload ppt info before none ∙ ap refused_claims (sym e)
refused_again header payload ppt info fault (wrong_dest before none e) = dest_read header payload ppt info before none ∙ ap refused_claims (sym e)
refused_again header payload ppt info fault (wrong_type before wrong) = type_read header payload ppt info fault before (type_wrong payload ppt fault wrong)

-- ---- of an answer

by_seen : (seen : Option ClaimFault) (read : Result ClaimsView ClaimFault) (P : ClaimFault → Type 0) → ((fault : ClaimFault) → read ≡ Err fault → P fault)
    → IsFaultOf seen read → IfSome seen P
by_seen None read P means gives = tt
by_seen (Some fault) read P means gives = means fault gives

pub claims_refused : (header payload : Data) (ppt : Option (List ℕ)) (info : List ℕ) (result : Result ClaimsView ClaimFault) → IsKnown ppt
    → Gives (λ claims. claims) result (read_claims header payload ppt info) → IfRefused result (Refused header payload ppt info)
claims_refused header payload ppt info (Ok claims) known gives = tt
claims_refused header payload ppt info (Err fault) known gives =
    by_seen (fault_seen fault) (read_claims header payload ppt info) (Refused header payload ppt info) (λ fault e. refused_found header payload ppt info fault known e)
    gives

pub claims_only_refused : (header payload : Data) (ppt : Option (List ℕ)) (info : List ℕ) (result : Result ClaimsView ClaimFault)
    → Gives (λ claims. claims) result (read_claims header payload ppt info) → (fault : ClaimFault) → Refused header payload ppt info fault
    → Gives {X = ClaimsView} {A = ClaimsView} (λ claims. claims) result (Err fault)
claims_only_refused header payload ppt info result gives fault refused =
    subst (Gives {X = ClaimsView} {A = ClaimsView} (λ claims. claims) result) (refused_again header payload ppt info fault refused) gives
