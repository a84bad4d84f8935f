-- What is read of header and payload is what the relation says, and nothing else.
use Rattle.std.proofs.Common.{◌≡◌, ℕ, Bool, true, false, not, List, length, cond, nat_le, Option, Some, None, Result, Ok, Err, refl, sym, ap, ◌∙◌, subst, codes, arith, le-leb}
use Rattle.std.specs.Prelude.{option_and_then, IfOk}
use Rattle.std.proofs.lemmas.Bool.Decides.{nat_tests}
use Rattle.std.proofs.lemmas.Option.{option_and_then_some}
use Rattle.serde_json.specs.Data.{Num, unsigned, negative, float, Data, null, boolean, number, string, array, object}
use Rattle.serde_json.specs.Find.{as_number, as_u64, get}
use Rattle.passport_json.specs.IssuedAt.{IsIssuedAt, issued_at, not_past}
use Rattle.text_grammar.specs.Moment.{last_second}
use Rattle.passport_claims.specs.Claims.{Claims}
use Rattle.passport_claims.specs.HasKind.{checked_kind}
use Rattle.passport_claims.specs.Kind.{IsKnown}
use Rattle.passport_claims.specs.Members.{called_in, number_in}
use Rattle.passport_claims.specs.Passport.{ClaimsView, IsCalledCount, IsPassport, most_called}
use Rattle.passport_claims.specs.Read.{checked_header, has_text, has_text_where, read_claims}
use Rattle.passport_claims.specs.Refused.{HasHeader, IsOfFieldType, IsSigned256}
use Rattle.passport_claims.specs.Reading.{Gives, IsOkUnlessMemory, fault_seen, or_fault}
use Rattle.passport_claims.specs.declared.fault.ClaimFault.{ClaimFault}
use Rattle.passport_claims.specs.declared.fault.ClaimFault.TheVariants as faults
use Rattle.passport_claims.specs.declared.kind.Kind.{Kind}
use Rattle.passport_claims.proofs.KindLaws.{kind_again, kind_meets, kind_only}
use Rattle.passport_claims.proofs.MemberLaws.{called_again, called_count, called_only, count_called, number_again, number_only, text_again, text_found, where_again, where_found}
use Rattle.passport_claims.proofs.RefusedSteps.{there}
use Rattle.lists.proofs.GivenLaws.{only_given}
use Rattle.lists.proofs.StepLaws.{came}

-- ---- the header

pub header_again : (header : Data) (ppt : Option (List ℕ)) (info : List ℕ) → HasHeader header ppt info → checked_header header ppt info ≡ Ok info
header_again header ppt info h =
    rw (
      text_again (codes "typ") (codes "passport") header h.before.before.typ,
      text_again (codes "alg") (codes "ES256") header h.before.before.alg,
      where_again (codes "ppt") ppt header h.before.same_ppt,
      text_again (codes "x5u") info header h.same_x5u,
    ) refl

record FourHold (a b c d : Bool) (info kept : List ℕ) : Type 0 where
  first : a ≡ true
  second : b ≡ true
  third : c ≡ true
  fourth : d ≡ true
  is : kept ≡ info

four_by : (a b c d : Bool) (info kept : List ℕ)
    → cond (not a) (Err faults.Kind) (cond (not b) (Err faults.Alg) (cond (not c) (Err faults.Ppt) (cond (not d) (Err faults.X5u) (Ok info)))) ≡ Ok kept → FourHold a b c d info kept
four_by true true true true info kept h = let e : info ≡ kept = cc in record { first = refl; second = refl; third = refl; fourth = refl; is = sym e }
four_by false b c d info kept h = absurd cc
four_by true false c d info kept h = absurd cc
four_by true true false d info kept h = absurd cc
four_by true true true false info kept h = absurd cc

pub header_only : (header : Data) (ppt : Option (List ℕ)) (info kept : List ℕ) → checked_header header ppt info ≡ Ok kept
    → HasHeader header ppt info × (kept ≡ info)
header_only header ppt info kept h =
    let k = four_by (has_text (codes "typ") (codes "passport") header) (has_text (codes "alg") (codes "ES256") header) (has_text_where (codes "ppt") ppt header) (has_text (codes "x5u") info header) info kept h in
    let signed : IsSigned256 header = record {
      typ = text_found (codes "typ") (codes "passport") header k.first;
      alg = text_found (codes "alg") (codes "ES256") header k.second;
    } in
    let of_type : IsOfFieldType header ppt = record { before = signed; same_ppt = where_found (codes "ppt") ppt header k.third } in
    (record { before = of_type; same_x5u = text_found (codes "x5u") info header k.fourth }, k.is)

-- ---- all claims

pub issued_again : (payload : Data) (iat : ℕ) → IsIssuedAt payload iat → issued_at payload ≡ Some iat
issued_again payload iat is = rw (is.member, le-leb iat last_second is.within) refl

header_of : (header payload : Data) (ppt : Option (List ℕ)) (info : List ℕ) (claims : ClaimsView) → Claims header payload ppt info claims
    → HasHeader header ppt info
header_of header payload ppt info claims c =
    record { before = record { before = record { typ = c.typ; alg = c.alg }; same_ppt = c.same_ppt }; same_x5u = c.same_x5u }

pub claims_again : (header payload : Data) (ppt : Option (List ℕ)) (info : List ℕ) (claims : ClaimsView) → Claims header payload ppt info claims → read_claims header payload ppt info ≡ Ok claims
unfolding read_claims
claims_again header payload ppt info claims c =
    let kind : checked_kind ppt payload ≡ Ok claims.kind = subst (λ p. checked_kind p payload ≡ Ok claims.kind) c.kept_ppt (kind_again payload claims.kind c.kind) in
    let kept : info ≡ claims.x5u = sym c.kept_x5u in
    let issued : issued_at payload ≡ Some claims.iat = issued_again payload claims.iat c.iat in
    rw (
      header_again header ppt info (header_of header payload ppt info claims c),
      issued,
      number_again (codes "orig") payload claims.orig c.orig,
      called_again (most_called ppt) payload claims.dest c.dest c.called.some (count_called ppt (length claims.dest) c.called),
      kind,
      kept,
    ) refl

-- ---- and the other way round

past_by : (t : Bool) (seconds iat : ℕ) → cond t (Some seconds) None ≡ Some iat → (seconds ≡ iat) × (t ≡ true)
past_by true seconds iat h = let e : seconds ≡ iat = cc in (e, refl)
past_by false seconds iat h = absurd cc

number_by : (value : Data) (n : Num) → as_number value ≡ Some n → value ≡ number n
number_by null n h = absurd cc
number_by (boolean b) n h = absurd cc
number_by (number own) n h = let e : own ≡ n = cc in ap number e
number_by (string s) n h = absurd cc
number_by (array items) n h = absurd cc
number_by (object ms) n h = absurd cc

unsigned_by : (n : Num) (seconds : ℕ) → as_u64 n ≡ Some seconds → n ≡ unsigned seconds
unsigned_by (unsigned own) seconds h = let e : own ≡ seconds = cc in ap unsigned e
unsigned_by (negative z) seconds h = absurd cc
unsigned_by (float x) seconds h = absurd cc

pub issued_only : (payload : Data) (iat : ℕ) → issued_at payload ≡ Some iat → IsIssuedAt payload iat
issued_only payload iat h =
    option_and_then_some not_past (option_and_then as_u64 (option_and_then as_number (get (codes "iat") payload))) iat h
    (λ seconds es el. option_and_then_some as_u64 (option_and_then as_number (get (codes "iat") payload)) seconds es
    (λ n en eu. option_and_then_some as_number (get (codes "iat") payload) n en
    (λ value ev ea. let k = past_by (nat_le seconds last_second) seconds iat el in
    let low : nat_le iat last_second ≡ true = subst (λ m. nat_le m last_second ≡ true) k.0 k.1 in
    let is : value ≡ number (unsigned iat) = number_by value n ea ∙ ap number (unsigned_by n seconds eu ∙ ap unsigned k.0) in
    record { member = ev ∙ ap (λ x. Some x) is; within = grind (arith, nat_tests) })))

pub claims_only : (header payload : Data) (ppt : Option (List ℕ)) (info : List ℕ) (claims : ClaimsView) → IsKnown ppt → read_claims header payload ppt info ≡ Ok claims
    → Claims header payload ppt info claims
unfolding read_claims
claims_only header payload ppt info claims known h =
    let first = came (checked_header header ppt info) _ claims h in
    let second = came (or_fault faults.Iat (issued_at payload)) _ claims first.2 in
    let third = came (or_fault faults.Orig (number_in (codes "orig") payload)) _ claims second.2 in
    let fourth = came (or_fault faults.Dest (called_in (most_called ppt) payload)) _ claims third.2 in
    let fifth = came (checked_kind ppt payload) _ claims fourth.2 in
    let head = header_only header ppt info first.0 first.1 in
    let iat = issued_only payload second.0 (there faults.Iat (issued_at payload) second.0 second.1) in
    let orig = number_only (codes "orig") payload third.0 (there faults.Orig (number_in (codes "orig") payload) third.0 third.1) in
    let dest = called_only (most_called ppt) payload fourth.0 (there faults.Dest (called_in (most_called ppt) payload) fourth.0 fourth.1) in
    let kind = kind_only payload ppt fifth.0 known fifth.1 in
    let made : ClaimsView = record { kind = fifth.0; x5u = first.0; iat = second.0; orig = third.0; dest = fourth.0 } in
    let is : made ≡ claims = let e = fifth.2 in cc in
    let here : Claims header payload ppt info made = record {
      typ = head.0.before.before.typ;
      alg = head.0.before.before.alg;
      same_ppt = head.0.before.same_ppt;
      same_x5u = head.0.same_x5u;
      iat = iat;
      orig = orig;
      dest = dest.has;
      called = called_count ppt (length fourth.0) dest.some dest.few;
      kind = kind.has;
      kept_ppt = kind.type_is;
      kept_x5u = head.1;
    } in
    subst (Claims header payload ppt info) is here

-- ---- what a reader's result says

pub claims_found : (header payload : Data) (ppt : Option (List ℕ)) (info : List ℕ) (result : Result ClaimsView ClaimFault) → IsKnown ppt
    → Gives (λ claims. claims) result (read_claims header payload ppt info) → IfOk result (λ claims. Claims header payload ppt info claims)
claims_found header payload ppt info (Ok claims) known gives = claims_only header payload ppt info claims known gives
claims_found header payload ppt info (Err broken) known gives = tt

pub claims_only_of : (header payload : Data) (ppt : Option (List ℕ)) (info : List ℕ) (result : Result ClaimsView ClaimFault)
    → Gives (λ claims. claims) result (read_claims header payload ppt info) → (claims : ClaimsView) → Claims header payload ppt info claims
    → IsOkUnlessMemory result (λ found. found ≡ claims)
claims_only_of header payload ppt info result gives claims c =
    only_given fault_seen (λ claims. claims) result (read_claims header payload ppt info) claims gives (claims_again header payload ppt info claims c)

pub claims_unique : (header payload : Data) (ppt : Option (List ℕ)) (info : List ℕ) (one other : ClaimsView) → Claims header payload ppt info one
    → Claims header payload ppt info other → one ≡ other
claims_unique header payload ppt info one other a b =
    let e : ◌≡◌ {A = Result ClaimsView ClaimFault} (Ok one) (Ok other) = sym (claims_again header payload ppt info one a) ∙ claims_again header payload ppt info other b in
    cc

-- ---- what is read meets what each PASSporT meets

pub read_meets : (payload : Data) (ppt : Option (List ℕ)) (kind : Kind) (x5u : List ℕ) (iat : ℕ) (orig : List ℕ) (dest : List (List ℕ)) → IsKnown ppt
    → IsIssuedAt payload iat → or_fault faults.Dest (called_in (most_called ppt) payload) ≡ Ok dest → checked_kind ppt payload ≡ Ok kind
    → IsPassport (record { kind = kind; x5u = x5u; iat = iat; orig = orig; dest = dest })
read_meets payload ppt kind x5u iat orig dest known issued called typed =
    let counted = called_only (most_called ppt) payload dest (there faults.Dest (called_in (most_called ppt) payload) dest called) in
    let of_type = kind_only payload ppt kind known typed in
    record {
      iat_within = issued.within;
      called = subst (λ p. IsCalledCount p (length dest)) (sym of_type.type_is) (called_count ppt (length dest) counted.some counted.few);
      kind_ok = kind_meets payload kind of_type.has;
    }
