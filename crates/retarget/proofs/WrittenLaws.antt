-- What is written, step by step.
use Rattle.std.proofs.Common.{◌≡◌, ℕ, ◌≤◌, ◌<◌, Bool, true, false, ◌&&◌, nat_le, cond, List, ◌++◌, length, take, drop, Option, Some, Result, Ok, Err, IsTrue, refl, sym, ◌∙◌, ap, subst, arith, length-append}
use Rattle.std.proofs.lemmas.Bool.{and_parts}
use Rattle.std.proofs.lemmas.Bool.Decides.{nat_tests}
use Rattle.std.proofs.lemmas.List.{take-append-drop}
use Rattle.lists.specs.Given.{IsFaultOf}
use Rattle.text_grammar.specs.Moment.{last_second}
use Rattle.text_grammar.specs.Uri.{is_uri}
use Rattle.sip_message.specs.Added.{head_end, sized_or_fault, with_line, written_field}
use Rattle.sip_message.specs.Message.{MessageView}
use Rattle.sip_message.specs.Reading.{fault, read}
use Rattle.sip_message.specs.Target.{HasOtherUri, targeted, to_uri, with_uri}
use Rattle.sip_message.specs.Seen.{fault_seen}
use Rattle.sip_message.specs.declared.fault.FormFault.{FormFault}
use Rattle.sip_message.specs.declared.fault.MessageFault.{MessageFault}
use Rattle.sip_message.specs.declared.fault.MessageFault.TheVariants as message_faults
use Rattle.auth_service.specs.Answer.{is_provider as is_signer_provider}
use Rattle.auth_service.specs.Causes.{IsCaused, IsWithheld}
use Rattle.auth_service.specs.Order.{HolderView, OrderView, is_order}
use Rattle.auth_service.specs.Signed.{signed}
use Rattle.auth_service.specs.declared.fault.SignFault.{SignFault}
use Rattle.auth_service.specs.declared.fault.SignFault.TheVariants as signing
use Rattle.retarget.specs.Answer.{hop_fault, is_provider}
use Rattle.retarget.specs.Hop.{HopView, diversion, is_hop}
use Rattle.retarget.specs.Written.{CannotSign, Why, as_hop, diverted, refused, too_long, withheld, written_to}
use Rattle.retarget.specs.declared.fault.HopFault.{HopFault}
use Rattle.retarget.specs.declared.fault.HopFault.TheVariants as faults

abbrev Signs : Type 0
Signs = List ℕ → List ℕ → Option (List ℕ)

-- ---- the order

valid_by : (hop : HopView) → is_uri hop.x5u ≡ true → nat_le hop.iat last_second ≡ true → (is_uri hop.x5u && nat_le hop.iat last_second && true) ≡ true
valid_by hop u i = rw (u, i) refl

-- the signer takes the order of a hop that is valid
pub order_valid : (hop : HopView) (earlier : List ℕ) (order : OrderView) → order ≡ diversion hop earlier → IsTrue (is_hop hop) → IsTrue (is_order order)
order_valid hop earlier order e h =
    let t = and_parts (is_uri hop.x5u) (nat_le hop.iat last_second) h in
    ap is_order e ∙ valid_by hop t.0 t.1

-- ---- the other request URI

sized_is : (out made : List ℕ) (t : Bool) → nat_le (length made) 65535 ≡ t → ◌≡◌ {A = Result (List ℕ) FormFault} (cond t (Ok made) (Err (fault 1 65535))) (Ok out)
    → out ≡ made
sized_is out made true e h = cc
sized_is out made false e h = absurd cc

moved_by : (bytes uri out : List ℕ) (r : Result MessageView FormFault) → sized_or_fault r (with_uri bytes uri) ≡ Ok out → out ≡ with_uri bytes uri
moved_by bytes uri out (Ok message) h = sized_is out (with_uri bytes uri) (nat_le (length (with_uri bytes uri)) 65535) refl h
moved_by bytes uri out (Err found) h = absurd cc

pub moved_is : (bytes uri out : List ℕ) → targeted bytes uri ≡ Ok out → out ≡ with_uri bytes uri
unfolding targeted
moved_is bytes uri out h = moved_by bytes uri out (read bytes) h

short_by : (made out : List ℕ) (t : Bool) → nat_le (length made) 65535 ≡ t → ◌≡◌ {A = Result (List ℕ) FormFault} (cond t (Ok made) (Err (fault 1 65535))) (Ok out)
    → length out ≤ 65535
short_by made out true e h =
    let same : made ≡ out = cc in
    let k : length made ≤ 65535 = grind (arith, nat_tests, e) in subst (λ (x : List ℕ). length x ≤ 65535) same k
short_by made out false e h = absurd cc

short_of : (bytes uri out : List ℕ) (r : Result MessageView FormFault) → sized_or_fault r (with_uri bytes uri) ≡ Ok out → length out ≤ 65535
short_of bytes uri out (Ok message) h = short_by (with_uri bytes uri) out (nat_le (length (with_uri bytes uri)) 65535) refl h
short_of bytes uri out (Err found) h = absurd cc

pub short_is : (bytes uri out : List ℕ) → targeted bytes uri ≡ Ok out → length out ≤ 65535
unfolding targeted
short_is bytes uri out h = short_of bytes uri out (read bytes) h

long_by : (made : List ℕ) (found : FormFault) (t : Bool) → nat_le (length made) 65535 ≡ t → ◌≡◌ {A = Result (List ℕ) FormFault} (cond t (Ok made) (Err (fault 1 65535))) (Err found)
    → 65535 < length made
long_by made found true e h = absurd cc
long_by made found false e h = grind (arith, nat_tests, e)

-- bytes that are a message are refused for the size that they would have
pub too_long_is : (bytes uri : List ℕ) (message : MessageView) (found : FormFault) → read bytes ≡ Ok message → targeted bytes uri ≡ Err found → 65535 < length (with_uri bytes uri)
unfolding targeted
too_long_is bytes uri message found e h =
    long_by (with_uri bytes uri) found (nat_le (length (with_uri bytes uri)) 65535) refl
    (ap (λ (r : Result MessageView FormFault). sized_or_fault r (with_uri bytes uri)) (sym e) ∙ h)

-- a line more makes no bytes shorter
pub longer : (bytes name value : List ℕ) → length bytes ≤ length (with_line bytes name value)
longer bytes name value =
    let n : ℕ = head_end bytes in
    let whole = ap {B = ℕ} (λ (xs : List ℕ). length xs) (take-append-drop n bytes) in
    let parts = length-append (take n bytes) (drop n bytes) in
    let behind = length-append (written_field name value) (drop n bytes) in
    let all = length-append (take n bytes) (written_field name value ++ drop n bytes) in
    omega (arith, whole, parts, behind, all)

-- ---- what the signer gives, as it is named here

pub exact_long : (bytes earlier : List ℕ) (hop : HopView) (holder : HolderView) (signs : Signs) (found : FormFault) → targeted bytes hop.target ≡ Err found
    → written_to bytes earlier hop holder signs ≡ Err faults.Size
unfolding written_to
exact_long bytes earlier hop holder signs found e = ap (λ r. diverted r earlier hop holder signs) e

written_is : (bytes earlier moved : List ℕ) (hop : HopView) (holder : HolderView) (signs : Signs) → targeted bytes hop.target ≡ Ok moved
    → written_to bytes earlier hop holder signs ≡ as_hop (signed moved (diversion hop earlier) (Some holder) signs)
unfolding written_to
written_is bytes earlier moved hop holder signs e = ap (λ r. diverted r earlier hop holder signs) e

pub exact_ok : (bytes earlier moved out : List ℕ) (hop : HopView) (holder : HolderView) (signs : Signs) (order : OrderView) → targeted bytes hop.target ≡ Ok moved → order ≡ diversion hop earlier
    → signed moved order (Some holder) signs ≡ Ok out → written_to bytes earlier hop holder signs ≡ Ok out
exact_ok bytes earlier moved out hop holder signs order e o h =
    written_is bytes earlier moved hop holder signs e ∙ ap as_hop (ap (λ x. signed moved x (Some holder) signs) (sym o) ∙ h)

unnamed_hop : (one : SignFault) → is_signer_provider one ≡ false → is_provider (hop_fault one) ≡ false
unnamed_hop signing.Form h = refl
unnamed_hop signing.NoNumber h = refl
unnamed_hop signing.Authority h = refl
unnamed_hop (signing.NoSignature digest) h = refl
unnamed_hop signing.Provider h = absurd cc
unnamed_hop signing.Memory h = refl

pub unnamed_as : (one : SignFault) (fault : HopFault) → fault ≡ hop_fault one → is_signer_provider one ≡ false → is_provider fault ≡ false
unnamed_as one fault e h = ap is_provider e ∙ unnamed_hop one h

pub named_as : (one : SignFault) → is_provider (hop_fault one) ≡ true → is_signer_provider one ≡ true
named_as signing.Form h = absurd cc
named_as signing.NoNumber h = absurd cc
named_as signing.Authority h = absurd cc
named_as (signing.NoSignature digest) h = absurd cc
named_as signing.Provider h = refl
named_as signing.Memory h = absurd cc

-- ---- why nothing is written

pub found_long : (given : Result (List ℕ) FormFault) (one : MessageFault) (found : FormFault) → one ≡ message_faults.Form found → IsFaultOf (fault_seen one) given → given ≡ Err found
found_long given one found e h = subst (λ (f : MessageFault). IsFaultOf (fault_seen f) given) e h

pub refused_so : (bytes earlier : List ℕ) (hop : HopView) (holder : HolderView) (signs : Signs) (fault : HopFault) (one : SignFault) (moved given : List ℕ) (order : OrderView)
    → fault ≡ hop_fault one → targeted bytes hop.target ≡ Ok moved → HasOtherUri bytes hop.target moved
    → ((message : MessageView) → read bytes ≡ Ok message → read moved ≡ Ok (to_uri message hop.target)) → given ≡ moved → order ≡ diversion hop earlier
    → IsCaused given order (Some holder) signs one → Why bytes earlier hop holder signs fault
refused_so bytes earlier hop holder signs fault one moved given order f e uri same g o cause =
    refused one f (record {
      moved = moved;
      is = e;
      other_uri = uri;
      same = same;
      cause = subst (λ (x : List ℕ). IsCaused x (diversion hop earlier) (Some holder) signs one) g
          (subst (λ (x : OrderView). IsCaused given x (Some holder) signs one) o cause);
    })

-- if nothing may be signed, what the signer says then
pub withheld_by : (bytes earlier : List ℕ) (hop : HopView) (holder : HolderView) (moved given : List ℕ) (order : OrderView) (P : Type 0) → targeted bytes hop.target ≡ Ok moved → given ≡ moved
    → order ≡ diversion hop earlier → (IsWithheld given order (Some holder) → P) → CannotSign bytes earlier hop holder → P
withheld_by bytes earlier hop holder moved given order P e g o f (too_long found h) =
    let both : ◌≡◌ {A = Result (List ℕ) FormFault} (Ok moved) (Err found) = sym e ∙ h in absurd cc
withheld_by bytes earlier hop holder moved given order P e g o f (withheld other h w) =
    let both : ◌≡◌ {A = Result (List ℕ) FormFault} (Ok other) (Ok moved) = sym h ∙ e in
    let same : other ≡ moved = cc in
    f (subst (λ (x : OrderView). IsWithheld given x (Some holder)) (sym o)
    (subst (λ (x : List ℕ). IsWithheld x (diversion hop earlier) (Some holder)) (same ∙ sym g) w))
