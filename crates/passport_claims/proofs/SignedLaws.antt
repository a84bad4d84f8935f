-- What is claimed in a payload that was built of a call, the call gave in numbers.
use Rattle.std.proofs.Common.{◌≡◌, ℕ, ◌^◌, ◌<◌, true, List, [], ◌∷◌, codes, inl, inr, Option, Some, None, refl, sym, ◌∙◌, ap, arith}
use Rattle.std.specs.Prelude.{IfSome}
use Rattle.std.specs.List.{list_all}
use Rattle.std.proofs.lemmas.Bool.{and_parts}
use Rattle.std.proofs.lemmas.Option.{same_Some}
use Rattle.serde_json.specs.Data.{Data, array, number, string, unsigned}
use Rattle.serde_json.specs.Find.{get}
use Rattle.serde_json.proofs.OnLiterals.{serde_json_on_literals}
use Rattle.tn_values.specs.Number.{is_number}
use Rattle.passport_json.specs.Compact.{CallView, CompactText, base, base_by}
use Rattle.passport_json.specs.IssuedAt.{IsIssuedAt}
use Rattle.passport_json.specs.Passport.{PassportView, Payload, number_object, texts, with_tn}
use Rattle.passport_json.specs.Signed.{GivesNumbers, payload_in}
use Rattle.passport_json.specs.Token.{FullText, TokenText}
use Rattle.passport_json.specs.View.{TokenView}
use Rattle.passport_claims.specs.Claims.{Claims}
use Rattle.passport_claims.specs.Members.{HasNumber, HasNumbers}
use Rattle.passport_claims.specs.Passport.{ClaimsView}

-- ---- the members of a payload that is built

record Built (iat : ℕ) (orig dest info : List ℕ) : Type 0 where
  iat_is : get (codes "iat") (Payload (base iat orig dest info)) ≡ Some (number (unsigned iat))
  orig_is : get (codes "orig") (Payload (base iat orig dest info)) ≡ Some (number_object orig)
  dest_is : get (codes "dest") (Payload (base iat orig dest info)) ≡ Some (with_tn (array (texts (dest ∷ []))))

built : (iat : ℕ) (orig dest info : List ℕ) → Built iat orig dest info
unfolding serde_json_on_literals
built iat orig dest info = record { iat_is = refl; orig_is = refl; dest_is = refl }

tn_is : (held : Data) → get (codes "tn") (with_tn held) ≡ Some held
unfolding serde_json_on_literals
tn_is held = refl

same_number : (a b : ℕ) → ◌≡◌ {A = Data} (number (unsigned a)) (number (unsigned b)) → a ≡ b
same_number a b e = cc

same_text : (a b : List ℕ) → ◌≡◌ {A = Data} (string a) (string b) → a ≡ b
same_text a b e = cc

-- what the member's `tn` is
held_in : (name : List ℕ) (payload holder held other : Data) → get name payload ≡ Some (with_tn held) → get name payload ≡ Some holder → get (codes "tn") holder ≡ Some other → held ≡ other
held_in name payload holder held other built_as member tn =
    let same : with_tn held ≡ holder = same_Some (with_tn held) holder (sym built_as ∙ member) in
    same_Some held other (sym (ap (get (codes "tn")) (sym same) ∙ tn_is held) ∙ tn)

-- ---- what is claimed of it

moment_given : (payload : Data) (iat seconds : ℕ) → get (codes "iat") payload ≡ Some (number (unsigned iat)) → IsIssuedAt payload seconds → iat < 2 ^ 64
moment_given payload iat seconds is h =
    let same : iat ≡ seconds = same_number iat seconds (same_Some (number (unsigned iat)) (number (unsigned seconds)) (sym is ∙ h.member)) in
    let within = h.within in
    omega (arith, same, within)

calling_given : (payload : Data) (orig claimed : List ℕ) → get (codes "orig") payload ≡ Some (number_object orig) → HasNumber (codes "orig") payload claimed → is_number orig ≡ true
calling_given payload orig claimed is h =
    let same : orig ≡ claimed = same_text orig claimed (held_in (codes "orig") payload h.holder (string orig) (string claimed) is h.member h.tn) in
    ap is_number same ∙ h.ok

first_given : (dest : List ℕ) (claimed : List (List ℕ)) → ◌≡◌ {A = Data} (array (texts (dest ∷ []))) (array (texts claimed)) → list_all is_number claimed ≡ true → is_number dest ≡ true
first_given dest [] e ok = absurd cc
first_given dest (first ∷ others) e ok =
    let same : dest ≡ first = cc in
    ap is_number same ∙ (and_parts (is_number first) (list_all is_number others) ok).0

called_given : (payload : Data) (dest : List ℕ) (claimed : List (List ℕ)) → get (codes "dest") payload ≡ Some (with_tn (array (texts (dest ∷ [])))) → HasNumbers payload claimed
    → is_number dest ≡ true
called_given payload dest claimed is h =
    first_given dest claimed (held_in (codes "dest") payload h.holder (array (texts (dest ∷ []))) (array (texts claimed)) is h.member h.tn) h.ok

-- the call that it was built of gives numbers
record Given (iat : Option ℕ) (orig dest : Option (List ℕ)) : Type 0 where
  moment : IfSome iat (λ seconds. seconds < 2 ^ 64)
  calling : IfSome orig (λ text. is_number text ≡ true)
  called : IfSome dest (λ text. is_number text ≡ true)

given_by : (header payload : Data) (claimed_ppt : Option (List ℕ)) (claimed_info : List ℕ) (claims : ClaimsView) → Claims header payload claimed_ppt claimed_info claims
    → (iat : Option ℕ) (orig dest : Option (List ℕ)) (info : List ℕ) (ppt : Option (List ℕ)) (passport : PassportView) → base_by iat orig dest info ppt ≡ Some passport
    → payload ≡ Payload passport → Given iat orig dest
given_by header payload claimed_ppt claimed_info claims h (Some iat) (Some orig) (Some dest) info None passport e p =
    let same : base iat orig dest info ≡ passport = same_Some (base iat orig dest info) passport e in
    let is : payload ≡ Payload (base iat orig dest info) = p ∙ ap Payload (sym same) in
    let b = built iat orig dest info in
    record {
      moment = moment_given payload iat claims.iat (ap (get (codes "iat")) is ∙ b.iat_is) h.iat;
      calling = calling_given payload orig claims.orig (ap (get (codes "orig")) is ∙ b.orig_is) h.orig;
      called = called_given payload dest claims.dest (ap (get (codes "dest")) is ∙ b.dest_is) h.dest;
    }
given_by header payload claimed_ppt claimed_info claims h (Some iat) (Some orig) (Some dest) info (Some ppt) passport e p = absurd cc
given_by header payload claimed_ppt claimed_info claims h (Some iat) (Some orig) None info ppt passport e p = absurd cc
given_by header payload claimed_ppt claimed_info claims h (Some iat) None dest info ppt passport e p = absurd cc
given_by header payload claimed_ppt claimed_info claims h None orig dest info ppt passport e p = absurd cc

gives_numbers : (text : List ℕ) (call : CallView) (token : TokenView) (ppt : Option (List ℕ)) (info : List ℕ) (claims : ClaimsView) → CompactText text call token
    → Claims token.header token.payload ppt info claims → GivesNumbers call
gives_numbers text call token ppt info claims t h =
    let g = given_by token.header token.payload ppt info claims h call.iat call.orig call.dest call.info call.ppt t.passport t.is_base (ap (λ (x : TokenView). x.payload) t.is_rebuilt) in
    record { moment = g.moment; calling = g.calling; called = g.called }

-- ---- in either form

pub claims_signed : ((text : List ℕ) (token : TokenView) → FullText text token → payload_in token.signing ≡ Some token.payload)
    → ((text : List ℕ) (call : CallView) (token : TokenView) → CompactText text call token → GivesNumbers call → payload_in token.signing ≡ Some token.payload)
    → (text : List ℕ) (call : CallView) (token : TokenView) (ppt : Option (List ℕ)) (info : List ℕ) (claims : ClaimsView) → TokenText text call token
    → Claims token.header token.payload ppt info claims → payload_in token.signing ≡ Some token.payload
claims_signed full compact text call token ppt info claims (inl t) h = full text token t
claims_signed full compact text call token ppt info claims (inr t) h = compact text call token t (gives_numbers text call token ppt info claims t h)
