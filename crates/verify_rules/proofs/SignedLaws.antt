-- A call by which the rules of the call hold is known again by what was signed as its last PASSporT.
use Rattle.std.proofs.Common.{◌≡◌, ◌⊎◌, inl, inr, ℕ, zero, suc, ◌+◌, ◌-◌, List, [], ◌∷◌, length, map, get_or, Option, Some, None, refl, sym, ◌∙◌, ap, subst, arith, le-leb}
use Rattle.std.specs.Prelude.{option_and_then, unwrap_or}
use Rattle.std.specs.List.{slice_get}
use Rattle.std.specs.Option.{option_map}
use Rattle.std.proofs.lemmas.Option.{slice_get-get_or}
use Rattle.serde_json.specs.Data.{Data}
use Rattle.passport_claims.specs.Claims.{Claims}
use Rattle.passport_claims.specs.Passport.{ClaimsView}
use Rattle.passport_json.specs.Compact.{CallView}
use Rattle.passport_json.specs.IssuedAt.{issued_at}
use Rattle.passport_json.specs.Signed.{payload_in}
use Rattle.passport_json.specs.Token.{TokenText}
use Rattle.passport_json.specs.View.{TokenView}
use Rattle.text_grammar.specs.Moment.{last_second}
use Rattle.verify_rules.specs.Call.{Call, IdentityField, Mark, Reading, facts, fields_of, given_to_compact, in_call_order, in_message, in_turn, judged_fields, or_none, turn_of, values_of}
use Rattle.verify_rules.specs.Rules.{HoldAll, early_rules, first}
use Rattle.verify_rules.specs.Screened.{digest_in, iat_or_none, last_of}
use Rattle.verify_rules.specs.Signed.{IsKnownAgain, last_by}
use Rattle.verify_rules.specs.Words.{AreRead, CanBeRead, Each, IsRead}
use Rattle.verify_rules.specs.declared.facts.Facts.{Facts}
use Rattle.verify_rules.specs.declared.settings.Settings.{Settings}
use Rattle.verify_rules.proofs.FirstLaws.{none_broken}
use Rattle.verify_rules.proofs.FreshLaws.{fresh_call, some_chain, some_message}
use Rattle.verify_rules.proofs.TokenWords.{ClaimsLaw, FieldLaw, TokenFoundLaw, TokenLaw, speaks_of_read, tokens_mean}

abbrev pub SignedLaw : Type 0
SignedLaw = (text : List ℕ) (call : CallView) (token : TokenView) (ppt : Option (List ℕ)) (info : List ℕ) (claims : ClaimsView) → TokenText text call token
    → Claims token.header token.payload ppt info claims → payload_in token.signing ≡ Some token.payload

-- ---- one of the PASSporTs in chain order is one in message order

-- there is an element with this number, or none, and then it is the default
here_or : (items : List Reading) (k : ℕ) (d : Reading) → (slice_get items k ≡ Some (get_or items k d)) ⊎ (get_or items k d ≡ d)
here_or [] zero d = inr refl
here_or [] (suc k) d = inr refl
here_or (item ∷ items) zero d = inl refl
here_or (item ∷ items) (suc k) d = here_or items k d

Among : List Reading → Reading → Type 0
Among readings one = (at : ℕ) × (slice_get readings at ≡ Some one)

among_by : (readings : List Reading) (link : ℕ) (origin : Reading) → slice_get readings 0 ≡ Some origin
    → (slice_get readings link ≡ Some (get_or readings link origin)) ⊎ (get_or readings link origin ≡ origin) → Among readings (get_or readings link origin)
unfolding Among
among_by readings link origin o (inl is) = (link, is)
among_by readings link origin o (inr is) = (0, o ∙ ap (λ x. Some x) (sym is))

among_turn : (readings : List Reading) (origin : Reading) (turn : List ℕ) (i : ℕ) (one : Reading) → slice_get readings 0 ≡ Some origin
    → slice_get (map (λ link. get_or readings link origin) turn) i ≡ Some one → Among readings one
among_turn readings origin [] zero one o e = absurd cc
among_turn readings origin [] (suc i) one o e = absurd cc
among_turn readings origin (link ∷ turn) zero one o e =
    let same : get_or readings link origin ≡ one = cc in subst (Among readings) same (among_by readings link origin o (here_or readings link origin))
among_turn readings origin (link ∷ turn) (suc i) one o e = among_turn readings origin turn i one o e

among_chain : (readings : List Reading) (turn : List ℕ) (i : ℕ) (one : Reading) → slice_get (in_turn readings turn) i ≡ Some one → Among readings one
unfolding Among
among_chain [] turn zero one e = absurd cc
among_chain [] turn (suc i) one e = absurd cc
among_chain (origin ∷ others) turn zero one e = (0, e)
among_chain (origin ∷ others) turn (suc i) one e = among_turn (origin ∷ others) origin turn i one refl e

-- ---- and that of a field

record ReadAt (said : Facts) (fields : List IdentityField) (at : ℕ) (one : Reading) : Type 0 where
  field : IdentityField
  there : slice_get fields at ≡ Some field
  read : IsRead said field one

read_at : (said : Facts) (fields : List IdentityField) (readings : List Reading) (at : ℕ) (one : Reading) → AreRead said fields readings → slice_get readings at ≡ Some one
    → ReadAt said fields at one
read_at said [] [] zero one h e = absurd cc
read_at said [] [] (suc at) one h e = absurd cc
read_at said [] (r ∷ readings) at one h e = absurd h
read_at said (field ∷ fields) [] at one h e = absurd h
read_at said (field ∷ fields) (r ∷ readings) zero one h e =
    let same : r ≡ one = cc in record { field = field; there = refl; read = subst (IsRead said field) same h.0 }
read_at said (field ∷ fields) (r ∷ readings) (suc at) one h e =
    let below = read_at said fields readings at one h.1 e in record { field = below.field; there = below.there; read = below.read }

-- ---- how long what was signed is fresh

last_is : (settings : Settings) (signing : List ℕ) (payload : Data) (seconds : ℕ) → payload_in signing ≡ Some payload → issued_at payload ≡ Some seconds → last_by settings signing ≡ seconds + settings.past
unfolding last_by
last_is settings signing payload seconds there issued =
    ap (λ (x : Option Data). unwrap_or (option_and_then issued_at x) 0 + settings.past) there ∙ ap (λ (x : Option ℕ). unwrap_or x 0 + settings.past) issued

-- ---- the call

known_by : TokenLaw → SignedLaw → (call : Call) (at : ℕ) (one : Reading) → HoldAll early_rules call → last_of (in_call_order call) ≡ Some one
    → ReadAt (facts call) (judged_fields (fields_of call)) at one → IsKnownAgain call
known_by tokens signed call at one h last here =
    let token : TokenView = here.read.token in
    let text : TokenText here.field.parts.token (given_to_compact (facts call) here.field.parts) token = here.read.text in
    let payload : payload_in token.signing ≡ Some token.payload =
    signed here.field.parts.token (given_to_compact (facts call) here.field.parts) token here.field.parts.ppt here.field.parts.info one.passport text here.read.claims in
    let iat = here.read.claims.iat in
    let issued : issued_at token.payload ≡ Some one.passport.iat = rw (iat.member, le-leb one.passport.iat last_second iat.within) refl in
    let until : last_by call.settings token.signing ≡ one.passport.iat + call.settings.past =
    last_is call.settings token.signing token.payload one.passport.iat payload issued in
    record {
      signing = token.signing;
      signed = record {
        one = one;
        last = last;
        field = here.field;
        at = at;
        judged = here.there;
        token = token;
        text = tokens here.field.parts.token (given_to_compact (facts call) here.field.parts) token text;
        mark = here.read.mark;
        input = refl;
      };
      ticket = ap (option_map digest_in) last ∙ ap (λ (x : Mark). Some x.digest) here.read.mark;
      last = ap (λ (x : Option Reading). iat_or_none x + call.settings.past) last ∙ sym until;
      fresh = fresh_call call h;
    }

pub known_again : FieldLaw → TokenLaw → TokenFoundLaw → ClaimsLaw → SignedLaw → (call : Call) → first early_rules call ≡ None → IsKnownAgain call
unfolding Among
known_again fields tokens found claims signed call early =
    let h : HoldAll early_rules call = none_broken early_rules call early in
    let can : Each (CanBeRead (facts call)) (judged_fields (fields_of call)) = (tokens_mean fields tokens found claims (facts call) (values_of call)).0 h.1.1.1.1.1.0 in
    let read : AreRead (facts call) (judged_fields (fields_of call)) (in_message call) = speaks_of_read fields tokens claims (facts call) (values_of call) can in
    let some = some_chain call h in
    let default = (some_message call h).0 in
    let one : Reading = get_or (in_call_order call) (length (in_call_order call) - 1) default in
    let last : last_of (in_call_order call) ≡ Some one = slice_get-get_or (in_call_order call) (length (in_call_order call) - 1) default (omega (arith, some)) in
    let among = among_chain (in_message call) (or_none (turn_of (facts call) (in_message call))) (length (in_call_order call) - 1) one last in
    known_by tokens signed call among.0 one h last (read_at (facts call) (judged_fields (fields_of call)) (in_message call) among.0 one read among.1)
