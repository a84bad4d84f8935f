-- Header and payload as they are written: they have a deterministic text, and the claims are read from them again.
use Rattle.std.proofs.Common.{◌≡◌, ◌≤◌, ◌<◌, ◌+◌, ℕ, true, List, [], ◌∷◌, ◌++◌, length, take, get_or, map, refl, sym, ap, ◌∙◌, rules, String, Global, string_bytes}
use Rattle.std.specs.List.{list_all}
use Rattle.std.proofs.lemmas.List.{map-append, take_all, take_more}
use Rattle.std.proofs.lemmas.List.Folds.{list_all-append}
use Rattle.serde_json.specs.Data.{Data, string, array, Items, no_items, item}
use Rattle.serde_json.specs.View.{items_of, items_view, view}
use Rattle.serde_json.specs.declared.value.Value.{Value, the_lemmas}
use Rattle.tn_values.specs.Number.{is_number}
use Rattle.passport_json.specs.Deterministic.{IsWritable}
use Rattle.passport_json.specs.Passport.{Header, Payload, texts, with_tn}
use Rattle.passport_claims.specs.Claims.{Claims}
use Rattle.passport_claims.specs.HasKind.{HasKind}
use Rattle.passport_claims.specs.Kind.{ppt_of}
use Rattle.passport_claims.specs.Passport.{AreNumbers, ClaimsView, IsPassport, members_of}
use Rattle.passport_claims.proofs.KindTexts.{HasMembers, has_kind, has_members, header_of_kind, payload_of_kind}

-- ---- the called numbers as an array

pub view_text : (text : String Global) → view (Value.String text) ≡ string (string_bytes text)
view_text text = search (rules, the_lemmas)

abbrev behind : Items → Data → Items
behind no_items last = item last no_items
behind (item value others) last = item value (behind others last)

items_behind : (values : List Data) (last : Data) → items_of (values ++ last ∷ []) ≡ behind (items_of values) last
items_behind [] last = refl
items_behind (value ∷ others) last = ap (item value) (items_behind others last)

texts_behind : (numbers : List (List ℕ)) (last : List ℕ) → texts (numbers ++ last ∷ []) ≡ behind (texts numbers) (string last)
texts_behind [] last = refl
texts_behind (number ∷ others) last = ap (item (string number)) (texts_behind others last)

pub called_more : (values more : List Value) (value : Value) (called : List (List ℕ)) (i : ℕ) (number : List ℕ) → i < length called → items_view values ≡ texts (take i called)
    → number ≡ get_or called i number → view value ≡ string number → more ≡ values ++ value ∷ [] → items_view more ≡ texts (take (i + 1) called)
called_more values more value called i number within so_far here is grown =
    ap items_view grown ∙ ap items_of (map-append view values (value ∷ [])) ∙ items_behind (map view values) (view value)
    ∙ (λ j. behind (so_far j) (is j)) ∙ sym (texts_behind (take i called) number)
    ∙ ap (λ x. texts (take i called ++ x ∷ [])) here ∙ ap texts (sym (take_more called i number within))

pub called_all : (values : List Value) (called : List (List ℕ)) (i : ℕ) → length called ≤ i → items_view values ≡ texts (take i called) → array (items_view values) ≡ array (texts called)
called_all values called i end so_far = ap array (so_far ∙ ap texts (take_all i called end))

pub numbers_more : (called : List (List ℕ)) (i : ℕ) (number : List ℕ) → i < length called → list_all is_number (take i called) ≡ true → number ≡ get_or called i number
    → is_number number ≡ true → list_all is_number (take (i + 1) called) ≡ true
numbers_more called i number within so_far here is =
    ap (list_all is_number) (take_more called i number within ∙ ap (λ x. take i called ++ x ∷ []) (sym here))
    ∙ list_all-append is_number (take i called) (number ∷ []) ∙ rw (so_far, is) refl

pub numbers_all : (called : List (List ℕ)) (i : ℕ) → length called ≤ i → list_all is_number (take i called) ≡ true → list_all is_number called ≡ true
numbers_all called i end so_far = ap (list_all is_number) (sym (take_all i called end)) ∙ so_far

-- ---- the deterministic text

pub header_writable : (value : Data) (claims : ClaimsView) → value ≡ Header (members_of claims) → IsWritable value
header_writable value claims e = rw e (header_of_kind claims.kind claims.x5u claims.iat claims.orig claims.dest)

pub payload_writable : (value : Data) (claims : ClaimsView) → value ≡ Payload (members_of claims) → IsWritable value
payload_writable value claims e = rw e (payload_of_kind claims.kind claims.x5u claims.iat claims.orig claims.dest)

-- ---- read again

claims_by : (claims : ClaimsView) → HasMembers (Header (members_of claims)) (Payload (members_of claims)) claims → HasKind (Payload (members_of claims)) claims.kind → IsPassport claims → AreNumbers claims
    → Claims (Header (members_of claims)) (Payload (members_of claims)) (ppt_of claims.kind) claims.x5u claims
claims_by claims has kind is numbers = record {
  typ = has.typ;
  alg = has.alg;
  same_ppt = has.ppt;
  same_x5u = has.x5u;
  iat = record { member = has.iat; within = is.iat_within };
  orig = record { holder = with_tn (string claims.orig); member = has.orig; tn = refl; ok = numbers.orig };
  dest = record { holder = with_tn (array (texts claims.dest)); member = has.dest; tn = refl; ok = numbers.dest };
  called = is.called;
  kind = kind;
  kept_ppt = refl;
  kept_x5u = refl;
}

pub written_claims : (header payload : Data) (claims : ClaimsView) → header ≡ Header (members_of claims) → payload ≡ Payload (members_of claims) → IsPassport claims → AreNumbers claims
    → Claims header payload (ppt_of claims.kind) claims.x5u claims
written_claims header payload claims h p is numbers =
    rw (h, p)
    (claims_by claims (has_members claims.kind claims.x5u claims.iat claims.orig claims.dest)
    (has_kind claims.kind claims.x5u claims.iat claims.orig claims.dest is.kind_ok numbers.div) is numbers)
