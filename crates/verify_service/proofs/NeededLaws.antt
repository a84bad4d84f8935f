-- The texts of a round, call by call.
use Rattle.std.proofs.Common.{◌≡◌, ℕ, ◌+◌, ◌<◌, Bool, true, false, cond, not, ◌&&◌, List, [], ◌∷◌, ◌++◌, filter, length, take, get_or, is_some, Option, Some, refl, sym, ap, ◌∙◌, append_assoc, append-nil}
use Rattle.std.specs.List.{list_any, slice_get}
use Rattle.std.specs.Option.{option_map}
use Rattle.std.specs.Str.{bytes_eq}
use Rattle.cert_store.specs.ChainMap.{listed}
use Rattle.cert_store.specs.Files.{Files}
use Rattle.cert_store.specs.Holding.{Chains, Holding, chain_of, touched}
use Rattle.passport_claims.specs.Passport.{ClaimsView}
use Rattle.call_log.specs.Entry.{Entry}
use Rattle.verify_rules.specs.Call.{Call, Reading, passport_in}
use Rattle.verify_rules.specs.Screened.{ScreenedView, screened_by}
use Rattle.verify_rules.specs.declared.refusal.Refusal.{Refusal}
use Rattle.verify_rules.specs.declared.settings.Settings.{Settings}
use Rattle.verify_service.specs.Judging.{EachPair, call_in}
use Rattle.verify_service.specs.Needed.{all_named, is_needed, named, named_by, named_in, named_unless, needed, once, touch_all, x5u_of, x5us}
use Rattle.verify_service.specs.Screening.{IsReady, IsScreening, is_open}
use Rattle.verify_service.specs.declared.screening.Screening.{Screening}
use Rattle.verify_service.specs.declared.screening.Screening.TheVariants.{Open, Refused, Passed}
use Rattle.verify_service.specs.declared.screening.ReadyCall.{ReadyCall}
use Rattle.call_judging.proofs.ListLaws.{mapped_more}
use Rattle.verify_service.proofs.ListLaws.{take_item}
use Rattle.call_judging.proofs.ReadLaws.{StandsAt, stands_at}

true_is_not_false : true ≡ false → ⊥
true_is_not_false e = cc

abbrev pub SameLaw : Type 0
SameLaw = (x5u other : List ℕ) (entries : Chains) → chain_of other (touched x5u entries) ≡ chain_of other entries

-- ---- each once

once_by : (b : Bool) (f g xs ys : List (List ℕ)) → once (once f xs) ys ≡ once f (xs ++ ys) → once (once g xs) ys ≡ once g (xs ++ ys)
    → once (cond b (once f xs) (once g xs)) ys ≡ cond b (once f (xs ++ ys)) (once g (xs ++ ys))
once_by true f g xs ys one other = one
once_by false f g xs ys one other = other

pub once_more : (f xs ys : List (List ℕ)) → once (once f xs) ys ≡ once f (xs ++ ys)
once_more f [] ys = refl
once_more f (x ∷ xs) ys = once_by (list_any (bytes_eq x) f) f (f ++ x ∷ []) xs ys (once_more f xs ys) (once_more (f ++ x ∷ []) xs ys)

needed_by : {X : Type 0} (b : Bool) (x : X) (zs ys rest : List X) → zs ++ ys ≡ rest → cond b (x ∷ zs) zs ++ ys ≡ cond b (x ∷ rest) rest
needed_by true x zs ys rest same = ap (λ l. x ∷ l) same
needed_by false x zs ys rest same = same

pub filter_more : {X : Type 0} (p : X → Bool) (xs ys : List X) → filter p xs ++ filter p ys ≡ filter p (xs ++ ys)
filter_more p [] ys = refl
filter_more p (x ∷ xs) ys = needed_by (p x) x (filter p xs) (filter p ys) (filter p (xs ++ ys)) (filter_more p xs ys)

-- ---- what is held stays held

pub touch_all_same : SameLaw → (texts : List (List ℕ)) (held : Chains) (x : List ℕ) → chain_of x (touch_all texts held) ≡ chain_of x held
touch_all_same law [] held x = refl
touch_all_same law (t ∷ texts) held x = touch_all_same law texts (touched t held) x ∙ law t x held

touch_all_more : (xs ys : List (List ℕ)) (held : Chains) → touch_all ys (touch_all xs held) ≡ touch_all (xs ++ ys) held
touch_all_more [] ys held = refl
touch_all_more (x ∷ xs) ys held = touch_all_more xs ys (touched x held)

pub needed_same : (files : Files) (held now : Chains) → ((x : List ℕ) → chain_of x now ≡ chain_of x held) → (texts : List (List ℕ)) → needed files now texts ≡ needed files held texts
needed_same files held now same texts = ap (λ (p : List ℕ → Bool). filter p texts) (λ i x. is_some (listed files x) && not (is_some (same x i)))

-- ---- some texts after others

pub texts_then : (files : Files) (held now : Chains) → ((x : List ℕ) → chain_of x now ≡ chain_of x held) → (start found next xs ys : List (List ℕ))
    → found ≡ once start (needed files held xs) → next ≡ once found (needed files now ys) → next ≡ once start (needed files held (xs ++ ys))
texts_then files held now same start found next xs ys one two =
    two ∙ ap (once found) (needed_same files held now same ys) ∙ ap (λ (f : List (List ℕ)). once f (needed files held ys)) one
    ∙ once_more start (needed files held xs) (needed files held ys) ∙ ap (once start) (filter_more (is_needed files held) xs ys)

abbrev with_entries : Holding → Chains → Holding
with_entries h es = record h { entries = es }

pub held_then : (start held now : Holding) (xs ys : List (List ℕ)) → held ≡ record start { entries = touch_all xs start.entries }
    → now ≡ record held { entries = touch_all ys held.entries } → now ≡ record start { entries = touch_all (xs ++ ys) start.entries }
held_then start held now xs ys one two =
    two ∙ ap (λ (h : Holding). record h { entries = touch_all ys h.entries }) one
    ∙ ap (with_entries start) (touch_all_more xs ys start.entries)

pub same_then : SameLaw → (start held : Holding) (xs : List (List ℕ)) → held ≡ record start { entries = touch_all xs start.entries } → (x : List ℕ)
    → chain_of x held.entries ≡ chain_of x start.entries
same_then law start held xs is x = ap (λ (h : Holding). chain_of x h.entries) is ∙ touch_all_same law xs start.entries x

-- ---- a PASSporT more, and a call more

pub x5us_next : (readings : List Reading) (i : ℕ) (passport : ClaimsView) (x5u : List ℕ) → i < length readings → option_map passport_in (slice_get readings i) ≡ Some passport
    → x5u ≡ passport.x5u → x5us (take i readings) ++ x5u ∷ [] ≡ x5us (take (i + 1) readings)
x5us_next readings i passport x5u within is text =
    let at : StandsAt readings i passport = stands_at readings i passport within is in
    ap (λ (t : List ℕ). x5us (take i readings) ++ t ∷ []) (text ∙ ap (λ (p : ClaimsView). p.x5u) (sym at.says))
    ∙ sym (mapped_more x5u_of (take i readings) at.one) ∙ ap x5us (sym at.more)

all_push : (xs : List ReadyCall) (x : ReadyCall) → all_named (xs ++ x ∷ []) ≡ all_named xs ++ named_by x.screening
all_push [] x = append-nil (named_by x.screening)
all_push (y ∷ ys) x = ap (λ (l : List (List ℕ)). named_by y.screening ++ l) (all_push ys x) ∙ sym (append_assoc (named_by y.screening) (all_named ys) (named_by x.screening))

pub named_next : (calls : List ReadyCall) (i : ℕ) (one d : ReadyCall) → i < length calls → one ≡ get_or calls i d
    → all_named (take i calls) ++ named_by one.screening ≡ all_named (take (i + 1) calls)
named_next calls i one d within is = sym (all_push (take i calls) one) ∙ ap all_named (sym (take_item calls i one d within is))

-- ---- what the calls of the log name

named_one : (call : Call) (screening : Screening) → IsScreening call screening → is_open screening ≡ false → named_by screening ≡ named_in call
unfolding named_in screened_by
named_one call Open is known = absurd (true_is_not_false known)
named_one call (Refused refused) is known = ap (λ (o : Option Refusal). named_unless o call) (sym is)
named_one call (Passed screened) is known =
    ap (λ (s : ScreenedView). x5us s.readings) is.1 ∙ ap (λ (o : Option Refusal). named_unless o call) (sym is.0)

pub all_named_are : (settings : Settings) (entries : List Entry) (calls : List ReadyCall) → EachPair (IsReady settings) entries calls → all_named calls ≡ named settings entries
all_named_are settings [] [] each = refl
all_named_are settings [] (call ∷ calls) each = absurd each
all_named_are settings (entry ∷ entries) [] each = absurd each
all_named_are settings (entry ∷ entries) (call ∷ calls) each =
    ap (λ (l : List (List ℕ)). l ++ all_named calls) (named_one (call_in settings entry) call.screening each.0.screening each.0.known)
    ∙ ap (λ (l : List (List ℕ)). named_in (call_in settings entry) ++ l) (all_named_are settings entries calls each.1)
