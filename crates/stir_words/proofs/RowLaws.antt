-- What the words order is what the rows say, both ways.
use Rattle.std.proofs.Common.{◌≡◌, ℕ, ◌↔◌, Bool, true, false, cond, List, [], ◌∷◌, ◌++◌, codes, Option, Some, None, option_and_then, refl, sym, ◌∙◌, ap, subst, arith}
use Rattle.std.specs.Option.{option_map}
use Rattle.std.specs.Str.{bytes_eq}
use Rattle.std.proofs.lemmas.Option.{option_and_then_some, same_Some}
use Rattle.std.proofs.lemmas.Slice.Eq.{bytes_eq-Decides}
use Rattle.text_grammar.specs.Uri.{is_uri}
use Rattle.tn_values.specs.Local.{LocalView}
use Rattle.tn_values.specs.Number.{is_number}
use Rattle.passport_claims.specs.Kind.{attest_of, attest_text}
use Rattle.passport_claims.specs.Origid.{is_origid}
use Rattle.passport_claims.specs.declared.form.Form.{Form}
use Rattle.passport_claims.specs.declared.form.Form.TheVariants as forms
use Rattle.passport_claims.specs.declared.kind.Attest.{Attest}
use Rattle.passport_claims.specs.declared.kind.Attest.TheVariants as levels
use Rattle.stir_words.specs.Options.{Pair, pairs_of}
use Rattle.stir_words.specs.Order.{AskBy, AskingView, ClaimingView, DivertBy, DivertingView, DrillBy, DrillingView, ExplainBy, HolderNames, JudgingView, OnceBy, OrderView, RetargetBy, RetargetingView, SettingsView, ShowCertificates, SignBy, SignerView, SigningView, VerifyBy, VerifyingView, asking_of, claiming_of, diverting_by, diverting_of, drilling_of, holder_by, judging_of, order_by, order_of, order_with, retargeting_of, settings_of, signer_of, signing_by, signing_of, verifying_of}
use Rattle.stir_words.specs.Rows.{EachMeans, IsOrdered, Maybe, Number, OptionRow, Text, TextOf, form_rows, holder_rows, judging_rows, key_rows, local_rows, row, rows_of, settings_rows, signer_rows, word_of, workers_row}
use Rattle.stir_words.specs.Table.{Accepted, Given, Known, accepts, command_named, given_by, options_of}
use Rattle.stir_words.specs.Values.{count_of, earlier_of, form_by, form_of, future_of, iat_of, is_key, key_of, local_in, moment_of, past_of, seed_of, shaken_by, size_of, text_if, workers_of, x5u_of}
use Rattle.stir_words.specs.declared.commands.Command.{Command}
use Rattle.stir_words.specs.declared.commands.Command.TheVariants as commands
use Rattle.stir_words.proofs.AcceptLaws.{accepted_are}
use Rattle.stir_words.proofs.OptionLaws.{options_are}
use Rattle.stir_words.proofs.OrderLaws.{if_accepted}
use Rattle.stir_words.proofs.RowTable.{accepted_by, each_once, matches}
use Rattle.stir_words.proofs.RowValues.{both_mean, fits_again, fits_means, fits_parts, local_again, local_means, number_again, number_means, or_again, or_means, some_again, some_means, some_or_again, some_or_means, split_mean, text_again, text_means}

-- ---- values that lead on to one another

-- a value that leads on to one is there
some_of : {A C : Type 0} (next : A → Option C) (a : Option A) (c : C) → option_and_then next a ≡ Some c → (x : A) × (a ≡ Some x) × (next x ≡ Some c)
some_of next None c h = absurd cc
some_of next (Some x) c h = (x, refl, h)

-- and so is the last one
last_of : {A C : Type 0} (made : A → C) (a : Option A) (c : C) → option_map made a ≡ Some c → (x : A) × (a ≡ Some x) × (made x ≡ c)
last_of made None c h = absurd cc
last_of made (Some x) c h = (x, refl, same_Some (made x) c h)

-- ---- the settings

settings_mean : (given : Given) (s : SettingsView) → settings_of given ≡ Some s → EachMeans given (settings_rows s)
settings_mean given s h =
    let p = some_of _ (past_of given) s h in
    let f = some_of _ (future_of given) s p.2 in
    let l = last_of _ (local_in given) s f.2 in
    subst (λ (x : SettingsView). EachMeans given (settings_rows x)) l.2 (
      or_means 60 86400 p.0 (given (codes "past")) (omega arith) p.1,
      (or_means 5 86400 f.0 (given (codes "future")) (omega arith) f.1, local_means given l.0 l.1),
    )

settings_again : (given : Given) (s : SettingsView) → EachMeans given (settings_rows s) → settings_of given ≡ Some s
settings_again given s h =
    let p = or_again 60 0 86400 s.past (given (codes "past")) (omega arith) h.0 in
    let f = or_again 5 0 86400 s.future (given (codes "future")) (omega arith) h.1.0 in
    let l = local_again given s.local h.1.1 in rw (p, f, l) refl

-- ---- by what calls are judged

judging_mean : (given : Given) (j : JudgingView) (others : List OptionRow) → judging_of given ≡ Some j → EachMeans given others → EachMeans given (judging_rows j others)
judging_mean given j others h more =
    let c = some_of _ (given (codes "chains")) j h in
    let a = some_of _ (given (codes "anchors")) j c.2 in
    let t = some_of _ (given (codes "table")) j a.2 in
    let n = some_of _ (given (codes "answers")) j t.2 in
    let s = last_of _ (settings_of given) j n.2 in
    subst (λ (x : JudgingView). EachMeans given (judging_rows x others)) s.2 (
      text_means c.0 (given (codes "chains")) c.1,
      (
        text_means a.0 (given (codes "anchors")) a.1,
        (
          text_means t.0 (given (codes "table")) t.1,
          (text_means n.0 (given (codes "answers")) n.1, both_mean given others (settings_rows s.0) more (settings_mean given s.0 s.1)),
        ),
      ),
    )

judging_again : (given : Given) (j : JudgingView) (others : List OptionRow) → EachMeans given (judging_rows j others) → (judging_of given ≡ Some j) × EachMeans given others
judging_again given j others h =
    let rest = split_mean given others (settings_rows j.settings) h.1.1.1.1 in
    let c = text_again j.chains (given (codes "chains")) h.0 in
    let a = text_again j.anchors (given (codes "anchors")) h.1.0 in
    let t = text_again j.table (given (codes "table")) h.1.1.0 in
    let n = text_again j.answers (given (codes "answers")) h.1.1.1.0 in
    let s = settings_again given j.settings rest.1 in
    let read : judging_of given ≡ Some j = rw (c, a, t, n, s) refl in (read, rest.0)

-- ---- `verify`, `explain` and `ask`

-- the rows that `verify` has beside those of `explain`
abbrev more_of : VerifyingView → List OptionRow
more_of v = row (codes "state") (Maybe v.state) ∷ workers_row v.workers ∷ []

verifying_mean : (given : Given) (v : VerifyingView) → verifying_of given ≡ Some v → EachMeans given (rows_of (VerifyBy v))
verifying_mean given v h =
    let j = some_of _ (judging_of given) v h in
    let w = last_of _ (workers_of given) v j.2 in
    let made : VerifyingView = record { judging = j.0; state = given (codes "state"); workers = w.0 } in
    subst (λ (x : VerifyingView). EachMeans given (rows_of (VerifyBy x))) w.2
    (judging_mean given j.0 (more_of made) j.1 (refl, (some_or_means 1 8 w.0 (given (codes "workers")) (omega arith) w.1, tt)))

verifying_again : (given : Given) (v : VerifyingView) → EachMeans given (rows_of (VerifyBy v)) → verifying_of given ≡ Some v
verifying_again given v h =
    let parts = judging_again given v.judging (more_of v) h in
    let j = parts.0 in
    let s = parts.1.0 in
    let w = some_or_again 1 8 v.workers (given (codes "workers")) (omega arith) (omega arith) parts.1.1.0 in rw (j, s, w) refl

asking_mean : (given : Given) (a : AskingView) → asking_of given ≡ Some a → EachMeans given (rows_of (AskBy a))
asking_mean given asked h =
    let c = some_of _ (given (codes "chains")) asked h in
    let a = some_of _ (given (codes "anchors")) asked c.2 in
    let t = some_of _ (given (codes "table")) asked a.2 in
    let s = last_of _ (settings_of given) asked t.2 in
    subst (λ (x : AskingView). EachMeans given (rows_of (AskBy x))) s.2 (
      text_means c.0 (given (codes "chains")) c.1,
      (text_means a.0 (given (codes "anchors")) a.1, (text_means t.0 (given (codes "table")) t.1, settings_mean given s.0 s.1)),
    )

asking_again : (given : Given) (a : AskingView) → EachMeans given (rows_of (AskBy a)) → asking_of given ≡ Some a
asking_again given asked h =
    let c = text_again asked.chains (given (codes "chains")) h.0 in
    let a = text_again asked.anchors (given (codes "anchors")) h.1.0 in
    let t = text_again asked.table (given (codes "table")) h.1.1.0 in
    let s = settings_again given asked.settings h.1.1.1 in rw (c, a, t, s) refl

-- ---- who signs

holder_mean : (leaf table : Option (List ℕ)) (holder : Option HolderNames) → holder_by leaf table ≡ Some holder → (given : Given) → given (codes "leaf") ≡ leaf
    → given (codes "table") ≡ table → EachMeans given (holder_rows holder)
holder_mean None None holder h given l t =
    let e : None ≡ holder = same_Some None holder h in subst (λ (x : Option HolderNames). EachMeans given (holder_rows x)) e (l, (t, tt))
holder_mean (Some leaf) (Some table) holder h given l t =
    let names : HolderNames = record { leaf = leaf; table = table } in
    let e : Some names ≡ holder = same_Some (Some names) holder h in
    subst (λ (x : Option HolderNames). EachMeans given (holder_rows x)) e (text_means leaf (given (codes "leaf")) l, (text_means table (given (codes "table")) t, tt))
holder_mean (Some leaf) None holder h given l t = absurd cc
holder_mean None (Some table) holder h given l t = absurd cc

holder_again : (holder : Option HolderNames) (given : Given) → EachMeans given (holder_rows holder) → holder_by (given (codes "leaf")) (given (codes "table")) ≡ Some holder
holder_again None given h = let l = h.0 in let t = h.1.0 in rw (l, t) refl
holder_again (Some names) given h =
    let l = text_again names.leaf (given (codes "leaf")) h.0 in let t = text_again names.table (given (codes "table")) h.1.0 in rw (l, t) refl

keys_mean : (given : Given) (key x5u : List ℕ) (iat : ℕ) → key_of given ≡ Some key → x5u_of given ≡ Some x5u → iat_of given ≡ Some iat → EachMeans given (key_rows key x5u iat)
keys_mean given key x5u iat k u i = (
  fits_means is_key key (given (codes "key")) k,
  (fits_means is_uri x5u (given (codes "x5u")) u, (number_means 253402300799 iat (given (codes "iat")) (omega arith) i, tt)),
)

keys_again : (given : Given) (key x5u : List ℕ) (iat : ℕ) → EachMeans given (key_rows key x5u iat)
    → (key_of given ≡ Some key) × (x5u_of given ≡ Some x5u) × (iat_of given ≡ Some iat)
keys_again given key x5u iat h = (
  fits_again is_key key (given (codes "key")) h.0,
  fits_again is_uri x5u (given (codes "x5u")) h.1.0,
  number_again 0 253402300799 iat (given (codes "iat")) (omega arith) h.1.1.0,
)

-- the rows of a signer, as the parts are found
abbrev pub after_keys : SignerView → List OptionRow
after_keys by = row (codes "answers") (Text by.answers) ∷ (holder_rows by.holder ++ local_rows by.local)

abbrev SignerRows : Given → SignerView → Type 0
SignerRows given by = EachMeans given (signer_rows by)

signer_mean : (given : Given) (by : SignerView) → signer_of given ≡ Some by → SignerRows given by
signer_mean given by h =
    let k = some_of _ (key_of given) by h in
    let u = some_of _ (x5u_of given) by k.2 in
    let i = some_of _ (iat_of given) by u.2 in
    let l = some_of _ (local_in given) by i.2 in
    let a = some_of _ (given (codes "answers")) by l.2 in
    let o = last_of _ (holder_by (given (codes "leaf")) (given (codes "table"))) by a.2 in
    let made : SignerView = record { key = k.0; x5u = u.0; iat = i.0; local = l.0; answers = a.0; holder = o.0 } in
    subst (SignerRows given) o.2 (both_mean given (key_rows k.0 u.0 i.0) (after_keys made) (keys_mean given k.0 u.0 i.0 k.1 u.1 i.1) (
      text_means a.0 (given (codes "answers")) a.1,
      both_mean given (holder_rows o.0) (local_rows l.0) (holder_mean (given (codes "leaf")) (given (codes "table")) o.0 o.1 given refl refl) (local_means given l.0 l.1),
    ))

signer_again : (given : Given) (by : SignerView) → SignerRows given by → signer_of given ≡ Some by
signer_again given by h =
    let parts = split_mean given (key_rows by.key by.x5u by.iat) (after_keys by) h in
    let keys = keys_again given by.key by.x5u by.iat parts.0 in
    let rest = split_mean given (holder_rows by.holder) (local_rows by.local) parts.1.1 in
    let k = keys.0 in
    let u = keys.1 in
    let i = keys.2 in
    let l = local_again given by.local rest.1 in
    let a = text_again by.answers (given (codes "answers")) parts.1.0 in
    let o = holder_again by.holder given rest.0 in rw (k, u, i, l, a, o) refl

-- ---- `sign` and `divert`

-- the two parts of an order to sign
both_parts : {A B C : Type 0} (made : A → B → C) (a : Option A) (b : Option B) (c : C) → option_and_then (λ x. option_map (made x) b) a ≡ Some c
    → (x : A) × (y : B) × (a ≡ Some x) × (b ≡ Some y) × (made x y ≡ c)
both_parts made None b c h = absurd cc
both_parts made (Some x) None c h = absurd cc
both_parts made (Some x) (Some y) c h = (x, y, refl, refl, same_Some (made x y) c h)

same_text : (a b : List ℕ) → bytes_eq a b ≡ true → a ≡ b
same_text a b e = (bytes_eq-Decides a b).0 e

attest_by : (text : List ℕ) (level : Attest) (a b c : Bool) → bytes_eq text (codes "A") ≡ a → bytes_eq text (codes "B") ≡ b → bytes_eq text (codes "C") ≡ c
    → cond a (Some levels.A) (cond b (Some levels.B) (cond c (Some levels.C) None)) ≡ Some level → text ≡ attest_text level
attest_by text level true b c ea eb ec h = same_text text (codes "A") ea ∙ ap attest_text (same_Some levels.A level h)
attest_by text level false true c ea eb ec h = same_text text (codes "B") eb ∙ ap attest_text (same_Some levels.B level h)
attest_by text level false false true ea eb ec h = same_text text (codes "C") ec ∙ ap attest_text (same_Some levels.C level h)
attest_by text level false false false ea eb ec h = absurd cc

attest_is : (text : List ℕ) (level : Attest) → attest_of text ≡ Some level → text ≡ attest_text level
attest_is text level h = attest_by text level (bytes_eq text (codes "A")) (bytes_eq text (codes "B")) (bytes_eq text (codes "C")) refl refl refl h

attest_again : (level : Attest) → attest_of (attest_text level) ≡ Some level
attest_again levels.A = refl
attest_again levels.B = refl
attest_again levels.C = refl

plain_mean : (name : List ℕ) (form : Form) (base compact : Bool) → bytes_eq name (codes "base") ≡ base → bytes_eq name (codes "compact") ≡ compact
    → cond base (Some forms.Base) (cond compact (Some forms.Compact) None) ≡ Some form → (given : Given) → given (codes "form") ≡ Some name
    → given (codes "attest") ≡ None → given (codes "origid") ≡ None → EachMeans given (form_rows form)
plain_mean name form true compact eb ec h given f a o =
    subst (λ (x : Form). EachMeans given (form_rows x)) (same_Some forms.Base form h)
    (text_means (codes "base") (given (codes "form")) (f ∙ ap Some (same_text name (codes "base") eb)), (a, (o, tt)))
plain_mean name form false true eb ec h given f a o =
    subst (λ (x : Form). EachMeans given (form_rows x)) (same_Some forms.Compact form h)
    (text_means (codes "compact") (given (codes "form")) (f ∙ ap Some (same_text name (codes "compact") ec)), (a, (o, tt)))
plain_mean name form false false eb ec h given f a o = absurd cc

shaken_mean : (name attest origid : List ℕ) (form : Form) (t : Bool) → bytes_eq name (codes "shaken") ≡ t → cond t (shaken_by attest origid) None ≡ Some form
    → (given : Given) → given (codes "form") ≡ Some name → given (codes "attest") ≡ Some attest → given (codes "origid") ≡ Some origid → EachMeans given (form_rows form)
shaken_mean name attest origid form true e h given f a o =
    let parts = both_parts (λ level id. forms.Shaken level id) (attest_of attest) (text_if is_origid origid) form h in
    let identifier : option_and_then (text_if is_origid) (given (codes "origid")) ≡ Some parts.1 = ap (option_and_then (text_if is_origid)) o ∙ parts.3 in
    subst (λ (x : Form). EachMeans given (form_rows x)) parts.4 (
      text_means (codes "shaken") (given (codes "form")) (f ∙ ap Some (same_text name (codes "shaken") e)),
      (
        text_means (attest_text parts.0) (given (codes "attest")) (a ∙ ap Some (attest_is attest parts.0 parts.2)),
        (fits_means is_origid parts.1 (given (codes "origid")) identifier, tt),
      ),
    )
shaken_mean name attest origid form false e h given f a o = absurd cc

form_by_mean : (name : List ℕ) (attest origid : Option (List ℕ)) (form : Form) → form_by name attest origid ≡ Some form → (given : Given) → given (codes "form") ≡ Some name
    → given (codes "attest") ≡ attest → given (codes "origid") ≡ origid → EachMeans given (form_rows form)
form_by_mean name None None form h given f a o = plain_mean name form (bytes_eq name (codes "base")) (bytes_eq name (codes "compact")) refl refl h given f a o
form_by_mean name (Some attest) (Some origid) form h given f a o = shaken_mean name attest origid form (bytes_eq name (codes "shaken")) refl h given f a o
form_by_mean name (Some attest) None form h given f a o = absurd cc
form_by_mean name None (Some origid) form h given f a o = absurd cc

form_mean : (given : Given) (form : Form) → form_of given ≡ Some form → EachMeans given (form_rows form)
form_mean given form h =
    option_and_then_some (λ name. form_by name (given (codes "attest")) (given (codes "origid"))) (given (codes "form")) form h
    (λ name e found. form_by_mean name (given (codes "attest")) (given (codes "origid")) form found given e refl refl)

form_again : (given : Given) (form : Form) → EachMeans given (form_rows form) → form_of given ≡ Some form
form_again given forms.Base h = let f = text_again (codes "base") (given (codes "form")) h.0 in let a = h.1.0 in let o = h.1.1.0 in rw (f, a, o) refl
form_again given forms.Compact h = let f = text_again (codes "compact") (given (codes "form")) h.0 in let a = h.1.0 in let o = h.1.1.0 in rw (f, a, o) refl
form_again given (forms.Shaken level origid) h =
    let f = text_again (codes "shaken") (given (codes "form")) h.0 in
    let a = text_again (attest_text level) (given (codes "attest")) h.1.0 in
    let o = fits_parts is_origid origid (given (codes "origid")) h.1.1.0 in
    let is = o.0 in
    let fits = o.1 in
    let read = attest_again level in rw (f, a, is, read, fits) refl

signing_mean : (given : Given) (order : SigningView) → signing_of given ≡ Some order → EachMeans given (rows_of (SignBy order))
signing_mean given order h =
    let parts = both_parts signing_by (form_of given) (signer_of given) order h in
    subst (λ (x : SigningView). EachMeans given (rows_of (SignBy x))) parts.4
    (both_mean given (form_rows parts.0) (signer_rows parts.1) (form_mean given parts.0 parts.2) (signer_mean given parts.1 parts.3))

signing_again : (given : Given) (order : SigningView) → EachMeans given (rows_of (SignBy order)) → signing_of given ≡ Some order
signing_again given order h =
    let parts = split_mean given (form_rows order.form) (signer_rows order.signer) h in
    let f = form_again given order.form parts.0 in
    let s = signer_again given order.signer parts.1 in rw (f, s) refl

diverting_mean : (given : Given) (order : DivertingView) → diverting_of given ≡ Some order → EachMeans given (rows_of (DivertBy order))
diverting_mean given order h =
    let parts = both_parts diverting_by (earlier_of given) (signer_of given) order h in
    subst (λ (x : DivertingView). EachMeans given (rows_of (DivertBy x))) parts.4
    (fits_means is_number parts.0 (given (codes "earlier")) parts.2, signer_mean given parts.1 parts.3)

diverting_again : (given : Given) (order : DivertingView) → EachMeans given (rows_of (DivertBy order)) → diverting_of given ≡ Some order
diverting_again given order h =
    let e = fits_again is_number order.earlier (given (codes "earlier")) h.0 in
    let s = signer_again given order.signer h.1 in rw (e, s) refl

-- ---- `retarget`

-- the rows after those of the key, and with them
abbrev pub after_key : RetargetingView → List OptionRow
after_key order = row (codes "target") (Text order.target) ∷ row (codes "leaf") (Text order.leaf) ∷ row (codes "moment") (Number 0 253402300799 order.moment) ∷ []

abbrev pub from_key : RetargetingView → List OptionRow
from_key order = key_rows order.key order.x5u order.iat ++ after_key order

retargeting_mean : (given : Given) (order : RetargetingView) → retargeting_of given ≡ Some order → EachMeans given (rows_of (RetargetBy order))
retargeting_mean given order h =
    let j = some_of _ (judging_of given) order h in
    let k = some_of _ (key_of given) order j.2 in
    let u = some_of _ (x5u_of given) order k.2 in
    let i = some_of _ (iat_of given) order u.2 in
    let t = some_of _ (given (codes "target")) order i.2 in
    let l = some_of _ (given (codes "leaf")) order t.2 in
    let m = last_of _ (moment_of given) order l.2 in
    let made : RetargetingView = record { judging = j.0; key = k.0; x5u = u.0; iat = i.0; target = t.0; leaf = l.0; moment = m.0 } in
    subst (λ (x : RetargetingView). EachMeans given (rows_of (RetargetBy x))) m.2
    (judging_mean given j.0 (from_key made) j.1 (both_mean given (key_rows k.0 u.0 i.0) (after_key made) (keys_mean given k.0 u.0 i.0 k.1 u.1 i.1) (
      text_means t.0 (given (codes "target")) t.1,
      (text_means l.0 (given (codes "leaf")) l.1, (number_means 253402300799 m.0 (given (codes "moment")) (omega arith) m.1, tt)),
    )))

retargeting_again : (given : Given) (order : RetargetingView) → EachMeans given (rows_of (RetargetBy order)) → retargeting_of given ≡ Some order
retargeting_again given order h =
    let parts = judging_again given order.judging (from_key order) h in
    let more = split_mean given (key_rows order.key order.x5u order.iat) (after_key order) parts.1 in
    let keys = keys_again given order.key order.x5u order.iat more.0 in
    let j = parts.0 in
    let k = keys.0 in
    let u = keys.1 in
    let i = keys.2 in
    let t = text_again order.target (given (codes "target")) more.1.0 in
    let l = text_again order.leaf (given (codes "leaf")) more.1.1.0 in
    let m = number_again 0 253402300799 order.moment (given (codes "moment")) (omega arith) more.1.1.1.0 in rw (j, k, u, i, t, l, m) refl

-- ---- `drill` and `once`

drilling_mean : (given : Given) (d : DrillingView) → drilling_of given ≡ Some d → EachMeans given (rows_of (DrillBy d))
drilling_mean given d h =
    let s = some_of _ (seed_of given) d h in
    let c = some_of _ (count_of given) d s.2 in
    let w = last_of _ (workers_of given) d c.2 in
    subst (λ (x : DrillingView). EachMeans given (rows_of (DrillBy x))) w.2 (
      number_means 18446744073709551615 s.0 (given (codes "seed")) (omega arith) s.1,
      (number_means 100000 c.0 (given (codes "count")) (omega arith) c.1, (some_or_means 1 8 w.0 (given (codes "workers")) (omega arith) w.1, tt)),
    )

drilling_again : (given : Given) (d : DrillingView) → EachMeans given (rows_of (DrillBy d)) → drilling_of given ≡ Some d
drilling_again given d h =
    let s = number_again 0 18446744073709551615 d.seed (given (codes "seed")) (omega arith) h.0 in
    let c = number_again 0 100000 d.count (given (codes "count")) (omega arith) h.1.0 in
    let w = some_or_again 1 8 d.workers (given (codes "workers")) (omega arith) (omega arith) h.1.1.0 in rw (s, c, w) refl

abbrev claiming_by : ℕ → ℕ → ClaimingView
claiming_by slots workers = record { size = slots; workers = workers }

claiming_mean : (given : Given) (c : ClaimingView) → claiming_of given ≡ Some c → EachMeans given (rows_of (OnceBy c))
claiming_mean given c h =
    let parts = both_parts claiming_by (size_of given) (workers_of given) c h in
    subst (λ (x : ClaimingView). EachMeans given (rows_of (OnceBy x))) parts.4
    (some_means 1048576 parts.0 (given (codes "size")) (omega arith) parts.2, (some_or_means 1 8 parts.1 (given (codes "workers")) (omega arith) parts.3, tt))

claiming_again : (given : Given) (c : ClaimingView) → EachMeans given (rows_of (OnceBy c)) → claiming_of given ≡ Some c
claiming_again given c h =
    let s = some_again 1048576 c.size (given (codes "size")) (omega arith) h.0 in
    let w = some_or_again 1 8 c.workers (given (codes "workers")) (omega arith) (omega arith) h.1.0 in rw (s, w) refl

-- ---- the commands

abbrev text_of : Command → List ℕ
text_of commands.Verify = codes "verify"
text_of commands.Explain = codes "explain"
text_of commands.Ask = codes "ask"
text_of commands.Sign = codes "sign"
text_of commands.Divert = codes "divert"
text_of commands.Retarget = codes "retarget"
text_of commands.Show = codes "show"
text_of commands.Drill = codes "drill"
text_of commands.Once = codes "once"

-- the name is that of this command, or the command is one of the others
here_or : (name : List ℕ) (here found : Command) (others : Option Command) (t : Bool) → bytes_eq name (text_of here) ≡ t → cond t (Some here) others ≡ Some found
    → (others ≡ Some found → name ≡ text_of found) → name ≡ text_of found
here_or name here found others true e h next = same_text name (text_of here) e ∙ ap text_of (same_Some here found h)
here_or name here found others false e h next = next h

named : (name : List ℕ) (command : Command) → command_named name ≡ Some command → name ≡ text_of command
named name command h =
    here_or name commands.Verify command _ _ refl h (λ h. here_or name commands.Explain command _ _ refl h (λ h. here_or name commands.Ask command _ _ refl h
    (λ h. here_or name commands.Sign command _ _ refl h (λ h. here_or name commands.Divert command _ _ refl h (λ h. here_or name commands.Retarget command _ _ refl h
    (λ h. here_or name commands.Show command _ _ refl h (λ h. here_or name commands.Drill command _ _ refl h (λ h. here_or name commands.Once command _ _ refl h
    (λ h. absurd cc)))))))))

named_again : (command : Command) → command_named (text_of command) ≡ Some command
named_again commands.Verify = refl
named_again commands.Explain = refl
named_again commands.Ask = refl
named_again commands.Sign = refl
named_again commands.Divert = refl
named_again commands.Retarget = refl
named_again commands.Show = refl
named_again commands.Drill = refl
named_again commands.Once = refl

abbrev command_of : OrderView → Command
command_of (VerifyBy verifying) = commands.Verify
command_of (ExplainBy judging) = commands.Explain
command_of (AskBy asking) = commands.Ask
command_of (SignBy signing) = commands.Sign
command_of (DivertBy diverting) = commands.Divert
command_of (RetargetBy words) = commands.Retarget
command_of ShowCertificates = commands.Show
command_of (DrillBy drilling) = commands.Drill
command_of (OnceBy claiming) = commands.Once

word_is : (order : OrderView) → word_of order ≡ text_of (command_of order)
word_is (VerifyBy verifying) = refl
word_is (ExplainBy judging) = refl
word_is (AskBy asking) = refl
word_is (SignBy signing) = refl
word_is (DivertBy diverting) = refl
word_is (RetargetBy words) = refl
word_is ShowCertificates = refl
word_is (DrillBy drilling) = refl
word_is (OnceBy claiming) = refl

sign_matches : (form : Form) (key x5u : List ℕ) (iat : ℕ) (answers : List ℕ) (holder : Option HolderNames) (l : LocalView)
    → matches (options_of commands.Sign) (form_rows form ++ signer_rows (record { key = key; x5u = x5u; iat = iat; local = l; answers = answers; holder = holder })) ≡ true
sign_matches forms.Base key x5u iat answers None l = refl
sign_matches forms.Base key x5u iat answers (Some names) l = refl
sign_matches forms.Compact key x5u iat answers None l = refl
sign_matches forms.Compact key x5u iat answers (Some names) l = refl
sign_matches (forms.Shaken level origid) key x5u iat answers None l = refl
sign_matches (forms.Shaken level origid) key x5u iat answers (Some names) l = refl

divert_matches : (earlier key x5u : List ℕ) (iat : ℕ) (answers : List ℕ) (holder : Option HolderNames) (l : LocalView)
    → matches (options_of commands.Divert) (row (codes "earlier") (TextOf is_number earlier) ∷ signer_rows (record { key = key; x5u = x5u; iat = iat; local = l; answers = answers; holder = holder })) ≡ true
divert_matches earlier key x5u iat answers None l = refl
divert_matches earlier key x5u iat answers (Some names) l = refl

all_match : (order : OrderView) → matches (options_of (command_of order)) (rows_of order) ≡ true
all_match (VerifyBy verifying) = refl
all_match (ExplainBy judging) = refl
all_match (AskBy asking) = refl
all_match (SignBy order) = sign_matches order.form order.signer.key order.signer.x5u order.signer.iat order.signer.answers order.signer.holder order.signer.local
all_match (DivertBy order) = divert_matches order.earlier order.signer.key order.signer.x5u order.signer.iat order.signer.answers order.signer.holder order.signer.local
all_match (RetargetBy words) = refl
all_match ShowCertificates = refl
all_match (DrillBy drilling) = refl
all_match (OnceBy claiming) = refl

-- ---- from the words to the rows

record Came (command : Command) (given : Given) (order : OrderView) : Type 0 where
  orders : command_of order ≡ command
  means : EachMeans given (rows_of order)

came_by : {X : Type 0} (command : Command) (given : Given) (made : X → OrderView) (found : Option X) (order : OrderView) → option_map made found ≡ Some order
    → ((x : X) → command_of (made x) ≡ command) → ((x : X) → found ≡ Some x → EachMeans given (rows_of (made x))) → Came command given order
came_by command given made None order h is means = absurd cc
came_by command given made (Some x) order h is means = subst (Came command given) (same_Some (made x) order h) (record { orders = is x; means = means x refl })

came : (command : Command) (given : Given) (order : OrderView) → order_with command given ≡ Some order → Came command given order
came commands.Verify given order h = came_by commands.Verify given VerifyBy (verifying_of given) order h (λ x. refl) (λ x e. verifying_mean given x e)
came commands.Explain given order h = came_by commands.Explain given ExplainBy (judging_of given) order h (λ x. refl) (λ x e. judging_mean given x [] e tt)
came commands.Ask given order h = came_by commands.Ask given AskBy (asking_of given) order h (λ x. refl) (λ x e. asking_mean given x e)
came commands.Sign given order h = came_by commands.Sign given SignBy (signing_of given) order h (λ x. refl) (λ x e. signing_mean given x e)
came commands.Divert given order h = came_by commands.Divert given DivertBy (diverting_of given) order h (λ x. refl) (λ x e. diverting_mean given x e)
came commands.Retarget given order h = came_by commands.Retarget given RetargetBy (retargeting_of given) order h (λ x. refl) (λ x e. retargeting_mean given x e)
came commands.Show given order h = subst (Came commands.Show given) (same_Some ShowCertificates order h) (record { orders = refl; means = tt })
came commands.Drill given order h = came_by commands.Drill given DrillBy (drilling_of given) order h (λ x. refl) (λ x e. drilling_mean given x e)
came commands.Once given order h = came_by commands.Once given OnceBy (claiming_of given) order h (λ x. refl) (λ x e. claiming_mean given x e)

ordered_pairs : (words : List (List ℕ)) (command : Command) (others : List (List ℕ)) (pairs : List Pair) (order : OrderView) (t : Bool)
    → words ≡ text_of command ∷ others → pairs_of others ≡ Some pairs → accepts (options_of command) pairs ≡ t
    → cond t (order_with command (given_by pairs)) None ≡ Some order → IsOrdered words order
ordered_pairs words command others pairs order true first e fits h =
    let c = came command (given_by pairs) order h in
    let table = ap options_of c.orders in
    let accepted = (accepted_are (options_of command) pairs).0 fits in
    record {
      others = others;
      first = first ∙ ap (λ (name : List ℕ). name ∷ others) (sym (word_is order ∙ ap text_of c.orders));
      pairs = pairs;
      options = (options_are others pairs).0 e;
      known = each_once (options_of (command_of order)) (rows_of order) pairs (all_match order) (subst (λ (t : List Known). Accepted t pairs) (sym table) accepted);
      rows = c.means;
    }
ordered_pairs words command others pairs order false first e fits h = absurd cc

from_words : (words : List (List ℕ)) (order : OrderView) → order_of words ≡ Some order → IsOrdered words order
unfolding order_of
from_words [] order h = absurd cc
from_words (name ∷ others) order h =
    option_and_then_some (λ (command : Command). order_by command others) (command_named name) order h (λ command e found.
    option_and_then_some (if_accepted command) (pairs_of others) order found (λ pairs is fits.
    ordered_pairs (name ∷ others) command others pairs order (accepts (options_of command) pairs) (ap (λ (n : List ℕ). n ∷ others) (named name command e)) is refl fits))

-- ---- and back

again : (order : OrderView) (given : Given) → EachMeans given (rows_of order) → order_with (command_of order) given ≡ Some order
again (VerifyBy x) given h = ap (option_map VerifyBy) (verifying_again given x h)
again (ExplainBy x) given h = ap (option_map ExplainBy) ((judging_again given x [] h).0)
again (AskBy x) given h = ap (option_map AskBy) (asking_again given x h)
again (SignBy x) given h = ap (option_map SignBy) (signing_again given x h)
again (DivertBy x) given h = ap (option_map DivertBy) (diverting_again given x h)
again (RetargetBy x) given h = ap (option_map RetargetBy) (retargeting_again given x h)
again ShowCertificates given h = refl
again (DrillBy x) given h = ap (option_map DrillBy) (drilling_again given x h)
again (OnceBy x) given h = ap (option_map OnceBy) (claiming_again given x h)

by_command : (word : List ℕ) (others : List (List ℕ)) (command : Command) → command_named word ≡ Some command → order_of (word ∷ others) ≡ order_by command others
unfolding order_of
by_command word others command e = ap (option_and_then (λ (c : Command). order_by c others)) e

to_words : (words : List (List ℕ)) (order : OrderView) → IsOrdered words order → order_of words ≡ Some order
to_words words order o =
    let command = command_of order in
    let named_so : command_named (word_of order) ≡ Some command = ap command_named (word_is order) ∙ named_again command in
    let accepted = accepted_by (options_of command) (rows_of order) o.pairs (all_match order) o.known o.rows in
    let fits : accepts (options_of command) o.pairs ≡ true = (accepted_are (options_of command) o.pairs).1 accepted in
    let read : pairs_of o.others ≡ Some o.pairs = (options_are o.others o.pairs).1 o.options in
    let found : if_accepted command o.pairs ≡ order_with command (given_by o.pairs) = ap (λ (t : Bool). cond t (order_with command (given_by o.pairs)) None) fits in
    ap order_of o.first ∙ by_command (word_of order) o.others command named_so ∙ ap (option_and_then (if_accepted command)) read ∙ found ∙ again order (given_by o.pairs) o.rows

-- what the words order is what they say row by row
pub rows_are : (words : List (List ℕ)) (order : OrderView) → (order_of words ≡ Some order) ↔ IsOrdered words order
rows_are words order = (from_words words order, to_words words order)
