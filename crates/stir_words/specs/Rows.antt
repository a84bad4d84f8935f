-- What each option of a command says, row by row: its name, what of the order its value is, and what stands there if it
-- isn't given (this project's own rule). `order_of` says the same as a function.
use Rattle.std.specs.Prelude.{◌≡◌, ℕ, ◌≤◌, ◌⊎◌, Bool, true, List, [], ◌∷◌, ◌++◌, codes, Option, Some, None}
use Rattle.std.specs.Fmt.{decimal}
use Rattle.text_grammar.specs.Uri.{is_uri}
use Rattle.tn_values.specs.Local.{LocalView, is_local}
use Rattle.tn_values.specs.Number.{is_number}
use Rattle.passport_claims.specs.Kind.{attest_text}
use Rattle.passport_claims.specs.Origid.{is_origid}
use Rattle.passport_claims.specs.declared.form.Form.{Form}
use Rattle.passport_claims.specs.declared.form.Form.TheVariants as forms
use Rattle.stir_words.specs.Options.{Options, Pair}
use Rattle.stir_words.specs.Order.{AskBy, AskingView, ClaimingView, DivertBy, DivertingView, DrillBy, DrillingView}
use Rattle.stir_words.specs.Order.{ExplainBy, HolderNames, JudgingView, OnceBy, OrderView, RetargetBy, RetargetingView}
use Rattle.stir_words.specs.Order.{SettingsView, ShowCertificates, SignBy, SignerView, SigningView, VerifyBy}
use Rattle.stir_words.specs.Order.{VerifyingView}
use Rattle.stir_words.specs.Table.{Given, get, given_by}
use Rattle.stir_words.specs.Values.{is_key}

-- ---- a row

-- what the value of an option is
pub data Meaning : Type 0 where
  -- any text: this one
  Text : List ℕ → Meaning
  -- a text that passes a test: this one
  TextOf : (List ℕ → Bool) → List ℕ → Meaning
  -- a text, or the option isn't given
  Maybe : Option (List ℕ) → Meaning
  -- a text that passes a test, or if the option isn't given the first of these: it comes to the second
  TextOr : (List ℕ → Bool) → List ℕ → List ℕ → Meaning
  -- a number that is at least the first and at most the second: the third
  Number : ℕ → ℕ → ℕ → Meaning
  -- the same, or if the option isn't given the first of these
  NumberOr : ℕ → ℕ → ℕ → ℕ → Meaning

-- the text is this number in decimal digits, without a sign or a leading zero, and the number lies within these bounds
pub record Writes (text : List ℕ) (least most number : ℕ) : Type 0 where
  pub digits : text ≡ decimal number
  pub low : least ≤ number
  pub high : number ≤ most

-- the option has this value, or it isn't given, and that means this
abbrev pub Means : Meaning → Option (List ℕ) → Type 0
Means (Text text) None = ⊥
Means (Text text) (Some value) = value ≡ text
Means (TextOf fits text) None = ⊥
Means (TextOf fits text) (Some value) = (value ≡ text) × (fits text ≡ true)
Means (Maybe text) value = value ≡ text
Means (TextOr fits other text) None = (text ≡ other) × (fits text ≡ true)
Means (TextOr fits other text) (Some value) = (value ≡ text) × (fits text ≡ true)
Means (Number least most number) None = ⊥
Means (Number least most number) (Some value) = Writes value least most number
Means (NumberOr other least most number) None = number ≡ other
Means (NumberOr other least most number) (Some value) = Writes value least most number

-- an option, and what its value is
pub record OptionRow : Type 0 where
  pub name : List ℕ
  pub meaning : Meaning

abbrev pub row : List ℕ → Meaning → OptionRow
row option value = record { name = option; meaning = value }

-- ---- the rows of each command

-- how long a PASSporT is fresh, in seconds, and how numbers without `+` are read; at most a day, 60 and 5; a country of
-- 1 to 3 digits, 1, and national numbers of at most 14 digits, 10
abbrev pub local_rows : LocalView → List OptionRow
local_rows l = row (codes "country") (TextOr (λ country. is_local country l.national) (codes "1") l.country)
    ∷ row (codes "national") (NumberOr 10 0 14 l.national) ∷ []

abbrev pub settings_rows : SettingsView → List OptionRow
settings_rows settings = row (codes "past") (NumberOr 60 0 86400 settings.past)
    ∷ row (codes "future") (NumberOr 5 0 86400 settings.future) ∷ local_rows settings.local

-- the names of four files, and the settings
abbrev pub judging_rows : JudgingView → List OptionRow → List OptionRow
judging_rows judging others = row (codes "chains") (Text judging.chains) ∷ row (codes "anchors") (Text judging.anchors)
    ∷ row (codes "table") (Text judging.table) ∷ row (codes "answers") (Text judging.answers)
    ∷ (others ++ settings_rows judging.settings)

-- 1 to 8 workers, 1 if it isn't said
abbrev pub workers_row : ℕ → OptionRow
workers_row workers = row (codes "workers") (NumberOr 1 1 8 workers)

abbrev pub verifying_rows : VerifyingView → List OptionRow
verifying_rows verifying =
    judging_rows verifying.judging (row (codes "state") (Maybe verifying.state) ∷ workers_row verifying.workers ∷ [])

abbrev pub asking_rows : AskingView → List OptionRow
asking_rows asking = row (codes "chains") (Text asking.chains) ∷ row (codes "anchors") (Text asking.anchors)
    ∷ row (codes "table") (Text asking.table) ∷ settings_rows asking.settings

-- the name of the key, the URI of its certificates, and the second of the signature, no later than the year 9999
abbrev pub key_rows : List ℕ → List ℕ → ℕ → List OptionRow
key_rows key x5u iat = row (codes "key") (TextOf is_key key) ∷ row (codes "x5u") (TextOf is_uri x5u)
    ∷ row (codes "iat") (Number 0 253402300799 iat) ∷ []

-- the files of the holder, both or neither
abbrev pub holder_rows : Option HolderNames → List OptionRow
holder_rows None = row (codes "leaf") (Maybe None) ∷ row (codes "table") (Maybe None) ∷ []
holder_rows (Some names) = row (codes "leaf") (Text names.leaf) ∷ row (codes "table") (Text names.table) ∷ []

-- what `sign` and `divert` have in common
abbrev pub signer_rows : SignerView → List OptionRow
signer_rows by = key_rows by.key by.x5u by.iat
    ++ (row (codes "answers") (Text by.answers) ∷ (holder_rows by.holder ++ local_rows by.local))

-- the form; an attestation, and a UUID for the call, exactly with `shaken`
abbrev pub form_rows : Form → List OptionRow
form_rows forms.Base = row (codes "form") (Text (codes "base")) ∷ row (codes "attest") (Maybe None)
    ∷ row (codes "origid") (Maybe None) ∷ []
form_rows forms.Compact = row (codes "form") (Text (codes "compact")) ∷ row (codes "attest") (Maybe None)
    ∷ row (codes "origid") (Maybe None) ∷ []
form_rows (forms.Shaken level origid) = row (codes "form") (Text (codes "shaken"))
    ∷ row (codes "attest") (Text (attest_text level)) ∷ row (codes "origid") (TextOf is_origid origid) ∷ []

abbrev pub signing_rows : SigningView → List OptionRow
signing_rows signing = form_rows signing.form ++ signer_rows signing.signer

abbrev pub diverting_rows : DivertingView → List OptionRow
diverting_rows diverting = row (codes "earlier") (TextOf is_number diverting.earlier) ∷ signer_rows diverting.signer

-- by what a call is judged; the key, and the second of the signature; where the call goes on, the file of the holder's
-- certificate, and when the call came
abbrev pub retargeting_rows : RetargetingView → List OptionRow
retargeting_rows words =
    judging_rows words.judging (key_rows words.key words.x5u words.iat ++ (row (codes "target") (Text words.target)
    ∷ row (codes "leaf") (Text words.leaf) ∷ row (codes "moment") (Number 0 253402300799 words.moment) ∷ []))

-- a seed below 2^64, at most 100,000 calls
abbrev pub drilling_rows : DrillingView → List OptionRow
drilling_rows drilling = row (codes "seed") (Number 0 18446744073709551615 drilling.seed)
    ∷ row (codes "count") (Number 0 100000 drilling.count) ∷ workers_row drilling.workers ∷ []

-- 1 to 1,048,576 slots
abbrev pub claiming_rows : ClaimingView → List OptionRow
claiming_rows claiming = row (codes "size") (Number 1 1048576 claiming.size) ∷ workers_row claiming.workers ∷ []

abbrev pub rows_of : OrderView → List OptionRow
rows_of (VerifyBy verifying) = verifying_rows verifying
rows_of (ExplainBy judging) = judging_rows judging []
rows_of (AskBy asking) = asking_rows asking
rows_of (SignBy signing) = signing_rows signing
rows_of (DivertBy diverting) = diverting_rows diverting
rows_of (RetargetBy words) = retargeting_rows words
rows_of ShowCertificates = []
rows_of (DrillBy drilling) = drilling_rows drilling
rows_of (OnceBy claiming) = claiming_rows claiming

-- the name of the command
abbrev pub word_of : OrderView → List ℕ
word_of (VerifyBy verifying) = codes "verify"
word_of (ExplainBy judging) = codes "explain"
word_of (AskBy asking) = codes "ask"
word_of (SignBy signing) = codes "sign"
word_of (DivertBy diverting) = codes "divert"
word_of (RetargetBy words) = codes "retarget"
word_of ShowCertificates = codes "show"
word_of (DrillBy drilling) = codes "drill"
word_of (OnceBy claiming) = codes "once"

-- ---- the whole

-- a row has this name
abbrev pub HasRow : List OptionRow → List ℕ → Type 0
HasRow [] name = ⊥
HasRow (first ∷ others) name = (name ≡ first.name) ⊎ HasRow others name

-- each option has a row, and none after it has its name
abbrev pub EachOnce : List OptionRow → List Pair → Type 0
EachOnce rows [] = Unit {0}
EachOnce rows (pair ∷ pairs) = HasRow rows pair.name × (get pair.name pairs ≡ None) × EachOnce rows pairs

-- each row holds
abbrev pub EachMeans : Given → List OptionRow → Type 0
EachMeans given [] = Unit {0}
EachMeans given (first ∷ others) = Means first.meaning (given first.name) × EachMeans given others

-- The words order this: the name of the command, and options, one after the other, of which each has a row and each row
-- holds.
pub record IsOrdered (words : List (List ℕ)) (order : OrderView) : Type 0 where
  pub others : List (List ℕ)
  pub first : words ≡ word_of order ∷ others
  pub pairs : List Pair
  pub options : Options others pairs
  pub known : EachOnce (rows_of order) pairs
  pub rows : EachMeans (given_by pairs) (rows_of order)
