-- What a command line orders (this project's own rule): a command, and the values of its options.
use Rattle.std.specs.Prelude.{◌≡◌, ◌≤◌, ℕ, true, List, [], ◌∷◌, codes, Option, Some, None, option_and_then}
use Rattle.std.specs.Prelude.{if◌then◌else◌}
use Rattle.std.specs.Option.{option_map}
use Rattle.text_grammar.specs.Moment.{last_second}
use Rattle.text_grammar.specs.Uri.{is_uri}
use Rattle.tn_values.specs.Local.{LocalView}
use Rattle.tn_values.specs.Number.{is_number}
use Rattle.passport_claims.specs.Form.{form_kind}
use Rattle.passport_claims.specs.Made.{has_origid}
use Rattle.passport_claims.specs.declared.form.Form.{Form}
use Rattle.stir_words.specs.Options.{pairs_of}
use Rattle.stir_words.specs.Table.{Given, accepts, command_named, given_by, options_of}
use Rattle.stir_words.specs.Values.{count_of, earlier_of, form_of, future_of, iat_of, is_key, key_of, local_in}
use Rattle.stir_words.specs.Values.{moment_of, past_of, seed_of, size_of, workers_of, x5u_of}
use Rattle.stir_words.specs.declared.commands.Command.{Command}
use Rattle.stir_words.specs.declared.commands.Command.TheVariants as commands

-- how many seconds old a PASSporT may be, how many seconds its iat may be ahead, and how numbers without `+` are read
pub record SettingsView : Type 0 where
  pub past : ℕ
  pub future : ℕ
  pub local : LocalView

-- the files by which calls are judged, and the settings
pub record JudgingView : Type 0 where
  pub chains : List ℕ
  pub anchors : List ℕ
  pub table : List ℕ
  pub answers : List ℕ
  pub settings : SettingsView

-- the same, the file with the state of an earlier run, if there is one, and how many workers there are
pub record VerifyingView : Type 0 where
  pub judging : JudgingView
  pub state : Option (List ℕ)
  pub workers : ℕ

-- the files that say what is asked of the provider of signatures, and the settings
pub record AskingView : Type 0 where
  pub chains : List ℕ
  pub anchors : List ℕ
  pub table : List ℕ
  pub settings : SettingsView

-- the files with the certificate of the holder of the key, and with what the codes of its authority list stand for
pub record HolderNames : Type 0 where
  pub leaf : List ℕ
  pub table : List ℕ

-- under which key and when it is signed, how numbers without `+` are read, and the files with the provider's answers
-- and of the holder
pub record SignerView : Type 0 where
  pub key : List ℕ
  pub x5u : List ℕ
  pub iat : ℕ
  pub local : LocalView
  pub answers : List ℕ
  pub holder : Option HolderNames

-- the form of the PASSporT that is signed, and the same
pub record SigningView : Type 0 where
  pub form : Form
  pub signer : SignerView

-- the number that was called before the diversion, and the same
pub record DivertingView : Type 0 where
  pub earlier : List ℕ
  pub signer : SignerView

-- by what a call is judged, when it came and where it goes on; under which key and when its diversion is signed, and
-- the file of the key's certificate
pub record RetargetingView : Type 0 where
  pub judging : JudgingView
  pub key : List ℕ
  pub x5u : List ℕ
  pub iat : ℕ
  pub target : List ℕ
  pub leaf : List ℕ
  pub moment : ℕ

-- the seed of a log that is made, how many calls it has, and how many workers judge it
pub record DrillingView : Type 0 where
  pub seed : ℕ
  pub count : ℕ
  pub workers : ℕ

-- how many slots a level of a desk has, and how many workers claim on it
pub record ClaimingView : Type 0 where
  pub size : ℕ
  pub workers : ℕ

-- a command with the values of its options
pub data OrderView : Type 0 where
  VerifyBy : VerifyingView → OrderView
  ExplainBy : JudgingView → OrderView
  AskBy : AskingView → OrderView
  SignBy : SigningView → OrderView
  DivertBy : DivertingView → OrderView
  RetargetBy : RetargetingView → OrderView
  ShowCertificates : OrderView
  DrillBy : DrillingView → OrderView
  OnceBy : ClaimingView → OrderView

-- ---- the values

abbrev pub settings_of : Given → Option SettingsView
settings_of given = option_and_then (λ past.
    option_and_then (λ future. option_map (λ l. record { past = past; future = future; local = l }) (local_in given))
    (future_of given)) (past_of given)

abbrev pub judging_of : Given → Option JudgingView
judging_of given = option_and_then (λ chains.
    option_and_then (λ anchors. option_and_then (λ table. option_and_then (λ answers. option_map
    (λ settings. record { chains = chains; anchors = anchors; table = table; answers = answers; settings = settings })
    (settings_of given)) (given (codes "answers"))) (given (codes "table"))) (given (codes "anchors")))
    (given (codes "chains"))

abbrev pub verifying_of : Given → Option VerifyingView
verifying_of given = option_and_then (λ judging.
    option_map (λ workers. record { judging = judging; state = given (codes "state"); workers = workers })
    (workers_of given)) (judging_of given)

abbrev pub asking_of : Given → Option AskingView
asking_of given = option_and_then (λ chains. option_and_then (λ anchors. option_and_then (λ table. option_map
    (λ settings. record { chains = chains; anchors = anchors; table = table; settings = settings }) (settings_of given))
    (given (codes "table"))) (given (codes "anchors"))) (given (codes "chains"))

-- `--leaf` and `--table` are given together, or neither is
abbrev pub holder_by : Option (List ℕ) → Option (List ℕ) → Option (Option HolderNames)
holder_by None None = Some None
holder_by (Some leaf) (Some table) = Some (Some (record { leaf = leaf; table = table }))
holder_by (Some leaf) None = None
holder_by None (Some table) = None

abbrev pub holder_of : Given → Option (Option HolderNames)
holder_of given = holder_by (given (codes "leaf")) (given (codes "table"))

-- what `sign` and `divert` have in common, if each part is there
abbrev pub signer_from : Option (List ℕ) → Option (List ℕ) → Option ℕ → Option LocalView → Option (List ℕ)
    → Option (Option HolderNames) → Option SignerView
signer_from key x5u iat l answers holder = option_and_then (λ k.
    option_and_then (λ u. option_and_then (λ i. option_and_then (λ n. option_and_then (λ a. option_map
    (λ h. record { key = k; x5u = u; iat = i; local = n; answers = a; holder = h }) holder) answers) l) iat) x5u) key

abbrev pub signer_of : Given → Option SignerView
signer_of given = signer_from (key_of given) (x5u_of given) (iat_of given) (local_in given)
    (given (codes "answers")) (holder_of given)

abbrev pub signing_by : Form → SignerView → SigningView
signing_by form by = record { form = form; signer = by }

abbrev pub signing_from : Option Form → Option SignerView → Option SigningView
signing_from form by = option_and_then (λ f. option_map (signing_by f) by) form

abbrev pub signing_of : Given → Option SigningView
signing_of given = signing_from (form_of given) (signer_of given)

abbrev pub diverting_by : List ℕ → SignerView → DivertingView
diverting_by earlier by = record { earlier = earlier; signer = by }

abbrev pub diverting_from : Option (List ℕ) → Option SignerView → Option DivertingView
diverting_from earlier by = option_and_then (λ e. option_map (diverting_by e) by) earlier

abbrev pub diverting_of : Given → Option DivertingView
diverting_of given = diverting_from (earlier_of given) (signer_of given)

-- what `retarget` orders, if each part is there
abbrev pub retargeting_from : Option JudgingView → Option (List ℕ) → Option (List ℕ) → Option ℕ → Option (List ℕ)
    → Option (List ℕ) → Option ℕ → Option RetargetingView
retargeting_from judging key x5u iat target leaf moment = option_and_then (λ j. option_and_then
    (λ k. option_and_then (λ u. option_and_then (λ i. option_and_then (λ t. option_and_then (λ l. option_map (λ m.
    record { judging = j; key = k; x5u = u; iat = i; target = t; leaf = l; moment = m }) moment) leaf) target) iat) x5u)
    key) judging

abbrev pub retargeting_of : Given → Option RetargetingView
retargeting_of given = retargeting_from (judging_of given) (key_of given) (x5u_of given) (iat_of given)
    (given (codes "target")) (given (codes "leaf")) (moment_of given)

abbrev pub drilling_of : Given → Option DrillingView
drilling_of given = option_and_then (λ seed. option_and_then
    (λ count. option_map (λ workers. record { seed = seed; count = count; workers = workers }) (workers_of given))
    (count_of given)) (seed_of given)

abbrev pub claiming_of : Given → Option ClaimingView
claiming_of given = option_and_then (λ size.
    option_map (λ workers. record { size = size; workers = workers }) (workers_of given)) (size_of given)

-- ---- the whole

-- what a command orders with these options
abbrev pub order_with : Command → Given → Option OrderView
order_with commands.Verify given = option_map VerifyBy (verifying_of given)
order_with commands.Explain given = option_map ExplainBy (judging_of given)
order_with commands.Ask given = option_map AskBy (asking_of given)
order_with commands.Sign given = option_map SignBy (signing_of given)
order_with commands.Divert given = option_map DivertBy (diverting_of given)
order_with commands.Retarget given = option_map RetargetBy (retargeting_of given)
order_with commands.Show given = Some ShowCertificates
order_with commands.Drill given = option_map DrillBy (drilling_of given)
order_with commands.Once given = option_map OnceBy (claiming_of given)

-- what a command orders with words that fall into options of its table
abbrev pub order_by : Command → List (List ℕ) → Option OrderView
order_by command words = option_and_then (λ pairs. if accepts (options_of command) pairs
    then order_with command (given_by pairs) else None) (pairs_of words)

-- what the words after the program's name order: the first is the name of a command, and the others are its options
unfoldable pub order_of : List (List ℕ) → Option OrderView
order_of [] = None
order_of (name ∷ words) = option_and_then (λ command. order_by command words) (command_named name)

-- ---- what signing takes for granted

-- the key has a name, its certificates a URI, and it is signed no later than the year 9999
pub record IsSigner (key x5u : List ℕ) (iat : ℕ) : Type 0 where
  pub name : is_key key ≡ true
  pub uri : is_uri x5u ≡ true
  pub within : iat ≤ last_second

-- the same, and the identifier of the call, if the form has one, is a UUID in 36 characters
pub record IsSigning (order : SigningView) : Type 0 where
  pub by : IsSigner order.signer.key order.signer.x5u order.signer.iat
  pub origid : has_origid (form_kind order.form) ≡ true

-- the same, and what was called before the diversion is a number
pub record IsDiverting (order : DivertingView) : Type 0 where
  pub by : IsSigner order.signer.key order.signer.x5u order.signer.iat
  pub number : is_number order.earlier ≡ true

-- the same, and the call came no later than the year 9999
pub record IsRetargeting (order : RetargetingView) : Type 0 where
  pub by : IsSigner order.key order.x5u order.iat
  pub moment : order.moment ≤ last_second

-- what is ordered can be signed, if it is to be
abbrev pub CanBeSigned : OrderView → Type 0
CanBeSigned (SignBy order) = IsSigning order
CanBeSigned (DivertBy order) = IsDiverting order
CanBeSigned (RetargetBy order) = IsRetargeting order
CanBeSigned (VerifyBy verifying) = Unit {0}
CanBeSigned (ExplainBy judging) = Unit {0}
CanBeSigned (AskBy asking) = Unit {0}
CanBeSigned ShowCertificates = Unit {0}
CanBeSigned (DrillBy drilling) = Unit {0}
CanBeSigned (OnceBy claiming) = Unit {0}
