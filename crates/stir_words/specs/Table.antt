-- Which options a command takes (this project's own rule).
use Rattle.std.specs.Prelude.{◌≡◌, ℕ, Bool, true, false, not, ◌&&◌, ◌||◌, List, [], ◌∷◌, ◌++◌, codes, is_some, Option}
use Rattle.std.specs.Prelude.{Some, None, if◌then◌else◌}
use Rattle.std.specs.List.{list_any, list_all}
use Rattle.std.specs.Str.{bytes_eq}
use Rattle.stir_words.specs.Options.{Pair}
use Rattle.stir_words.specs.declared.commands.Command.{Command}
use Rattle.stir_words.specs.declared.commands.Command.TheVariants.{Verify, Explain, Ask, Sign, Divert, Retarget, Show}
use Rattle.stir_words.specs.declared.commands.Command.TheVariants.{Drill, Once}

-- an option that a command takes
pub record Known : Type 0 where
  pub name : List ℕ
  pub required : Bool

-- the value of the option of that name
abbrev pub get : List ℕ → List Pair → Option (List ℕ)
get name [] = None
get name (pair ∷ pairs) = if bytes_eq pair.name name then Some pair.value else get name pairs

-- the value of the option of each name, if it is there
abbrev pub Given : Type 0
Given = List ℕ → Option (List ℕ)

abbrev pub given_by : List Pair → Given
given_by pairs = λ name. get name pairs

-- an option of that name is among them
abbrev pub has : List ℕ → List Pair → Bool
has name pairs = is_some (get name pairs)

-- the table has an option of that name
abbrev pub is_known : List Known → List ℕ → Bool
is_known table name = list_any (λ known. bytes_eq known.name name) table

-- each is an option of the table, and none has the name of one before it or of one already seen
abbrev pub are_known : List Known → List Pair → List Pair → Bool
are_known table seen [] = true
are_known table seen (pair ∷ pairs) =
    is_known table pair.name && (not (has pair.name seen) && are_known table (seen ++ pair ∷ []) pairs)

-- all that the table requires are there
abbrev pub has_required : List Known → List Pair → Bool
has_required table pairs = list_all (λ known. not known.required || has known.name pairs) table

-- the options are those of the table, each at most once, and all that it requires
abbrev pub accepts : List Known → List Pair → Bool
accepts table pairs = are_known table [] pairs && has_required table pairs

-- ---- the commands

-- an option that is required
abbrev pub needed : List ℕ → Known
needed name = record { name = name; required = true }

-- an option that may be left out
abbrev pub optional : List ℕ → Known
optional name = record { name = name; required = false }

-- the options of settings, all of which may be left out
abbrev pub of_settings : List Known
of_settings =
    optional (codes "past") ∷ optional (codes "future") ∷ optional (codes "country") ∷ optional (codes "national") ∷ []

-- the options by which calls are judged
abbrev pub of_judging : List Known
of_judging =
    needed (codes "chains") ∷ needed (codes "anchors") ∷ needed (codes "table") ∷ needed (codes "answers") ∷ of_settings

-- the same, from which state on, and on how many workers
abbrev pub of_verifying : List Known
of_verifying = needed (codes "chains") ∷ needed (codes "anchors") ∷ needed (codes "table") ∷ needed (codes "answers")
    ∷ optional (codes "state") ∷ optional (codes "workers") ∷ of_settings

-- the options that `sign` and `divert` have in common
abbrev pub of_signer : List Known
of_signer =
    needed (codes "key") ∷ needed (codes "x5u") ∷ needed (codes "iat") ∷ needed (codes "answers")
    ∷ optional (codes "leaf") ∷ optional (codes "table") ∷ optional (codes "country") ∷ optional (codes "national") ∷ []

-- the options by which a call is judged, and its diversion is signed
abbrev pub of_retargeting : List Known
of_retargeting = needed (codes "chains") ∷ needed (codes "anchors") ∷ needed (codes "table") ∷ needed (codes "answers")
    ∷ needed (codes "key") ∷ needed (codes "x5u") ∷ needed (codes "iat") ∷ needed (codes "target")
    ∷ needed (codes "leaf") ∷ needed (codes "moment") ∷ of_settings

-- the options of a command
abbrev pub options_of : Command → List Known
options_of Verify = of_verifying
options_of Explain = of_judging
options_of Ask = needed (codes "chains") ∷ needed (codes "anchors") ∷ needed (codes "table") ∷ of_settings
options_of Sign = needed (codes "form") ∷ optional (codes "attest") ∷ optional (codes "origid") ∷ of_signer
options_of Divert = needed (codes "earlier") ∷ of_signer
options_of Retarget = of_retargeting
options_of Show = []
options_of Drill = needed (codes "seed") ∷ needed (codes "count") ∷ optional (codes "workers") ∷ []
options_of Once = needed (codes "size") ∷ optional (codes "workers") ∷ []

-- the command of that name
abbrev pub command_named : List ℕ → Option Command
command_named name =
    if bytes_eq name (codes "verify") then Some Verify
    else if bytes_eq name (codes "explain") then Some Explain
    else if bytes_eq name (codes "ask") then Some Ask
    else if bytes_eq name (codes "sign") then Some Sign
    else if bytes_eq name (codes "divert") then Some Divert
    else if bytes_eq name (codes "retarget") then Some Retarget
    else if bytes_eq name (codes "show") then Some Show
    else if bytes_eq name (codes "drill") then Some Drill
    else if bytes_eq name (codes "once") then Some Once
    else None

-- ---- the same, said of the options

-- some option of the table has that name
abbrev pub Knows : List Known → List ℕ → Type 0
Knows table name = is_known table name ≡ true

-- each is known, and no later one has its name
abbrev pub KnownOnce : List Known → List Pair → Type 0
KnownOnce table [] = Unit {0}
KnownOnce table (pair ∷ pairs) = Knows table pair.name × (has pair.name pairs ≡ false) × KnownOnce table pairs

-- each that the table requires has a value
abbrev pub HoldsRequired : List Known → List Pair → Type 0
HoldsRequired [] pairs = Unit {0}
HoldsRequired (known ∷ table) pairs = (known.required ≡ true → has known.name pairs ≡ true) × HoldsRequired table pairs

-- the options are those of the table, each at most once, and all that it requires
pub record Accepted (table : List Known) (pairs : List Pair) : Type 0 where
  pub once : KnownOnce table pairs
  pub required : HoldsRequired table pairs
