-- clap takes words that are options exactly if the table accepts the options, and then finds their values.
use Rattle.std.proofs.Common.{◌≡◌, inl, inr, Bool, true, false, not, cond, ◌&&◌, ◌||◌, List, [], ◌∷◌, map, Option, Some, None, is_some, Ok, Err, refl, sym, ◌∙◌, ap}
use Rattle.std.specs.List.{fold, list_any}
use Rattle.std.proofs.lemmas.Bool.{and_parts}
use Rattle.clap.specs.Faults.{check_fault, default_fault, defaults_fault, entered_fault, fault_of, is_free_app, is_simple_and_free, level_fault, settle_fault, walk_fault}
use Rattle.clap.specs.Kinds.{HasKind, IsAmong, Kinds, or_else}
use Rattle.clap.specs.Matches.{found_of}
use Rattle.clap.specs.Simple.{App, HasMatchesOf, built, entered, is_simple, matches_of, names_of}
use Rattle.clap.specs.Takes.{is_given}
use Rattle.clap.specs.Values.{kind_of}
use Rattle.clap.specs.Walk.{Held, Row, Rule, Text, finished, first_of, has_row, nothing_held, rows_after, rows_of, settled, walk, walk_from, with_default}
use Rattle.clap.specs.declared.error.Error.{Error}
use Rattle.clap.specs.declared.error.kind.ErrorKind.{ErrorKind}
use Rattle.clap.specs.declared.error.kind.ErrorKind.TheVariants as kind
use Rattle.clap.specs.declared.parser.matches.ArgMatches.{ArgMatches}
use Rattle.clap.proofs.WalkLemmas.{first_value-rows}
use Rattle.stir_words.specs.Options.{Options, Pair, are_options, options_in, pairs_of}
use Rattle.stir_words.specs.Table.{Known, accepts, are_known, given_by, has, has_required}
use Rattle.stir_words.specs.ClapRules.{IsParsed, app_for, values_in}
use Rattle.stir_words.specs.declared.fault.WordsFault.{WordsFault}
use Rattle.stir_words.specs.declared.fault.WordsFault.TheVariants as faults
use Rattle.stir_words.proofs.OptionLaws.{options_are}
use Rattle.stir_words.proofs.OrderLaws.{all_found}
use Rattle.stir_words.proofs.ClapTable.{built_is, ready, row, row_first, row_given, rules, shape_for, simple_and_free}
use Rattle.stir_words.proofs.ClapWalk.{all_quiet, and_assoc, quiet, quiet_or, walks}

-- ---- after the words

-- nothing has a default
no_default : (rows : List Row) (known : Known) (t : Bool) → has_row known.name rows ≡ t → default_fault rows (ready known) ≡ []
no_default rows known true e = rw e refl
no_default rows known false e = rw e refl

same_rows : (rows : List Row) (known : Known) (t : Bool) → has_row known.name rows ≡ t → with_default rows (ready known) ≡ rows
same_rows rows known true e = rw e refl
same_rows rows known false e = rw e refl

no_defaults : (rows : List Row) (table : List Known) → defaults_fault rows (rules table) ≡ []
unfolding defaults_fault
no_defaults rows [] = refl
no_defaults rows (known ∷ table) =
    ap (λ k. or_else k (defaults_fault (with_default rows (ready known)) (rules table))) (no_default rows known (has_row known.name rows) refl)
    ∙ no_defaults (with_default rows (ready known)) table

finished_is : (rows : List Row) (table : List Known) → fold with_default rows (rules table) ≡ rows
finished_is rows [] = refl
finished_is rows (known ∷ table) =
    ap (λ (r : List Row). fold with_default r (rules table)) (same_rows rows known (has_row known.name rows) refl) ∙ finished_is rows table

missing_or : (required given others whole : Bool) → others ≡ not whole → ((required && not given) || others) ≡ not ((not required || given) && whole)
missing_or true true others whole e = e
missing_or true false others whole e = refl
missing_or false given others whole e = e

-- an option is missing exactly if not all are there that the table requires
missing_is : (table : List Known) (pairs : List Pair)
    → list_any (λ (rule : Rule). rule.required && not (is_given rule.id (map row pairs))) (rules table) ≡ not (has_required table pairs)
missing_is [] pairs = refl
missing_is (known ∷ table) pairs =
    ap (λ b. (known.required && not b) || list_any (λ (rule : Rule). rule.required && not (is_given rule.id (map row pairs))) (rules table)) (row_given known.name pairs)
    ∙ missing_or known.required (has known.name pairs) _ (has_required table pairs) (missing_is table pairs)

by_missing : (t : Bool) → quiet (cond (not t) (kind.MissingRequiredArgument ∷ []) []) ≡ t
by_missing true = refl
by_missing false = refl

check_quiet : (table : List Known) (pairs : List Pair) → quiet (check_fault (shape_for table) (map row pairs) false) ≡ has_required table pairs
check_quiet table pairs =
    ap (λ b. quiet (cond b (kind.MissingRequiredArgument ∷ []) [])) (missing_is table pairs) ∙ by_missing (has_required table pairs)

-- ---- the whole

abbrev app : List Known → App
app table = record { top = shape_for table; subs = [] }

none_entered : (table : List Known) (stop : Option (Text × List Text)) → is_some (entered (app table) stop) ≡ false
none_entered table None = refl
none_entered table (Some p) = refl

no_fault_below : (table : List Known) (stop : Option (Text × List Text)) → entered_fault (app table) stop ≡ []
no_fault_below table None = refl
no_fault_below table (Some p) = refl

abbrev level : List Known → List Text → Kinds
level table words = level_fault (shape_for table) [] nothing_held words false []

abbrev level_by : List Text → App → Kinds
level_by words a =
    let stop = (walk a.top.rules (names_of a) nothing_held words).stopped in
    level_fault a.top (names_of a) nothing_held words (is_some (entered a stop)) (entered_fault a stop)

fault_is : (table : List Known) (words : List Text) → fault_of (app_for table) words ≡ level table words
fault_is table words =
    let stop = (walk (rules table) [] nothing_held words).stopped in
    ap (level_by words) (built_is table)
    ∙ ap (λ b. level_fault (shape_for table) [] nothing_held words b (entered_fault (app table) stop)) (none_entered table stop)
    ∙ ap (λ k. level_fault (shape_for table) [] nothing_held words false k) (no_fault_below table stop)

rows_are : (table : List Known) (words : List Text) → matches_of (app_for table) words ≡ (settled (rules table) (walk (rules table) [] nothing_held words).held).rows
rows_are table words =
    ap (λ (a : App). rows_after a.top.rules (names_of a) words) (built_is table)
    ∙ finished_is (settled (rules table) (walk (rules table) [] nothing_held words).held).rows table

level_quiet : (table : List Known) (words : List Text) → quiet (level table words)
    ≡ (all_quiet table (walk_from nothing_held) words
    && quiet (check_fault (shape_for table) (settled (rules table) (walk (rules table) [] nothing_held words).held).rows false))
level_quiet table words =
    let end = (walk (rules table) [] nothing_held words).held in
    let faults = walk_fault (shape_for table) [] (walk_from nothing_held) words in
    let left = settle_fault (rules table) false end in
    quiet_or faults (or_else left (or_else (defaults_fault (settled (rules table) end).rows (rules table)) (check_fault (shape_for table) (finished (rules table) end) false)))
    ∙ ap (λ b. quiet faults && b) (quiet_or left (or_else (defaults_fault (settled (rules table) end).rows (rules table)) (check_fault (shape_for table) (finished (rules table) end) false)))
    ∙ ap (λ k. quiet faults && (quiet left && quiet (or_else k (check_fault (shape_for table) (finished (rules table) end) false)))) (no_defaults (settled (rules table) end).rows table)
    ∙ ap (λ (r : List Row). quiet faults && (quiet left && quiet (check_fault (shape_for table) r false))) (finished_is (settled (rules table) end).rows table)
    ∙ sym (and_assoc (quiet faults) (quiet left) (quiet (check_fault (shape_for table) (settled (rules table) end).rows false)))

record ReadByClap (table : List Known) (words : List Text) (pairs : List Pair) : Type 0 where
  taken : quiet (fault_of (app_for table) words) ≡ accepts table pairs
  rows : accepts table pairs ≡ true → matches_of (app_for table) words ≡ map row pairs

read_by_clap_by : (table : List Known) (words : List Text) (pairs : List Pair) (t : Bool) → are_known table [] pairs ≡ t → Options words pairs → ReadByClap table words pairs
read_by_clap_by table words pairs true known o =
    let w = walks table pairs words nothing_held [] o (record { quiet_now = refl; settles = refl }) in
    let end = w.finds known in
    let whole : accepts table pairs ≡ has_required table pairs = rw known refl in
    record {
      taken = ap quiet (fault_is table words) ∙ level_quiet table words
          ∙ ap (λ b. b && quiet (check_fault (shape_for table) (settled (rules table) (walk (rules table) [] nothing_held words).held).rows false)) (w.takes ∙ known)
          ∙ ap (λ (h : Held). quiet (check_fault (shape_for table) h.rows false)) end
          ∙ check_quiet table pairs ∙ sym whole;
      rows = λ is. rows_are table words ∙ ap (λ (h : Held). h.rows) end;
    }
read_by_clap_by table words pairs false known o =
    let w = walks table pairs words nothing_held [] o (record { quiet_now = refl; settles = refl }) in
    let refused : accepts table pairs ≡ false = rw known refl in
    record {
      taken = ap quiet (fault_is table words) ∙ level_quiet table words
          ∙ ap (λ b. b && quiet (check_fault (shape_for table) (settled (rules table) (walk (rules table) [] nothing_held words).held).rows false)) (w.takes ∙ known)
          ∙ sym refused;
      rows = λ is. let bad : true ≡ false = sym is ∙ refused in absurd cc;
    }

read_by_clap : (table : List Known) (words : List Text) → are_options words ≡ true → ReadByClap table words (options_in words)
read_by_clap table words are =
    read_by_clap_by table words (options_in words) (are_known table [] (options_in words)) refl ((options_are words (options_in words)).0 (all_found (pairs_of words) are))

-- ---- as the code has it

among : (k : ErrorKind) (kinds : Kinds) → IsAmong k kinds → quiet kinds ≡ false
among k [] is = absurd is
among k (x ∷ xs) is = refl

pub found_here : (table : List Known) (a : App) (words : List Text) (matches : ArgMatches) → are_options words ≡ true → a ≡ app_for table
    → (is_simple_and_free a ≡ true → fault_of a words ≡ []) → HasMatchesOf a words matches → IsParsed table (options_in words) (Ok matches)
found_here table a words matches are is no_fault has_matches =
    let t = read_by_clap table words are in
    let simple : is_simple_and_free a ≡ true = ap is_simple_and_free is ∙ simple_and_free table in
    let parts = and_parts (is_simple a) (is_free_app (built a)) simple in
    let taken : accepts table (options_in words) ≡ true = sym t.taken ∙ ap (λ (b : App). quiet (fault_of b words)) (sym is) ∙ ap quiet (no_fault simple) in
    let rows : rows_of (found_of matches) ≡ map row (options_in words) = (has_matches parts.0).0 ∙ ap (λ (b : App). matches_of b words) is ∙ t.rows taken in
    let each : (id : Text) → values_in matches id ≡ given_by (options_in words) id =
    λ id. first_value-rows (found_of matches) id ∙ ap (first_of id) rows ∙ row_first id (options_in words) in
    (taken, λ i id. each id i)

pub refused_here : (table : List Known) (a : App) (words : List Text) (error : Error) (fault : WordsFault) → are_options words ≡ true → a ≡ app_for table
    → (is_simple_and_free a ≡ true → HasKind (fault_of a words) error) → (kind_of error ≡ kind.OutOfMemory → fault ≡ faults.Memory)
    → IsParsed table (options_in words) (Err fault)
refused_here table a words error faults.Memory are is kinds memory = tt
refused_here table a words error faults.Refused are is kinds memory =
    let t = read_by_clap table words are in
    let simple : is_simple_and_free a ≡ true = ap is_simple_and_free is ∙ simple_and_free table in
    refused_by (kinds simple) (t.taken)
  where
    refused_by : HasKind (fault_of a words) error → quiet (fault_of (app_for table) words) ≡ accepts table (options_in words) → accepts table (options_in words) ≡ false
    refused_by (inl wanted) taken = let bad : faults.Refused ≡ faults.Memory = memory wanted in absurd cc
    refused_by (inr is_among) taken = sym taken ∙ ap (λ (b : App). quiet (fault_of b words)) (sym is) ∙ among (kind_of error) (fault_of a words) is_among
