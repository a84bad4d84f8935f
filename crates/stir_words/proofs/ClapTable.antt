-- What clap makes of a table of options, and how it looks for one.
use Rattle.std.proofs.Common.{◌≡◌, ℕ, Bool, true, false, cond, ◌&&◌, ◌||◌, List, [], ◌∷◌, ◌++◌, map, codes, Option, Some, None, is_some, refl, sym, ◌∙◌, ap, append-nil, append_assoc}
use Rattle.std.specs.List.{list_all, list_any}
use Rattle.std.specs.Str.{bytes_eq}
use Rattle.clap.specs.Faults.{is_free_app, is_simple_and_free}
use Rattle.clap.specs.Simple.{App, Shape, built, filled, filled_from, is_buildable, is_ready, is_ready_leaf, new_shape, with_index, with_rule}
use Rattle.clap.specs.Takes.{is_given}
use Rattle.clap.specs.Values.{reading_of}
use Rattle.clap.specs.Walk.{Row, Rule, Text, arg_by_id, arg_by_long, at_row, first_of, has_row, is_early_multiple}
use Rattle.clap.specs.declared.builder.value_parser.ValueParser.TheVariants as parsers
use Rattle.clap.specs.declared.parser.matches.ValueSource.TheVariants.{CommandLine}
use Rattle.lists.proofs.Bytes.{bytes_same}
use Rattle.stir_words.specs.Options.{Pair}
use Rattle.stir_words.specs.Table.{Known, get, has, is_known}
use Rattle.stir_words.specs.ClapRules.{app_for, rule_for}

-- ---- the rules

-- an option as clap keeps it
abbrev pub ready : Known → Rule
ready known = with_index 1 (filled (rule_for known))

abbrev pub rules : List Known → List Rule
rules table = map ready table

filled_all : (n : ℕ) (table : List Known) → filled_from n (map rule_for table) ≡ rules table
filled_all n [] = refl
filled_all n (known ∷ table) = ap (λ (rest : List Rule). ready known ∷ rest) (filled_all n table)

abbrev pub shape_for : List Known → Shape
shape_for table = record (new_shape (codes "stir")) { rules = rules table; no_binary_name = true; disable_help_flag = true; disable_help_subcommand = true; is_built = true }

pub built_is : (table : List Known) → ◌≡◌ {A = App} (built (app_for table)) (record { top = shape_for table; subs = [] })
built_is table = ap (λ (found : List Rule). record { top = record (shape_for table) { rules = found }; subs = [] }) (filled_all 1 table)

rules_simple : (table : List Known) → list_all (λ (rule : Rule). rule.is_simple) (map rule_for table) ≡ true
rules_simple [] = refl
rules_simple (known ∷ table) = rules_simple table

ready_simple : (table : List Known) → list_all (λ (rule : Rule). rule.is_simple) (rules table) ≡ true
ready_simple [] = refl
ready_simple (known ∷ table) = ready_simple table

ready_free : (table : List Known) → list_all (λ (rule : Rule). rule.is_free) (rules table) ≡ true
ready_free [] = refl
ready_free (known ∷ table) = ready_free table

none_early : (n : ℕ) (table : List Known) → list_any (is_early_multiple n) (rules table) ≡ false
none_early n [] = refl
none_early n (known ∷ table) = none_early n table

abbrev simple_by : Bool → App → Bool
simple_by buildable a = (buildable && (is_ready a.top && list_all is_ready_leaf a.subs)) && is_free_app a

pub simple_and_free : (table : List Known) → is_simple_and_free (app_for table) ≡ true
simple_and_free table =
    ap (simple_by (is_buildable (app_for table))) (built_is table)
    ∙ rw (rules_simple table, ready_simple table, none_early _ table, ready_free table) refl

-- ---- looking for an option

-- an option of this name
abbrev pub named : Text → Bool → Rule
named name required = ready (record { name = name; required = required })

id_here : (known : Known) (table : List Known) (name : Text) (t : Bool) → bytes_eq known.name name ≡ t → is_known (known ∷ table) name ≡ true
    → (is_known table name ≡ true → (required : Bool) × (arg_by_id (rules table) name ≡ Some (named name required)))
    → (required : Bool) × (arg_by_id (rules (known ∷ table)) name ≡ Some (named name required))
id_here known table name true e h others =
    let here : arg_by_id (rules (known ∷ table)) name ≡ Some (ready known) = rw e refl in
    (known.required, here ∙ ap (λ (n : Text). Some (named n known.required)) (bytes_same known.name name e))
id_here known table name false e h others =
    let left : is_known (known ∷ table) name ≡ is_known table name = rw e refl in
    let found = others (sym left ∙ h) in
    let here : arg_by_id (rules (known ∷ table)) name ≡ arg_by_id (rules table) name = rw e refl in
    (found.0, here ∙ found.1)

pub by_id : (table : List Known) (name : Text) → is_known table name ≡ true → (required : Bool) × (arg_by_id (rules table) name ≡ Some (named name required))
by_id [] name h = absurd cc
by_id (known ∷ table) name h = id_here known table name (bytes_eq known.name name) refl h (λ k. by_id table name k)

pub no_id : (table : List Known) (name : Text) → is_known table name ≡ false → arg_by_id (rules table) name ≡ None
no_id [] name h = refl
no_id (known ∷ table) name h = no_here known table name (bytes_eq known.name name) refl h (λ k. no_id table name k)
  where
    no_here : (known : Known) (table : List Known) (name : Text) (t : Bool) → bytes_eq known.name name ≡ t → is_known (known ∷ table) name ≡ false
        → (is_known table name ≡ false → arg_by_id (rules table) name ≡ None) → arg_by_id (rules (known ∷ table)) name ≡ None
    no_here known table name true e h others = let bad : is_known (known ∷ table) name ≡ true = rw e refl in let worse : true ≡ false = sym bad ∙ h in absurd cc
    no_here known table name false e h others =
        let left : is_known (known ∷ table) name ≡ is_known table name = rw e refl in
        let here : arg_by_id (rules (known ∷ table)) name ≡ arg_by_id (rules table) name = rw e refl in
        here ∙ others (sym left ∙ h)

-- by its long name it is found as by its id
pub long_is_id : (table : List Known) (name : Text) → arg_by_long (rules table) name ≡ arg_by_id (rules table) name
long_is_id [] name = refl
long_is_id (known ∷ table) name = by_test (bytes_eq known.name name) (arg_by_long (rules table) name) (arg_by_id (rules table) name) (long_is_id table name)
  where
    by_test : (t : Bool) (one other : Option Rule) → one ≡ other → cond (t || false) (Some (ready known)) one ≡ cond t (Some (ready known)) other
    by_test true one other e = refl
    by_test false one other e = e

-- ---- what was found

-- an option that was found
abbrev pub row : Pair → Row
row pair = record { id = pair.name; values = pair.value ∷ []; count = None; source = Some CommandLine; reading = reading_of parsers.String }

pub row_has : (name : Text) (pairs : List Pair) → has_row name (map row pairs) ≡ has name pairs
row_has name [] = refl
row_has name (pair ∷ pairs) = by_test (bytes_eq pair.name name) (row_has name pairs)
  where
    by_test : (t : Bool) → has_row name (map row pairs) ≡ has name pairs → (t || has_row name (map row pairs)) ≡ is_some (cond t (Some pair.value) (get name pairs))
    by_test true e = refl
    by_test false e = e

pub row_given : (name : Text) (pairs : List Pair) → is_given name (map row pairs) ≡ has name pairs
row_given name [] = refl
row_given name (pair ∷ pairs) = given_here name pair pairs (bytes_eq pair.name name) refl (row_given name pairs)
  where
    given_here : (name : Text) (pair : Pair) (pairs : List Pair) (t : Bool) → bytes_eq pair.name name ≡ t → is_given name (map row pairs) ≡ has name pairs
        → is_given name (map row (pair ∷ pairs)) ≡ has name (pair ∷ pairs)
    given_here name pair pairs true e others = rw e refl
    given_here name pair pairs false e others = rw e others

pub row_first : (name : Text) (pairs : List Pair) → first_of name (map row pairs) ≡ get name pairs
row_first name [] = refl
row_first name (pair ∷ pairs) = first_here name pair pairs (bytes_eq pair.name name) refl (row_first name pairs)
  where
    first_here : (name : Text) (pair : Pair) (pairs : List Pair) (t : Bool) → bytes_eq pair.name name ≡ t → first_of name (map row pairs) ≡ get name pairs
        → first_of name (map row (pair ∷ pairs)) ≡ get name (pair ∷ pairs)
    first_here name pair pairs true e others = rw e refl
    first_here name pair pairs false e others = rw e others

pub missing : (name : Text) (change : Row → List Row) (more : List Row) (pairs : List Pair) → has name pairs ≡ false
    → at_row name change more (map row pairs) ≡ map row pairs ++ more
missing name change more [] h = refl
missing name change more (pair ∷ pairs) h = missing_here (bytes_eq pair.name name) refl h (λ k. missing name change more pairs k)
  where
    missing_here : (t : Bool) → bytes_eq pair.name name ≡ t → has name (pair ∷ pairs) ≡ false
        → (has name pairs ≡ false → at_row name change more (map row pairs) ≡ map row pairs ++ more)
        → at_row name change more (map row (pair ∷ pairs)) ≡ map row (pair ∷ pairs) ++ more
    missing_here true e h others = let bad : has name (pair ∷ pairs) ≡ true = rw e refl in let worse : true ≡ false = sym bad ∙ h in absurd cc
    missing_here false e h others =
        let left : has name (pair ∷ pairs) ≡ has name pairs = rw e refl in
        rw e (ap (λ (rest : List Row). row pair ∷ rest) (others (sym left ∙ h)))

-- ---- a command filled row by row

-- the command with these options more
abbrev pub with_all : App → List Known → App
with_all a table = record a { top = record a.top { rules = a.top.rules ++ map rule_for table } }

pub one_more : (old now whole : App) (rule : Rule) (known : Known) (table : List Known) → with_all old (known ∷ table) ≡ whole → now ≡ with_rule old rule → rule ≡ rule_for known
    → with_all now table ≡ whole
one_more old now whole rule known table e added is =
    ap (λ (a : App). with_all a table) added ∙ ap (λ (r : Rule). with_all (with_rule old r) table) is
    ∙ ap (λ (found : List Rule). record old { top = record old.top { rules = found } }) (append_assoc old.top.rules (rule_for known ∷ []) (map rule_for table)) ∙ e

pub all_added : (now whole : App) → with_all now [] ≡ whole → now ≡ whole
all_added now whole e = ap (λ (found : List Rule). record now { top = record now.top { rules = found } }) (sym (append-nil now.top.rules)) ∙ e
