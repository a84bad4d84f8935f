-- How clap walks over words that are options, one option after another.
use Rattle.std.proofs.Common.{◌≡◌, Bool, true, false, not, ◌&&◌, ◌⊎◌, inl, inr, List, [], ◌∷◌, ◌++◌, map, codes, Option, Some, None, refl, sym, ◌∙◌, ap, append-nil, append_assoc}
use Rattle.std.specs.List.{fold}
use Rattle.std.proofs.lemmas.List.{map-append}
use Rattle.clap.specs.Faults.{settle_fault, turn_fault, use_fault, walk_fault}
use Rattle.clap.specs.Kinds.{Kinds, or_else}
use Rattle.clap.specs.Walk.{Held, Row, Rule, Text, Walk, arg_by_id, arg_by_long, has_row, more_values, option, settled, used, walk_from, walked}
use Rattle.clap.specs.declared.parser.matches.ValueSource.TheVariants.{CommandLine}
use Rattle.lists.proofs.Bytes.{same_bytes}
use Rattle.stir_words.specs.Options.{Joined, Options, Pair, Parted}
use Rattle.stir_words.specs.Table.{Known, are_known, has, is_known}
use Rattle.stir_words.proofs.TableLaws.{and_true}
use Rattle.stir_words.proofs.ClapTable.{by_id, long_is_id, missing, named, no_id, row, row_has, rules, shape_for}
use Rattle.stir_words.proofs.ClapWords.{IsPlain, Says, plain_value, says_alone, says_joined}

-- no kind of error
abbrev pub quiet : Kinds → Bool
quiet [] = true
quiet (k ∷ ks) = false

pub quiet_or : (one other : Kinds) → quiet (or_else one other) ≡ (quiet one && quiet other)
quiet_or [] other = refl
quiet_or (k ∷ ks) other = refl

pub is_quiet : (kinds : Kinds) → quiet kinds ≡ true → kinds ≡ []
is_quiet [] h = refl
is_quiet (k ∷ ks) h = absurd cc

pub and_assoc : (a b c : Bool) → ((a && b) && c) ≡ (a && (b && c))
and_assoc true b c = refl
and_assoc false b c = refl

-- ---- one use of an option

-- these options were found
abbrev pub held : List Pair → Held
held seen = record { rows = map row seen; pending = None; skip = 0 }

-- and the value of this one as well, which isn't in its row yet
abbrev pub held_with : List Pair → Pair → Held
held_with seen pair = record { rows = map row seen; pending = Some (pair.name, pair.value ∷ []); skip = 0 }

-- its name, and its value is to come
abbrev pub at_value : List Pair → Text → Walk
at_value seen name =
    record { held = record { rows = map row seen; pending = Some (name, []); skip = 0 }; waiting = option name; position = 1; is_trailing = false; stopped = None }

-- it may be used if it wasn't before
use_is : (name value : Text) (required : Bool) (seen : List Pair) (t : Bool) → has name seen ≡ t → quiet (use_fault false (named name required) (value ∷ []) (map row seen)) ≡ not t
use_is name value required seen true e = let stands : has_row name (map row seen) ≡ true = row_has name seen ∙ e in rw stands refl
use_is name value required seen false e = let stands : has_row name (map row seen) ≡ false = row_has name seen ∙ e in rw stands refl

used_is : (pair : Pair) (required : Bool) (seen : List Pair) → has pair.name seen ≡ false
    → used (named pair.name required) (pair.value ∷ []) (map row seen) ≡ map row (seen ++ pair ∷ [])
used_is pair required seen h =
    rw (missing pair.name (λ _. []) [] seen h, append-nil (map row seen))
    (missing pair.name (more_values CommandLine (pair.value ∷ [])) (map row (pair ∷ [])) seen h ∙ sym (map-append row seen (pair ∷ [])))

-- ---- one word

-- what is held comes to these options
pub record Stands (table : List Known) (h : Held) (seen : List Pair) : Type 0 where
  pub quiet_now : settle_fault (rules table) false h ≡ []
  pub settles : settled (rules table) h ≡ held seen

abbrev turn : List Known → Walk → Text → Kinds
turn table w word = turn_fault (shape_for table) [] w word

by_long : (table : List Known) (name : Text) (found : Option Rule) → arg_by_id (rules table) name ≡ found → arg_by_long (rules table) name ≡ found
by_long table name found e = long_is_id table name ∙ e

unknown : (table : List Known) (h : Held) (word name : Text) (value : Option Text) → Says word name value → arg_by_long (rules table) name ≡ None
    → quiet (turn table (walk_from h) word) ≡ false
unknown table h word name value s none = rw (s.no_end, s.says, none) refl

joined_fault : (table : List Known) (h : Held) (word name value : Text) (required : Bool) → Says word name (Some value) → arg_by_long (rules table) name ≡ Some (named name required)
    → turn table (walk_from h) word ≡ or_else (or_else (settle_fault (rules table) false h) (use_fault false (named name required) (value ∷ []) (settled (rules table) h).rows)) []
joined_fault table h word name value required s found = rw (s.no_end, s.says, found) refl

name_fault : (table : List Known) (h : Held) (word name : Text) (required : Bool) → Says word name None → arg_by_long (rules table) name ≡ Some (named name required)
    → turn table (walk_from h) word ≡ or_else (settle_fault (rules table) false h) []
name_fault table h word name required s found = rw (s.no_end, s.says, found) refl

value_fault : (table : List Known) (seen : List Pair) (name word : Text) → IsPlain word → turn table (at_value seen name) word ≡ []
value_fault table seen name word p = rw (p.no_end, p.no_long, p.no_short) refl

joined_walked : (table : List Known) (h : Held) (word name value : Text) (required : Bool) → Says word name (Some value) → arg_by_long (rules table) name ≡ Some (named name required)
    → walked (rules table) [] (walk_from h) word
    ≡ walk_from (record (settled (rules table) h) { rows = used (named name required) (value ∷ []) (settled (rules table) h).rows; pending = None })
unfolding walked
joined_walked table h word name value required s found = rw (s.no_end, s.says, found) refl

abbrev behind_name : Text → Held → Walk
behind_name name h = record { held = record h { pending = Some (name, []) }; waiting = option name; position = 1; is_trailing = false; stopped = None }

name_walked : (table : List Known) (h : Held) (word name : Text) (required : Bool) → Says word name None → arg_by_long (rules table) name ≡ Some (named name required)
    → walked (rules table) [] (walk_from h) word ≡ behind_name name (settled (rules table) h)
unfolding walked
name_walked table h word name required s found = rw (s.no_end, s.says, found) refl

value_walked : (table : List Known) (seen : List Pair) (name word : Text) (required : Bool) → IsPlain word → arg_by_id (rules table) name ≡ Some (named name required)
    → walked (rules table) [] (at_value seen name) word ≡ walk_from (held_with seen (record { name = name; value = word }))
unfolding walked
value_walked table seen name word required p found = rw (p.no_end, p.no_long, p.no_short, found, same_bytes name) refl

-- ---- words

-- no word is refused, nor the option that is left at the end
abbrev pub all_quiet : List Known → Walk → List Text → Bool
all_quiet table w words =
    quiet (walk_fault (shape_for table) [] w words) && quiet (settle_fault (rules table) false (fold (walked (rules table) []) w words).held)

turns : (table : List Known) (w : Walk) (word : Text) (words : List Text)
    → all_quiet table w (word ∷ words) ≡ (quiet (turn table w word) && all_quiet table (walked (rules table) [] w word) words)
unfolding walk_fault
turns table w word words =
    let left = quiet (settle_fault (rules table) false (fold (walked (rules table) []) (walked (rules table) [] w word) words).held) in
    ap (λ b. b && left) (quiet_or (turn table w word) (walk_fault (shape_for table) [] (walked (rules table) [] w word) words))
    ∙ and_assoc (quiet (turn table w word)) (quiet (walk_fault (shape_for table) [] (walked (rules table) [] w word) words)) left

none_left : (table : List Known) (w : Walk) → all_quiet table w [] ≡ quiet (settle_fault (rules table) false w.held)
unfolding walk_fault
none_left table w = refl

refused_turn : (table : List Known) (w : Walk) (word : Text) (words : List Text) → quiet (turn table w word) ≡ false → all_quiet table w (word ∷ words) ≡ false
refused_turn table w word words h = turns table w word words ∙ ap (λ b. b && all_quiet table (walked (rules table) [] w word) words) h

taken_turn : (table : List Known) (w next : Walk) (word : Text) (words : List Text) → quiet (turn table w word) ≡ true → walked (rules table) [] w word ≡ next
    → all_quiet table w (word ∷ words) ≡ all_quiet table next words
taken_turn table w next word words h e =
    turns table w word words ∙ ap (λ b. b && all_quiet table (walked (rules table) [] w word) words) h ∙ ap (λ (v : Walk). all_quiet table v words) e

-- from here on the walk is that over what is left
record Goes (table : List Known) (h next : Held) (words rest : List Text) : Type 0 where
  quiets : all_quiet table (walk_from h) words ≡ all_quiet table (walk_from next) rest
  ends : fold (walked (rules table) []) (walk_from h) words ≡ fold (walked (rules table) []) (walk_from next) rest

-- ---- the option that is left is refused

loud : (one two : Kinds) → quiet one ≡ false → quiet (or_else one two) ≡ false
loud [] two h = absurd cc
loud (k ∷ ks) two h = refl

stuck_turn : (table : List Known) (h : Held) (word name : Text) (value : Option Text) (t : Bool) → Says word name value → is_known table name ≡ t
    → quiet (settle_fault (rules table) false h) ≡ false → quiet (turn table (walk_from h) word) ≡ false
stuck_turn table h word name value false s unknown_name l = unknown table h word name value s (by_long table name None (no_id table name unknown_name))
stuck_turn table h word name (Some value) true s known l =
    let found = by_id table name known in
    let long = by_long table name (Some (named name found.0)) found.1 in
    ap quiet (joined_fault table h word name value found.0 s long)
    ∙ loud (or_else (settle_fault (rules table) false h) (use_fault false (named name found.0) (value ∷ []) (settled (rules table) h).rows)) []
    (loud (settle_fault (rules table) false h) (use_fault false (named name found.0) (value ∷ []) (settled (rules table) h).rows) l)
stuck_turn table h word name None true s known l =
    let found = by_id table name known in
    let long = by_long table name (Some (named name found.0)) found.1 in
    ap quiet (name_fault table h word name found.0 s long) ∙ loud (settle_fault (rules table) false h) [] l

stuck_first : (table : List Known) (h : Held) (words rest : List Text) (pair : Pair) → Joined words pair rest ⊎ Parted words pair rest
    → quiet (settle_fault (rules table) false h) ≡ false → all_quiet table (walk_from h) words ≡ false
stuck_first table h words rest pair (inl j) l =
    ap (λ (x : List Text). all_quiet table (walk_from h) x) j.words_are
    ∙ refused_turn table (walk_from h) _ rest
    (stuck_turn table h _ pair.name (Some pair.value) (is_known table pair.name) (says_joined pair.name pair.value j.name) refl l)
stuck_first table h words rest pair (inr p) l =
    ap (λ (x : List Text). all_quiet table (walk_from h) x) p.words_are
    ∙ refused_turn table (walk_from h) _ (pair.value ∷ rest)
    (stuck_turn table h _ pair.name None (is_known table pair.name) (says_alone pair.name p.some p.name) refl l)

stuck : (table : List Known) (pairs : List Pair) (words : List Text) (h : Held) → Options words pairs → quiet (settle_fault (rules table) false h) ≡ false
    → all_quiet table (walk_from h) words ≡ false
stuck table [] words h o l = ap (λ (x : List Text). all_quiet table (walk_from h) x) o ∙ none_left table (walk_from h) ∙ l
stuck table (pair ∷ pairs) words h o l = stuck_first table h words o.0 pair o.1 l

-- ---- one option

-- if the option isn't known, or was there before
unknown_first : (table : List Known) (h : Held) (words rest : List Text) (pair : Pair) → Joined words pair rest ⊎ Parted words pair rest → is_known table pair.name ≡ false
    → all_quiet table (walk_from h) words ≡ false
unknown_first table h words rest pair (inl j) not_known =
    ap (λ (x : List Text). all_quiet table (walk_from h) x) j.words_are
    ∙ refused_turn table (walk_from h) _ rest
    (unknown table h _ pair.name (Some pair.value) (says_joined pair.name pair.value j.name) (by_long table pair.name None (no_id table pair.name not_known)))
unknown_first table h words rest pair (inr p) not_known =
    ap (λ (x : List Text). all_quiet table (walk_from h) x) p.words_are
    ∙ refused_turn table (walk_from h) _ (pair.value ∷ rest)
    (unknown table h _ pair.name None (says_alone pair.name p.some p.name) (by_long table pair.name None (no_id table pair.name not_known)))

joined_quiet : (table : List Known) (h : Held) (seen : List Pair) (word name value : Text) (t : Bool) → Stands table h seen → Says word name (Some value)
    → is_known table name ≡ true → has name seen ≡ t → quiet (turn table (walk_from h) word) ≡ not t
joined_quiet table h seen word name value t s says known stands =
    let found = by_id table name known in
    let long = by_long table name (Some (named name found.0)) found.1 in
    ap quiet (joined_fault table h word name value found.0 says long)
    ∙ ap (λ k. quiet (or_else (or_else k (use_fault false (named name found.0) (value ∷ []) (settled (rules table) h).rows)) [])) s.quiet_now
    ∙ ap (λ (now : Held). quiet (or_else (use_fault false (named name found.0) (value ∷ []) now.rows) [])) s.settles
    ∙ quiet_or (use_fault false (named name found.0) (value ∷ []) (map row seen)) []
    ∙ and_true (quiet (use_fault false (named name found.0) (value ∷ []) (map row seen)))
    ∙ use_is name value found.0 seen t stands

joined_next : (table : List Known) (h : Held) (seen : List Pair) (word : Text) (pair : Pair) → Stands table h seen → Says word pair.name (Some pair.value)
    → is_known table pair.name ≡ true → has pair.name seen ≡ false → walked (rules table) [] (walk_from h) word ≡ walk_from (held (seen ++ pair ∷ []))
joined_next table h seen word pair s says known new =
    let found = by_id table pair.name known in
    let long = by_long table pair.name (Some (named pair.name found.0)) found.1 in
    joined_walked table h word pair.name pair.value found.0 says long
    ∙ ap (λ (now : Held). walk_from (record now { rows = used (named pair.name found.0) (pair.value ∷ []) now.rows; pending = None })) s.settles
    ∙ ap (λ (rows : List Row). walk_from (record { rows = rows; pending = None; skip = 0 })) (used_is pair found.0 seen new)

joined_goes : (table : List Known) (h : Held) (seen : List Pair) (words rest : List Text) (pair : Pair) → Stands table h seen → Joined words pair rest
    → is_known table pair.name ≡ true → has pair.name seen ≡ false → Goes table h (held (seen ++ pair ∷ [])) words rest
joined_goes table h seen words rest pair s j known new =
    let says = says_joined pair.name pair.value j.name in
    let next = joined_next table h seen _ pair s says known new in
    record {
      quiets = ap (λ (x : List Text). all_quiet table (walk_from h) x) j.words_are
          ∙ taken_turn table (walk_from h) _ _ rest (joined_quiet table h seen _ pair.name pair.value false s says known new) next;
      ends = ap (λ (x : List Text). fold (walked (rules table) []) (walk_from h) x) j.words_are
          ∙ ap (λ (w : Walk). fold (walked (rules table) []) w rest) next;
    }

parted_goes : (table : List Known) (h : Held) (seen : List Pair) (words rest : List Text) (pair : Pair) → Stands table h seen → Parted words pair rest
    → is_known table pair.name ≡ true → Goes table h (held_with seen pair) words rest
parted_goes table h seen words rest pair s p known =
    let found = by_id table pair.name known in
    let long = by_long table pair.name (Some (named pair.name found.0)) found.1 in
    let says = says_alone pair.name p.some p.name in
    let plain = plain_value pair.value p.value in
    let first = name_walked table h _ pair.name found.0 says long ∙ ap (behind_name pair.name) s.settles in
    let second = value_walked table seen pair.name pair.value found.0 plain found.1 in
    let silent : quiet (turn table (walk_from h) (codes "--" ++ pair.name)) ≡ true =
    ap quiet (name_fault table h _ pair.name found.0 says long) ∙ ap (λ k. quiet (or_else k [])) s.quiet_now in
    record {
      quiets = ap (λ (x : List Text). all_quiet table (walk_from h) x) p.words_are
          ∙ taken_turn table (walk_from h) _ _ (pair.value ∷ rest) silent first
          ∙ taken_turn table (at_value seen pair.name) _ pair.value rest (ap quiet (value_fault table seen pair.name pair.value plain)) second;
      ends = ap (λ (x : List Text). fold (walked (rules table) []) (walk_from h) x) p.words_are
          ∙ ap (λ (w : Walk). fold (walked (rules table) []) w (pair.value ∷ rest)) first
          ∙ ap (λ (w : Walk). fold (walked (rules table) []) w rest) second;
    }

-- ---- the option whose value was the last word

with_quiet : (table : List Known) (seen : List Pair) (pair : Pair) (t : Bool) → is_known table pair.name ≡ true → has pair.name seen ≡ t
    → quiet (settle_fault (rules table) false (held_with seen pair)) ≡ not t
with_quiet table seen pair t known stands =
    let found = by_id table pair.name known in
    let same : settle_fault (rules table) false (held_with seen pair) ≡ use_fault false (named pair.name found.0) (pair.value ∷ []) (map row seen) = rw found.1 refl in
    ap quiet same ∙ use_is pair.name pair.value found.0 seen t stands

with_stands : (table : List Known) (seen : List Pair) (pair : Pair) → is_known table pair.name ≡ true → has pair.name seen ≡ false
    → Stands table (held_with seen pair) (seen ++ pair ∷ [])
with_stands table seen pair known new =
    let found = by_id table pair.name known in
    let same : settled (rules table) (held_with seen pair) ≡ record { rows = used (named pair.name found.0) (pair.value ∷ []) (map row seen); pending = None; skip = 0 } =
    rw found.1 refl in
    record {
      quiet_now = is_quiet (settle_fault (rules table) false (held_with seen pair)) (with_quiet table seen pair false known new);
      settles = same ∙ ap (λ (rows : List Row). record { rows = rows; pending = None; skip = 0 }) (used_is pair found.0 seen new);
    }

-- ---- all of them

-- the words are taken exactly if the options are known and come once, and then these are found
pub record Walks (table : List Known) (h : Held) (words : List Text) (seen pairs : List Pair) : Type 0 where
  pub takes : all_quiet table (walk_from h) words ≡ are_known table seen pairs
  pub finds : are_known table seen pairs ≡ true → settled (rules table) (fold (walked (rules table) []) (walk_from h) words).held ≡ held (seen ++ pairs)

not_taken : (table : List Known) (h : Held) (words : List Text) (seen pairs : List Pair) → all_quiet table (walk_from h) words ≡ false → are_known table seen pairs ≡ false
    → Walks table h words seen pairs
not_taken table h words seen pairs q k = record { takes = q ∙ sym k; finds = λ is. let bad : true ≡ false = sym is ∙ k in absurd cc }

goes_on : (table : List Known) (h next : Held) (words rest : List Text) (seen : List Pair) (pair : Pair) (pairs : List Pair) → is_known table pair.name ≡ true
    → has pair.name seen ≡ false → Goes table h next words rest → Walks table next rest (seen ++ pair ∷ []) pairs → Walks table h words seen (pair ∷ pairs)
goes_on table h next words rest seen pair pairs known new g w =
    let same : are_known table seen (pair ∷ pairs) ≡ are_known table (seen ++ pair ∷ []) pairs = rw (known, new) refl in
    record {
      takes = g.quiets ∙ w.takes ∙ sym same;
      finds = λ is. ap (λ (v : Walk). settled (rules table) v.held) g.ends ∙ w.finds (sym same ∙ is) ∙ ap (λ (x : List Pair). held x) (append_assoc seen (pair ∷ []) pairs);
    }

one_walks : (table : List Known) (h : Held) (words rest : List Text) (seen : List Pair) (pair : Pair) (pairs : List Pair) (k t : Bool) → Stands table h seen
    → Joined words pair rest ⊎ Parted words pair rest → Options rest pairs → is_known table pair.name ≡ k → has pair.name seen ≡ t
    → ((next : Held) → Stands table next (seen ++ pair ∷ []) → Walks table next rest (seen ++ pair ∷ []) pairs) → Walks table h words seen (pair ∷ pairs)
one_walks table h words rest seen pair pairs false t s first o known stands others =
    not_taken table h words seen (pair ∷ pairs) (unknown_first table h words rest pair first known) (rw known refl)
one_walks table h words rest seen pair pairs true true s (inl j) o known stands others =
    not_taken table h words seen (pair ∷ pairs)
    (ap (λ (x : List Text). all_quiet table (walk_from h) x) j.words_are
    ∙ refused_turn table (walk_from h) _ rest (joined_quiet table h seen _ pair.name pair.value true s (says_joined pair.name pair.value j.name) known stands))
    (rw (known, stands) refl)
one_walks table h words rest seen pair pairs true true s (inr p) o known stands others =
    let g = parted_goes table h seen words rest pair s p known in
    not_taken table h words seen (pair ∷ pairs) (g.quiets ∙ stuck table pairs rest (held_with seen pair) o (with_quiet table seen pair true known stands)) (rw (known, stands) refl)
one_walks table h words rest seen pair pairs true false s (inl j) o known stands others =
    goes_on table h (held (seen ++ pair ∷ [])) words rest seen pair pairs known stands (joined_goes table h seen words rest pair s j known stands)
    (others (held (seen ++ pair ∷ [])) (record { quiet_now = refl; settles = refl }))
one_walks table h words rest seen pair pairs true false s (inr p) o known stands others =
    goes_on table h (held_with seen pair) words rest seen pair pairs known stands (parted_goes table h seen words rest pair s p known)
    (others (held_with seen pair) (with_stands table seen pair known stands))

pub walks : (table : List Known) (pairs : List Pair) (words : List Text) (h : Held) (seen : List Pair) → Options words pairs → Stands table h seen → Walks table h words seen pairs
walks table [] words h seen o s = record {
  takes = ap (λ (x : List Text). all_quiet table (walk_from h) x) o ∙ none_left table (walk_from h) ∙ ap quiet s.quiet_now;
  finds = λ is. ap (λ (x : List Text). settled (rules table) (fold (walked (rules table) []) (walk_from h) x).held) o ∙ s.settles
      ∙ ap (λ (x : List Pair). held x) (sym (append-nil seen));
}
walks table (pair ∷ pairs) words h seen o s =
    one_walks table h words o.0 seen pair pairs (is_known table pair.name) (has pair.name seen) s o.1 o.2 refl refl
    (λ next now. walks table pairs o.0 next (seen ++ pair ∷ []) o.2 now)
