-- A table of options and the rows of an order: which options there are, and which are required.
use Rattle.std.proofs.Common.{◌≡◌, ℕ, inl, inr, Bool, true, false, ◌&&◌, ◌||◌, List, [], ◌∷◌, Option, Some, None, is_some, refl, sym, ◌∙◌, ap, subst}
use Rattle.std.specs.Str.{bytes_eq}
use Rattle.std.proofs.lemmas.Bool.{and_parts}
use Rattle.std.proofs.lemmas.Slice.Eq.{bytes_eq-Decides}
use Rattle.stir_words.specs.Options.{Pair}
use Rattle.stir_words.specs.Rows.{EachMeans, EachOnce, HasRow, Maybe, Meaning, Means, Number, NumberOr, OptionRow, Text, TextOf, TextOr}
use Rattle.stir_words.specs.Table.{Accepted, HoldsRequired, Known, KnownOnce, get, given_by, has, is_known}

-- ---- a table and rows of the same names

-- an option that is required has a row that wants it
abbrev wants : Bool → Meaning → Bool
wants false meaning = true
wants true (Text text) = true
wants true (TextOf fits text) = true
wants true (Maybe text) = false
wants true (TextOr fits other text) = false
wants true (Number least most number) = true
wants true (NumberOr other least most number) = false

-- the names are the same, one by one
abbrev pub matches : List Known → List OptionRow → Bool
matches [] [] = true
matches [] (first ∷ rows) = false
matches (known ∷ table) [] = false
matches (known ∷ table) (first ∷ rows) = bytes_eq known.name first.name && (wants known.required first.meaning && matches table rows)

same_text : (a b : List ℕ) → bytes_eq a b ≡ true → a ≡ b
same_text a b e = (bytes_eq-Decides a b).0 e

same_again : (a b : List ℕ) → a ≡ b → bytes_eq a b ≡ true
same_again a b e = (bytes_eq-Decides a b).1 e

record First (known : Known) (table : List Known) (first : OptionRow) (rows : List OptionRow) : Type 0 where
  name : known.name ≡ first.name
  wanted : wants known.required first.meaning ≡ true
  others : matches table rows ≡ true

first_of : (known : Known) (table : List Known) (first : OptionRow) (rows : List OptionRow) → matches (known ∷ table) (first ∷ rows) ≡ true → First known table first rows
first_of known table first rows m =
    let a = and_parts (bytes_eq known.name first.name) (wants known.required first.meaning && matches table rows) m in
    let b = and_parts (wants known.required first.meaning) (matches table rows) a.1 in
    record { name = same_text known.name first.name a.0; wanted = b.0; others = b.1 }

none_found : {X : Type 0} (k : Option X) → is_some k ≡ false → k ≡ None
none_found None h = refl
none_found (Some x) h = absurd cc

-- ---- from the table to the rows

by_name : (known : Known) (table : List Known) (first : OptionRow) (rows : List OptionRow) (name : List ℕ) (t : Bool) → known.name ≡ first.name
    → (is_known table name ≡ true → HasRow rows name) → bytes_eq known.name name ≡ t → (t || is_known table name) ≡ true → HasRow (first ∷ rows) name
by_name known table first rows name true is others e h = inl (sym (same_text known.name name e) ∙ is)
by_name known table first rows name false is others e h = inr (others h)

has_row : (table : List Known) (rows : List OptionRow) (name : List ℕ) → matches table rows ≡ true → is_known table name ≡ true → HasRow rows name
has_row [] rows name m h = absurd cc
has_row (known ∷ table) [] name m h = absurd cc
has_row (known ∷ table) (first ∷ rows) name m h =
    let f = first_of known table first rows m in
    by_name known table first rows name (bytes_eq known.name name) f.name (has_row table rows name f.others) refl h

once_by : (table : List Known) (rows : List OptionRow) (pairs : List Pair) → matches table rows ≡ true → KnownOnce table pairs → EachOnce rows pairs
once_by table rows [] m once = tt
once_by table rows (pair ∷ pairs) m once = (has_row table rows pair.name m once.0, none_found (get pair.name pairs) once.1, once_by table rows pairs m once.2)

pub each_once : (table : List Known) (rows : List OptionRow) (pairs : List Pair) → matches table rows ≡ true → Accepted table pairs → EachOnce rows pairs
each_once table rows pairs m accepted = once_by table rows pairs m accepted.once

-- ---- and back

or_more : (b : Bool) (t : Bool) → t ≡ true → (b || t) ≡ true
or_more true t e = refl
or_more false t e = e

is_known_by : (table : List Known) (rows : List OptionRow) (name : List ℕ) → matches table rows ≡ true → HasRow rows name → is_known table name ≡ true
is_known_by [] [] name m h = absurd h
is_known_by [] (first ∷ rows) name m h = absurd cc
is_known_by (known ∷ table) [] name m h = absurd cc
is_known_by (known ∷ table) (first ∷ rows) name m (inl e) =
    let f = first_of known table first rows m in
    let same : bytes_eq known.name name ≡ true = same_again known.name name (f.name ∙ sym e) in rw same refl
is_known_by (known ∷ table) (first ∷ rows) name m (inr h) =
    let f = first_of known table first rows m in
    or_more (bytes_eq known.name name) (is_known table name) (is_known_by table rows name f.others h)

known_once : (table : List Known) (rows : List OptionRow) (pairs : List Pair) → matches table rows ≡ true → EachOnce rows pairs → KnownOnce table pairs
known_once table rows [] m once = tt
known_once table rows (pair ∷ pairs) m once =
    (is_known_by table rows pair.name m once.0, ap is_some once.1, known_once table rows pairs m once.2)

-- the option of a row that wants it is there
is_there : (required : Bool) (meaning : Meaning) (value : Option (List ℕ)) → wants required meaning ≡ true → Means meaning value → required ≡ true → is_some value ≡ true
is_there false meaning value w h r = absurd cc
is_there true (Text text) None w h r = absurd h
is_there true (Text text) (Some value) w h r = refl
is_there true (TextOf fits text) None w h r = absurd h
is_there true (TextOf fits text) (Some value) w h r = refl
is_there true (Maybe text) value w h r = absurd cc
is_there true (TextOr fits other text) value w h r = absurd cc
is_there true (Number least most number) None w h r = absurd h
is_there true (Number least most number) (Some value) w h r = refl
is_there true (NumberOr other least most number) value w h r = absurd cc

required_by : (table : List Known) (rows : List OptionRow) (pairs : List Pair) → matches table rows ≡ true → EachMeans (given_by pairs) rows → HoldsRequired table pairs
required_by [] rows pairs m means = tt
required_by (known ∷ table) [] pairs m means = absurd cc
required_by (known ∷ table) (first ∷ rows) pairs m means =
    let f = first_of known table first rows m in
    let P : List ℕ → Type 0 = λ name. known.required ≡ true → has name pairs ≡ true in
    (subst P (sym f.name) (is_there known.required first.meaning (get first.name pairs) f.wanted means.0), required_by table rows pairs f.others means.1)

pub accepted_by : (table : List Known) (rows : List OptionRow) (pairs : List Pair) → matches table rows ≡ true → EachOnce rows pairs → EachMeans (given_by pairs) rows
    → Accepted table pairs
accepted_by table rows pairs m once means = record { once = known_once table rows pairs m once; required = required_by table rows pairs m means }
