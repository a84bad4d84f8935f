-- The value of a header field from the rest of its line and its continuations (RFC 3261, section 7.3.1; that empty
-- parts are dropped is this project's own leniency).
use Rattle.std.specs.Prelude.{ℕ, not, List, [], ◌∷◌, ◌++◌, map, reverse, filter, if◌then◌else◌}
use Rattle.text_grammar.specs.Bytes.{is_blank, is_empty}

-- the text without the blanks at its beginning
abbrev pub trimmed_front : List ℕ → List ℕ
trimmed_front [] = []
trimmed_front (first ∷ more) = if is_blank first then trimmed_front more else first ∷ more

-- the text without the blanks at its end
abbrev pub trimmed_end : List ℕ → List ℕ
trimmed_end text = reverse (trimmed_front (reverse text))

-- the text without the blanks at both ends
abbrev pub trimmed : List ℕ → List ℕ
trimmed text = trimmed_end (trimmed_front text)

-- the parts joined by one space
abbrev pub joined : List (List ℕ) → List ℕ
joined [] = []
joined (part ∷ []) = part
joined (part ∷ second ∷ others) = part ++ 32 ∷ joined (second ∷ others)

-- the value: each part trimmed, the empty ones dropped, the others joined by one space
abbrev pub value_of : List ℕ → List (List ℕ) → List ℕ
value_of rest continued = joined (filter (λ part. not (is_empty part)) (map trimmed (rest ∷ continued)))

-- ---- the same part by part

-- the value so far with one more part
abbrev pub extended : List ℕ → List ℕ → List ℕ
extended value part = if is_empty part then value else (if is_empty value then part else value ++ 32 ∷ part)

-- the value so far with these continuations
abbrev pub value_after : List ℕ → List (List ℕ) → List ℕ
value_after value [] = value
value_after value (text ∷ others) = value_after (extended value (trimmed text)) others
