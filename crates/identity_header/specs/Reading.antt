-- An Identity value as a reader on lists takes it: the parts, or the rest of the value from where it can't go on.
use Rattle.std.specs.Prelude.{ℕ, zero, suc, List, [], ◌∷◌, length, take, Some, None, is_some, Ok, Err, ◌==◌}
use Rattle.std.specs.Prelude.{if◌then◌else◌, codes}
use Rattle.std.specs.List.{prefix_len}
use Rattle.text_grammar.specs.Bytes.{is_blank, is_name_byte, is_word, is_uri_byte}
use Rattle.text_grammar.specs.Reading.{Read, byte_at, word_at, skip, many_at, run_at}
use Rattle.lists.specs.Steps.{◌>>=◌}
use Rattle.identity_header.specs.Parts.{Parts, is_digest_byte, is_bare_byte, is_quoted_byte}

-- after an opening quote: what comes before the closing one
unfoldable pub quoted_at : List ℕ → Read (List ℕ × List ℕ)
quoted_at text = do
  rest ← byte_at 34 (skip is_quoted_byte text)
  Ok (take (prefix_len is_quoted_byte text) text, rest)

unfoldable pub value_at : List ℕ → Read (List ℕ × List ℕ)
value_at [] = Err []
value_at (b ∷ rest) = if b == 34 then quoted_at rest else many_at is_bare_byte (b ∷ rest)

-- W "=" W value
unfoldable pub equals_at : List ℕ → Read (List ℕ × List ℕ)
equals_at text = do
  rest ← byte_at 61 (skip is_blank text)
  value_at (skip is_blank rest)

unfoldable pub alg_at : Parts → List ℕ → Read (Parts × List ℕ)
alg_at s text = if is_some s.alg then Err text else (equals_at text >>= λ x. Ok (record s { alg = Some x.0 }, x.1))

unfoldable pub ppt_at : Parts → List ℕ → Read (Parts × List ℕ)
ppt_at s text = if is_some s.ppt then Err text else (equals_at text >>= λ x. Ok (record s { ppt = Some x.0 }, x.1))

-- after the name of another parameter and blanks, if the value hasn't ended before the blanks
unfoldable pub optional_at : List ℕ → Read (List ℕ)
optional_at [] = Err []
optional_at (b ∷ rest) = if b == 61 then (value_at (skip is_blank rest) >>= λ x. Ok x.1) else Ok (b ∷ rest)

-- after the name of another parameter: what comes after its value, if it has one
unfoldable pub other_at : List ℕ → Read (List ℕ)
other_at [] = Ok []
other_at (b ∷ rest) = optional_at (skip is_blank (b ∷ rest))

-- after this name
unfoldable pub named_at : Parts → List ℕ → List ℕ → Read (Parts × List ℕ)
named_at s name text =
    if is_word (codes "info") name then Err text
    else if is_word (codes "alg") name then alg_at s text
    else if is_word (codes "ppt") name then ppt_at s text
    else (other_at text >>= λ rest. Ok (s, rest))

-- one parameter, and what comes after it
unfoldable pub param_at : Parts → List ℕ → Read (Parts × List ℕ)
param_at s text = do
  rest ← byte_at 59 (skip is_blank text)
  name ← many_at is_name_byte (skip is_blank rest)
  named_at s name.0 name.1

-- parameters up to the end, at most this many
abbrev pub params_up_to : ℕ → Parts → List ℕ → Read Parts
params_up_to n s [] = Ok s
params_up_to zero s (b ∷ rest) = Err (b ∷ rest)
params_up_to (suc n) s (b ∷ rest) = param_at s (b ∷ rest) >>= λ x. params_up_to n x.0 x.1

-- all parameters up to the end
unfoldable pub params_at : Parts → List ℕ → Read Parts
params_at s text = params_up_to (length text) s text

-- what comes before the parameters
unfoldable pub head_at : List ℕ → Read (Parts × List ℕ)
head_at value = do
  token ← run_at is_digest_byte 8192 value
  mark ← byte_at 59 (skip is_blank token.1)
  word ← word_at (codes "info") (skip is_blank mark)
  equals ← byte_at 61 (skip is_blank word)
  angle ← byte_at 60 (skip is_blank equals)
  info ← run_at is_uri_byte 2048 angle
  rest ← byte_at 62 info.1
  Ok (record { token = token.0; info = info.0; alg = None; ppt = None }, rest)

unfoldable pub field_at : List ℕ → Read Parts
field_at value = head_at value >>= λ x. params_at x.0 x.1
