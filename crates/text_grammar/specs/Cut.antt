-- A text cut in two: at the first of its bytes that is a given one, or after a given prefix.
use Rattle.std.specs.Prelude.{Some, None, if◌then◌else◌, length, ℕ, ◌+◌, ◌==◌, Bool, not, List, take, drop, position}
use Rattle.std.specs.Prelude.{Option}
use Rattle.std.specs.List.{list_all}
use Rattle.std.specs.Option.{option_map}
use Rattle.std.specs.Str.{bytes_eq}

-- no byte of the text is this one
abbrev pub lacks : ℕ → List ℕ → Bool
lacks byte text = list_all (λ b. not (b == byte)) text

-- what comes before the first such byte, and what after it
abbrev pub cut : ℕ → List ℕ → Option (List ℕ × List ℕ)
cut byte text = option_map (λ place. (take place text, drop (place + 1) text)) (position (λ b. b == byte) text)

-- what comes after the prefix, if the text begins with it
abbrev pub behind : List ℕ → List ℕ → Option (List ℕ)
behind front text = if bytes_eq (take (length front) text) front then Some (drop (length front) text) else None
