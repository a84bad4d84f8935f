-- A text that can be the value of a header field as it is (RFC 3261, section 7.3.1): it is in one line, and neither
-- begins nor ends with a blank.
use Rattle.std.specs.Prelude.{◌≡◌, ℕ, Bool, true, false, not, ◌==◌, List, [], ◌∷◌, reverse}
use Rattle.std.specs.List.{list_all}
use Rattle.text_grammar.specs.Bytes.{is_blank}

-- the text begins with a blank
abbrev pub begins_blank : List ℕ → Bool
begins_blank [] = false
begins_blank (first ∷ more) = is_blank first

pub record IsOneLine (text : List ℕ) : Type 0 where
  pub no_return : list_all (λ b. not (b == 13)) text ≡ true
  pub no_feed : list_all (λ b. not (b == 10)) text ≡ true
  pub front : begins_blank text ≡ false
  pub end : begins_blank (reverse text) ≡ false
