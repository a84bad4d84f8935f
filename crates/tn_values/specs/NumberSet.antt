-- Sets of telephone numbers: what the entries of a `TNAuthList` (RFC 8226, section 9) hold together.
use Rattle.std.specs.Prelude.{◌≡◌, ℕ, ◌+◌, true, ◌⊎◌, List, length, Any, Contains}
use Rattle.tn_values.specs.Number.{is_number}
use Rattle.tn_values.specs.Span.{SpanView, SpanHolds}

-- the spans and the single numbers of a set
pub record SetView : Type 0 where
  pub spans : List SpanView
  pub singles : List (List ℕ)

-- the set of these spans and single numbers
abbrev pub set_of : List SpanView → List (List ℕ) → SetView
set_of spans singles = record { spans = spans; singles = singles }

-- how many entries the set has: spans and single numbers
abbrev pub part_count : SetView → ℕ
part_count set = length set.spans + length set.singles

-- some span holds the number, or it is one of the singles, byte for byte
abbrev pub SetHolds : SetView → List ℕ → Type 0
SetHolds set number = Any (λ span. SpanHolds span number) set.spans ⊎ Contains set.singles number

-- some span holds every number of this one
abbrev pub OneSpanHolds : List SpanView → SpanView → Type 0
OneSpanHolds spans span = Any (λ own. (number : List ℕ) → SpanHolds span number → SpanHolds own number) spans

-- every number of the one set is in the other
abbrev pub IsWithin : SetView → SetView → Type 0
IsWithin set other = (number : List ℕ) → SetHolds set number → SetHolds other number

-- a number that the one set holds and the other doesn't
pub record Outside (set other : SetView) : Type 0 where
  pub number : List ℕ
  pub is : is_number number ≡ true
  pub held : SetHolds set number
  pub not_held : SetHolds other number → ⊥

-- a number of the span that the set doesn't hold
pub record Gap (span : SpanView) (set : SetView) : Type 0 where
  pub number : List ℕ
  pub is : is_number number ≡ true
  pub held : SpanHolds span number
  pub not_held : SetHolds set number → ⊥
