-- What one code is given: all numbers, or the numbers of spans and single ones.
use Rattle.std.specs.Prelude.{ℕ, Bool, List}
use Rattle.tn_values.specs.Span.{SpanView}

pub record GroupView : Type 0 where
  pub all : Bool
  pub spans : List SpanView
  pub singles : List (List ℕ)
