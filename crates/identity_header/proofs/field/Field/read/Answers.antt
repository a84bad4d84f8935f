-- The clauses are the law of the value, at what the reader on lists gives.
use Rattle.std.proofs.Common.{Ok, ap}
use Rattle.identity_header.specs.Parts.{Parts}
use Rattle.identity_header.proofs.FieldLaw.{field_found, field_refused, field_stops, field_left, one_reading}
use Rattle.identity_header.proofs.Rows.{field_in_rows}
use Rattle.identity_header.proofs.field.Field.read.Goals as goal

pub invariant_of-result : goal.invariant_of-result
invariant_of-result c = field_in_rows _ _ (field_found _ _ c.in-Ok.ensures)

pub overflow_sub-result : goal.overflow_sub-result
overflow_sub-result c = field_left _ _ c.in-Err.ensures

pub returns-in-Ok-clause-found : goal.returns-in-Ok-clause-found
returns-in-Ok-clause-found c = field_found _ _ c.in-Ok.ensures

pub returns-in-Ok-clause-only : goal.returns-in-Ok-clause-only
returns-in-Ok-clause-only c = λ f m. ap (λ (g : Parts). Ok g) (one_reading _ _ f (field_found _ _ c.in-Ok.ensures) m)

pub returns-in-Err-clause-only : goal.returns-in-Err-clause-only
returns-in-Err-clause-only c = λ f m. absurd (field_refused _ _ f c.in-Err.ensures m)

pub returns-in-Err-clause-place : goal.returns-in-Err-clause-place
returns-in-Err-clause-place c = field_stops _ _ c.in-Err.ensures
