-- A text is read as a table's rows exactly if its lines say these rows, and they are within the limits.
use Rattle.std.proofs.Common.{◌≡◌, ℕ, true, not, List, [], ◌∷◌, ◌++◌, map, Some, Ok, Err, ◌↔◌, sym, ap, ◌∙◌, append_assoc, append-nil, refl, arith}
use Rattle.std.proofs.lemmas.Bool.{not-false}
use Rattle.text_grammar.specs.FileLines.{text_lines}
use Rattle.text_grammar.specs.Rows.{EachFits}
use Rattle.text_grammar.proofs.RowLaws.{rows_again, rows_found}
use Rattle.text_grammar.proofs.ReadingLaws.{refuses_found, refuses_again}
use Rattle.tn_auth_list.specs.CodeTable.{row_of, is_past, is_within, add_row, table_rows, TableText, FirstBad}
use Rattle.tn_auth_list.specs.declared.table_rows.Row.{Row}
use Rattle.tn_auth_list.proofs.CountLaws.{limits, codes_push, given_push}

-- ---- fewer rows are within the limits too

within_front : (rows more : List Row) → is_within (rows ++ more) ≡ true → is_within rows ≡ true
within_front rows [] h = ap is_within (sym (append-nil rows)) ∙ h
within_front rows (row ∷ more) h =
    let within = (limits (rows ++ row ∷ [])).0 (within_front (rows ++ row ∷ []) more (ap is_within (append_assoc rows (row ∷ []) more) ∙ h)) in
    (limits rows).1 (omega (arith, within.0, codes_push rows row), omega (arith, within.1, given_push rows row))

-- ---- the rows

-- rows none of which passes a limit are within the limits together
within_all : (before new : List Row) → is_within before ≡ true → EachFits is_past before new → is_within (before ++ new) ≡ true
within_all before [] within fits = ap is_within (append-nil before) ∙ within
within_all before (row ∷ new) within fits =
    sym (ap is_within (append_assoc before (row ∷ []) new)) ∙ within_all (before ++ row ∷ []) new (not-false (is_within (before ++ row ∷ [])) fits.0) fits.1

-- of rows that are within them together none passes one
each_fits : (before new : List Row) → is_within (before ++ new) ≡ true → EachFits is_past before new
each_fits before [] within = tt
each_fits before (row ∷ new) within =
    let all : is_within ((before ++ row ∷ []) ++ new) ≡ true = ap is_within (append_assoc before (row ∷ []) new) ∙ within in
    (ap not (within_front (before ++ row ∷ []) new all), each_fits (before ++ row ∷ []) new all)

none_within : is_within [] ≡ true
unfolding is_within
none_within = refl

pub table_is : (text : List ℕ) (rows : List Row) → (table_rows text ≡ Ok rows) ↔ TableText text rows
unfolding table_rows
table_is text rows = (
  λ h.
      let s = rows_found row_of is_past (text_lines text) [] rows h in
      record { lines = s.say ∙ ap (map Some) (sym s.all); within = ap is_within s.all ∙ within_all [] s.new none_within s.fits },
  λ t. rows_again row_of is_past (text_lines text) [] rows t.lines (each_fits [] rows t.within),
)

pub first_bad_is : (text : List ℕ) (number : ℕ) → (table_rows text ≡ Err number) ↔ FirstBad text number
unfolding table_rows
first_bad_is text number = (λ h. refuses_found add_row (text_lines text) [] number h, λ r. refuses_again add_row (text_lines text) [] number r)
