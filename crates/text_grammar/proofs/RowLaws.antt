-- Lines are read as rows exactly if they say these rows, and none is refused given those before it.
use Rattle.std.proofs.Common.{◌≡◌, ℕ, Bool, true, false, cond, List, [], ◌∷◌, ◌++◌, map, Option, Some, None, option_and_then, Ok, refl, sym, ap, ◌∙◌, append_assoc, append-nil}
use Rattle.text_grammar.specs.ReadLines.{go_on, read_lines}
use Rattle.text_grammar.specs.Rows.{one_row, EachFits}

abbrev said : {R : Type 0} → (List ℕ → Option R) → List (ℕ × List ℕ) → List (Option R)
said row_of lines = map (λ line. row_of line.1) lines

-- the lines say the rows after the first ones
pub record Says {R : Type 0} (row_of : List ℕ → Option R) (is_refused : List R → R → Bool) (lines : List (ℕ × List ℕ)) (before rows : List R) : Type 0 where
  pub new : List R
  pub all : rows ≡ before ++ new
  pub say : map (λ line. row_of line.1) lines ≡ map Some new
  pub fits : EachFits is_refused before new

abbrev taken : {R : Type 0} → List R → Bool → R → Option (List R)
taken before t row = cond t None (Some (before ++ row ∷ []))

said_more : {R : Type 0} (row_of : List ℕ → Option R) (is_refused : List R → R → Bool) (line : ℕ × List ℕ) (lines : List (ℕ × List ℕ)) (before rows : List R) (row : R)
    → row_of line.1 ≡ Some row → is_refused before row ≡ false
    → Says row_of is_refused lines (before ++ row ∷ []) rows → Says row_of is_refused (line ∷ lines) before rows
said_more row_of is_refused line lines before rows row e fresh s = record {
  new = row ∷ s.new;
  all = s.all ∙ append_assoc before (row ∷ []) s.new;
  say = ap (λ (o : Option _). o ∷ said row_of lines) e ∙ ap (λ (os : List (Option _)). Some row ∷ os) s.say;
  fits = (fresh, s.fits);
}

found_by : {R : Type 0} (row_of : List ℕ → Option R) (is_refused : List R → R → Bool) (line : ℕ × List ℕ) (lines : List (ℕ × List ℕ)) (before rows : List R) (k : Option R)
    → row_of line.1 ≡ k
    → ((t : Bool) (row : R) → k ≡ Some row → is_refused before row ≡ t → go_on (taken before t row) line.0 (λ next. read_lines (one_row row_of is_refused) lines next) ≡ Ok rows
    → Says row_of is_refused (line ∷ lines) before rows)
    → go_on (option_and_then (λ row. taken before (is_refused before row) row) k) line.0 (λ next. read_lines (one_row row_of is_refused) lines next) ≡ Ok rows
    → Says row_of is_refused (line ∷ lines) before rows
found_by row_of is_refused line lines before rows None e below h = absurd cc
found_by row_of is_refused line lines before rows (Some row) e below h = below (is_refused before row) row refl refl h

found_row : {R : Type 0} (row_of : List ℕ → Option R) (is_refused : List R → R → Bool) (line : ℕ × List ℕ) (lines : List (ℕ × List ℕ)) (before rows : List R)
    → ((row : R) → read_lines (one_row row_of is_refused) lines (before ++ row ∷ []) ≡ Ok rows → Says row_of is_refused lines (before ++ row ∷ []) rows)
    → (t : Bool) (row : R) → row_of line.1 ≡ Some row → is_refused before row ≡ t
    → go_on (taken before t row) line.0 (λ next. read_lines (one_row row_of is_refused) lines next) ≡ Ok rows → Says row_of is_refused (line ∷ lines) before rows
found_row row_of is_refused line lines before rows below false row e fresh h = said_more row_of is_refused line lines before rows row e fresh (below row h)
found_row row_of is_refused line lines before rows below true row e fresh h = absurd cc

pub rows_found : {R : Type 0} (row_of : List ℕ → Option R) (is_refused : List R → R → Bool) (lines : List (ℕ × List ℕ)) (before rows : List R)
    → read_lines (one_row row_of is_refused) lines before ≡ Ok rows → Says row_of is_refused lines before rows
rows_found row_of is_refused [] before rows h =
    let same : before ≡ rows = cc in record { new = []; all = sym same ∙ sym (append-nil before); say = refl; fits = tt }
rows_found row_of is_refused (line ∷ lines) before rows h =
    found_by row_of is_refused line lines before rows (row_of line.1) refl
    (found_row row_of is_refused line lines before rows (λ row k. rows_found row_of is_refused lines (before ++ row ∷ []) rows k)) h

pub rows_again : {R : Type 0} (row_of : List ℕ → Option R) (is_refused : List R → R → Bool) (lines : List (ℕ × List ℕ)) (before new : List R)
    → map (λ line. row_of line.1) lines ≡ map Some new → EachFits is_refused before new → read_lines (one_row row_of is_refused) lines before ≡ Ok (before ++ new)
rows_again row_of is_refused [] before [] h fits = ap (λ (rs : List _). Ok rs) (sym (append-nil before))
rows_again row_of is_refused [] before (row ∷ new) h fits = absurd cc
rows_again row_of is_refused (line ∷ lines) before [] h fits = absurd cc
rows_again row_of is_refused (line ∷ lines) before (row ∷ new) h fits =
    let here : row_of line.1 ≡ Some row = cc in
    let more : said row_of lines ≡ map Some new = cc in
    ap (λ (k : Option _). go_on (option_and_then (λ r. taken before (is_refused before r) r) k) line.0 (λ next. read_lines (one_row row_of is_refused) lines next)) here
    ∙ ap (λ t. go_on (taken before t row) line.0 (λ next. read_lines (one_row row_of is_refused) lines next)) fits.0
    ∙ rows_again row_of is_refused lines (before ++ row ∷ []) new more fits.1
    ∙ ap (λ (rs : List _). Ok rs) (append_assoc before (row ∷ []) new)
