-- A text is read as a chain map's rows exactly if its lines say these rows, none lists what one before it lists, and they are not
-- too many.
use Rattle.std.proofs.Common.{◌≡◌, ℕ, ◌<◌, ◌≤◌, ◌⊎◌, inl, inr, Bool, true, false, nat_le, cond, List, [], length, map, Some, Result, Ok, Err, ◌↔◌, refl, sym, ap, ◌∙◌, subst, arith}
use Rattle.std.proofs.lemmas.Bool.Decides.{nat_tests}
use Rattle.text_grammar.specs.FileLines.{file_lines}
use Rattle.text_grammar.proofs.ReadingLaws.{refuses_found, refuses_again}
use Rattle.cert_store.specs.ChainMap.{Row, row_of, is_repeated, add_row, first_lines, first_rows, within_limit, map_rows, ListsOnce, MapText, FirstBad}
use Rattle.text_grammar.proofs.RowLaws.{rows_found, rows_again}

-- ---- the limit

-- so many lines, if there may be at most so many
abbrev limited : ℕ → ℕ → ℕ → Result (List Row) ℕ → Result (List Row) ℕ
limited count most over (Ok rows) = cond (nat_le count most) (Ok rows) (Err over)
limited count most over (Err number) = Err number

few_by : (t : Bool) (over : ℕ) (own rows : List Row) → cond t (Ok own) (Err over) ≡ Ok rows → (t ≡ true) × (own ≡ rows)
few_by true over own rows h = (refl, cc)
few_by false over own rows h = absurd cc

few : (count most over : ℕ) (read : Result (List Row) ℕ) (rows : List Row) → limited count most over read ≡ Ok rows → (read ≡ Ok rows) × (count ≤ most)
few count most over (Ok own) rows h =
    let k = few_by (nat_le count most) over own rows h in
    let within = k.0 in
    (ap (λ (rs : List Row). Ok rs) k.1, grind (arith, nat_tests))
few count most over (Err number) rows h = absurd cc

few_again : (count most over : ℕ) (rows : List Row) → count ≤ most → limited count most over (Ok rows) ≡ Ok rows
few_again count most over rows h = let within : nat_le count most ≡ true = grind (arith, nat_tests) in rw within refl

-- a line among the first is bad, or there are too many
abbrev Bad : ℕ → ℕ → ℕ → Result (List Row) ℕ → ℕ → Type 0
Bad count most over read number = (read ≡ Err number) ⊎ ((number ≡ over) × ((rows : List Row) × (read ≡ Ok rows)) × (most < count))

bad_by : (t : Bool) (count most over number : ℕ) (own : List Row) → nat_le count most ≡ t → cond t (Ok own) (Err over) ≡ Err number → Bad count most over (Ok own) number
bad_by true count most over number own e h = absurd cc
bad_by false count most over number own e h = let same : over ≡ number = cc in inr (sym same, (own, refl), grind (arith, nat_tests))

bad : (count most over number : ℕ) (read : Result (List Row) ℕ) → limited count most over read ≡ Err number → Bad count most over read number
bad count most over number (Ok own) h = bad_by (nat_le count most) count most over number own refl h
bad count most over number (Err own) h = inl h

too_many : (count most over number : ℕ) (read : Result (List Row) ℕ) (rows : List Row) → number ≡ over → read ≡ Ok rows → most < count → limited count most over read ≡ Err number
too_many count most over number read rows e r h =
    let past : nat_le count most ≡ false = grind (arith, nat_tests) in
    ap (limited count most over) r ∙ ap (λ t. cond t (Ok rows) (Err over)) past ∙ ap (λ n. Err n) (sym e)

-- ---- the whole map

pub map_is : (text : List ℕ) (rows : List Row) → (map_rows text ≡ Ok rows) ↔ MapText text rows
unfolding map_rows
map_is text rows = (
  λ h.
      let k = few (length (file_lines text)) 50000 50001 (first_rows text) rows h in
      let s = rows_found row_of is_repeated (first_lines text) [] rows k.0 in
      record { lines = s.say ∙ ap (map Some) (sym s.all); once = let P : List Row → Type 0 = λ rs. ListsOnce [] rs in subst P (sym s.all) s.fits; count = k.1 },
  λ t. ap (within_limit text) (rows_again row_of is_repeated (first_lines text) [] rows t.lines t.once) ∙ few_again (length (file_lines text)) 50000 50001 rows t.count,
)

bad_is : (text : List ℕ) (number : ℕ) → Bad (length (file_lines text)) 50000 50001 (first_rows text) number → FirstBad text number
bad_is text number (inl h) = inl (refuses_found add_row (first_lines text) [] number h)
bad_is text number (inr h) = inr (h.0, record { rows = h.1.0; read = h.1.1; more = h.2 })

bad_again : (text : List ℕ) (number : ℕ) → FirstBad text number → within_limit text (first_rows text) ≡ Err number
bad_again text number (inl r) = ap (within_limit text) (refuses_again add_row (first_lines text) [] number r)
bad_again text number (inr h) = too_many (length (file_lines text)) 50000 50001 number (first_rows text) h.1.rows h.0 h.1.read h.1.more

pub first_bad_is : (text : List ℕ) (number : ℕ) → (map_rows text ≡ Err number) ↔ FirstBad text number
unfolding map_rows
first_bad_is text number = (
  λ h. bad_is text number (bad (length (file_lines text)) 50000 50001 number (first_rows text) h),
  λ r. bad_again text number r,
)
