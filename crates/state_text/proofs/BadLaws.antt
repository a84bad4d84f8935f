-- The line at which the reading of a file stops is its bad line, and it is the only one.
use Rattle.std.proofs.Common.{◌≡◌, ℕ, suc, ◌-◌, ◌<◌, ◌≤◌, ◌==◌, Bool, true, false, nat_le, List, [], ◌∷◌, ◌++◌, length, take, drop, Ok, Err, Result, refl, sym, ◌∙◌, ap, subst, arith, append_assoc}
use Rattle.std.proofs.lemmas.Bool.Decides.{nat_tests}
use Rattle.std.proofs.lemmas.List.{length-take-le, take-append-drop, take-take}
use Rattle.state_text.specs.BadLine.{Begins, IsBadLine}
use Rattle.state_text.specs.Lines.{ended_lines, onto_line}
use Rattle.state_text.specs.Reading.{found_in, read_state}
use Rattle.state_text.specs.State.{StateView, none_kept}
use Rattle.state_text.proofs.AgainLaws.{file_again}
use Rattle.state_text.proofs.FoundLaws.{file_found}
use Rattle.state_text.proofs.PassLaws.{file_pass}
use Rattle.state_text.proofs.StopLaws.{EachIsLine, each_line, file_stops, never}

-- ---- the reading stops at the bad line

more_lines : (byte : ℕ) (lines : List (List ℕ)) → length (onto_line byte lines) ≤ suc (length lines)
more_lines byte [] = omega arith
more_lines byte (line ∷ others) = omega arith

lines_by : (byte : ℕ) (more : List ℕ) (t : Bool) → (byte == 10) ≡ t → length (ended_lines more) ≤ length more → length (ended_lines (byte ∷ more)) ≤ suc (length more)
lines_by byte more true e below = rw e (omega (arith, below))
lines_by byte more false e below = rw e (omega (arith, below, more_lines byte (ended_lines more)))

-- there are no more lines than bytes
few_lines : (text : List ℕ) → length (ended_lines text) ≤ length text
few_lines [] = omega arith
few_lines (byte ∷ more) = lines_by byte more (byte == 10) refl (few_lines more)

not_begun : (lines : List (List ℕ)) (fault : ℕ) → length lines ≤ 4294967295 → EachIsLine lines → found_in lines ≡ Err fault → fault ≤ length lines → Begins (take fault lines) → ⊥
not_begun lines fault few each h within b =
    let whole : take fault lines ++ drop fault lines ≡ lines = take-append-drop fault lines in
    let size : length (take fault lines) ≡ fault = length-take-le fault lines within in
    let past = file_pass 1 b.before b.state (take fault lines) (drop fault lines) b.more b.behind fault b.others b.rules b.call (omega (arith, few, within, size)) b.split
    (subst EachIsLine (sym whole) each) (ap found_in whole ∙ h) in
    omega (arith, past, size)

bad_found : (window : ℕ) (bytes : List ℕ) (fault : ℕ) → length bytes ≤ 4294967295 → read_state window bytes ≡ Err fault → found_in (ended_lines bytes) ≡ Err fault → IsBadLine window bytes fault
bad_found window bytes fault small h k =
    let s = file_stops (ended_lines bytes) fault (each_line bytes) k in
    record {
      refused = λ state file. never state fault (sym (file_again window bytes state small file) ∙ h);
      some = s.some;
      within = s.within;
      before = s.before;
      bad = not_begun (ended_lines bytes) fault (omega (arith, few_lines bytes, small)) (each_line bytes) k;
    }

pub bad_is : (window : ℕ) (bytes : List ℕ) (fault : ℕ) → length bytes ≤ 4294967295 → read_state window bytes ≡ Err fault → IsBadLine window bytes fault
unfolding read_state
bad_is window [] fault small h = never (none_kept window) fault h
bad_is window (byte ∷ more) fault small h = bad_found window (byte ∷ more) fault small h h

-- ---- there is one bad line at most

begins_less : (lines : List (List ℕ)) (few many : ℕ) → few ≤ many → Begins (take many lines) → Begins (take few lines)
begins_less lines few many within b =
    let whole : take few lines ++ drop few (take many lines) ≡ take many lines = ap (λ l. l ++ drop few (take many lines)) (sym (take_both few many lines within)) ∙ take-append-drop few (take many lines) in
    record {
      before = b.before;
      others = b.others;
      state = b.state;
      rules = b.rules;
      call = b.call;
      behind = b.behind;
      more = drop few (take many lines) ++ b.more;
      split = sym (append_assoc (take few lines) (drop few (take many lines)) b.more) ∙ ap (λ l. l ++ b.more) whole ∙ b.split;
    }
  where
    take_both : (few many : ℕ) (lines : List (List ℕ)) → few ≤ many → take few (take many lines) ≡ take few lines
    take_both few many lines within = take-take few many lines within

-- a lesser line isn't bad
none_less : (window : ℕ) (bytes : List ℕ) (less line : ℕ) → IsBadLine window bytes less → IsBadLine window bytes line → less < line → ⊥
none_less window bytes less line a b below =
    a.bad (omega (arith, below, b.within)) (begins_less (ended_lines bytes) less (line - 1) (omega (arith, below)) b.before)

only_one : (window : ℕ) (bytes : List ℕ) (one other : ℕ) → IsBadLine window bytes one → IsBadLine window bytes other → one ≡ other
only_one window bytes one other a b = by_order (nat_le one other) (nat_le other one) refl refl where
  by_order : (t u : Bool) → nat_le one other ≡ t → nat_le other one ≡ u → one ≡ other
  by_order true true e f = grind (arith, nat_tests)
  by_order false u e f = absurd (none_less window bytes other one b a (grind (arith, nat_tests)))
  by_order true false e f = absurd (none_less window bytes one other a b (grind (arith, nat_tests)))

pub bad_only : (window : ℕ) (bytes : List ℕ) (line : ℕ) → length bytes ≤ 4294967295 → IsBadLine window bytes line → read_state window bytes ≡ Err line
bad_only window bytes line small b = by_read (read_state window bytes) refl where
  by_read : (r : Result StateView ℕ) → read_state window bytes ≡ r → r ≡ Err line
  by_read (Ok state) e = absurd (b.refused state (file_found window bytes state e))
  by_read (Err fault) e = ap (λ (n : ℕ). Err n) (only_one window bytes fault line (bad_is window bytes fault small e) b)
