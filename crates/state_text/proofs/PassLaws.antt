-- Lines with which a state file begins are passed, whatever comes after them.
use Rattle.std.proofs.Common.{◌≡◌, ◌⊎◌, inl, inr, ℕ, suc, ◌+◌, ◌^◌, ◌<◌, ◌≤◌, Bool, true, false, List, [], ◌∷◌, ◌++◌, length, Some, Ok, Err, Result, codes, refl, sym, ◌∙◌, ap, subst, arith, append_assoc, append-nil, length-append}
use Rattle.std.specs.Str.{bytes_eq}
use Rattle.lists.specs.Steps.{◌>>=◌}
use Rattle.lists.proofs.Bytes.{bytes_same}
use Rattle.text_grammar.specs.Cut.{lacks}
use Rattle.text_grammar.specs.Moment.{last_second}
use Rattle.state_text.specs.BadLine.{AreOtherLines, IsOtherLine}
use Rattle.state_text.specs.Reading.{behind_head, entries_in, kept_on, last_ticket, most_call, most_window, next_number, state_in}
use Rattle.state_text.specs.State.{AreEntries, Entry, IsState, StateView, is_above}
use Rattle.state_text.specs.StateText.{head_line, kept_line, kept_lines, lines_behind, number_line}
use Rattle.state_text.proofs.AgainLaws.{false_unless, next_again, not_cut, not_head}
use Rattle.state_text.proofs.EntryLaws.{end_line, ends_again, last_of_more}
use Rattle.state_text.proofs.FoundLaws.{next_found}
use Rattle.state_text.proofs.RowLaws.{end_not_kept, kept_again}
use Rattle.state_text.proofs.StopLaws.{EachIsLine, by_fault, entries_stop, head_passes, head_stops, never, next_stop, state_stops}

-- ---- lists that begin alike

abbrev Lines : Type 0
Lines = List (List ℕ)

first_same : (x y : List ℕ) (xs ys : Lines) → x ∷ xs ≡ y ∷ ys → x ≡ y
first_same x y xs ys e = cc

others_same : (x y : List ℕ) (xs ys : Lines) → x ∷ xs ≡ y ∷ ys → xs ≡ ys
others_same x y xs ys e = cc

-- ---- the entries

entry_passed : (most number : ℕ) (before : List Entry) (entry : Entry) (line : List ℕ) (others : Lines) → line ≡ kept_line entry → kept_on most (kept_line entry) ≡ Some entry → is_above (last_ticket before) entry.0 ≡ true
    → entries_in most number before (line ∷ others) ≡ entries_in most (suc number) (before ++ entry ∷ []) others
entry_passed most number before entry line others is read above = rw (is, read, above) refl

end_passed : (most number : ℕ) (before : List Entry) (line : List ℕ) (others : Lines) → line ≡ end_line (length before) → length before ≤ 4294967295 → entries_in most number before (line ∷ others) ≡ Ok before
end_passed most number before line others is few = rw (is, end_not_kept most (length before), ends_again before few) refl

pub entries_pass : (most number : ℕ) (before entries : List Entry) (front rest more behind : Lines) (fault : ℕ) → most < 2 ^ 64 → front ++ more ≡ kept_lines entries ++ end_line (length (before ++ entries)) ∷ behind
    → AreEntries most (last_ticket before) entries → length before + length front ≤ 4294967295 → entries_in most number before (front ++ rest) ≡ Err fault → number + length front ≤ fault
entries_pass most number before entries [] rest more behind fault low split are few h = omega (arith, (entries_stop most number before rest fault low h).place)
entries_pass most number before [] (line ∷ front) rest more behind fault low split are few h =
    let same : before ++ [] ≡ before = append-nil before in
    let is : line ≡ end_line (length before) = first_same line (end_line (length (before ++ []))) (front ++ more) behind split ∙ ap (λ (b : List Entry). end_line (length b)) same in
    never before fault (sym (end_passed most number before line (front ++ rest) is (omega (arith, few))) ∙ h)
entries_pass most number before (entry ∷ entries) (line ∷ front) rest more behind fault low split are few h =
    let joined : (before ++ entry ∷ []) ++ entries ≡ before ++ entry ∷ entries = append_assoc before (entry ∷ []) entries in
    let tail : Lines = kept_lines entries ++ end_line (length (before ++ entry ∷ entries)) ∷ behind in
    let is : line ≡ kept_line entry = first_same line (kept_line entry) (front ++ more) tail split in
    let next : front ++ more ≡ kept_lines entries ++ end_line (length ((before ++ entry ∷ []) ++ entries)) ∷ behind =
    others_same line (kept_line entry) (front ++ more) tail split ∙ ap (λ (b : List Entry). kept_lines entries ++ end_line (length b) ∷ behind) (sym joined) in
    let others : AreEntries most (Some entry.0) entries = record { each = are.each.1; rise = are.rise.1 } in
    let next_are : AreEntries most (last_ticket (before ++ entry ∷ [])) entries = subst (λ t. AreEntries most t entries) (sym (last_of_more before entry)) others in
    let passed = entry_passed most number before entry line (front ++ rest) is (kept_again most entry low are.each.0) are.rise.0 in
    omega (arith, entries_pass most (suc number) (before ++ entry ∷ []) entries front rest more behind fault low next next_are (omega (arith, few, length-append before (entry ∷ []))) (sym passed ∙ h))

-- ---- the state after its first line

-- what is read after the window, after the call and after the moment
abbrev after_moment : ℕ → ℕ → ℕ → ℕ → Lines → Result StateView ℕ
after_moment window call moment number lines = do
  kept ← entries_in call number [] lines
  Ok (record { window = window; call = call; moment = moment; kept = kept })

abbrev after_call : ℕ → ℕ → ℕ → Lines → Result StateView ℕ
after_call window call number lines = do
  moment ← next_number (codes "moment ") last_second number lines
  after_moment window call moment.0 moment.1 moment.2

abbrev after_window : ℕ → ℕ → Lines → Result StateView ℕ
after_window window number lines = do
  call ← next_number (codes "call ") most_call number lines
  after_call window call.0 call.1 call.2

in_chain : (number : ℕ) (lines : Lines) → state_in number lines ≡ (next_number (codes "window ") most_window number lines >>= (λ (window : ℕ × ℕ × Lines). after_window window.0 window.1 window.2))
unfolding state_in
in_chain number lines = refl

moment_least : (window call moment number : ℕ) (lines : Lines) (fault : ℕ) → call < 2 ^ 64 → after_moment window call moment number lines ≡ Err fault → number ≤ fault
moment_least window call moment number lines fault low h = by_fault (entries_in call number [] lines) _ fault h
    (λ e. omega (arith, (entries_stop call number [] lines fault low e).place))
    (λ kept is after. never (record { window = window; call = call; moment = moment; kept = kept }) fault after)

call_least : (window call number : ℕ) (lines : Lines) (fault : ℕ) → call < 2 ^ 64 → after_call window call number lines ≡ Err fault → number ≤ fault
call_least window call number lines fault low h = by_fault (next_number (codes "moment ") last_second number lines) _ fault h
    (λ e. omega (arith, next_stop (codes "moment ") last_second number lines fault e))
    (λ a is after. omega (arith, (next_found (codes "moment ") last_second number lines a (omega arith) is).next, moment_least window call a.0 a.1 a.2 fault low after))

window_least : (window number : ℕ) (lines : Lines) (fault : ℕ) → after_window window number lines ≡ Err fault → number ≤ fault
window_least window number lines fault h = by_fault (next_number (codes "call ") most_call number lines) _ fault h
    (λ e. omega (arith, next_stop (codes "call ") most_call number lines fault e))
    (λ a is after.
    let f = next_found (codes "call ") most_call number lines a (omega arith) is in
    omega (arith, f.next, call_least window a.0 a.1 a.2 fault (omega (arith, f.within)) after))

moment_pass : (s : StateView) (number : ℕ) (front rest more behind : Lines) (fault : ℕ) → IsState s → s.call ≤ most_call → length front ≤ 4294967295 → front ++ more ≡ (kept_lines s.kept ++ end_line (length s.kept) ∷ []) ++ behind
    → after_moment s.window s.call s.moment number (front ++ rest) ≡ Err fault → number + length front ≤ fault
moment_pass s number front rest more behind fault rules low few split h = by_fault (entries_in s.call number [] (front ++ rest)) _ fault h
    (λ e. entries_pass s.call number [] s.kept front rest more behind fault (omega (arith, low)) (split ∙ append_assoc (kept_lines s.kept) (end_line (length s.kept) ∷ []) behind) rules.entries (omega (arith, few)) e)
    (λ kept is after. never (record { window = s.window; call = s.call; moment = s.moment; kept = kept }) fault after)

-- a number that is read is gone past
next_pass : {X : Type 0} (name : List ℕ) (most n number : ℕ) (line : List ℕ) (others : Lines) (next : ℕ × ℕ × Lines → Result X ℕ) (fault : ℕ) → most < 2 ^ 64 → n ≤ most → line ≡ number_line name n
    → next_number name most number (line ∷ others) >>= next ≡ Err fault → next (n, suc number, others) ≡ Err fault
next_pass {X} name most n number line others next fault low small is h =
    let read : next_number name most number (line ∷ others) ≡ Ok (n, suc number, others) = ap (λ l. next_number name most number (l ∷ others)) is ∙ next_again name most n number others low small in
    sym (ap (λ (r : Result (ℕ × ℕ × Lines) ℕ). r >>= next) read) ∙ h

call_pass : (s : StateView) (number : ℕ) (front rest more behind : Lines) (fault : ℕ) → IsState s → s.call ≤ most_call → length front ≤ 4294967295
    → front ++ more ≡ number_line (codes "moment ") s.moment ∷ ((kept_lines s.kept ++ end_line (length s.kept) ∷ []) ++ behind)
    → after_call s.window s.call number (front ++ rest) ≡ Err fault → number + length front ≤ fault
call_pass s number [] rest more behind fault rules low few split h = omega (arith, call_least s.window s.call number rest fault (omega (arith, low)) h)
call_pass s number (line ∷ front) rest more behind fault rules low few split h =
    let tail : Lines = (kept_lines s.kept ++ end_line (length s.kept) ∷ []) ++ behind in
    let is = first_same line (number_line (codes "moment ") s.moment) (front ++ more) tail split in
    let next = others_same line (number_line (codes "moment ") s.moment) (front ++ more) tail split in
    let after = next_pass (codes "moment ") last_second s.moment number line (front ++ rest) (λ (m : ℕ × ℕ × Lines). after_moment s.window s.call m.0 m.1 m.2) fault (omega arith) rules.moment is h in
    omega (arith, moment_pass s (suc number) front rest more behind fault rules low (omega (arith, few)) next after)

window_pass : (s : StateView) (number : ℕ) (front rest more behind : Lines) (fault : ℕ) → IsState s → s.call ≤ most_call → length front ≤ 4294967295
    → front ++ more ≡ number_line (codes "call ") s.call ∷ number_line (codes "moment ") s.moment ∷ ((kept_lines s.kept ++ end_line (length s.kept) ∷ []) ++ behind)
    → after_window s.window number (front ++ rest) ≡ Err fault → number + length front ≤ fault
window_pass s number [] rest more behind fault rules low few split h = omega (arith, window_least s.window number rest fault h)
window_pass s number (line ∷ front) rest more behind fault rules low few split h =
    let tail : Lines = number_line (codes "moment ") s.moment ∷ ((kept_lines s.kept ++ end_line (length s.kept) ∷ []) ++ behind) in
    let is = first_same line (number_line (codes "call ") s.call) (front ++ more) tail split in
    let next = others_same line (number_line (codes "call ") s.call) (front ++ more) tail split in
    let after = next_pass (codes "call ") most_call s.call number line (front ++ rest) (λ (c : ℕ × ℕ × Lines). after_call s.window c.0 c.1 c.2) fault (omega arith) low is h in
    omega (arith, call_pass s (suc number) front rest more behind fault rules low (omega (arith, few)) next after)

state_pass : (s : StateView) (number : ℕ) (front rest more behind : Lines) (fault : ℕ) → IsState s → s.call ≤ most_call → length front ≤ 4294967295 → front ++ more ≡ lines_behind s ++ behind
    → state_in number (front ++ rest) ≡ Err fault → number + length front ≤ fault
state_pass s number [] rest more behind fault rules low few split h = omega (arith, (state_stops number rest fault h).place)
state_pass s number (line ∷ front) rest more behind fault rules low few split h =
    let tail : Lines = number_line (codes "call ") s.call ∷ number_line (codes "moment ") s.moment ∷ ((kept_lines s.kept ++ end_line (length s.kept) ∷ []) ++ behind) in
    let is = first_same line (number_line (codes "window ") s.window) (front ++ more) tail split in
    let next = others_same line (number_line (codes "window ") s.window) (front ++ more) tail split in
    let after = next_pass (codes "window ") most_window s.window number line (front ++ rest) (λ (w : ℕ × ℕ × Lines). after_window w.0 w.1 w.2) fault (omega arith) rules.window is (sym (in_chain number (line ∷ (front ++ rest))) ∙ h) in
    omega (arith, window_pass s (suc number) front rest more behind fault rules low (omega (arith, few)) next after)

-- ---- the lines before the state

abbrev from_line : ℕ → Lines → Result StateView ℕ
from_line number lines = behind_head number lines >>= (λ (behind : ℕ × Lines). state_in behind.0 behind.1)

no_bytes : (line : List ℕ) (t : Bool) → bytes_eq line head_line ≡ t → lacks 10 line ≡ true → t ≡ false
no_bytes line false e one = refl
no_bytes line true e one = (let lacking : lacks 10 head_line ≡ true = ap (lacks 10) (sym (bytes_same line head_line e)) ∙ one in absurd cc)

neither : (line : List ℕ) → IsOtherLine line → (bytes_eq line head_line ≡ false) × (bytes_eq line (codes "past 1") ≡ false)
neither line other = by_end other.end where
  by_end : (line ≡ other.text ++ 10 ∷ []) ⊎ (line ≡ other.text) → (bytes_eq line head_line ≡ false) × (bytes_eq line (codes "past 1") ≡ false)
  by_end (inl e) = (ap (λ l. bytes_eq l head_line) e ∙ not_head other.text other.other, ap (λ l. bytes_eq l (codes "past 1")) e ∙ not_cut other.text)
  by_end (inr e) = (
    no_bytes line (bytes_eq line head_line) refl (ap (lacks 10) e ∙ other.other.one),
    false_unless (bytes_eq line (codes "past 1")) (λ same. other.other.other (sym e ∙ bytes_same line (codes "past 1") same)),
  )

other_passed : (number : ℕ) (line : List ℕ) (others : Lines) → IsOtherLine line → behind_head number (line ∷ others) ≡ behind_head (suc number) others
other_passed number line others other = let n = neither line other in rw (n.0, n.1) refl

head_passed : (number : ℕ) (line : List ℕ) (others : Lines) → line ≡ head_line → behind_head number (line ∷ others) ≡ Ok (suc number, others)
head_passed number line others is = rw is refl

least : (number : ℕ) (lines : Lines) (fault : ℕ) → EachIsLine lines → from_line number lines ≡ Err fault → number ≤ fault
least number lines fault each h = by_fault (behind_head number lines) _ fault h
    (λ e. omega (arith, (head_stops number lines fault each e).place))
    (λ a is after. omega (arith, (head_passes number lines a.0 a.1 each is).place, (state_stops a.0 a.1 fault after).place))

each_behind : (line : List ℕ) (front rest : Lines) → EachIsLine ((line ∷ front) ++ rest) → EachIsLine (front ++ rest)
each_behind line front rest each = each.1

pub file_pass : (number : ℕ) (before : Lines) (s : StateView) (front rest more behind : Lines) (fault : ℕ) → AreOtherLines before → IsState s → s.call ≤ most_call → length front ≤ 4294967295
    → front ++ more ≡ before ++ ((head_line ∷ lines_behind s) ++ behind) → EachIsLine (front ++ rest) → from_line number (front ++ rest) ≡ Err fault → number + length front ≤ fault
file_pass number before s [] rest more behind fault others rules low few split each h = omega (arith, least number rest fault each h)
file_pass number [] s (line ∷ front) rest more behind fault others rules low few split each h =
    let is = first_same line head_line (front ++ more) (lines_behind s ++ behind) split in
    let next = others_same line head_line (front ++ more) (lines_behind s ++ behind) split in
    let after : state_in (suc number) (front ++ rest) ≡ Err fault =
    sym (ap (λ (r : Result (ℕ × Lines) ℕ). r >>= (λ (b : ℕ × Lines). state_in b.0 b.1)) (head_passed number line (front ++ rest) is)) ∙ h in
    omega (arith, state_pass s (suc number) front rest more behind fault rules low (omega (arith, few)) next after)
file_pass number (other ∷ before) s (line ∷ front) rest more behind fault others rules low few split each h =
    let tail : Lines = before ++ ((head_line ∷ lines_behind s) ++ behind) in
    let is = first_same line other (front ++ more) tail split in
    let next = others_same line other (front ++ more) tail split in
    let passed = other_passed number line (front ++ rest) (subst IsOtherLine (sym is) others.0) in
    let after : from_line (suc number) (front ++ rest) ≡ Err fault = sym (ap (λ (r : Result (ℕ × Lines) ℕ). r >>= (λ (b : ℕ × Lines). state_in b.0 b.1)) passed) ∙ h in
    omega (arith, file_pass (suc number) before s front rest more behind fault others.1 rules low (omega (arith, few)) next (each_behind line front rest each) after)
