-- Where the reading of a file stops, a state file begins with the lines before.
use Rattle.std.proofs.Common.{◌≡◌, ◌⊎◌, inl, inr, ℕ, suc, ◌+◌, ◌-◌, ◌^◌, ◌<◌, ◌≤◌, ◌==◌, Bool, true, false, cond, List, [], ◌∷◌, ◌++◌, length, take, Option, Some, None, Ok, Err, Result, codes, refl, sym, ◌∙◌, ap, subst, arith, append_assoc, append-nil, length-append}
use Rattle.std.specs.Bool.{⊤}
use Rattle.std.specs.Str.{bytes_eq}
use Rattle.lists.specs.Steps.{◌>>=◌}
use Rattle.lists.proofs.Bytes.{bytes_same, same_bytes}
use Rattle.text_grammar.specs.Cut.{lacks}
use Rattle.text_grammar.specs.Moment.{last_second}
use lib.Seq.{take-append_seam}
use Rattle.state_text.specs.BadLine.{AreOtherLines, Begins, IsOtherLine}
use Rattle.state_text.specs.Lines.{ended_lines, onto_line}
use Rattle.state_text.specs.Reading.{behind_head, ends, entries_in, entry_or_end, found_in, kept_on, last_ticket, most_call, most_window, next_number, number_on, or_line, state_in}
use Rattle.state_text.specs.State.{AreEntries, Entry, IsState, StateView, is_above, none_kept}
use Rattle.state_text.specs.StateText.{head_line, kept_line, kept_lines, lines_behind, number_line}
use Rattle.state_text.proofs.AgainLaws.{apart}
use Rattle.state_text.proofs.EndedLaws.{IsEnded}
use Rattle.state_text.proofs.EntryLaws.{end_line, last_of_more}
use Rattle.state_text.proofs.FoundLaws.{next_found}
use Rattle.state_text.proofs.RowLaws.{FoundEntry, kept_found}

-- ---- a step that is refused

-- a reading that ends with a fault has it from its first step, or from what follows
pub by_fault : {A B E : Type 0} {X : Type 0} (r : Result A E) (next : A → Result B E) (fault : E) → r >>= next ≡ Err fault → (r ≡ Err fault → X) → ((a : A) → r ≡ Ok a → next a ≡ Err fault → X) → X
by_fault (Ok a) next fault h first behind = behind a refl h
by_fault {A} {B} {E} (Err found) next fault h first behind = first (let same : found ≡ fault = cc in ap (λ (f : E). Err f) same)

same_number : {X : Type 0} (n m : ℕ) → ◌≡◌ {A = Result X ℕ} (Err n) (Err m) → n ≡ m
same_number n m e = cc

pub never : {X : Type 0} {G : Type 0} (x : X) (m : ℕ) → ◌≡◌ {A = Result X ℕ} (Ok x) (Err m) → G
never x m e = absurd cc

-- ---- the lines of a text

-- a line ends with its one LF, or it has none
abbrev pub IsLine : List ℕ → Type 0
IsLine line = IsEnded line ⊎ (lacks 10 line ≡ true)

abbrev pub EachIsLine : List (List ℕ) → Type 0
EachIsLine [] = ⊤
EachIsLine (line ∷ others) = IsLine line × EachIsLine others

more_line : (byte : ℕ) (line : List ℕ) → (byte == 10) ≡ false → IsLine line → IsLine (byte ∷ line)
more_line byte line e (inl ended) = inl (record { front = byte ∷ ended.front; one = rw e ended.one; is = ap (λ x. byte ∷ x) ended.is })
more_line byte line e (inr one) = inr (rw e one)

onto_each : (byte : ℕ) (lines : List (List ℕ)) → (byte == 10) ≡ false → EachIsLine lines → EachIsLine (onto_line byte lines)
onto_each byte [] e each = (inr (rw e refl), tt)
onto_each byte (line ∷ others) e each = (more_line byte line e each.0, each.1)

each_by : (byte : ℕ) (more : List ℕ) (t : Bool) → (byte == 10) ≡ t → EachIsLine (ended_lines more) → EachIsLine (cond t ((10 ∷ []) ∷ ended_lines more) (onto_line byte (ended_lines more)))
each_by byte more true e each = (inl (record { front = []; one = refl; is = refl }), each)
each_by byte more false e each = onto_each byte (ended_lines more) e each

pub each_line : (text : List ℕ) → EachIsLine (ended_lines text)
each_line [] = tt
each_line (byte ∷ more) = each_by byte more (byte == 10) refl (each_line more)

-- a line that is none of the first of a state is another, with its LF and without it
other_line : (line : List ℕ) → IsLine line → bytes_eq line head_line ≡ false → bytes_eq line (codes "past 1") ≡ false → IsOtherLine line
other_line line (inl ended) no_head no_cut = record {
  text = ended.front;
  other = record { one = ended.one; other = λ e. apart (bytes_eq line head_line) (ap (λ l. bytes_eq l head_line) (ended.is ∙ ap (λ x. x ++ 10 ∷ []) e) ∙ same_bytes head_line) no_head };
  end = inl ended.is;
}
other_line line (inr one) no_head no_cut = record {
  text = line;
  other = record { one = one; other = λ e. apart (bytes_eq line (codes "past 1")) (ap (λ l. bytes_eq l (codes "past 1")) e ∙ same_bytes (codes "past 1")) no_cut };
  end = inr refl;
}

-- ---- the lines before the state

-- other lines, and the number of the line after them
pub record StopsInOthers (number : ℕ) (lines : List (List ℕ)) (fault : ℕ) : Type 0 where
  pub before : List (List ℕ)
  pub others : AreOtherLines before
  pub rest : List (List ℕ)
  pub split : lines ≡ before ++ rest
  pub place : fault ≡ number + length before

-- other lines, and the first of a state
pub record PassesHead (number : ℕ) (lines : List (List ℕ)) (next : ℕ) (rest : List (List ℕ)) : Type 0 where
  pub before : List (List ℕ)
  pub others : AreOtherLines before
  pub split : lines ≡ before ++ head_line ∷ rest
  pub place : next ≡ suc (number + length before)

one_more : (number : ℕ) (line : List ℕ) (others : List (List ℕ)) (fault : ℕ) → IsOtherLine line → StopsInOthers (suc number) others fault → StopsInOthers number (line ∷ others) fault
one_more number line others fault other s = record {
  before = line ∷ s.before;
  others = (other, s.others);
  rest = s.rest;
  split = ap (λ ls. line ∷ ls) s.split;
  place = omega (arith, s.place);
}

one_passed : (number : ℕ) (line : List ℕ) (others : List (List ℕ)) (next : ℕ) (rest : List (List ℕ)) → IsOtherLine line → PassesHead (suc number) others next rest → PassesHead number (line ∷ others) next rest
one_passed number line others next rest other p = record { before = line ∷ p.before; others = (other, p.others); split = ap (λ ls. line ∷ ls) p.split; place = omega (arith, p.place) }

here : (number fault : ℕ) (lines : List (List ℕ)) → number ≡ fault → StopsInOthers number lines fault
here number fault lines e = record { before = []; others = tt; rest = lines; split = refl; place = omega (arith, e) }

head_stop : (number : ℕ) (line : List ℕ) (others : List (List ℕ)) (fault : ℕ) → IsLine line → (behind_head (suc number) others ≡ Err fault → StopsInOthers (suc number) others fault)
    → (t u : Bool) → bytes_eq line head_line ≡ t → bytes_eq line (codes "past 1") ≡ u → cond t (Ok (suc number, others)) (cond u (Err number) (behind_head (suc number) others)) ≡ Err fault
    → StopsInOthers number (line ∷ others) fault
head_stop number line others fault is below true u e f h = never (suc number, others) fault h
head_stop number line others fault is below false true e f h = here number fault (line ∷ others) (same_number number fault h)
head_stop number line others fault is below false false e f h = one_more number line others fault (other_line line is e f) (below h)

pub head_stops : (number : ℕ) (lines : List (List ℕ)) (fault : ℕ) → EachIsLine lines → behind_head number lines ≡ Err fault → StopsInOthers number lines fault
head_stops number [] fault each h = here number fault [] (same_number number fault h)
head_stops number (line ∷ others) fault each h =
    head_stop number line others fault each.0 (λ e. head_stops (suc number) others fault each.1 e) (bytes_eq line head_line) (bytes_eq line (codes "past 1")) refl refl h

pair_parts : {A B E : Type 0} (a x : A) (b y : B) → ◌≡◌ {A = Result (A × B) E} (Ok (a, b)) (Ok (x, y)) → (a ≡ x) × (b ≡ y)
pair_parts {A} {B} a x b y e = (let inner : ◌≡◌ {A = A × B} (a, b) (x, y) = cc in (ap (λ p. p.0) inner, ap (λ p. p.1) inner))

head_pass : (number : ℕ) (line : List ℕ) (others : List (List ℕ)) (next : ℕ) (rest : List (List ℕ)) → IsLine line → (behind_head (suc number) others ≡ Ok (next, rest) → PassesHead (suc number) others next rest)
    → (t u : Bool) → bytes_eq line head_line ≡ t → bytes_eq line (codes "past 1") ≡ u → cond t (Ok (suc number, others)) (cond u (Err number) (behind_head (suc number) others)) ≡ Ok (next, rest)
    → PassesHead number (line ∷ others) next rest
head_pass number line others next rest is below true u e f h =
    let same = pair_parts (suc number) next others rest h in
    record { before = []; others = tt; split = ap (λ l. l ∷ others) (bytes_same line head_line e) ∙ ap (λ ls. head_line ∷ ls) same.1; place = omega (arith, same.0) }
head_pass number line others next rest is below false true e f h = absurd cc
head_pass number line others next rest is below false false e f h = one_passed number line others next rest (other_line line is e f) (below h)

pub head_passes : (number : ℕ) (lines : List (List ℕ)) (next : ℕ) (rest : List (List ℕ)) → EachIsLine lines → behind_head number lines ≡ Ok (next, rest) → PassesHead number lines next rest
head_passes number [] next rest each h = absurd cc
head_passes number (line ∷ others) next rest each h =
    head_pass number line others next rest each.0 (λ e. head_passes (suc number) others next rest each.1 e) (bytes_eq line head_line) (bytes_eq line (codes "past 1")) refl refl h

-- ---- the entries

-- lines of entries, and the number of the line after them
pub record StopsInEntries (most number : ℕ) (before : List Entry) (lines : List (List ℕ)) (fault : ℕ) : Type 0 where
  pub entries : List Entry
  pub are : AreEntries most (last_ticket before) entries
  pub rest : List (List ℕ)
  pub split : lines ≡ kept_lines entries ++ rest
  pub place : fault ≡ number + length entries

no_entry : (most number : ℕ) (before : List Entry) (lines : List (List ℕ)) (fault : ℕ) → number ≡ fault → StopsInEntries most number before lines fault
no_entry most number before lines fault e = record { entries = []; are = record { each = tt; rise = tt }; rest = lines; split = refl; place = omega (arith, e) }

entry_stop : (most number : ℕ) (before : List Entry) (line : List ℕ) (others : List (List ℕ)) (fault : ℕ) (entry : Entry) → FoundEntry most line entry
    → ((b : List Entry) → entries_in most (suc number) b others ≡ Err fault → StopsInEntries most (suc number) b others fault)
    → (t : Bool) → is_above (last_ticket before) entry.0 ≡ t → cond t (entries_in most (suc number) (before ++ entry ∷ []) others) (Err number) ≡ Err fault
    → StopsInEntries most number before (line ∷ others) fault
entry_stop most number before line others fault entry f below true e h =
    let s = below (before ++ entry ∷ []) h in
    let rest_are : AreEntries most (Some entry.0) s.entries = subst (λ t. AreEntries most t s.entries) (last_of_more before entry) s.are in
    record {
      entries = entry ∷ s.entries;
      are = record { each = (f.is, rest_are.each); rise = (e, rest_are.rise) };
      rest = s.rest;
      split = ap (λ l. l ∷ others) f.text ∙ ap (λ ls. kept_line entry ∷ ls) s.split;
      place = omega (arith, s.place);
    }
entry_stop most number before line others fault entry f below false e h = no_entry most number before (line ∷ others) fault (same_number number fault h)

end_stop : (most number : ℕ) (before : List Entry) (lines : List (List ℕ)) (fault : ℕ) (t : Bool) → cond t (Ok before) (Err number) ≡ Err fault → StopsInEntries most number before lines fault
end_stop most number before lines fault true h = never before fault h
end_stop most number before lines fault false h = no_entry most number before lines fault (same_number number fault h)

line_stop : (most number : ℕ) (before : List Entry) (line : List ℕ) (others : List (List ℕ)) (fault : ℕ) → most < 2 ^ 64
    → ((b : List Entry) → entries_in most (suc number) b others ≡ Err fault → StopsInEntries most (suc number) b others fault)
    → (o : Option Entry) → kept_on most line ≡ o → entry_or_end number before line (λ entries. entries_in most (suc number) entries others) o ≡ Err fault
    → StopsInEntries most number before (line ∷ others) fault
line_stop most number before line others fault low below None e h = end_stop most number before (line ∷ others) fault (ends before line) h
line_stop most number before line others fault low below (Some entry) e h =
    entry_stop most number before line others fault entry (kept_found most line entry low e) below (is_above (last_ticket before) entry.0) refl h

pub entries_stop : (most number : ℕ) (before : List Entry) (lines : List (List ℕ)) (fault : ℕ) → most < 2 ^ 64 → entries_in most number before lines ≡ Err fault → StopsInEntries most number before lines fault
entries_stop most number before [] fault low h = no_entry most number before [] fault (same_number number fault h)
entries_stop most number before (line ∷ others) fault low h =
    line_stop most number before line others fault low (λ b e. entries_stop most (suc number) b others fault low e) (kept_on most line) refl h

-- ---- the state after its first line

-- lines with which those of a state begin, and the number of the line after them
pub record StopsInState (number : ℕ) (lines : List (List ℕ)) (fault : ℕ) : Type 0 where
  pub front : List (List ℕ)
  pub rest : List (List ℕ)
  pub split : lines ≡ front ++ rest
  pub place : fault ≡ number + length front
  pub state : StateView
  pub rules : IsState state
  pub call : state.call ≤ most_call
  pub more : List (List ℕ)
  pub goes_on : front ++ more ≡ lines_behind state

or_stop : (number : ℕ) (lines : List (List ℕ)) (found : Option ℕ) (fault : ℕ) → or_line number lines found ≡ Err fault → number ≡ fault
or_stop number lines None fault h = same_number number fault h
or_stop number lines (Some value) fault h = never (value, suc number, lines) fault h

pub next_stop : (name : List ℕ) (most number : ℕ) (lines : List (List ℕ)) (fault : ℕ) → next_number name most number lines ≡ Err fault → number ≡ fault
next_stop name most number [] fault h = same_number number fault h
next_stop name most number (line ∷ others) fault h = or_stop number others (number_on name most line) fault h

without_entries : (window call moment : ℕ) → window ≤ most_window → moment ≤ last_second → IsState (record { window = window; call = call; moment = moment; kept = [] })
without_entries window call moment w m = record { window = w; moment = m; entries = record { each = tt; rise = tt } }

pub state_stops : (number : ℕ) (lines : List (List ℕ)) (fault : ℕ) → state_in number lines ≡ Err fault → StopsInState number lines fault
unfolding state_in
state_stops number lines fault h = by_fault (next_number (codes "window ") most_window number lines) _ fault h
    (λ e. record {
      front = [];
      rest = lines;
      split = refl;
      place = omega (arith, next_stop (codes "window ") most_window number lines fault e);
      state = none_kept 0;
      rules = without_entries 0 0 0 (omega arith) (omega arith);
      call = omega arith;
      more = lines_behind (none_kept 0);
      goes_on = refl;
    })
    (λ a is_a after_a.
    let window = next_found (codes "window ") most_window number lines a (omega arith) is_a in
    by_fault (next_number (codes "call ") most_call a.1 a.2) _ fault after_a
    (λ e. record {
      front = number_line (codes "window ") a.0 ∷ [];
      rest = a.2;
      split = window.split;
      place = omega (arith, window.next, next_stop (codes "call ") most_call a.1 a.2 fault e);
      state = none_kept a.0;
      rules = without_entries a.0 0 0 window.within (omega arith);
      call = omega arith;
      more = number_line (codes "call ") 0 ∷ number_line (codes "moment ") 0 ∷ end_line 0 ∷ [];
      goes_on = refl;
    })
    (λ b is_b after_b.
    let call = next_found (codes "call ") most_call a.1 a.2 b (omega arith) is_b in
    by_fault (next_number (codes "moment ") last_second b.1 b.2) _ fault after_b
    (λ e. record {
      front = number_line (codes "window ") a.0 ∷ number_line (codes "call ") b.0 ∷ [];
      rest = b.2;
      split = window.split ∙ ap (λ ls. number_line (codes "window ") a.0 ∷ ls) call.split;
      place = omega (arith, window.next, call.next, next_stop (codes "moment ") last_second b.1 b.2 fault e);
      state = record { window = a.0; call = b.0; moment = 0; kept = [] };
      rules = without_entries a.0 b.0 0 window.within (omega arith);
      call = call.within;
      more = number_line (codes "moment ") 0 ∷ end_line 0 ∷ [];
      goes_on = refl;
    })
    (λ c is_c after_c.
    let moment = next_found (codes "moment ") last_second b.1 b.2 c (omega arith) is_c in
    by_fault (entries_in b.0 c.1 [] c.2) _ fault after_c
    (λ e. let s = entries_stop b.0 c.1 [] c.2 fault (omega (arith, call.within)) e in record {
      front = number_line (codes "window ") a.0 ∷ number_line (codes "call ") b.0 ∷ number_line (codes "moment ") c.0 ∷ kept_lines s.entries;
      rest = s.rest;
      split = window.split ∙ ap (λ ls. number_line (codes "window ") a.0 ∷ ls) (call.split ∙ ap (λ ls. number_line (codes "call ") b.0 ∷ ls)
          (moment.split ∙ ap (λ ls. number_line (codes "moment ") c.0 ∷ ls) s.split));
      place = omega (arith, window.next, call.next, moment.next, s.place, as_many s.entries);
      state = record { window = a.0; call = b.0; moment = c.0; kept = s.entries };
      rules = record { window = window.within; moment = moment.within; entries = s.are };
      call = call.within;
      more = end_line (length s.entries) ∷ [];
      goes_on = refl;
    })
    (λ d is_d after_d. never (record { window = a.0; call = b.0; moment = c.0; kept = d }) fault after_d))))
  where
    as_many : (entries : List Entry) → length (kept_lines entries) ≡ length entries
    as_many [] = refl
    as_many (e ∷ es) = ap suc (as_many es)

-- ---- the whole file

-- a state file begins with the lines before this one, and the line is one of them or the one after the last
pub record Stops (lines : List (List ℕ)) (fault : ℕ) : Type 0 where
  pub some : 1 ≤ fault
  pub within : fault ≤ length lines + 1
  pub before : Begins (take (fault - 1) lines)

abbrev begun : StateView → List (List ℕ)
begun s = head_line ∷ lines_behind s

with_none : (lines : List (List ℕ)) → lines ≡ lines ++ []
with_none lines = sym (append-nil lines)

in_others : (lines : List (List ℕ)) (fault : ℕ) → StopsInOthers 1 lines fault → Stops lines fault
in_others lines fault s =
    let count : fault - 1 ≡ length s.before = omega (arith, s.place) in
    let taken : take (fault - 1) lines ≡ s.before = ap (λ n. take n lines) count ∙ ap (take (length s.before)) s.split ∙ take-append_seam s.before s.rest in
    record {
      some = omega (arith, s.place);
      within = omega (arith, s.place, ap length s.split, length-append s.before s.rest);
      before = subst Begins (sym taken) (record {
        before = s.before;
        others = s.others;
        state = none_kept 0;
        rules = without_entries 0 0 0 (omega arith) (omega arith);
        call = omega arith;
        behind = [];
        more = begun (none_kept 0);
        split = ap (λ ls. s.before ++ ls) (with_none (begun (none_kept 0)));
      });
    }

in_state : (lines : List (List ℕ)) (next : ℕ) (rest : List (List ℕ)) (fault : ℕ) → PassesHead 1 lines next rest → StopsInState next rest fault → Stops lines fault
in_state lines next rest fault p s =
    let front = p.before ++ head_line ∷ s.front in
    let whole : lines ≡ front ++ s.rest = p.split ∙ ap (λ ls. p.before ++ head_line ∷ ls) s.split ∙ sym (append_assoc p.before (head_line ∷ s.front) s.rest) in
    let size : length front ≡ length p.before + suc (length s.front) = length-append p.before (head_line ∷ s.front) in
    let count : fault - 1 ≡ length front = omega (arith, s.place, p.place, size) in
    let taken : take (fault - 1) lines ≡ front = ap (λ n. take n lines) count ∙ ap (take (length front)) whole ∙ take-append_seam front s.rest in
    record {
      some = omega (arith, s.place, p.place);
      within = omega (arith, s.place, p.place, size, ap length whole, length-append front s.rest);
      before = subst Begins (sym taken) (record {
        before = p.before;
        others = p.others;
        state = s.state;
        rules = s.rules;
        call = s.call;
        behind = [];
        more = s.more;
        split = append_assoc p.before (head_line ∷ s.front) s.more ∙ ap (λ ls. p.before ++ head_line ∷ ls) s.goes_on ∙ ap (λ ls. p.before ++ ls) (with_none (begun s.state));
      });
    }

pub file_stops : (lines : List (List ℕ)) (fault : ℕ) → EachIsLine lines → found_in lines ≡ Err fault → Stops lines fault
file_stops lines fault each h = by_fault (behind_head 1 lines) _ fault h
    (λ e. in_others lines fault (head_stops 1 lines fault each e))
    (λ a is_a after_a. in_state lines a.0 a.1 fault (head_passes 1 lines a.0 a.1 each is_a) (state_stops a.0 a.1 fault after_a))
