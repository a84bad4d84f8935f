-- A state file is read as the state that it holds.
use Rattle.std.proofs.Common.{◌≡◌, inl, inr, ℕ, suc, ◌+◌, ◌^◌, ◌<◌, ◌≤◌, ◌==◌, Bool, true, false, List, [], ◌∷◌, ◌++◌, length, Ok, codes, refl, sym, ◌∙◌, ap, subst, arith, append_assoc, length-append}
use Rattle.std.specs.Str.{bytes_eq}
use Rattle.lists.proofs.Bytes.{bytes_same}
use Rattle.lists.proofs.StepLaws.{after}
use Rattle.text_grammar.specs.Cut.{lacks}
use Rattle.text_grammar.specs.Moment.{last_second}
use Rattle.state_text.specs.Lines.{ended_lines}
use Rattle.state_text.specs.Reading.{behind_head, found_in, most_call, most_window, next_number, or_line, read_state, state_in}
use Rattle.state_text.specs.State.{Entry, IsState, StateView, none_kept}
use Rattle.state_text.specs.StateText.{AreOthers, HoldsState, IsOther, StateFile, head_line, kept_line, kept_lines, lines_behind, number_line, state_text, text_of, with_ends}
use Rattle.state_text.proofs.EntryLaws.{end_line, entries_again}
use Rattle.state_text.proofs.LineLaws.{line_taken}
use Rattle.state_text.proofs.RowLaws.{number_again}
use Rattle.state_text.proofs.EndedLaws.{lines_again, state_ended}

pub next_again : (name : List ℕ) (most n number : ℕ) (others : List (List ℕ)) → most < 2 ^ 64 → n ≤ most → next_number name most number (number_line name n ∷ others) ≡ Ok (n, suc number, others)
next_again name most n number others low small = ap (or_line number others) (number_again name most n low small)

state_again : (number : ℕ) (s : StateView) (more : List (List ℕ)) → IsState s → s.call ≤ most_call → length s.kept ≤ 4294967295 → state_in number (lines_behind s ++ more) ≡ Ok s
unfolding state_in
state_again number s more i low few =
    let behind = kept_lines s.kept ++ end_line (length s.kept) ∷ more in
    let same : (kept_lines s.kept ++ end_line (length s.kept) ∷ []) ++ more ≡ behind = append_assoc (kept_lines s.kept) (end_line (length s.kept) ∷ []) more in
    let third = number_line (codes "moment ") s.moment ∷ behind in
    let second = number_line (codes "call ") s.call ∷ third in
    subst (λ ls. state_in number (number_line (codes "window ") s.window ∷ number_line (codes "call ") s.call ∷ number_line (codes "moment ") s.moment ∷ ls) ≡ Ok s) (sym same)
    (after _ _ _ (Ok s) (next_again (codes "window ") most_window s.window number second (omega arith) i.window)
    (after _ _ _ (Ok s) (next_again (codes "call ") most_call s.call (suc number) third (omega arith) low)
    (after _ _ _ (Ok s) (next_again (codes "moment ") last_second s.moment (suc (suc number)) behind (omega arith) i.moment)
    (after _ _ _ (Ok s) (entries_again s.call (suc (suc (suc number))) [] s.kept more (omega (arith, low)) i.entries few) refl))))

-- ---- lines before the state

snoc_same : (a b : List ℕ) → a ++ 10 ∷ [] ≡ b ++ 10 ∷ [] → a ≡ b
snoc_same [] [] e = refl
snoc_same [] (y ∷ ys) e = absurd (omega (arith, ap length e, length-append ys (10 ∷ [])))
snoc_same (x ∷ xs) [] e = absurd (omega (arith, ap length e, length-append xs (10 ∷ [])))
snoc_same (x ∷ xs) (y ∷ ys) e =
    let head : x ≡ y = cc in
    let tail : xs ++ 10 ∷ [] ≡ ys ++ 10 ∷ [] = cc in
    let rest : xs ≡ ys = snoc_same xs ys tail in
    cc

ends_by : (x : ℕ) (xs : List ℕ) (t : Bool) → (x == 10) ≡ t → lacks 10 (xs ++ 10 ∷ []) ≡ false → lacks 10 (x ∷ (xs ++ 10 ∷ [])) ≡ false
ends_by x xs true e below = rw e refl
ends_by x xs false e below = rw e below

pub has_end : (xs : List ℕ) → lacks 10 (xs ++ 10 ∷ []) ≡ false
has_end [] = refl
has_end (x ∷ xs) = ends_by x xs (x == 10) refl (has_end xs)

pub false_unless : (t : Bool) → (t ≡ true → ⊥) → t ≡ false
false_unless true none = absurd (none refl)
false_unless false none = refl

pub apart : (t : Bool) → t ≡ true → t ≡ false → ⊥
apart t so not_so = (let both : true ≡ false = sym so ∙ not_so in cc)

pub not_head : (line : List ℕ) → IsOther line → bytes_eq (line ++ 10 ∷ []) head_line ≡ false
not_head line o = false_unless (bytes_eq (line ++ 10 ∷ []) head_line) (λ e. o.other (snoc_same line (codes "past 1") (bytes_same (line ++ 10 ∷ []) head_line e)))

pub not_cut : (line : List ℕ) → bytes_eq (line ++ 10 ∷ []) (codes "past 1") ≡ false
not_cut line = false_unless (bytes_eq (line ++ 10 ∷ []) (codes "past 1"))
    (λ e. (let same = bytes_same (line ++ 10 ∷ []) (codes "past 1") e in
    let lacking : lacks 10 (line ++ 10 ∷ []) ≡ true = ap (lacks 10) same in
    apart (lacks 10 (line ++ 10 ∷ [])) lacking (has_end line)))

others_passed : (number : ℕ) (before : List (List ℕ)) (rest : List ℕ) → AreOthers before → behind_head number (ended_lines (with_ends before ++ rest)) ≡ behind_head (number + length before) (ended_lines rest)
others_passed number [] rest a = let zero : number + 0 ≡ number = omega arith in ap (λ n. behind_head n (ended_lines rest)) (sym zero)
others_passed number (line ∷ before) rest (o, a) =
    let split : (line ++ 10 ∷ with_ends before) ++ rest ≡ line ++ 10 ∷ (with_ends before ++ rest) = append_assoc line (10 ∷ with_ends before) rest in
    let taken : ended_lines ((line ++ 10 ∷ with_ends before) ++ rest) ≡ (line ++ 10 ∷ []) ∷ ended_lines (with_ends before ++ rest) = ap ended_lines split ∙ line_taken line (with_ends before ++ rest) o.one in
    let one : suc number + length before ≡ number + suc (length before) = omega arith in
    ap (behind_head number) taken ∙ (rw (not_head line o, not_cut line) (others_passed (suc number) before rest a ∙ ap (λ n. behind_head n (ended_lines rest)) one))

-- ---- a file is read as what it holds

lines_many : (entries : List Entry) (others : List (List ℕ)) → length entries ≤ length (text_of (kept_lines entries ++ others))
lines_many [] others = omega arith
lines_many (e ∷ es) others = omega (arith, lines_many es others, length-append (kept_line e) (text_of (kept_lines es ++ others)))

few_entries : (s : StateView) (bytes before behind : List ℕ) → bytes ≡ before ++ (state_text s ++ behind) → length bytes ≤ 4294967295 → length s.kept ≤ 4294967295
unfolding state_text
few_entries s bytes before behind e small =
    let end = end_line (length s.kept) ∷ [] in
    let tail = text_of (kept_lines s.kept ++ end) in
    let third = number_line (codes "moment ") s.moment in
    let second = number_line (codes "call ") s.call in
    let first = number_line (codes "window ") s.window in
    omega (
      arith,
      small,
      ap length e,
      length-append before ((head_line ++ (first ++ (second ++ (third ++ tail)))) ++ behind),
      length-append (head_line ++ (first ++ (second ++ (third ++ tail)))) behind,
      length-append head_line (first ++ (second ++ (third ++ tail))),
      length-append first (second ++ (third ++ tail)),
      length-append second (third ++ tail),
      length-append third tail,
      lines_many s.kept end,
    )

head_first : (s : StateView) (behind : List ℕ) → ended_lines (state_text s ++ behind) ≡ head_line ∷ ended_lines (text_of (lines_behind s) ++ behind)
unfolding state_text
head_first s behind = refl

some_bytes : (window : ℕ) (bytes : List ℕ) → 1 ≤ length bytes → read_state window bytes ≡ found_in (ended_lines bytes)
unfolding read_state
some_bytes window [] some = absurd (omega arith)
some_bytes window (b ∷ bs) some = refl

state_size : (s : StateView) → 1 ≤ length (state_text s)
unfolding state_text
state_size s = omega (arith, length-append head_line (text_of (lines_behind s)))

holds_again : (window : ℕ) (bytes : List ℕ) (s : StateView) → length bytes ≤ 4294967295 → HoldsState bytes s → read_state window bytes ≡ Ok s
holds_again window bytes s small h =
    let whole : bytes ≡ with_ends h.before ++ (state_text s ++ h.behind) = h.split ∙ ap (λ t. with_ends h.before ++ (t ++ h.behind)) h.state.is in
    let few = few_entries s bytes (with_ends h.before) h.behind whole small in
    let size : 1 ≤ length bytes = omega (arith, ap length whole, length-append (with_ends h.before) (state_text s ++ h.behind), length-append (state_text s) h.behind, state_size s) in
    let lines : ended_lines (state_text s ++ h.behind) ≡ head_line ∷ (lines_behind s ++ ended_lines h.behind) =
    head_first s h.behind ∙ ap (λ ls. head_line ∷ ls) (lines_again (lines_behind s) h.behind (state_ended s h.state.rules h.state.call few)) in
    let passed : behind_head 1 (ended_lines bytes) ≡ Ok (suc (1 + length h.before), lines_behind s ++ ended_lines h.behind) =
    ap (λ b. behind_head 1 (ended_lines b)) whole ∙ others_passed 1 h.before (state_text s ++ h.behind) h.others ∙ ap (behind_head (1 + length h.before)) lines in
    some_bytes window bytes size
    ∙ after (behind_head 1 (ended_lines bytes)) (suc (1 + length h.before), lines_behind s ++ ended_lines h.behind) (λ (behind : ℕ × List (List ℕ)). state_in behind.0 behind.1) (Ok s) passed
    (state_again (suc (1 + length h.before)) s (ended_lines h.behind) h.state.rules h.state.call few)

none_again : (window : ℕ) → read_state window [] ≡ Ok (none_kept window)
unfolding read_state
none_again window = refl

pub file_again : (window : ℕ) (bytes : List ℕ) (s : StateView) → length bytes ≤ 4294967295 → StateFile window bytes s → read_state window bytes ≡ Ok s
file_again window bytes s small (inl e) = ap (read_state window) e.0 ∙ none_again window ∙ ap (λ x. Ok x) (sym e.1)
file_again window bytes s small (inr h) = holds_again window bytes s small h
