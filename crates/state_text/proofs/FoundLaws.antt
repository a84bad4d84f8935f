-- What is read of a file is the state that it holds.
use Rattle.std.proofs.Common.{◌≡◌, inl, inr, ℕ, suc, ◌^◌, ◌<◌, ◌≤◌, ◌==◌, Bool, true, false, cond, List, [], ◌∷◌, ◌++◌, length, Option, Some, None, Ok, Err, Result, codes, refl, sym, ◌∙◌, ap, subst, arith, append_assoc}
use Rattle.std.specs.Bool.{⊤}
use Rattle.std.specs.Str.{bytes_eq}
use Rattle.std.proofs.lemmas.Bool.Decides.{nat_tests}
use Rattle.lists.proofs.Bytes.{bytes_same, same_bytes}
use Rattle.lists.proofs.StepLaws.{came}
use Rattle.text_grammar.specs.Moment.{last_second}
use Rattle.state_text.specs.Lines.{ended_lines, onto_line}
use Rattle.state_text.specs.Reading.{behind_head, entries_in, found_in, most_call, most_window, next_number, number_on, or_line, read_state, state_in}
use Rattle.state_text.specs.State.{AreEntries, IsState, StateView, none_kept}
use Rattle.state_text.specs.StateText.{AreOthers, HoldsState, StateFile, head_line, kept_lines, lines_behind, number_line, state_text, text_of, with_ends}
use Rattle.state_text.proofs.EntryLaws.{end_line, entries_found}
use Rattle.state_text.proofs.RowLaws.{number_found}
use Rattle.state_text.proofs.EndedLaws.{IsEnded}
use Rattle.state_text.proofs.AgainLaws.{apart}

onto_text : (b : ℕ) (lines : List (List ℕ)) → text_of (onto_line b lines) ≡ b ∷ text_of lines
onto_text b [] = refl
onto_text b (line ∷ others) = refl

whole_by : (b : ℕ) (bs : List ℕ) (t : Bool) → (b == 10) ≡ t → text_of (ended_lines bs) ≡ bs → text_of (cond t ((10 ∷ []) ∷ ended_lines bs) (onto_line b (ended_lines bs))) ≡ b ∷ bs
whole_by b bs true e below = let same : b ≡ 10 = grind (arith, nat_tests) in rw same (ap (λ x. 10 ∷ x) below)
whole_by b bs false e below = onto_text b (ended_lines bs) ∙ ap (λ x. b ∷ x) below

-- the lines one after the other are the text
whole_text : (text : List ℕ) → text_of (ended_lines text) ≡ text
whole_text [] = refl
whole_text (b ∷ bs) = whole_by b bs (b == 10) refl (whole_text bs)

-- each line but the last ends with its LF
abbrev AreLines : List (List ℕ) → Type 0
AreLines [] = ⊤
AreLines (line ∷ []) = ⊤
AreLines (line ∷ next ∷ others) = IsEnded line × AreLines (next ∷ others)

onto_lines : (b : ℕ) (lines : List (List ℕ)) → (b == 10) ≡ false → AreLines lines → AreLines (onto_line b lines)
onto_lines b [] e a = tt
onto_lines b (line ∷ []) e a = tt
onto_lines b (line ∷ next ∷ others) e (i, a) = (record { front = b ∷ i.front; one = rw e i.one; is = ap (λ x. b ∷ x) i.is }, a)

below_one : (lines : List (List ℕ)) → AreLines lines → AreLines ((10 ∷ []) ∷ lines)
below_one [] a = tt
below_one (line ∷ others) a = (record { front = []; one = refl; is = refl }, a)

lines_by : (b : ℕ) (bs : List ℕ) (t : Bool) → (b == 10) ≡ t → AreLines (ended_lines bs) → AreLines (cond t ((10 ∷ []) ∷ ended_lines bs) (onto_line b (ended_lines bs)))
lines_by b bs true e a = below_one (ended_lines bs) a
lines_by b bs false e a = onto_lines b (ended_lines bs) e a

are_lines : (text : List ℕ) → AreLines (ended_lines text)
are_lines [] = tt
are_lines (b ∷ bs) = lines_by b bs (b == 10) refl (are_lines bs)

both_text : (xs ys : List (List ℕ)) → text_of (xs ++ ys) ≡ text_of xs ++ text_of ys
both_text [] ys = refl
both_text (x ∷ xs) ys = ap (λ t. x ++ t) (both_text xs ys) ∙ sym (append_assoc x (text_of xs) (text_of ys))

-- what comes before the state, and the lines after its first
record FoundHead (lines rest : List (List ℕ)) : Type 0 where
  before : List (List ℕ)
  others : AreOthers before
  split : text_of lines ≡ with_ends before ++ (head_line ++ text_of rest)

same_rest : {E : Type 0} (n m : ℕ) (xs ys : List (List ℕ)) → ◌≡◌ {A = Result (ℕ × List (List ℕ)) E} (Ok (n, xs)) (Ok (m, ys)) → xs ≡ ys
same_rest n m xs ys e = (let inner : ◌≡◌ {A = ℕ × List (List ℕ)} (n, xs) (m, ys) = cc in ap (λ p. p.1) inner)

more_others : (line : List ℕ) (others rest : List (List ℕ)) → IsEnded line → bytes_eq line head_line ≡ false → FoundHead others rest → FoundHead (line ∷ others) rest
more_others line others rest i no_head f = record {
  before = i.front ∷ f.before;
  others = (record { one = i.one; other = λ e. apart (bytes_eq line head_line) (ap (λ l. bytes_eq l head_line) (i.is ∙ ap (λ x. x ++ 10 ∷ []) e) ∙ same_bytes head_line) no_head }, f.others);
  split = ap (λ l. l ++ text_of others) i.is ∙ append_assoc i.front (10 ∷ []) (text_of others) ∙ ap (λ t. i.front ++ 10 ∷ t) f.split
      ∙ sym (append_assoc i.front (10 ∷ with_ends f.before) (head_line ++ text_of rest));
}

cut_by : (number : ℕ) (line : List ℕ) (others : List (List ℕ)) (m : ℕ) (rest : List (List ℕ)) → (1 ≤ length others → IsEnded line) → bytes_eq line head_line ≡ false
    → (behind_head (suc number) others ≡ Ok (m, rest) → FoundHead others rest) → 1 ≤ length others
    → (t : Bool) → cond t (Err number) (behind_head (suc number) others) ≡ Ok (m, rest) → FoundHead (line ∷ others) rest
cut_by number line others m rest i e below some true h = absurd cc
cut_by number line others m rest i e below some false h = more_others line others rest (i some) e (below h)

-- something comes after the head, so there is a line more
some_behind : (number : ℕ) (others : List (List ℕ)) (m : ℕ) (rest : List (List ℕ)) (t : Bool) → cond t (Err number) (behind_head (suc number) others) ≡ Ok (m, rest) → 1 ≤ length others
some_behind number [] m rest true h = absurd cc
some_behind number [] m rest false h = absurd cc
some_behind number (line ∷ others) m rest t h = omega arith

head_by : (number : ℕ) (line : List ℕ) (others : List (List ℕ)) (m : ℕ) (rest : List (List ℕ)) → (1 ≤ length others → IsEnded line)
    → (behind_head (suc number) others ≡ Ok (m, rest) → FoundHead others rest)
    → (t : Bool) → bytes_eq line head_line ≡ t → cond t (Ok (suc number, others)) (cond (bytes_eq line (codes "past 1")) (Err number) (behind_head (suc number) others)) ≡ Ok (m, rest) → FoundHead (line ∷ others) rest
head_by number line others m rest i below true e h =
    let same : others ≡ rest = same_rest (suc number) m others rest h in
    record { before = []; others = tt; split = ap (λ l. l ++ text_of others) (bytes_same line head_line e) ∙ ap (λ ls. head_line ++ text_of ls) same }
head_by number line others m rest i below false e h =
    cut_by number line others m rest i e below (some_behind number others m rest (bytes_eq line (codes "past 1")) h) (bytes_eq line (codes "past 1")) h

pub first_ended : (line : List ℕ) (others : List (List ℕ)) → AreLines (line ∷ others) → 1 ≤ length others → IsEnded line
first_ended line [] a some = absurd (omega arith)
first_ended line (next ∷ others) a some = a.0

lines_on : (line : List ℕ) (others : List (List ℕ)) → AreLines (line ∷ others) → AreLines others
lines_on line [] a = tt
lines_on line (next ∷ others) a = a.1

head_found : (number : ℕ) (lines : List (List ℕ)) (m : ℕ) (rest : List (List ℕ)) → AreLines lines → behind_head number lines ≡ Ok (m, rest) → FoundHead lines rest
head_found number [] m rest a h = absurd cc
head_found number (line ∷ others) m rest a h =
    head_by number line others m rest (first_ended line others a) (λ e. head_found (suc number) others m rest (lines_on line others a) e) (bytes_eq line head_line) refl h

-- ---- the state

pub record FoundNext (name : List ℕ) (most number : ℕ) (lines : List (List ℕ)) (found : ℕ × ℕ × List (List ℕ)) : Type 0 where
  pub within : found.0 ≤ most
  pub next : found.1 ≡ suc number
  pub split : lines ≡ number_line name found.0 ∷ found.2

next_by : (name : List ℕ) (most number : ℕ) (line : List ℕ) (others : List (List ℕ)) (found : ℕ × ℕ × List (List ℕ)) (o : Option ℕ) → most < 2 ^ 64 → number_on name most line ≡ o → or_line number others o ≡ Ok found
    → FoundNext name most number (line ∷ others) found
next_by name most number line others found None low e h = absurd cc
next_by name most number line others found (Some n) low e h =
    let f = number_found name most line n low e in
    let made : ℕ × ℕ × List (List ℕ) = (n, suc number, others) in
    let same : made ≡ found = cc in
    subst (FoundNext name most number (line ∷ others)) same (record { within = f.1; next = refl; split = ap (λ l. l ∷ others) f.0 })

pub next_found : (name : List ℕ) (most number : ℕ) (lines : List (List ℕ)) (found : ℕ × ℕ × List (List ℕ)) → most < 2 ^ 64 → next_number name most number lines ≡ Ok found → FoundNext name most number lines found
next_found name most number [] found low h = absurd cc
next_found name most number (line ∷ others) found low h = next_by name most number line others found (number_on name most line) low refl h

record FoundState (lines : List (List ℕ)) (s : StateView) : Type 0 where
  rules : IsState s
  call : s.call ≤ most_call
  more : List (List ℕ)
  split : lines ≡ lines_behind s ++ more

state_found : (number : ℕ) (lines : List (List ℕ)) (s : StateView) → state_in number lines ≡ Ok s → FoundState lines s
unfolding state_in
state_found number lines s h =
    let a = came (next_number (codes "window ") most_window number lines) _ s h in
    let b = came (next_number (codes "call ") most_call a.0.1 a.0.2) _ s a.2 in
    let c = came (next_number (codes "moment ") last_second b.0.1 b.0.2) _ s b.2 in
    let d = came (entries_in b.0.0 c.0.1 [] c.0.2) _ s c.2 in
    let window = next_found (codes "window ") most_window number lines a.0 (omega arith) a.1 in
    let call = next_found (codes "call ") most_call a.0.1 a.0.2 b.0 (omega arith) b.1 in
    let moment = next_found (codes "moment ") last_second b.0.1 b.0.2 c.0 (omega arith) c.1 in
    let entries = entries_found b.0.0 c.0.1 [] c.0.2 d.0 (omega (arith, call.within)) d.1 in
    let made : StateView = record { window = a.0.0; call = b.0.0; moment = c.0.0; kept = d.0 } in
    let same : made ≡ s = cc in
    let tail : kept_lines entries.entries ++ end_line (length d.0) ∷ entries.more ≡ (kept_lines d.0 ++ end_line (length d.0) ∷ []) ++ entries.more =
    ap (λ es. kept_lines es ++ end_line (length d.0) ∷ entries.more) (sym entries.all) ∙ sym (append_assoc (kept_lines d.0) (end_line (length d.0) ∷ []) entries.more) in
    subst (FoundState lines) same (record {
      rules = record { window = window.within; moment = moment.within; entries = subst (AreEntries b.0.0 None) (sym entries.all) entries.are };
      call = call.within;
      more = entries.more;
      split = window.split ∙ ap (λ ls. number_line (codes "window ") a.0.0 ∷ ls) (call.split ∙ ap (λ ls. number_line (codes "call ") b.0.0 ∷ ls) (moment.split
          ∙ ap (λ ls. number_line (codes "moment ") c.0.0 ∷ ls) (entries.split ∙ tail)));
    })

text_is : (s : StateView) (more : List ℕ) → head_line ++ (text_of (lines_behind s) ++ more) ≡ state_text s ++ more
unfolding state_text
text_is s more = sym (append_assoc head_line (text_of (lines_behind s)) more)

holds_found : (bytes : List ℕ) (s : StateView) → found_in (ended_lines bytes) ≡ Ok s → HoldsState bytes s
holds_found bytes s h =
    let a = came (behind_head 1 (ended_lines bytes)) _ s h in
    let f = head_found 1 (ended_lines bytes) a.0.0 a.0.1 (are_lines bytes) a.1 in
    let g = state_found a.0.0 a.0.1 s a.2 in
    record {
      before = f.before;
      others = f.others;
      text = state_text s;
      state = record { rules = g.rules; call = g.call; is = refl };
      behind = text_of g.more;
      split = sym (whole_text bytes) ∙ f.split ∙ ap (λ ls. with_ends f.before ++ (head_line ++ text_of ls)) g.split
          ∙ ap (λ t. with_ends f.before ++ (head_line ++ t)) (both_text (lines_behind s) g.more) ∙ ap (λ t. with_ends f.before ++ t) (text_is s (text_of g.more));
    }

pub file_found : (window : ℕ) (bytes : List ℕ) (s : StateView) → read_state window bytes ≡ Ok s → StateFile window bytes s
unfolding read_state
file_found window [] s h = inl (refl, (let same : none_kept window ≡ s = cc in sym same))
file_found window (b ∷ bs) s h = inr (holds_found (b ∷ bs) s h)
