-- What comes of a stretch of an answers file is what comes of its lines one by one.
use Rattle.std.proofs.Common.{◌≡◌, ℕ, ◌+◌, ◌<◌, true, false, List, [], ◌∷◌, ◌++◌, length, drop, Option, Some, None, Err, Bool, refl, sym, ap, ◌∙◌, subst, arith, add-one}
use Rattle.std.specs.Prelude.{slice_index_or}
use Rattle.std.proofs.Math.Seq.{drop-cons}
use Rattle.std.proofs.lemmas.List.{drop_all, length-append, length-map}
use Rattle.stir_outside.specs.AnswersText.{add_row, answer_rows}
use Rattle.stir_outside.specs.Held.{AnswersOf, Held, HoldsRows, Reached}
use Rattle.stir_outside.specs.Stretch.{AddsSaid, AddsStretch, AreRows, IsNext, IsRowAt, lines_of}
use Rattle.stir_outside.specs.declared.answers.rows.Row.{Row}
use Rattle.stir_outside.proofs.HeldLaws.{all_read}
use Rattle.text_grammar.specs.declared.lines.Line.{Line}
use Rattle.text_grammar.proofs.ReachedLaws.{one_more, bad_line}

-- one line more was taken
pub one_taken : (stretch : List Line) (line : Line) (left : List (ℕ × List ℕ)) → lines_of (stretch ++ line ∷ []) ++ left ≡ lines_of stretch ++ (line.number, line.text.now) ∷ left
one_taken [] line left = refl
one_taken (first ∷ stretch) line left = ap (λ (ls : List (ℕ × List ℕ)). (first.number, first.text.now) ∷ ls) (one_taken stretch line left)

-- the lines from an index on begin with the line there
pub lines_at : (stretch : List Line) (at : ℕ) (d : Line) (left : List (ℕ × List ℕ)) → at < length stretch
    → lines_of (drop at stretch) ++ left ≡ ((slice_index_or stretch at d).number, (slice_index_or stretch at d).text.now) ∷ (lines_of (drop (at + 1) stretch) ++ left)
lines_at stretch at d left within = rw (add-one at) (ap (λ (ls : List Line). lines_of ls ++ left) (drop-cons stretch at d within))

abbrev pub Leads : Held → Held → List Line → ℕ → Type 0
Leads old now stretch at = (text : List ℕ) (left : List (ℕ × List ℕ)) → Reached text (lines_of stretch ++ left) old → Reached text (lines_of (drop at stretch) ++ left) now

pub leads_on : (old before now : Held) (stretch : List Line) (at : ℕ) (d : Line) (row : Option Row) → at < length stretch → IsRowAt stretch at row
    → AddsSaid before now row true → Leads old before stretch at → Leads old now stretch (at + 1)
leads_on old before now stretch at d row within is adds leads text left reached =
    let line = slice_index_or stretch at d in
    one_more add_row HoldsRows (answer_rows text) _ _ line.number line.text.now before now (lines_at stretch at d left within) (adds line.text.now (sym (is.says d within))) (leads text left reached)

pub ends_at : (old before now : Held) (stretch : List Line) (at : ℕ) (d : Line) (row : Option Row) → at < length stretch → IsRowAt stretch at row
    → AddsSaid before now row false → Leads old before stretch at → AddsStretch old now stretch (Some (slice_index_or stretch at d).number)
ends_at old before now stretch at d row within is adds leads text left reached =
    let line = slice_index_or stretch at d in
    bad_line add_row HoldsRows (answer_rows text) _ _ line.number line.text.now before now (lines_at stretch at d left within) (adds line.text.now (sym (is.says d within))) (leads text left reached)

pub all_added : (old now : Held) (stretch : List Line) (at : ℕ) → at ≡ length stretch → Leads old now stretch at → AddsStretch old now stretch None
all_added old now stretch at e leads text left reached =
    subst (λ (ls : List Line). Reached text (lines_of ls ++ left) now) (ap (λ n. drop n stretch) e ∙ drop_all (length stretch) stretch (omega arith)) (leads text left reached)

-- the same of the row that the code takes
pub taken_leads_on : (old before now : Held) (stretch : List Line) (rows : List (Option Row)) (at : ℕ) (d : Line) (row : Option Row) (added : Bool) → at < length stretch → AreRows stretch rows
    → row ≡ slice_index_or rows at row → added ≡ true → AddsSaid before now row added → Leads old before stretch at → Leads old now stretch (at + 1)
taken_leads_on old before now stretch rows at d row true within read is e adds leads =
    leads_on old before now stretch at d row within (subst (IsRowAt stretch at) (sym is) (read.each at row within)) adds leads
taken_leads_on old before now stretch rows at d row false within read is e adds leads = absurd (cc)

pub taken_ends_at : (old before now : Held) (stretch : List Line) (rows : List (Option Row)) (at : ℕ) (d : Line) (row : Option Row) (added : Bool) → at < length stretch → AreRows stretch rows
    → row ≡ slice_index_or rows at row → added ≡ false → AddsSaid before now row added → Leads old before stretch at → AddsStretch old now stretch (Some (slice_index_or stretch at d).number)
taken_ends_at old before now stretch rows at d row true within read is e adds leads = absurd (cc)
taken_ends_at old before now stretch rows at d row false within read is e adds leads =
    ends_at old before now stretch at d row within (subst (IsRowAt stretch at) (sym is) (read.each at row within)) adds leads

-- ---- a file, stretch by stretch

reached_next : (text : List ℕ) (before left : List (ℕ × List ℕ)) (stretch : List Line) (held : Held) → IsNext before stretch left → Reached text before held
    → Reached text (lines_of stretch ++ left) held
reached_next text before left stretch held next reached = subst (λ (ls : List (ℕ × List ℕ)). Reached text ls held) next.lines reached

pub stretch_added : (text : List ℕ) (before left : List (ℕ × List ℕ)) (stretch : List Line) (old new : Held) → IsNext before stretch left → Reached text before old
    → AddsStretch old new stretch None → Reached text left new
stretch_added text before left stretch old new next reached adds = adds text left (reached_next text before left stretch old next reached)

pub stretch_bad : (text : List ℕ) (before left : List (ℕ × List ℕ)) (stretch : List Line) (old new : Held) (number : ℕ) → IsNext before stretch left → Reached text before old
    → AddsStretch old new stretch (Some number) → answer_rows text ≡ Err number
stretch_bad text before left stretch old new number next reached adds = adds text left (reached_next text before left stretch old next reached)

pub no_more : (text : List ℕ) (before left : List (ℕ × List ℕ)) (stretch : List Line) (held : Held) → stretch ≡ [] → IsNext before stretch left → Reached text before held
    → AnswersOf text held
no_more text before left stretch held e next reached =
    all_read text before held (next.lines ∙ ap (λ (s : List Line). lines_of s ++ left) e ∙ next.last e) reached

-- fewer lines are left after a stretch that has some
pub fewer_left : (before left : List (ℕ × List ℕ)) (stretch : List Line) → IsNext before stretch left → 0 < length stretch → length left < length before
fewer_left before left stretch next some =
    let e : length before ≡ length (lines_of stretch) + length left = ap length next.lines ∙ length-append (lines_of stretch) left in
    let n : length (lines_of stretch) ≡ length stretch = length-map stretch (λ (line : Line). (line.number, line.text.now)) in
    omega arith

-- the same of the slice that the code lends
pub taken_bad : (text : List ℕ) (before left : List (ℕ × List ℕ)) (stretch lent : List Line) (old new : Held) (bad : Option ℕ) (number : ℕ) → lent ≡ stretch → bad ≡ Some number
    → IsNext before stretch left → Reached text before old → AddsStretch old new lent bad → answer_rows text ≡ Err number
taken_bad text before left stretch lent old new None number same e next reached adds = absurd (cc)
taken_bad text before left stretch lent old new (Some first) number same e next reached adds =
    stretch_bad text before left stretch old new first next reached (subst (λ (s : List Line). AddsStretch old new s (Some first)) same adds) ∙ ap Err (some_same e)
  where
    some_same : Some first ≡ Some number → first ≡ number
    some_same e = cc
