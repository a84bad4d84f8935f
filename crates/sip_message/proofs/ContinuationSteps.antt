-- Lines begin with a continuation exactly if their bytes begin with a blank.
use Rattle.std.proofs.Common.{◌≡◌, ℕ, Bool, true, false, ◌==◌, cond, List, [], ◌∷◌, refl, ◌∙◌, subst, arith}
use Rattle.std.proofs.lemmas.Bool.Decides.{nat_tests}
use Rattle.text_grammar.specs.Line.{pieces, onto_first}
use Rattle.text_grammar.specs.Bytes.{is_blank}
use Rattle.sip_message.specs.Lines.{LineView, behind_continuations, continuations, is_continuation, lines_from}
use Rattle.sip_message.proofs.LineSteps.{stripped_first}

-- the first line, if there is one, continues no field
abbrev Stops : List LineView → Type 0
Stops lines = (continuations lines ≡ []) × (behind_continuations lines ≡ lines)

stops_at : (line : LineView) (others : List LineView) → is_continuation line.text ≡ false → Stops (line ∷ others)
stops_at line others e = (rw e refl, rw e refl)

onto : (place b : ℕ) (ps : List (List ℕ)) → is_blank b ≡ false → Stops (lines_from place (onto_first b ps))
onto place b [] e = (refl, refl)
onto place b (p ∷ ps) e = stops_at _ _ (stripped_first b p ∙ e)

stops_by : (place b : ℕ) (bs : List ℕ) (t : Bool) → (b == 10) ≡ t → is_blank b ≡ false → Stops (lines_from place (cond t ([] ∷ pieces bs) (onto_first b (pieces bs))))
stops_by place b bs true e h = (refl, refl)
stops_by place b bs false e h = onto place b (pieces bs) h

stops : (place : ℕ) (bytes : List ℕ) → is_continuation bytes ≡ false → Stops (lines_from place (pieces bytes))
stops place [] h = (refl, refl)
stops place (b ∷ bs) h = stops_by place b bs (b == 10) refl h

pub stops_here : (place : ℕ) (bytes : List ℕ) (lines : List LineView) → lines_from place (pieces bytes) ≡ lines → is_continuation bytes ≡ false
    → (continuations lines ≡ []) × (behind_continuations lines ≡ lines)
stops_here place bytes lines e h = subst Stops e (stops place bytes h)

-- the first line continues a field
abbrev Begins : List LineView → Type 0
Begins [] = Unit {0}
Begins (line ∷ others) = is_continuation line.text ≡ true

onto_begins : (place b : ℕ) (ps : List (List ℕ)) → is_blank b ≡ true → Begins (lines_from place (onto_first b ps))
onto_begins place b [] e = tt
onto_begins place b (p ∷ ps) e = stripped_first b p ∙ e

begins_by : (place b : ℕ) (bs : List ℕ) (t : Bool) → (b == 10) ≡ t → is_blank b ≡ true → Begins (lines_from place (cond t ([] ∷ pieces bs) (onto_first b (pieces bs))))
begins_by place b bs true e h = absurd (grind (arith, nat_tests))
begins_by place b bs false e h = onto_begins place b (pieces bs) h

begins : (place : ℕ) (bytes : List ℕ) → is_continuation bytes ≡ true → Begins (lines_from place (pieces bytes))
begins place [] h = absurd cc
begins place (b ∷ bs) h = begins_by place b bs (b == 10) refl h

pub begins_here : (place : ℕ) (bytes : List ℕ) (line : LineView) (others : List LineView) → lines_from place (pieces bytes) ≡ line ∷ others → is_continuation bytes ≡ true
    → (continuations (line ∷ others) ≡ line.text ∷ continuations others) × (behind_continuations (line ∷ others) ≡ behind_continuations others)
begins_here place bytes line others e h =
    let b : is_continuation line.text ≡ true = subst Begins e (begins place bytes h) in
    (rw b refl, rw b refl)
