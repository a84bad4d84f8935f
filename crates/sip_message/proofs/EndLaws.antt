-- The end of a head that was read is the place of its first empty line.
use Rattle.std.proofs.Common.{◌≡◌, ℕ, ◌≤◌, Bool, true, false, nat_le, ◌&&◌, List, [], ◌∷◌, ◌++◌, length, Option, Some, None, Result, Ok, Err, IfOk, refl, sym, ap, ◌∙◌, arith}
use Rattle.std.proofs.lemmas.Bool.{and_parts}
use Rattle.std.proofs.lemmas.Bool.Decides.{nat_tests}
use Rattle.text_grammar.specs.Bytes.{is_empty}
use Rattle.sip_message.specs.Added.{end_of, head_end}
use Rattle.sip_message.specs.Lines.{LineView, continuations, is_continuation, lines_of}
use Rattle.sip_message.specs.Reading.{HeadView, PlacedField, fault, field_at, fields_after, or_fault}
use Rattle.sip_message.specs.StartLine.{start_line}
use Rattle.sip_message.specs.declared.fault.FormFault.{FormFault}
use Rattle.sip_message.specs.declared.fault.MessageFault.{MessageFault}
use Rattle.sip_message.specs.declared.message.Parts.{Parts}
use Rattle.sip_message.proofs.PlaceLaws.{are_within, within}

-- ---- the end that is read

abbrev Ends : ℕ → List LineView → Type 0
Ends size lines = (inside : Bool) (fields : List PlacedField) (head : HeadView) → fields_after size inside fields lines ≡ Ok head → head.end ≡ end_of lines

ok_end : (fields : List PlacedField) (place : ℕ) (head : HeadView) → ◌≡◌ {A = Result HeadView FormFault} (Ok (record { fields = fields; end = place })) (Ok head) → head.end ≡ place
ok_end fields place head e = let same : head ≡ record { fields = fields; end = place } = cc in ap (λ (h : HeadView). h.end) same

field_by : (size : ℕ) (fields : List PlacedField) (line : LineView) (others : List LineView) (head : HeadView) (found : Option PlacedField) → Ends size others
    → or_fault (fault 3 line.place) (λ field. fields_after size true (fields ++ field ∷ []) others) found ≡ Ok head → head.end ≡ end_of others
field_by size fields line others head None below h = absurd cc
field_by size fields line others head (Some field) below h = below true (fields ++ field ∷ []) head h

line_by : (size : ℕ) (inside : Bool) (fields : List PlacedField) (line : LineView) (others : List LineView) (head : HeadView) (empty goes : Bool) → Ends size others
    → is_empty line.text ≡ empty → (inside && is_continuation line.text) ≡ goes → fields_after size inside fields (line ∷ others) ≡ Ok head → head.end ≡ end_of (line ∷ others)
line_by size inside fields line others head true goes below e g h =
    let here : ◌≡◌ {A = Result HeadView FormFault} (Ok (record { fields = fields; end = line.place })) (Ok head) = rw e at h in
    rw e (ok_end fields line.place head here)
line_by size inside fields line others head false true below e g h =
    let on : fields_after size true fields others ≡ Ok head = rw (e, g) at h in
    rw e (below true fields head on)
line_by size inside fields line others head false false below e g h =
    let on : or_fault (fault 3 line.place) (λ field. fields_after size true (fields ++ field ∷ []) others) (field_at line (continuations others)) ≡ Ok head = rw (e, g) at h in
    rw e (field_by size fields line others head (field_at line (continuations others)) below on)

ends : (size : ℕ) (lines : List LineView) → Ends size lines
ends size [] = λ inside fields head h. absurd cc
ends size (line ∷ others) =
    λ inside fields head h. line_by size inside fields line others head (is_empty line.text) (inside && is_continuation line.text) (ends size others) refl refl h

begins : (text : List ℕ) (start : List ℕ × List ℕ) → start_line text ≡ Some start → is_empty text ≡ false
begins [] start e = absurd cc
begins (b ∷ bs) start e = refl

-- the end of a head that comes after the start line
pub end_read : (bytes : List ℕ) (size : ℕ) (first : LineView) (others : List LineView) (start : List ℕ × List ℕ) (head : HeadView) → lines_of bytes ≡ first ∷ others
    → start_line first.text ≡ Some start → fields_after size false [] others ≡ Ok head → head.end ≡ head_end bytes
end_read bytes size first others start head lines started read =
    let some = begins first.text start started in
    let past : end_of (first ∷ others) ≡ end_of others = rw some refl in
    ends size others false [] head read ∙ sym past ∙ sym (ap end_of lines)

-- the same of a result
pub ended : (result : Result Parts MessageFault) (end all : ℕ) → IfOk result (λ parts. parts.end ≡ end) → end ≡ all → IfOk result (λ parts. parts.end ≡ all)
ended (Ok parts) end all is same = is ∙ same
ended (Err fault) end all is same = tt

-- ---- it is within the bytes

end_by : (most : ℕ) (line : LineView) (others : List LineView) (empty : Bool) → is_empty line.text ≡ empty → nat_le line.place most ≡ true → end_of others ≤ most
    → end_of (line ∷ others) ≤ most
end_by most line others true e here below = let low : line.place ≤ most = grind (arith, nat_tests) in rw e low
end_by most line others false e here below = rw e below

ends_within : (most : ℕ) (lines : List LineView) → are_within most lines ≡ true → end_of lines ≤ most
ends_within most [] h = omega arith
ends_within most (line ∷ others) h =
    let p = and_parts (nat_le line.place most) (are_within most others) h in
    end_by most line others (is_empty line.text) refl p.0 (ends_within most others p.1)

pub end_within : (bytes : List ℕ) (end : ℕ) → end ≡ head_end bytes → end ≤ length bytes
end_within bytes end is = let low = ends_within (length bytes) (lines_of bytes) (within bytes) in omega (arith, is, low)
