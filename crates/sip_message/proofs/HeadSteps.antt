-- One field more: what the lines give after it is what they give with its lines before them.
use Rattle.std.proofs.Common.{◌≡◌, ℕ, ◌≤◌, ◌==◌, map, Bool, true, false, List, [], ◌∷◌, ◌++◌, length, Option, Some, None, Result, Ok, Err, refl, ap, ◌∙◌, sym, arith}
use Rattle.std.proofs.lemmas.Bool.Decides.{nat_tests}
use Rattle.std.proofs.lemmas.List.{map-append}
use Rattle.sip_message.specs.declared.field.Field.{Field}
use Rattle.sip_message.specs.declared.fault.FormFault.{FormFault}
use Rattle.text_grammar.specs.Bytes.{is_empty}
use Rattle.sip_message.specs.Lines.{LineView, behind_continuations, continuations, is_continuation}
use Rattle.sip_message.specs.Names.{is_from, is_to}
use Rattle.sip_message.specs.Message.{FieldView, MessageView}
use Rattle.sip_message.specs.Reading.{HeadView, PlacedField, fault, field_at, fields_after, message, surplus, unless_surplus}
use Rattle.sip_message.specs.Seen.{field_seen, placed_seen}

some_text : (text : List ℕ) → is_continuation text ≡ true → is_empty text ≡ false
some_text [] h = absurd cc
some_text (b ∷ bs) h = refl

pub empty_text : (text : List ℕ) → (length text == 0) ≡ true → is_empty text ≡ true
empty_text [] h = refl
empty_text (b ∷ bs) h = absurd (grind (arith, nat_tests))

pub not_empty : (text : List ℕ) → (length text == 0) ≡ false → is_empty text ≡ false
not_empty [] h = absurd (grind (arith, nat_tests))
not_empty (b ∷ bs) h = refl

skip_by : (size : ℕ) (fields : List PlacedField) (line : LineView) (others : List LineView) (t : Bool) → is_continuation line.text ≡ t
    → fields_after size true fields others ≡ fields_after size false fields (behind_continuations others)
    → fields_after size true fields (line ∷ others) ≡ fields_after size false fields (behind_continuations (line ∷ others))
skip_by size fields line others true e below = let some = some_text line.text e in rw (e, some) below
skip_by size fields line others false e below = rw e refl

-- after a field its continuations are passed over
pub skipped : (size : ℕ) (fields : List PlacedField) (lines : List LineView) → fields_after size true fields lines ≡ fields_after size false fields (behind_continuations lines)
skipped size fields [] = refl
skipped size fields (line ∷ others) = skip_by size fields line others (is_continuation line.text) refl (skipped size fields others)

pub field_read : (size : ℕ) (fields : List PlacedField) (line : LineView) (others : List LineView) (field : PlacedField) → (length line.text == 0) ≡ false
    → field_at line (continuations others) ≡ Some field
    → fields_after size false fields (line ∷ others) ≡ fields_after size false (fields ++ field ∷ []) (behind_continuations others)
field_read size fields line others field some e =
    let n = not_empty line.text some in
    rw (n, e) (skipped size (fields ++ field ∷ []) others)

pub field_missing : (size : ℕ) (fields : List PlacedField) (line : LineView) (others : List LineView) → (length line.text == 0) ≡ false
    → ◌≡◌ {A = Option PlacedField} (field_at line (continuations others)) None
    → fields_after size false fields (line ∷ others) ≡ Err (fault 3 line.place)
field_missing size fields line others some e = let n = not_empty line.text some in rw (n, e) refl

pub head_ended : (size : ℕ) (fields : List PlacedField) (line : LineView) (others : List LineView) → (length line.text == 0) ≡ true
    → fields_after size false fields (line ∷ others) ≡ Ok (record { fields = fields; end = line.place })
head_ended size fields line others none = let n = empty_text line.text none in rw n refl

shorter_by : (line : LineView) (others : List LineView) (t : Bool) → is_continuation line.text ≡ t → length (behind_continuations others) ≤ length others
    → length (behind_continuations (line ∷ others)) ≤ length (line ∷ others)
shorter_by line others true e below = rw e (omega arith)
shorter_by line others false e below = rw e (omega arith)

pub shorter : (lines : List LineView) → length (behind_continuations lines) ≤ length lines
shorter [] = omega arith
shorter (line ∷ others) = shorter_by line others (is_continuation line.text) refl (shorter others)

-- the same as the code has it
pub field_kept : (size : ℕ) (items items_now : List Field) (field : Field) (line : LineView) (lines others left : List LineView) (all : Result HeadView FormFault)
    → fields_after size false (map placed_seen items) lines ≡ all → lines ≡ line ∷ others → (length line.text == 0) ≡ false
    → field_at line (continuations others) ≡ Some (placed_seen field) → left ≡ behind_continuations others → items_now ≡ items ++ field ∷ []
    → fields_after size false (map placed_seen items_now) left ≡ all
field_kept size items items_now field line lines others left all e1 e2 some e3 e4 e5 =
    ap (λ (xs : List Field). fields_after size false (map placed_seen xs) left) e5
    ∙ ap (λ (xs : List PlacedField). fields_after size false xs left) (map-append placed_seen items (field ∷ []))
    ∙ ap (λ (xs : List LineView). fields_after size false (map placed_seen items ++ placed_seen field ∷ []) xs) e4
    ∙ sym (field_read size (map placed_seen items) line others (placed_seen field) some e3)
    ∙ ap (λ (xs : List LineView). fields_after size false (map placed_seen items) xs) (sym e2)
    ∙ e1

fields_seen : (items : List Field) → map (λ (placed : PlacedField). placed.field) (map placed_seen items) ≡ map field_seen items
fields_seen [] = refl
fields_seen (item ∷ items) = ap (λ xs. field_seen item ∷ xs) (fields_seen items)

abbrev made : List ℕ × List ℕ → List FieldView → Result MessageView FormFault
made start fields = Ok (record { method = start.0; uri = start.1; fields = fields })

-- a head with one From and one To is a message
pub accepted : (start : List ℕ × List ℕ) (items : List Field) (end : ℕ) (head : HeadView) → head ≡ record { fields = map placed_seen items; end = end }
    → ◌≡◌ {A = Option ℕ} (surplus is_from head) None → ◌≡◌ {A = Option ℕ} (surplus is_to head) None
    → unless_surplus 5 (surplus is_from head) (unless_surplus 6 (surplus is_to head) (Ok (message start head)))
    ≡ Ok (record { method = start.0; uri = start.1; fields = map field_seen items })
accepted start items end head e from to =
    rw (from, to) (ap (λ (h : HeadView). made start (map (λ (placed : PlacedField). placed.field) h.fields)) e ∙ ap (made start) (fields_seen items))
