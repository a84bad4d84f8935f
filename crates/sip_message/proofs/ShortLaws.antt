-- No value of a message is longer than all bytes that are read, of which 65,535 are the most: the LF of a line makes room for the space that joins it.
use Rattle.std.proofs.Common.{◌≡◌, ℕ, zero, suc, ◌+◌, ◌-◌, ◌≤◌, Bool, true, false, not, cond, List, [], ◌∷◌, ◌++◌, length, map, filter, take, reverse, slice_index_or, Result, Ok, Err, IfOk, ap, sym, subst, arith}
use Rattle.std.specs.Str.Lines.{strip_carriage_return}
use Rattle.std.proofs.lemmas.Grind.{common_steps}
use Rattle.std.proofs.lemmas.List.{length-append, length-reverse}
use Rattle.text_grammar.specs.Line.{pieces}
use Rattle.sip_message.specs.declared.fault.MessageFault.{MessageFault}
use Rattle.sip_message.specs.Accessors.{identities, values}
use Rattle.sip_message.specs.FieldLine.{IsFieldLine}
use Rattle.sip_message.specs.Group.{AreGroups, Begins, Group, field_of, lines_of_groups}
use Rattle.sip_message.specs.Head.{Head}
use Rattle.text_grammar.specs.Bytes.{is_blank, is_empty}
use Rattle.sip_message.specs.Lines.{LineView, lines_from, lines_of}
use Rattle.sip_message.specs.Message.{FieldView, MessageView}
use Rattle.sip_message.specs.Names.{is_identity}
use Rattle.sip_message.specs.Reading.{read}
use Rattle.sip_message.specs.Seen.{Gives}
use Rattle.sip_message.specs.Short.{AreShort}
use Rattle.sip_message.specs.Value.{joined, trimmed, trimmed_front, value_of}
use Rattle.sip_message.proofs.FormLaws.{read_found}
use Rattle.sip_message.proofs.PlaceLaws.{total, total_pieces}

-- ---- a value and its parts

front_by : (b : ℕ) (bs : List ℕ) (t : Bool) → length (trimmed_front bs) ≤ length bs → length (cond t (trimmed_front bs) (b ∷ bs)) ≤ length (b ∷ bs)
front_by b bs true below = omega arith
front_by b bs false below = omega arith

front_short : (text : List ℕ) → length (trimmed_front text) ≤ length text
front_short [] = omega arith
front_short (b ∷ bs) = front_by b bs (is_blank b) (front_short bs)

trimmed_short : (text : List ℕ) → length (trimmed text) ≤ length text
trimmed_short text =
    let front = trimmed_front text in
    omega (arith, length-reverse (trimmed_front (reverse front)), front_short (reverse front), length-reverse front, front_short text)

joined_short : (parts : List (List ℕ)) → length (joined parts) ≤ total parts
unfolding total
joined_short [] = omega arith
joined_short (part ∷ []) = omega arith
joined_short (part ∷ second ∷ others) = omega (arith, length-append part (32 ∷ joined (second ∷ others)), joined_short (second ∷ others))

abbrev kept : List (List ℕ) → List (List ℕ)
kept texts = filter (λ part. not (is_empty part)) (map trimmed texts)

kept_by : (text : List ℕ) (others : List (List ℕ)) (t : Bool) → total (kept others) ≤ total others → total (cond t (trimmed text ∷ kept others) (kept others)) ≤ total (text ∷ others)
unfolding total
kept_by text others true below = omega (arith, trimmed_short text)
kept_by text others false below = omega arith

kept_short : (texts : List (List ℕ)) → total (kept texts) ≤ total texts
unfolding total
kept_short [] = omega arith
kept_short (text ∷ others) = kept_by text others (not (is_empty (trimmed text))) (kept_short others)

value_short : (rest : List ℕ) (continued : List (List ℕ)) → length (value_of rest continued) ≤ total (rest ∷ continued)
value_short rest continued = omega (arith, joined_short (kept (rest ∷ continued)), kept_short (rest ∷ continued))

-- ---- the lines and the bytes

abbrev texts : List LineView → List (List ℕ)
texts lines = map (λ (line : LineView). line.text) lines

stripped_by : (piece : List ℕ) (t : Bool) → length (cond t (take (length piece - 1) piece) piece) ≤ length piece
stripped_by piece true = grind (arith, common_steps)
stripped_by piece false = omega arith

stripped_short : (piece : List ℕ) → length (strip_carriage_return piece) ≤ length piece
stripped_short piece = stripped_by piece _

from_pieces : (place : ℕ) (ps : List (List ℕ)) → total (texts (lines_from place ps)) ≤ total ps
unfolding total
from_pieces place [] = omega arith
from_pieces place (p ∷ ps) = omega (arith, stripped_short p, from_pieces (place + length p + 1) ps)

lines_short : (bytes : List ℕ) → total (texts (lines_of bytes)) ≤ length bytes
lines_short bytes = omega (arith, from_pieces 0 (pieces bytes), total_pieces bytes)

total_append : (xs ys : List LineView) → total (texts (xs ++ ys)) ≡ total (texts xs) + total (texts ys)
unfolding total
total_append [] ys = omega arith
total_append (x ∷ xs) ys = omega (arith, total_append xs ys)

-- ---- the fields

rest_short : (line name rest : List ℕ) → IsFieldLine line name rest → length rest ≤ length line
rest_short line name rest i = omega (arith, ap length i.text, length-append name (i.blanks ++ 58 ∷ rest), length-append i.blanks (58 ∷ rest))

groups_short : (groups : List Group) → AreGroups groups → total (texts (lines_of_groups groups)) ≤ 65535 → AreShort (map field_of groups)
unfolding total
groups_short [] g h = tt
groups_short (group ∷ others) g h =
    let parts = total_append group.continued (lines_of_groups others) in
    let value = value_short group.rest (texts group.continued) in
    let rest = rest_short group.first.text group.name group.rest g.0.first_ok in
    (omega arith, groups_short others g.1 (omega arith))

begun_short : (bytes method uri : List ℕ) (groups : List Group) (left : List LineView) → Begins bytes method uri groups left → AreShort (map field_of groups)
unfolding total
begun_short bytes method uri groups left b =
    let all = ap (λ (x : List LineView). total (texts x)) b.lines in
    groups_short groups b.groups_ok (omega (arith, b.short, lines_short bytes, total_append (lines_of_groups groups) left))

head_short : (bytes : List ℕ) (message : MessageView) → Head bytes message → AreShort message.fields
head_short bytes message h = subst AreShort (sym h.fields) (begun_short bytes message.method message.uri h.groups (h.empty ∷ h.body) h.begins)

-- so no value of what is read is longer
pub read_short : (bytes : List ℕ) (message : MessageView) → read bytes ≡ Ok message → AreShort message.fields
read_short bytes message e = head_short bytes message (read_found bytes message e)

pub answers_short : (bytes : List ℕ) (answer : Result MessageView MessageFault) → Gives (λ (message : MessageView). message) answer (read bytes) → IfOk answer (λ message. AreShort message.fields)
answers_short bytes (Ok message) r = head_short bytes message (read_found bytes message r)
answers_short bytes (Err fault) r = tt

-- ---- the Identity values

values_by : (test : List ℕ → Bool) (field : FieldView) (others : List FieldView) (t : Bool) (i : ℕ) → length field.value ≤ 65535
    → ((k : ℕ) → length (slice_index_or (values test others) k []) ≤ 65535)
    → length (slice_index_or (map (λ (f : FieldView). f.value) (cond t (field ∷ filter (λ (f : FieldView). test f.name) others) (filter (λ (f : FieldView). test f.name) others))) i []) ≤ 65535
values_by test field others true zero here below = here
values_by test field others true (suc i) here below = below i
values_by test field others false i here below = below i

values_short : (test : List ℕ → Bool) (fields : List FieldView) (i : ℕ) → AreShort fields → length (slice_index_or (values test fields) i []) ≤ 65535
values_short test [] i h = omega arith
values_short test (field ∷ others) i h = values_by test field others (test field.name) i h.0 (λ k. values_short test others k h.1)

-- so no Identity value is longer, nor the empty text in place of one that is not there
pub identity_short : (message : MessageView) (i : ℕ) → AreShort message.fields → length (slice_index_or (identities message) i []) ≤ 65535
identity_short message i h = values_short is_identity message.fields i h
