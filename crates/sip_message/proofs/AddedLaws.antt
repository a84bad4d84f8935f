-- A message with one more line before the empty one is the same message with that line's field after all others.
use Rattle.std.proofs.Common.{◌≡◌, ℕ, ◌+◌, ◌-◌, ◌≤◌, ◌==◌, Bool, true, false, not, ◌||◌, ◌&&◌, nat_le, cond, List, [], ◌∷◌, ◌++◌, length, filter, take, drop, Result, Ok, Err, IfOk, IsTrue, refl, sym, ap, subst, ◌∙◌, arith, append_assoc, length-append}
use Rattle.std.specs.List.{list_all}
use Rattle.std.specs.Prelude.{slice_index}
use Rattle.std.specs.Str.{bytes_eq}
use Rattle.std.specs.Str.Lines.{strip_carriage_return}
use Rattle.std.proofs.lemmas.Bool.{and_parts, not-true, or_parts}
use Rattle.std.proofs.lemmas.Bool.Decides.{nat_tests}
use Rattle.std.proofs.lemmas.List.{map-append}
use Rattle.std.proofs.lemmas.List.Folds.{list_all-append}
use lib.Seq.{take-append_seam, drop-append_seam}
use Rattle.lists.proofs.Bytes.{all_append, bytes_same, each}
use Rattle.text_grammar.specs.Bytes.{is_empty, is_name_byte}
use Rattle.text_grammar.specs.Cut.{lacks}
use Rattle.text_grammar.specs.Line.{onto_first, pieces}
use Rattle.sip_message.specs.declared.fault.FormFault.{FormFault}
use Rattle.sip_message.specs.declared.fault.MessageFault.{MessageFault}
use Rattle.sip_message.specs.Added.{added, end_of, head_end, is_addable, is_field_value, sized_or_fault, with_last, with_line, with_line_at, written_field}
use Rattle.sip_message.specs.Group.{AreGroups, Group, IsGroup, field_of, lines_of_groups}
use Rattle.sip_message.specs.Head.{HasOne, Head}
use Rattle.sip_message.specs.HeadAlphabet.{is_name}
use Rattle.sip_message.specs.Lines.{LineView, is_continuation, lines_from, lines_of}
use Rattle.sip_message.specs.Message.{FieldView, MessageView}
use Rattle.sip_message.specs.Names.{is_from, is_to}
use Rattle.sip_message.specs.Reading.{fault, read}
use Rattle.sip_message.specs.Seen.{Gives}
use Rattle.sip_message.specs.StartLine.{IsStartLine}
use Rattle.sip_message.specs.Value.{trimmed, value_of}
use Rattle.sip_message.proofs.FieldLineLaws.{field_first}
use Rattle.sip_message.proofs.FormLaws.{read_found}
use Rattle.sip_message.proofs.HeadLaws.{head_read}
use Rattle.sip_message.proofs.LineSteps.{pieces_first}

-- ---- bytes and their pieces

-- the pieces, each with its LF
abbrev whole : List (List ℕ) → List ℕ
whole [] = []
whole (piece ∷ others) = piece ++ 10 ∷ whole others

abbrev AllLack : List (List ℕ) → Type 0
AllLack [] = Unit {0}
AllLack (piece ∷ others) = (lacks 10 piece ≡ true) × AllLack others

record InPieces (bytes : List ℕ) : Type 0 where
  tail : List ℕ
  split : bytes ≡ whole (pieces bytes) ++ tail
  all_lack : AllLack (pieces bytes)

-- a byte that is no LF before them
onto : (b : ℕ) (bs tail : List ℕ) (ps : List (List ℕ)) → (b == 10) ≡ false → bs ≡ whole ps ++ tail → AllLack ps
    → (rest : List ℕ) × (b ∷ bs ≡ whole (onto_first b ps) ++ rest) × AllLack (onto_first b ps)
onto b bs tail [] e s l = (b ∷ bs, refl, tt)
onto b bs tail (p ∷ ps) e s l = (tail, ap (λ x. b ∷ x) s, (rw e l.0, l.1))

in_pieces_by : (b : ℕ) (bs : List ℕ) (t : Bool) → (b == 10) ≡ t → InPieces bs
    → (tail : List ℕ) × (b ∷ bs ≡ whole (cond t ([] ∷ pieces bs) (onto_first b (pieces bs))) ++ tail) × AllLack (cond t ([] ∷ pieces bs) (onto_first b (pieces bs)))
in_pieces_by b bs true e k =
    let feed : b ≡ 10 = grind (arith, nat_tests) in
    (k.tail, ap (λ x. x ∷ bs) feed ∙ ap (λ x. 10 ∷ x) k.split, (refl, k.all_lack))
in_pieces_by b bs false e k = onto b bs k.tail (pieces bs) e k.split k.all_lack

in_pieces : (bytes : List ℕ) → InPieces bytes
in_pieces [] = record { tail = []; split = refl; all_lack = tt }
in_pieces (b ∷ bs) = let k = in_pieces_by b bs (b == 10) refl (in_pieces bs) in record { tail = k.0; split = k.1; all_lack = k.2 }

pieces_whole : (ps : List (List ℕ)) (rest : List ℕ) → AllLack ps → pieces (whole ps ++ rest) ≡ ps ++ pieces rest
pieces_whole [] rest l = refl
pieces_whole (p ∷ ps) rest l =
    ap pieces (append_assoc p (10 ∷ whole ps) rest)
    ∙ pieces_first p (whole ps ++ rest) l.0
    ∙ ap (λ (x : List (List ℕ)). p ∷ x) (pieces_whole ps rest l.1)

whole_append : (ps qs : List (List ℕ)) → whole (ps ++ qs) ≡ whole ps ++ whole qs
whole_append [] qs = refl
whole_append (p ∷ ps) qs = ap (λ x. p ++ 10 ∷ x) (whole_append ps qs) ∙ sym (append_assoc p (10 ∷ whole ps) (whole qs))

lack_front : (ps qs : List (List ℕ)) → AllLack (ps ++ qs) → AllLack ps × AllLack qs
lack_front [] qs l = (tt, l)
lack_front (p ∷ ps) qs l = let k = lack_front ps qs l.1 in ((l.0, k.0), k.1)

lines_append : (place : ℕ) (ps qs : List (List ℕ)) → lines_from place (ps ++ qs) ≡ lines_from place ps ++ lines_from (place + length (whole ps)) qs
lines_append place [] qs = let none : place + length (whole []) ≡ place = omega arith in rw none refl
lines_append place (p ∷ ps) qs =
    let far : (place + length p + 1) + length (whole ps) ≡ place + length (whole (p ∷ ps)) = omega (arith, length-append p (10 ∷ whole ps)) in
    ap (λ (x : List LineView). record { place = place; text = strip_carriage_return p } ∷ x)
    (lines_append (place + length p + 1) ps qs ∙ ap (λ n. lines_from (place + length p + 1) ps ++ lines_from n qs) far)

-- the pieces of lines with one among them
record Parted (place : ℕ) (ps : List (List ℕ)) (front : List LineView) (line : LineView) (behind : List LineView) : Type 0 where
  before : List (List ℕ)
  piece : List ℕ
  after : List (List ℕ)
  split : ps ≡ before ++ piece ∷ after
  front_ok : lines_from place before ≡ front
  text_ok : strip_carriage_return piece ≡ line.text
  place_ok : line.place ≡ place + length (whole before)

parted : (place : ℕ) (ps : List (List ℕ)) (front : List LineView) (line : LineView) (behind : List LineView) → lines_from place ps ≡ front ++ line ∷ behind
    → Parted place ps front line behind
parted place [] [] line behind e = absurd cc
parted place [] (first ∷ front) line behind e = absurd cc
parted place (p ∷ ps) [] line behind e =
    let same : ◌≡◌ {A = LineView} (record { place = place; text = strip_carriage_return p }) line = cc in
    let here : place ≡ line.place = ap (λ (l : LineView). l.place) same in
    record { before = []; piece = p; after = ps; split = refl; front_ok = refl; text_ok = ap (λ (l : LineView). l.text) same; place_ok = omega (arith, here) }
parted place (p ∷ ps) (first ∷ front) line behind e =
    let same : ◌≡◌ {A = LineView} (record { place = place; text = strip_carriage_return p }) first = cc in
    let others : lines_from (place + length p + 1) ps ≡ front ++ line ∷ behind = cc in
    let k = parted (place + length p + 1) ps front line behind others in
    record {
      before = p ∷ k.before;
      piece = k.piece;
      after = k.after;
      split = ap (λ (x : List (List ℕ)). p ∷ x) k.split;
      front_ok = ap (λ (l : LineView). l ∷ lines_from (place + length p + 1) k.before) same ∙ ap (λ (x : List LineView). first ∷ x) k.front_ok;
      text_ok = k.text_ok;
      place_ok = omega (arith, k.place_ok, length-append p (10 ∷ whole k.before));
    }

-- ---- the line of the field

last_is : (text : List ℕ) → slice_index (text ++ 13 ∷ []) (length text) ≡ 13
last_is [] = refl
last_is (b ∷ bs) = last_is bs

stripped : (text : List ℕ) → strip_carriage_return (text ++ 13 ∷ []) ≡ text
stripped text =
    let size : length (text ++ 13 ∷ []) - 1 ≡ length text = omega (arith, length-append text (13 ∷ [])) in
    rw (size, last_is text, take-append_seam text (13 ∷ [])) refl

abbrev line_text : List ℕ → List ℕ → List ℕ
line_text name value = name ++ 58 ∷ 32 ∷ value

-- the piece: the line with its CR
abbrev line_piece : List ℕ → List ℕ → List ℕ
line_piece name value = line_text name value ++ 13 ∷ []

as_piece : (name value rest : List ℕ) → written_field name value ++ rest ≡ line_piece name value ++ 10 ∷ rest
as_piece name value rest =
    append_assoc name (58 ∷ 32 ∷ (value ++ 13 ∷ 10 ∷ [])) rest
    ∙ ap (λ x. name ++ 58 ∷ 32 ∷ x) (append_assoc value (13 ∷ 10 ∷ []) rest)
    ∙ sym (append_assoc (line_text name value) (13 ∷ []) (10 ∷ rest) ∙ append_assoc name (58 ∷ 32 ∷ value) (13 ∷ 10 ∷ rest))

name_no_feed : (b : ℕ) → is_name_byte b ≡ true → not (b == 10) ≡ true
name_no_feed b h = grind (arith, nat_tests)

-- what is asked of the name and the value
record IsNewField (name value : List ℕ) : Type 0 where
  name_ok : is_name name ≡ true
  no_from : is_from name ≡ false
  no_to : is_to name ≡ false
  some : is_empty value ≡ false
  same : trimmed value ≡ value
  no_feed : lacks 10 value ≡ true

new_field : (name value : List ℕ) → IsTrue (is_addable name) → IsTrue (is_field_value value) → IsNewField name value
new_field name value n v =
    let p = and_parts (is_name name) (not (is_from name || is_to name)) n in
    let o = or_parts (is_from name) (is_to name) (not-true (is_from name || is_to name) p.1) in
    let a = and_parts (not (is_empty value) && bytes_eq (trimmed value) value && lacks 13 value) (lacks 10 value) v in
    let b = and_parts (not (is_empty value) && bytes_eq (trimmed value) value) (lacks 13 value) a.0 in
    let c = and_parts (not (is_empty value)) (bytes_eq (trimmed value) value) b.0 in
    record {
      name_ok = p.0;
      no_from = o.0;
      no_to = o.1;
      some = not-true (is_empty value) c.0;
      same = bytes_same (trimmed value) value c.1;
      no_feed = a.1;
    }

piece_lacks : (name value : List ℕ) → IsNewField name value → lacks 10 (line_piece name value) ≡ true
piece_lacks name value f =
    let bytes = (and_parts (not (is_empty name)) (list_all is_name_byte name) f.name_ok).1 in
    all_append (λ b. not (b == 10)) (line_text name value) (13 ∷ [])
    (all_append (λ b. not (b == 10)) name (58 ∷ 32 ∷ value) (each is_name_byte (λ b. not (b == 10)) name_no_feed name bytes) f.no_feed)
    refl

-- ---- its group

abbrev group_of : ℕ → List ℕ → List ℕ → Group
group_of place name value = record {
  first = record { place = place; text = line_text name value };
  name = name;
  rest = 32 ∷ value;
  continued = [];
}

is_group : (place : ℕ) (name value : List ℕ) → is_name name ≡ true → IsGroup (group_of place name value)
is_group place name value n = record {
  first_ok = record { blanks = []; name_ok = n; blanks_ok = refl; text = refl };
  continued_ok = refl;
}

-- the value is that which was given
value_by : (value : List ℕ) → trimmed value ≡ value → is_empty value ≡ false → value_of (32 ∷ value) [] ≡ value
value_by value same some =
    let one : trimmed (32 ∷ value) ≡ value = same in
    let kept : not (is_empty value) ≡ true = rw some refl in
    rw (one, kept) refl

abbrev named : List ℕ → List ℕ → FieldView
named name value = record { name = name; value = value }

group_field : (place : ℕ) (name value : List ℕ) → IsNewField name value → field_of (group_of place name value) ≡ named name value
group_field place name value f = ap (named name) (value_by value f.same f.some)

groups_more : (groups : List Group) (one : Group) → one.continued ≡ [] → lines_of_groups (groups ++ one ∷ []) ≡ lines_of_groups groups ++ one.first ∷ []
groups_more [] one e = ap (λ (x : List LineView). one.first ∷ (x ++ [])) e
groups_more (group ∷ others) one e =
    ap (λ (x : List LineView). group.first ∷ x)
    (ap (λ (x : List LineView). group.continued ++ x) (groups_more others one e) ∙ sym (append_assoc group.continued (lines_of_groups others) (one.first ∷ [])))

are_more : (groups : List Group) (one : Group) → AreGroups groups → IsGroup one → AreGroups (groups ++ one ∷ [])
are_more [] one g i = (i, tt)
are_more (group ∷ others) one g i = (g.0, are_more others one g.1 i)

filtered_by : (test : Group → Bool) (group : Group) (others : List Group) (one : Group) (t : Bool) → test group ≡ t
    → filter test (others ++ one ∷ []) ≡ filter test others → filter test (group ∷ (others ++ one ∷ [])) ≡ filter test (group ∷ others)
filtered_by test group others one true e below = rw e (ap (λ (x : List Group). group ∷ x) below)
filtered_by test group others one false e below = rw e below

filtered : (test : Group → Bool) (groups : List Group) (one : Group) → test one ≡ false → filter test (groups ++ one ∷ []) ≡ filter test groups
filtered test [] one e = rw e refl
filtered test (group ∷ others) one e = filtered_by test group others one (test group) refl (filtered test others one e)

one_more : (test : List ℕ → Bool) (groups : List Group) (one : Group) → test one.name ≡ false → HasOne test groups → HasOne test (groups ++ one ∷ [])
one_more test groups one e h = ap (λ (x : List Group). length x) (filtered (λ (group : Group). test group.name) groups one e) ∙ h

-- ---- the place

abbrev has_text : LineView → Bool
has_text line = not (is_empty line.text)

past_by : (line : LineView) (front : List LineView) (empty : LineView) (body : List LineView) → has_text line ≡ true
    → end_of (front ++ empty ∷ body) ≡ empty.place → end_of (line ∷ (front ++ empty ∷ body)) ≡ empty.place
past_by line front empty body some below = let e : is_empty line.text ≡ false = not-true (is_empty line.text) some in rw e below

end_past : (front : List LineView) (empty : LineView) (body : List LineView) → list_all has_text front ≡ true → empty.text ≡ [] → end_of (front ++ empty ∷ body) ≡ empty.place
end_past [] empty body h e = let none : is_empty empty.text ≡ true = ap is_empty e in rw none refl
end_past (line ∷ front) empty body h e =
    let t = and_parts (has_text line) (list_all has_text front) h in
    past_by line front empty body t.0 (end_past front empty body t.1 e)

continues_some : (text : List ℕ) → is_continuation text ≡ true → not (is_empty text) ≡ true
continues_some [] h = absurd cc
continues_some (b ∷ bs) h = refl

continued_some : (lines : List LineView) → list_all (λ (line : LineView). is_continuation line.text) lines ≡ true → list_all has_text lines ≡ true
continued_some [] h = refl
continued_some (line ∷ lines) h =
    let t = and_parts (is_continuation line.text) (list_all (λ (x : LineView). is_continuation x.text) lines) h in
    rw (continues_some line.text t.0, continued_some lines t.1) refl

some_append : (xs ys : List LineView) → list_all has_text xs ≡ true → list_all has_text ys ≡ true → list_all has_text (xs ++ ys) ≡ true
some_append xs ys h k = list_all-append has_text xs ys ∙ rw (h, k) refl

groups_some : (groups : List Group) → AreGroups groups → list_all has_text (lines_of_groups groups) ≡ true
groups_some [] g = refl
groups_some (group ∷ others) g =
    let first : is_empty group.first.text ≡ false = (field_first group.first.text group.name group.rest g.0.first_ok).0 in
    let rest = some_append group.continued (lines_of_groups others) (continued_some group.continued g.0.continued_ok) (groups_some others g.1) in
    rw (first, rest) refl

name_some : (name more : List ℕ) → is_name name ≡ true → is_empty (name ++ more) ≡ false
name_some [] more h = absurd cc
name_some (b ∷ bs) more h = refl

start_some : (line method uri : List ℕ) → IsStartLine line method uri → is_empty line ≡ false
start_some line method uri s = ap is_empty s.text ∙ name_some method (32 ∷ (uri ++ 32 ∷ s.version)) s.method_ok

abbrev head_lines : {bytes : List ℕ} {message : MessageView} → Head bytes message → List LineView
head_lines h = h.begins.start ∷ lines_of_groups h.groups

pub end_found : (bytes : List ℕ) (message : MessageView) (h : Head bytes message) → head_end bytes ≡ h.empty.place
end_found bytes message h =
    let start : is_empty h.begins.start.text ≡ false = start_some h.begins.start.text message.method message.uri h.begins.start_ok in
    let some : list_all has_text (head_lines h) ≡ true = rw (start, groups_some h.groups h.begins.groups_ok) refl in
    ap end_of h.begins.lines ∙ end_past (head_lines h) h.empty h.body some h.empty_ok

-- ---- the lines with the new one among them

record Grown (bytes : List ℕ) (front : List LineView) (empty : LineView) (name value out : List ℕ) : Type 0 where
  new_place : ℕ
  new_end : LineView
  body : List LineView
  lines : lines_of out ≡ front ++ record { place = new_place; text = line_text name value } ∷ new_end ∷ body
  ends : new_end.text ≡ empty.text

cut_front : (place : ℕ) (bytes front rest : List ℕ) → bytes ≡ front ++ rest → place ≡ length front → take place bytes ≡ front
cut_front place bytes front rest e n = ap (λ k. take k bytes) n ∙ ap (take (length front)) e ∙ take-append_seam front rest

cut_rest : (place : ℕ) (bytes front rest : List ℕ) → bytes ≡ front ++ rest → place ≡ length front → drop place bytes ≡ rest
cut_rest place bytes front rest e n = ap (λ k. drop k bytes) n ∙ ap (drop (length front)) e ∙ drop-append_seam front rest

grown : (bytes : List ℕ) (front : List LineView) (empty : LineView) (behind : List LineView) (name value : List ℕ) → IsNewField name value
    → lines_of bytes ≡ front ++ empty ∷ behind → Grown bytes front empty name value (with_line_at empty.place bytes name value)
grown bytes front empty behind name value f e =
    let i = in_pieces bytes in
    let p = parted 0 (pieces bytes) front empty behind e in
    let lacked = lack_front p.before (p.piece ∷ p.after) (subst AllLack p.split i.all_lack) in
    let rest : List ℕ = whole p.after ++ i.tail in
    let here : empty.place ≡ length (whole p.before) = omega (arith, p.place_ok) in
    let bytes_are : bytes ≡ whole p.before ++ (p.piece ++ 10 ∷ rest) =
    i.split ∙ ap (λ (x : List (List ℕ)). whole x ++ i.tail) p.split
    ∙ ap (λ x. x ++ i.tail) (whole_append p.before (p.piece ∷ p.after))
    ∙ append_assoc (whole p.before) (p.piece ++ 10 ∷ whole p.after) i.tail
    ∙ ap (λ x. whole p.before ++ x) (append_assoc p.piece (10 ∷ whole p.after) i.tail) in
    let out_is : with_line_at empty.place bytes name value ≡ whole p.before ++ (line_piece name value ++ 10 ∷ (p.piece ++ 10 ∷ rest)) =
    ap (λ x. x ++ (written_field name value ++ drop empty.place bytes)) (cut_front empty.place bytes (whole p.before) (p.piece ++ 10 ∷ rest) bytes_are here)
    ∙ ap (λ x. whole p.before ++ (written_field name value ++ x)) (cut_rest empty.place bytes (whole p.before) (p.piece ++ 10 ∷ rest) bytes_are here)
    ∙ ap (λ x. whole p.before ++ x) (as_piece name value (p.piece ++ 10 ∷ rest)) in
    let of_out : pieces (with_line_at empty.place bytes name value) ≡ p.before ++ line_piece name value ∷ p.piece ∷ pieces rest =
    ap pieces out_is
    ∙ pieces_whole p.before (line_piece name value ++ 10 ∷ (p.piece ++ 10 ∷ rest)) lacked.0
    ∙ ap (λ (x : List (List ℕ)). p.before ++ x) (pieces_first (line_piece name value) (p.piece ++ 10 ∷ rest) (piece_lacks name value f))
    ∙ ap (λ (x : List (List ℕ)). p.before ++ line_piece name value ∷ x) (pieces_first p.piece rest lacked.1.0) in
    let place : ℕ = 0 + length (whole p.before) in
    let next : ℕ = place + length (line_piece name value) + 1 in
    let end : LineView = record { place = next; text = strip_carriage_return p.piece } in
    let more : List LineView = lines_from (next + length p.piece + 1) (pieces rest) in
    record {
      new_place = place;
      new_end = end;
      body = more;
      lines = ap (lines_from 0) of_out
          ∙ lines_append 0 p.before (line_piece name value ∷ p.piece ∷ pieces rest)
          ∙ ap (λ (x : List LineView). x ++ record { place = place; text = strip_carriage_return (line_piece name value) } ∷ end ∷ more) p.front_ok
          ∙ ap (λ (x : List ℕ). front ++ record { place = place; text = x } ∷ end ∷ more) (stripped (line_text name value));
      ends = p.text_ok;
    }

-- ---- the message

with_field_head : (bytes name value : List ℕ) (message : MessageView) (h : Head bytes message) → IsNewField name value
    → length (with_line_at h.empty.place bytes name value) ≤ 65535 → Head (with_line_at h.empty.place bytes name value) (with_last message name value)
with_field_head bytes name value message h f short =
    let g = grown bytes (head_lines h) h.empty h.body name value f h.begins.lines in
    let one : Group = group_of g.new_place name value in
    record {
      groups = h.groups ++ one ∷ [];
      empty = g.new_end;
      body = g.body;
      begins = record {
        start = h.begins.start;
        short = short;
        lines = g.lines ∙ ap (λ (x : List LineView). h.begins.start ∷ x)
            (sym (ap (λ (x : List LineView). x ++ g.new_end ∷ g.body) (groups_more h.groups one refl) ∙ append_assoc (lines_of_groups h.groups) (one.first ∷ []) (g.new_end ∷ g.body)));
        start_ok = h.begins.start_ok;
        groups_ok = are_more h.groups one h.begins.groups_ok (is_group g.new_place name value f.name_ok);
      };
      empty_ok = g.ends ∙ h.empty_ok;
      one_from = one_more is_from h.groups one f.no_from h.one_from;
      one_to = one_more is_to h.groups one f.no_to h.one_to;
      fields = sym (map-append field_of h.groups (one ∷ [])
          ∙ ap (λ (x : List FieldView). x ++ field_of one ∷ []) (sym h.fields)
          ∙ ap (λ (x : FieldView). message.fields ++ x ∷ []) (group_field g.new_place name value f));
    }

-- ---- what is answered

sized_is : (out made : List ℕ) (t : Bool) → nat_le (length made) 65535 ≡ t → ◌≡◌ {A = Result (List ℕ) FormFault} (cond t (Ok made) (Err (fault 1 65535))) (Ok out)
    → (made ≡ out) × (length made ≤ 65535)
sized_is out made true e h = let same : made ≡ out = cc in (same, grind (arith, nat_tests, e))
sized_is out made false e h = absurd cc

added_is : (bytes name value out : List ℕ) (message : MessageView) → Head bytes message → added bytes name value ≡ Ok out
    → (with_line bytes name value ≡ out) × (length (with_line bytes name value) ≤ 65535)
unfolding added
added_is bytes name value out message h e =
    sized_is out (with_line bytes name value) (nat_le (length (with_line bytes name value)) 65535) refl
    (sym (ap (λ (r : Result MessageView FormFault). sized_or_fault r (with_line bytes name value)) (head_read bytes message h)) ∙ e)

record IsAdded (bytes name value out : List ℕ) (message : MessageView) (h : Head bytes message) : Type 0 where
  placed : out ≡ with_line_at h.empty.place bytes name value
  head : Head out (with_last message name value)

is_added : (bytes name value out : List ℕ) (message : MessageView) (h : Head bytes message) → IsTrue (is_addable name) → IsTrue (is_field_value value)
    → added bytes name value ≡ Ok out → IsAdded bytes name value out message h
is_added bytes name value out message h n v e =
    let a = added_is bytes name value out message h e in
    let here : with_line bytes name value ≡ with_line_at h.empty.place bytes name value = ap (λ k. with_line_at k bytes name value) (end_found bytes message h) in
    let placed : out ≡ with_line_at h.empty.place bytes name value = sym a.0 ∙ here in
    let short : length (with_line_at h.empty.place bytes name value) ≤ 65535 = subst (λ (x : List ℕ). length x ≤ 65535) here a.1 in
    record {
      placed = placed;
      head = subst (λ (x : List ℕ). Head x (with_last message name value)) (sym placed) (with_field_head bytes name value message h (new_field name value n v) short);
    }

pub answers_placed : {X : Type 0} (seen : X → List ℕ) (bytes name value : List ℕ) (answer : Result X MessageFault) → IsTrue (is_addable name) → IsTrue (is_field_value value)
    → Gives seen answer (added bytes name value) → (message : MessageView) (h : Head bytes message) → IfOk answer (λ out. seen out ≡ with_line_at h.empty.place bytes name value)
answers_placed seen bytes name value (Ok out) n v r message h = (is_added bytes name value (seen out) message h n v r).placed
answers_placed seen bytes name value (Err fault) n v r message h = tt

pub answers_added : {X : Type 0} (seen : X → List ℕ) (bytes name value : List ℕ) (answer : Result X MessageFault) → IsTrue (is_addable name) → IsTrue (is_field_value value)
    → Gives seen answer (added bytes name value) → (message : MessageView) → Head bytes message → IfOk answer (λ out. Head (seen out) (with_last message name value))
answers_added seen bytes name value (Ok out) n v r message h = (is_added bytes name value (seen out) message h n v r).head
answers_added seen bytes name value (Err fault) n v r message h = tt

pub answers_read : {X : Type 0} (seen : X → List ℕ) (bytes name value : List ℕ) (answer : Result X MessageFault) → IsTrue (is_addable name) → IsTrue (is_field_value value)
    → Gives seen answer (added bytes name value) → (message : MessageView) → read bytes ≡ Ok message → IfOk answer (λ out. read (seen out) ≡ Ok (with_last message name value))
answers_read seen bytes name value (Ok out) n v r message e =
    head_read (seen out) (with_last message name value) (is_added bytes name value (seen out) message (read_found bytes message e) n v r).head
answers_read seen bytes name value (Err fault) n v r message e = tt
