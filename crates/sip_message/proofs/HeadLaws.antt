-- What is read of the bytes is the one message that they say, or their first fault.
use Rattle.std.proofs.Common.{◌≡◌, ℕ, nat_le, Bool, true, false, List, [], ◌∷◌, ◌++◌, length, map, filter, Option, Some, None, Result, Ok, Err, ◌⊎◌, inl, inr, refl, ap, ◌∙◌, sym, arith, append_assoc, if◌then◌else◌}
use Rattle.std.specs.List.{list_all}
use Rattle.std.proofs.lemmas.Bool.Decides.{nat_tests}
use Rattle.std.proofs.lemmas.List.{append-nil}
use Rattle.sip_message.specs.declared.fault.FormFault.{FormFault}
use Rattle.sip_message.specs.FieldLine.{field_line}
use Rattle.sip_message.specs.Form.{place_of_surplus}
use Rattle.sip_message.specs.Group.{AreGroups, Begins, Group, IsGroup, field_of, lines_of_groups}
use Rattle.sip_message.specs.Head.{Head}
use Rattle.text_grammar.specs.Bytes.{is_empty}
use Rattle.sip_message.specs.Lines.{LineView, behind_continuations, continuations, is_continuation}
use Rattle.sip_message.specs.Message.{FieldView, MessageView}
use Rattle.sip_message.specs.Names.{is_from, is_to}
use Rattle.sip_message.specs.Reading.{HeadView, PlacedField, checked, fault, field_at, fields_after, placed_named, read, surplus, surplus_of}
use Rattle.sip_message.specs.StartLine.{start_line}
use Rattle.sip_message.proofs.FieldLineLaws.{field_first, field_found, field_only}
use Rattle.sip_message.proofs.HeadSteps.{skipped}
use Rattle.sip_message.proofs.StartLaws.{start_only}
use Rattle.std.proofs.lemmas.Bool.{and_parts}

abbrev text_of : LineView → List ℕ
text_of line = line.text

abbrev continues : LineView → Bool
continues line = is_continuation line.text

abbrev pub placed_of : Group → PlacedField
placed_of group = record { place = group.first.place; field = field_of group }

-- ---- what is read after the start line, given the groups

-- the first line, if there is one, is no continuation
abbrev pub NoneInFront : List LineView → Type 0
NoneInFront [] = Unit {0}
NoneInFront (line ∷ others) = is_continuation line.text ≡ false

-- what ends the groups: nothing, an empty line, or a line that is none of theirs
abbrev pub Ends : List LineView → Type 0
Ends [] = Unit {0}
Ends (line ∷ others) = (is_empty line.text ≡ true) ⊎ ((is_empty line.text ≡ false) × (◌≡◌ {A = Option (List ℕ × List ℕ)} (field_line line.text) None))

abbrev pub ended : ℕ → List PlacedField → List LineView → Result HeadView FormFault
ended all fields [] = Err (fault 4 all)
ended all fields (line ∷ others) = if is_empty line.text then Ok (record { fields = fields; end = line.place }) else Err (fault 3 line.place)

continued_by : (line : LineView) (lines rest : List LineView) → (list_all continues lines ≡ true → (continuations (lines ++ rest) ≡ map text_of lines) × (behind_continuations (lines ++ rest) ≡ rest))
    → list_all continues (line ∷ lines) ≡ true → (continuations (line ∷ (lines ++ rest)) ≡ map text_of (line ∷ lines)) × (behind_continuations (line ∷ (lines ++ rest)) ≡ rest)
continued_by line lines rest below h =
    let t = and_parts (continues line) (list_all continues lines) h in
    let b = below t.1 in
    (rw t.0 (ap (λ x. line.text ∷ x) b.0), rw t.0 b.1)

none_continued : (rest : List LineView) → NoneInFront rest → (continuations rest ≡ []) × (behind_continuations rest ≡ rest)
none_continued [] n = (refl, refl)
none_continued (line ∷ others) n = (rw n refl, rw n refl)

continued : (lines rest : List LineView) → NoneInFront rest → list_all continues lines ≡ true
    → (continuations (lines ++ rest) ≡ map text_of lines) × (behind_continuations (lines ++ rest) ≡ rest)
continued [] rest n h = none_continued rest n
continued (line ∷ lines) rest n h = continued_by line lines rest (continued lines rest n) h

groups_in_front : (groups : List Group) (left : List LineView) → AreGroups groups → NoneInFront left → NoneInFront (lines_of_groups groups ++ left)
groups_in_front [] left g n = n
groups_in_front (group ∷ others) left g n = (field_first group.first.text group.name group.rest g.0.first_ok).1

end_by : (all : ℕ) (fields : List PlacedField) (line : LineView) (others : List LineView) → Ends (line ∷ others)
    → fields_after all false fields (line ∷ others) ≡ ended all fields (line ∷ others)
end_by all fields line others (inl e) = rw e refl
end_by all fields line others (inr e) = rw (e.0, e.1) refl

at_end : (all : ℕ) (fields : List PlacedField) (left : List LineView) → Ends left → fields_after all false fields left ≡ ended all fields left
at_end all fields [] e = refl
at_end all fields (line ∷ others) e = end_by all fields line others e

walk_by : (all : ℕ) (fields : List PlacedField) (group : Group) (rest : List LineView) → IsGroup group → NoneInFront rest
    → fields_after all false fields (group.first ∷ (group.continued ++ rest)) ≡ fields_after all false (fields ++ placed_of group ∷ []) rest
walk_by all fields group rest g n =
    let c = continued group.continued rest n g.continued_ok in
    let f = field_first group.first.text group.name group.rest g.first_ok in
    let l : field_line group.first.text ≡ Some (group.name, group.rest) = field_only group.first.text group.name group.rest g.first_ok in
    let one : field_at group.first (continuations (group.continued ++ rest)) ≡ Some (placed_of group) = rw (l, c.0) refl in
    let some : is_empty group.first.text ≡ false = f.0 in
    rw (some, one) (skipped all (fields ++ placed_of group ∷ []) (group.continued ++ rest) ∙ ap (fields_after all false (fields ++ placed_of group ∷ [])) c.1)

-- after a group no continuation is left
abbrev pub Behind : List Group → List LineView → Type 0
Behind [] left = Unit {0}
Behind (group ∷ others) left = NoneInFront left

behind_all : (groups : List Group) (left : List LineView) → NoneInFront left → Behind groups left
behind_all [] left n = tt
behind_all (group ∷ others) left n = n

-- the groups are read one by one
walk : (all : ℕ) (fields : List PlacedField) (groups : List Group) (left : List LineView) → AreGroups groups → Ends left → Behind groups left
    → fields_after all false fields (lines_of_groups groups ++ left) ≡ ended all (fields ++ map placed_of groups) left
walk all fields [] left g e n = at_end all fields left e ∙ ap (λ x. ended all x left) (sym (append-nil fields))
walk all fields (group ∷ others) left g e n =
    ap (λ (x : List LineView). fields_after all false fields (group.first ∷ x)) (append_assoc group.continued (lines_of_groups others) left)
    ∙ walk_by all fields group (lines_of_groups others ++ left) g.0 (groups_in_front others left g.1 n)
    ∙ walk all (fields ++ placed_of group ∷ []) others left g.1 e (behind_all others left n)
    ∙ ap (λ x. ended all x left) (append_assoc fields (placed_of group ∷ []) (map placed_of others))

-- ---- each list of lines is groups and what ends them

pub record Parsed (lines : List LineView) : Type 0 where
  pub front : List LineView
  pub groups : List Group
  pub left : List LineView
  pub split : lines ≡ front ++ (lines_of_groups groups ++ left)
  pub front_ok : list_all continues front ≡ true
  pub groups_ok : AreGroups groups
  pub none : NoneInFront left
  pub ends : Ends left

ends_by : (line : LineView) (others : List LineView) (t : Bool) → is_empty line.text ≡ t → ◌≡◌ {A = Option (List ℕ × List ℕ)} (field_line line.text) None → Ends (line ∷ others)
ends_by line others true e n = inl e
ends_by line others false e n = inr (e, n)

parse_by : (line : LineView) (others : List LineView) (t : Bool) (k : Option (List ℕ × List ℕ)) → is_continuation line.text ≡ t → field_line line.text ≡ k → Parsed others → Parsed (line ∷ others)
parse_by line others true k e h p =
    record { front = line ∷ p.front; groups = p.groups; left = p.left; split = ap (λ (x : List LineView). line ∷ x) p.split; front_ok = rw e p.front_ok; groups_ok = p.groups_ok; none = p.none; ends = p.ends }
parse_by line others false (Some parts) e h p =
    let group : Group = record { first = line; name = parts.0; rest = parts.1; continued = p.front } in
    record {
      front = [];
      groups = group ∷ p.groups;
      left = p.left;
      split = ap (λ (x : List LineView). line ∷ x) (p.split ∙ sym (append_assoc p.front (lines_of_groups p.groups) p.left));
      front_ok = refl;
      groups_ok = (record { first_ok = field_found line.text parts h; continued_ok = p.front_ok }, p.groups_ok);
      none = p.none;
      ends = p.ends;
    }
parse_by line others false None e h p =
    record { front = []; groups = []; left = line ∷ others; split = refl; front_ok = refl; groups_ok = tt; none = e; ends = ends_by line others (is_empty line.text) refl h }

pub parse : (lines : List LineView) → Parsed lines
parse [] = record { front = []; groups = []; left = []; split = refl; front_ok = refl; groups_ok = tt; none = tt; ends = tt }
parse (line ∷ others) = parse_by line others (is_continuation line.text) (field_line line.text) refl refl (parse others)

-- ---- From and To

pub one_or_not : (end : ℕ) (groups : List Group) → (length groups ≡ 1) ⊎ ((place : ℕ) × (place_of_surplus end groups ≡ Some place))
one_or_not end [] = inr (end, refl)
one_or_not end (one ∷ []) = inl (omega arith)
one_or_not end (one ∷ second ∷ others) = inr (second.first.place, refl)

pub one_none : (end : ℕ) (groups : List Group) → length groups ≡ 1 → ◌≡◌ {A = Option ℕ} (place_of_surplus end groups) None
one_none end [] h = absurd (omega arith)
one_none end (one ∷ []) h = refl
one_none end (one ∷ second ∷ others) h = absurd (omega arith)

surplus_same : (end : ℕ) (groups : List Group) → surplus_of end (map placed_of groups) ≡ place_of_surplus end groups
surplus_same end [] = refl
surplus_same end (one ∷ []) = refl
surplus_same end (one ∷ second ∷ others) = refl

named_by : (test : List ℕ → Bool) (group : Group) (groups : List Group) (t : Bool) → test group.name ≡ t
    → placed_named test (map placed_of groups) ≡ map placed_of (filter (λ (g : Group). test g.name) groups)
    → placed_named test (map placed_of (group ∷ groups)) ≡ map placed_of (filter (λ (g : Group). test g.name) (group ∷ groups))
named_by test group groups true e below = rw e (ap (λ (x : List PlacedField). placed_of group ∷ x) below)
named_by test group groups false e below = rw e below

named_same : (test : List ℕ → Bool) (groups : List Group) → placed_named test (map placed_of groups) ≡ map placed_of (filter (λ (g : Group). test g.name) groups)
named_same test [] = refl
named_same test (group ∷ groups) = named_by test group groups (test group.name) refl (named_same test groups)

pub surplus_is : (test : List ℕ → Bool) (groups : List Group) (end : ℕ)
    → surplus test (record { fields = map placed_of groups; end = end }) ≡ place_of_surplus end (filter (λ (g : Group). test g.name) groups)
surplus_is test groups end = ap (surplus_of end) (named_same test groups) ∙ surplus_same end (filter (λ (g : Group). test g.name) groups)

-- ---- what is read, given the groups

pub begun : (bytes method uri : List ℕ) (groups : List Group) (left : List LineView) → Begins bytes method uri groups left → Ends left → Behind groups left
    → read bytes ≡ checked (method, uri) (ended (length bytes) (map placed_of groups) left)
unfolding read
begun bytes method uri groups left b e n =
    let t : nat_le (length bytes) 65535 ≡ true = grind (arith, nat_tests, b.short) in
    let s : start_line b.start.text ≡ Some (method, uri) = start_only b.start.text method uri b.start_ok in
    rw (t, b.lines, s) (ap (checked (method, uri)) (walk (length bytes) [] groups left b.groups_ok e n))

pub empty_ends : (empty : LineView) (body : List LineView) → empty.text ≡ [] → Ends (empty ∷ body)
empty_ends empty body e = inl (ap is_empty e)

empty_behind : (groups : List Group) (empty : LineView) (body : List LineView) → empty.text ≡ [] → Behind groups (empty ∷ body)
empty_behind groups empty body e = behind_all groups (empty ∷ body) (ap is_continuation e)

-- with an empty line From and To are looked at
pub headed : (bytes method uri : List ℕ) (groups : List Group) (empty : LineView) (body : List LineView) → Begins bytes method uri groups (empty ∷ body) → empty.text ≡ []
    → read bytes ≡ checked (method, uri) (Ok (record { fields = map placed_of groups; end = empty.place }))
headed bytes method uri groups empty body b e =
    let t : is_empty empty.text ≡ true = ap is_empty e in
    let o : ended (length bytes) (map placed_of groups) (empty ∷ body) ≡ Ok (record { fields = map placed_of groups; end = empty.place }) = rw t refl in
    begun bytes method uri groups (empty ∷ body) b (empty_ends empty body e) (empty_behind groups empty body e)
    ∙ ap (checked (method, uri)) o

fields_same : (groups : List Group) → map (λ (placed : PlacedField). placed.field) (map placed_of groups) ≡ map field_of groups
fields_same [] = refl
fields_same (group ∷ groups) = ap (λ (x : List FieldView). field_of group ∷ x) (fields_same groups)

abbrev made : List ℕ → List ℕ → List FieldView → Result MessageView FormFault
made method uri fields = Ok (record { method = method; uri = uri; fields = fields })

-- each message is read
pub head_read : (bytes : List ℕ) (m : MessageView) → Head bytes m → read bytes ≡ Ok m
head_read bytes m h =
    let from_none : ◌≡◌ {A = Option ℕ} (surplus is_from (record { fields = map placed_of h.groups; end = h.empty.place })) None =
    surplus_is is_from h.groups h.empty.place ∙ one_none h.empty.place (filter (λ (g : Group). is_from g.name) h.groups) h.one_from in
    let to_none : ◌≡◌ {A = Option ℕ} (surplus is_to (record { fields = map placed_of h.groups; end = h.empty.place })) None =
    surplus_is is_to h.groups h.empty.place ∙ one_none h.empty.place (filter (λ (g : Group). is_to g.name) h.groups) h.one_to in
    headed bytes m.method m.uri h.groups h.empty h.body h.begins h.empty_ok
    ∙ rw (from_none, to_none) (ap (made m.method m.uri) (fields_same h.groups ∙ sym h.fields))
