-- A message with another request URI is the same message but for it.
use Rattle.std.proofs.Common.{◌≡◌, ◌⊎◌, inl, inr, ℕ, suc, ◌+◌, ◌-◌, ◌≤◌, ◌==◌, Bool, true, false, not, ◌&&◌, nat_le, cond, List, [], ◌∷◌, ◌++◌, length, filter, map, take, drop, Result, Ok, Err, IfOk, IsTrue, refl, sym, ap, subst, ◌∙◌, arith, append_assoc, append-nil, length-append}
use Rattle.std.specs.List.{list_all}
use Rattle.std.specs.Prelude.{slice_index}
use Rattle.std.specs.Str.Lines.{strip_carriage_return}
use Rattle.std.proofs.lemmas.Bool.{and_parts}
use Rattle.std.proofs.lemmas.Bool.Decides.{nat_tests}
use Rattle.std.proofs.lemmas.List.{take-append-drop}
use Rattle.std.proofs.lemmas.List.Folds.{list_all-append}
use Rattle.lists.proofs.Bytes.{all_append, each}
use Rattle.text_grammar.specs.Bytes.{is_empty, is_name_byte}
use Rattle.text_grammar.specs.Cut.{lacks}
use Rattle.text_grammar.specs.Line.{pieces}
use Rattle.text_grammar.proofs.CutLaws.{cut_again}
use Rattle.sip_message.specs.declared.fault.FormFault.{FormFault}
use Rattle.sip_message.specs.declared.fault.MessageFault.{MessageFault}
use Rattle.sip_message.specs.Added.{sized_or_fault}
use Rattle.sip_message.specs.FieldLine.{IsFieldLine}
use Rattle.sip_message.specs.Group.{AreGroups, Group, field_of, lines_of_groups}
use Rattle.sip_message.specs.Head.{HasOne, Head}
use Rattle.sip_message.specs.HeadAlphabet.{is_name, is_target, is_target_byte}
use Rattle.sip_message.specs.Lines.{LineView, is_continuation, lines_from, lines_of}
use Rattle.sip_message.specs.Message.{FieldView, MessageView}
use Rattle.sip_message.specs.Names.{is_from, is_to}
use Rattle.sip_message.specs.Reading.{fault, read}
use Rattle.sip_message.specs.Seen.{Gives}
use Rattle.sip_message.specs.StartLine.{IsStartLine, is_version}
use Rattle.sip_message.specs.Target.{HasOtherUri, TargetLaw, behind_method, behind_uri, targeted, to_uri, with_uri}
use Rattle.sip_message.specs.Value.{value_of}
use Rattle.sip_message.proofs.FormLaws.{read_found}
use Rattle.sip_message.proofs.HeadLaws.{head_read}
use Rattle.sip_message.proofs.LineSteps.{line_taken}

-- ---- the first line

abbrev FirstLine : List ℕ → Type 0
FirstLine bytes = (pieces bytes ≡ []) ⊎ ((piece : List ℕ) × (tail : List ℕ) × (bytes ≡ piece ++ 10 ∷ tail) × (lacks 10 piece ≡ true))

first_by : (b : ℕ) (bs : List ℕ) (t : Bool) → (b == 10) ≡ t → FirstLine bs → FirstLine (b ∷ bs)
first_by b bs true e k = let feed : b ≡ 10 = grind (arith, nat_tests, e) in inr ([], bs, ap (λ x. x ∷ bs) feed, refl)
first_by b bs false e (inl none) = inl (rw (e, none) refl)
first_by b bs false e (inr k) = inr (b ∷ k.0, k.1, ap (λ x. b ∷ x) k.2, rw (e, k.3) refl)

first_line : (bytes : List ℕ) → FirstLine bytes
first_line [] = inl refl
first_line (b ∷ bs) = first_by b bs (b == 10) refl (first_line bs)

-- ---- its CR

strip_by : (b : ℕ) (n : ℕ) (l : List ℕ) (t : Bool) → cond t (b ∷ take n l) (b ∷ l) ≡ b ∷ cond t (take n l) l
strip_by b n l true = refl
strip_by b n l false = refl

strip_onto : (b : ℕ) (l : List ℕ) → 1 ≤ length l → strip_carriage_return (b ∷ l) ≡ b ∷ strip_carriage_return l
strip_onto b [] h = absurd (omega (arith, h))
strip_onto b (c ∷ cs) h =
    let e : length (b ∷ c ∷ cs) - 1 ≡ suc (length cs) = omega arith in
    let f : length (c ∷ cs) - 1 ≡ length cs = omega arith in
    rw (e, f) (strip_by b (length cs) (c ∷ cs) (slice_index (c ∷ cs) (length cs) == 13))

strip_front : (front t : List ℕ) → 1 ≤ length t → strip_carriage_return (front ++ t) ≡ front ++ strip_carriage_return t
strip_front [] t h = refl
strip_front (b ∷ front) t h = strip_onto b (front ++ t) (omega (arith, h, length-append front t)) ∙ ap (λ x. b ∷ x) (strip_front front t h)

taken_by : (n : ℕ) (l : List ℕ) (t : Bool) → (cr : List ℕ) × (l ≡ cond t (take n l) l ++ cr)
taken_by n l true = (drop n l, sym (take-append-drop n l))
taken_by n l false = ([], sym (append-nil l))

return_of : (piece : List ℕ) → (cr : List ℕ) × (piece ≡ strip_carriage_return piece ++ cr)
return_of piece = taken_by (length piece - 1) piece (slice_index piece (length piece - 1) == 13)

same_behind : (front x y : List ℕ) → front ++ x ≡ front ++ y → x ≡ y
same_behind [] x y e = e
same_behind (b ∷ front) x y e = same_behind front x y (let k : ◌≡◌ {A = List ℕ} (b ∷ (front ++ x)) (b ∷ (front ++ y)) = e in cc)

-- ---- bytes of its parts

name_no_feed : (b : ℕ) → is_name_byte b ≡ true → not (b == 10) ≡ true
name_no_feed b h = grind (arith, nat_tests)

name_no_space : (b : ℕ) → is_name_byte b ≡ true → not (b == 32) ≡ true
name_no_space b h = grind (arith, nat_tests)

target_no_feed : (b : ℕ) → is_target_byte b ≡ true → not (b == 10) ≡ true
target_no_feed b h = grind (arith, nat_tests)

target_no_space : (b : ℕ) → is_target_byte b ≡ true → not (b == 32) ≡ true
target_no_space b h = grind (arith, nat_tests)

name_lacks : (byte : ℕ) → ((b : ℕ) → is_name_byte b ≡ true → not (b == byte) ≡ true) → (name : List ℕ) → is_name name ≡ true → lacks byte name ≡ true
name_lacks byte lack name h = each is_name_byte (λ b. not (b == byte)) lack name (and_parts (not (is_empty name)) (list_all is_name_byte name) h).1

target_lacks : (byte : ℕ) → ((b : ℕ) → is_target_byte b ≡ true → not (b == byte) ≡ true) → (uri : List ℕ) → is_target uri ≡ true → lacks byte uri ≡ true
target_lacks byte lack uri h = each is_target_byte (λ b. not (b == byte)) lack uri (and_parts (not (is_empty uri)) (list_all is_target_byte uri) h).1

version_some : (version : List ℕ) → is_version version ≡ true → 1 ≤ length version
version_some [] h = absurd cc
version_some (b ∷ bs) h = omega arith

-- ---- lines of the same texts at other places

abbrev texts : List LineView → List (List ℕ)
texts lines = map (λ (line : LineView). line.text) lines

texts_from : (p q : ℕ) (ps : List (List ℕ)) → texts (lines_from p ps) ≡ texts (lines_from q ps)
texts_from p q [] = refl
texts_from p q (piece ∷ ps) = ap (λ (x : List (List ℕ)). strip_carriage_return piece ∷ x) (texts_from (p + length piece + 1) (q + length piece + 1) ps)

record Apart (lines xs ys : List LineView) : Type 0 where
  front : List LineView
  rest : List LineView
  split : lines ≡ front ++ rest
  front_ok : texts front ≡ texts xs
  rest_ok : texts rest ≡ texts ys

apart : (lines xs ys : List LineView) → texts lines ≡ texts (xs ++ ys) → Apart lines xs ys
apart lines [] ys e = record { front = []; rest = lines; split = refl; front_ok = refl; rest_ok = e }
apart [] (x ∷ xs) ys e = absurd cc
apart (line ∷ lines) (x ∷ xs) ys e =
    let same : ◌≡◌ {A = List (List ℕ)} (line.text ∷ texts lines) (x.text ∷ texts (xs ++ ys)) = e in
    let k = apart lines xs ys cc in
    let first : line.text ≡ x.text = cc in
    record {
      front = line ∷ k.front;
      rest = k.rest;
      split = ap (λ (l : List LineView). line ∷ l) k.split;
      front_ok = ap (λ (t : List ℕ). t ∷ texts k.front) first ∙ ap (λ (l : List (List ℕ)). x.text ∷ l) k.front_ok;
      rest_ok = k.rest_ok;
    }

all_texts : (lines : List LineView) → list_all (λ (line : LineView). is_continuation line.text) lines ≡ list_all is_continuation (texts lines)
all_texts [] = refl
all_texts (line ∷ lines) = ap (λ b. is_continuation line.text && b) (all_texts lines)

abbrev names : List Group → List (List ℕ)
names groups = map (λ (group : Group). group.name) groups

record Regrouped (groups : List Group) (lines left : List LineView) : Type 0 where
  more : List Group
  rest : List LineView
  split : lines ≡ lines_of_groups more ++ rest
  are : AreGroups more
  fields : map field_of more ≡ map field_of groups
  same_names : names more ≡ names groups
  rest_ok : texts rest ≡ texts left

regroup : (groups : List Group) (lines left : List LineView) → AreGroups groups → texts lines ≡ texts (lines_of_groups groups ++ left) → Regrouped groups lines left
regroup [] lines left g e = record { more = []; rest = lines; split = refl; are = tt; fields = refl; same_names = refl; rest_ok = e }
regroup (group ∷ groups) [] left g e = absurd cc
regroup (group ∷ groups) (line ∷ lines) left g e =
    let same : ◌≡◌ {A = List (List ℕ)} (line.text ∷ texts lines) (group.first.text ∷ texts ((group.continued ++ lines_of_groups groups) ++ left)) = e in
    let first : line.text ≡ group.first.text = cc in
    let behind : texts lines ≡ texts ((group.continued ++ lines_of_groups groups) ++ left) = cc in
    let a = apart lines group.continued (lines_of_groups groups ++ left) (behind ∙ ap texts (append_assoc group.continued (lines_of_groups groups) left)) in
    let k = regroup groups a.rest left g.1 a.rest_ok in
    let one : Group = record { first = line; name = group.name; rest = group.rest; continued = a.front } in
    let field : field_of one ≡ field_of group = ap (λ (l : List (List ℕ)). record { name = group.name; value = value_of group.rest l }) a.front_ok in
    record {
      more = one ∷ k.more;
      rest = k.rest;
      split = ap (λ (l : List LineView). line ∷ l) (a.split ∙ ap (λ (l : List LineView). a.front ++ l) k.split ∙ sym (append_assoc a.front (lines_of_groups k.more) k.rest));
      are = (
        record {
          first_ok = subst (λ (t : List ℕ). IsFieldLine t group.name group.rest) (sym first) g.0.first_ok;
          continued_ok = all_texts a.front ∙ ap (list_all is_continuation) a.front_ok ∙ sym (all_texts group.continued) ∙ g.0.continued_ok;
        },
        k.are,
      );
      fields = ap (λ (f : FieldView). f ∷ map field_of k.more) field ∙ ap (λ (l : List FieldView). field_of group ∷ l) k.fields;
      same_names = ap (λ (l : List (List ℕ)). group.name ∷ l) k.same_names;
      rest_ok = k.rest_ok;
    }

named_by : (test : List ℕ → Bool) (group : Group) (others : List Group) (t : Bool) → test group.name ≡ t
    → length (filter (λ (g : Group). test g.name) others) ≡ length (filter test (names others))
    → length (filter (λ (g : Group). test g.name) (group ∷ others)) ≡ length (filter test (names (group ∷ others)))
named_by test group others true e below = rw e (ap (λ n. suc n) below)
named_by test group others false e below = rw e below

named_length : (test : List ℕ → Bool) (groups : List Group) → length (filter (λ (g : Group). test g.name) groups) ≡ length (filter test (names groups))
named_length test [] = refl
named_length test (group ∷ groups) = named_by test group groups (test group.name) refl (named_length test groups)

one_again : (test : List ℕ → Bool) (groups more : List Group) → names more ≡ names groups → HasOne test groups → HasOne test more
one_again test groups more same one = named_length test more ∙ ap (λ (l : List (List ℕ)). length (filter test l)) same ∙ sym (named_length test groups) ∙ one

-- ---- the message

-- the parts of the first line, and what comes after it
record Started (bytes method old : List ℕ) (start : LineView) (others : List LineView) : Type 0 where
  version : List ℕ
  end : List ℕ
  tail : List ℕ
  place : ℕ
  method_ok : is_name method ≡ true
  old_ok : is_target old ≡ true
  version_ok : is_version version ≡ true
  split : bytes ≡ (method ++ 32 ∷ (old ++ 32 ∷ end)) ++ 10 ∷ tail
  end_ok : strip_carriage_return end ≡ version
  some : 1 ≤ length end
  no_feed : lacks 10 end ≡ true
  lines : lines_from place (pieces tail) ≡ others

started : (bytes method old : List ℕ) (start : LineView) (others : List LineView) → lines_of bytes ≡ start ∷ others → IsStartLine start.text method old
    → Started bytes method old start others
started bytes method old start others e s = of (first_line bytes)
  where
    of : FirstLine bytes → Started bytes method old start others
    of (inl none) = let k : ◌≡◌ {A = List LineView} [] (start ∷ others) = sym (ap (lines_from 0) none) ∙ e in absurd cc
    of (inr k) =
        let piece : List ℕ = k.0 in
        let tail : List ℕ = k.1 in
        let lines : ◌≡◌ {A = List LineView} (record { place = 0; text = strip_carriage_return piece } ∷ lines_from (0 + length piece + 1) (pieces tail)) (start ∷ others) =
        sym (line_taken 0 bytes piece tail k.2 k.3) ∙ e in
        let first : ◌≡◌ {A = LineView} (record { place = 0; text = strip_carriage_return piece }) start = cc in
        let text : strip_carriage_return piece ≡ start.text = ap (λ (l : LineView). l.text) first in
        let cr = return_of piece in
        let end : List ℕ = s.version ++ cr.0 in
        let front : List ℕ = method ++ 32 ∷ (old ++ 32 ∷ []) in
        let join : (x : List ℕ) → front ++ x ≡ method ++ 32 ∷ (old ++ 32 ∷ x) =
        λ x. append_assoc method (32 ∷ (old ++ 32 ∷ [])) x ∙ ap (λ y. method ++ 32 ∷ y) (append_assoc old (32 ∷ []) x) in
        let whole : piece ≡ front ++ end =
        cr.1 ∙ ap (λ x. x ++ cr.0) (text ∙ s.text ∙ sym (join s.version)) ∙ append_assoc front s.version cr.0 in
        let some : 1 ≤ length end = omega (arith, version_some s.version s.version_ok, length-append s.version cr.0) in
        let stripped : front ++ strip_carriage_return end ≡ front ++ s.version =
        sym (strip_front front end some) ∙ sym (ap strip_carriage_return whole) ∙ text ∙ s.text ∙ sym (join s.version) in
        record {
          version = s.version;
          end = end;
          tail = tail;
          place = 0 + length piece + 1;
          method_ok = s.method_ok;
          old_ok = s.uri_ok;
          version_ok = s.version_ok;
          split = k.2 ∙ ap (λ x. x ++ 10 ∷ tail) (whole ∙ join end);
          end_ok = same_behind front (strip_carriage_return end) s.version stripped;
          some = some;
          no_feed = (and_parts (lacks 10 front) (lacks 10 end) (sym (list_all-append (λ b. not (b == 10)) front end) ∙ ap (lacks 10) (sym whole) ∙ k.3)).1;
          lines = cc;
        }

regrouped_head : (out uri : List ℕ) (bytes : List ℕ) (message : MessageView) (h : Head bytes message) (start : LineView) (lines : List LineView) → length out ≤ 65535
    → lines_of out ≡ start ∷ lines → IsStartLine start.text message.method uri → Regrouped h.groups lines (h.empty ∷ h.body) → Head out (to_uri message uri)
regrouped_head out uri bytes message h start lines short e s r = of r.rest refl
  where
    of : (rest : List LineView) → r.rest ≡ rest → Head out (to_uri message uri)
    of [] k = let none : ◌≡◌ {A = List (List ℕ)} [] (h.empty.text ∷ texts h.body) = sym (ap texts k) ∙ r.rest_ok in absurd cc
    of (empty ∷ body) k =
        let same : ◌≡◌ {A = List (List ℕ)} (empty.text ∷ texts body) (h.empty.text ∷ texts h.body) = sym (ap texts k) ∙ r.rest_ok in
        let text : empty.text ≡ h.empty.text = cc in
        record {
          groups = r.more;
          empty = empty;
          body = body;
          begins = record {
            start = start;
            short = short;
            lines = e ∙ ap (λ (l : List LineView). start ∷ l) (r.split ∙ ap (λ (l : List LineView). lines_of_groups r.more ++ l) k);
            start_ok = s;
            groups_ok = r.are;
          };
          empty_ok = text ∙ h.empty_ok;
          one_from = one_again is_from h.groups r.more r.same_names h.one_from;
          one_to = one_again is_to h.groups r.more r.same_names h.one_to;
          fields = h.fields ∙ sym r.fields;
        }

-- the bytes, with what is around the first two spaces
spread : {bytes method old : List ℕ} {start : LineView} {others : List LineView} (s : Started bytes method old start others) (uri : List ℕ)
    → (method ++ 32 ∷ (uri ++ 32 ∷ s.end)) ++ 10 ∷ s.tail ≡ method ++ 32 ∷ (uri ++ 32 ∷ (s.end ++ 10 ∷ s.tail))
spread {method = method} s uri =
    append_assoc method (32 ∷ (uri ++ 32 ∷ s.end)) (10 ∷ s.tail) ∙ ap (λ y. method ++ 32 ∷ y) (append_assoc uri (32 ∷ s.end) (10 ∷ s.tail))

other_uri : (bytes uri : List ℕ) (message : MessageView) → Head bytes message → HasOtherUri bytes uri (with_uri bytes uri)
other_uri bytes uri message h =
    let s = started bytes message.method _ h.begins.start _ h.begins.lines h.begins.start_ok in
    let rest : List ℕ = s.end ++ 10 ∷ s.tail in
    let from : bytes ≡ message.method ++ 32 ∷ (message.uri ++ 32 ∷ rest) = s.split ∙ spread s message.uri in
    record {
      method = message.method;
      old = message.uri;
      rest = rest;
      from = from;
      to = ap (λ x. with_uri x uri) from
          ∙ ap (behind_uri uri) (cut_again 32 message.method (message.uri ++ 32 ∷ rest) (name_lacks 32 name_no_space message.method s.method_ok))
          ∙ ap (behind_method uri message.method) (cut_again 32 message.uri rest (target_lacks 32 target_no_space message.uri s.old_ok));
      no_space = name_lacks 32 name_no_space message.method s.method_ok;
      none_in_old = target_lacks 32 target_no_space message.uri s.old_ok;
    }

pub target_law : TargetLaw
target_law bytes uri message u short h =
    let s = started bytes message.method _ h.begins.start _ h.begins.lines h.begins.start_ok in
    let piece : List ℕ = message.method ++ 32 ∷ (uri ++ 32 ∷ s.end) in
    let text : List ℕ = message.method ++ 32 ∷ (uri ++ 32 ∷ s.version) in
    let front : List ℕ = message.method ++ 32 ∷ (uri ++ 32 ∷ []) in
    let join : (x : List ℕ) → front ++ x ≡ message.method ++ 32 ∷ (uri ++ 32 ∷ x) =
    λ x. append_assoc message.method (32 ∷ (uri ++ 32 ∷ [])) x ∙ ap (λ y. message.method ++ 32 ∷ y) (append_assoc uri (32 ∷ []) x) in
    let out_is : with_uri bytes uri ≡ piece ++ 10 ∷ s.tail =
    ap (λ x. with_uri x uri) (s.split ∙ spread s message.uri)
    ∙ ap (behind_uri uri) (cut_again 32 message.method (message.uri ++ 32 ∷ (s.end ++ 10 ∷ s.tail)) (name_lacks 32 name_no_space message.method s.method_ok))
    ∙ ap (behind_method uri message.method) (cut_again 32 message.uri (s.end ++ 10 ∷ s.tail) (target_lacks 32 target_no_space message.uri s.old_ok))
    ∙ sym (spread s uri) in
    let stripped : strip_carriage_return piece ≡ text =
    ap strip_carriage_return (sym (join s.end)) ∙ strip_front front s.end s.some ∙ ap (λ x. front ++ x) s.end_ok ∙ join s.version in
    let no_feed : lacks 10 piece ≡ true =
    all_append (λ b. not (b == 10)) message.method (32 ∷ (uri ++ 32 ∷ s.end)) (name_lacks 10 name_no_feed message.method s.method_ok)
    (all_append (λ b. not (b == 10)) uri (32 ∷ s.end) (target_lacks 10 target_no_feed uri u) s.no_feed) in
    let start : LineView = record { place = 0; text = strip_carriage_return piece } in
    let lines : List LineView = lines_from (0 + length piece + 1) (pieces s.tail) in
    regrouped_head (with_uri bytes uri) uri bytes message h start lines short
    (line_taken 0 (with_uri bytes uri) piece s.tail out_is no_feed)
    (record { version = s.version; method_ok = s.method_ok; uri_ok = u; version_ok = s.version_ok; text = stripped })
    (regroup h.groups lines (h.empty ∷ h.body) h.begins.groups_ok
    (texts_from (0 + length piece + 1) s.place (pieces s.tail) ∙ ap texts s.lines))

-- ---- what is answered

sized_is : (out made : List ℕ) (t : Bool) → nat_le (length made) 65535 ≡ t → ◌≡◌ {A = Result (List ℕ) FormFault} (cond t (Ok made) (Err (fault 1 65535))) (Ok out)
    → (made ≡ out) × (length made ≤ 65535)
sized_is out made true e h = let same : made ≡ out = cc in (same, grind (arith, nat_tests, e))
sized_is out made false e h = absurd cc

is_targeted : (bytes uri out : List ℕ) (message : MessageView) → is_target uri ≡ true → Head bytes message → targeted bytes uri ≡ Ok out → Head out (to_uri message uri)
unfolding targeted
is_targeted bytes uri out message u h e =
    let a = sized_is out (with_uri bytes uri) (nat_le (length (with_uri bytes uri)) 65535) refl
    (sym (ap (λ (r : Result MessageView FormFault). sized_or_fault r (with_uri bytes uri)) (head_read bytes message h)) ∙ e) in
    subst (λ (x : List ℕ). Head x (to_uri message uri)) a.0 (target_law bytes uri message u a.1 h)

pub answers_head : {X : Type 0} (seen : X → List ℕ) (bytes uri : List ℕ) (answer : Result X MessageFault) → IsTrue (is_target uri)
    → Gives seen answer (targeted bytes uri) → (message : MessageView) → Head bytes message → IfOk answer (λ out. Head (seen out) (to_uri message uri))
answers_head seen bytes uri (Ok out) u r message h = is_targeted bytes uri (seen out) message u h r
answers_head seen bytes uri (Err fault) u r message h = tt

pub answers_again : {X : Type 0} (seen : X → List ℕ) (bytes uri : List ℕ) (answer : Result X MessageFault) → IsTrue (is_target uri)
    → Gives seen answer (targeted bytes uri) → (message : MessageView) → read bytes ≡ Ok message → IfOk answer (λ out. read (seen out) ≡ Ok (to_uri message uri))
answers_again seen bytes uri (Ok out) u r message e = head_read (seen out) (to_uri message uri) (is_targeted bytes uri (seen out) message u (read_found bytes message e) r)
answers_again seen bytes uri (Err fault) u r message e = tt

-- bytes that were written are those of a message
read_by : (bytes uri out : List ℕ) (r : Result MessageView FormFault) → read bytes ≡ r → sized_or_fault r (with_uri bytes uri) ≡ Ok out → HasOtherUri bytes uri out
read_by bytes uri out (Ok message) e k =
    let a = sized_is out (with_uri bytes uri) (nat_le (length (with_uri bytes uri)) 65535) refl k in
    subst (λ (x : List ℕ). HasOtherUri bytes uri x) a.0 (other_uri bytes uri message (read_found bytes message e))
read_by bytes uri out (Err found) e k = absurd cc

is_written : (bytes uri out : List ℕ) → targeted bytes uri ≡ Ok out → HasOtherUri bytes uri out
unfolding targeted
is_written bytes uri out e = read_by bytes uri out (read bytes) refl e

pub answers_written : {X : Type 0} (seen : X → List ℕ) (bytes uri : List ℕ) (answer : Result X MessageFault)
    → Gives seen answer (targeted bytes uri) → IfOk answer (λ out. HasOtherUri bytes uri (seen out))
answers_written seen bytes uri (Ok out) r = is_written bytes uri (seen out) r
answers_written seen bytes uri (Err fault) r = tt
