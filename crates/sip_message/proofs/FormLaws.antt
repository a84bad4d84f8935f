-- Bytes are a message or have a first fault, and what is read of them says which.
use Rattle.std.proofs.Common.{◌≡◌, ℕ, ◌<◌, ◌≤◌, nat_le, Bool, true, false, List, [], ◌∷◌, ◌++◌, length, map, filter, Option, Some, None, Result, Ok, Err, ◌⊎◌, inl, inr, refl, ap, ◌∙◌, sym, subst, arith}
use Rattle.std.specs.List.{list_all}
use Rattle.std.proofs.lemmas.Bool.Decides.{nat_tests}
use Rattle.sip_message.specs.declared.fault.FormFault.{FormFault}
use Rattle.sip_message.specs.FieldLine.{IsFieldLine, field_line}
use Rattle.sip_message.specs.Form.{FormOf, IsBadLine, IsSurplusAt, place_of_surplus, size, start_line as no_start, header_line, no_line, no_end, from, to}
use Rattle.sip_message.specs.Group.{AreGroups, Begins, Group, field_of, lines_of_groups}
use Rattle.sip_message.specs.Head.{HasOne, Head}
use Rattle.text_grammar.specs.Bytes.{is_empty}
use Rattle.sip_message.specs.Lines.{LineView, is_continuation, lines_of}
use Rattle.sip_message.specs.Message.{MessageView}
use Rattle.sip_message.specs.Names.{is_from, is_to}
use Rattle.sip_message.specs.Reading.{checked, fault, read, surplus}
use Rattle.sip_message.specs.StartLine.{IsStartLine, start_line}
use Rattle.sip_message.proofs.FieldLineLaws.{field_first, field_found, field_only}
use Rattle.sip_message.proofs.HeadLaws.{Behind, Ends, NoneInFront, Parsed, begun, ended, head_read, headed, one_none, one_or_not, parse, placed_of, surplus_is}
use Rattle.sip_message.proofs.StartLaws.{start_found, start_only}
use Rattle.std.proofs.lemmas.Bool.{and_parts}

-- ---- each fault is read

true_or_false : {P : Type 0} (t : Bool) → t ≡ true → t ≡ false → P
true_or_false true e f = absurd cc
true_or_false false e f = absurd cc

no_start_read : (first : LineView) (k : Option (List ℕ × List ℕ)) → start_line first.text ≡ k → ((method uri : List ℕ) → IsStartLine first.text method uri → ⊥)
    → ◌≡◌ {A = Option (List ℕ × List ℕ)} (start_line first.text) None
no_start_read first None e none = e
no_start_read first (Some parts) e none = absurd (none parts.0 parts.1 (start_found first.text parts e))

no_field_read : (text : List ℕ) (k : Option (List ℕ × List ℕ)) → field_line text ≡ k → ((name rest : List ℕ) → IsFieldLine text name rest → ⊥)
    → ◌≡◌ {A = Option (List ℕ × List ℕ)} (field_line text) None
no_field_read text None e none = e
no_field_read text (Some parts) e none = absurd (none parts.0 parts.1 (field_found text parts e))

some_text : (text : List ℕ) → (text ≡ [] → ⊥) → is_empty text ≡ false
some_text [] some = absurd (some refl)
some_text (b ∷ bs) some = refl

no_more : (text : List ℕ) (groups : List Group) (t : Bool) → is_continuation text ≡ t → (is_continuation text ≡ true → groups ≡ []) → (groups ≡ []) ⊎ (is_continuation text ≡ false)
no_more text groups true e none = inl (none e)
no_more text groups false e none = inr e

bad_behind : (groups : List Group) (bad : LineView) (behind : List LineView) → (groups ≡ []) ⊎ (is_continuation bad.text ≡ false) → Behind groups (bad ∷ behind)
bad_behind [] bad behind n = tt
bad_behind (group ∷ others) bad behind (inl e) = absurd cc
bad_behind (group ∷ others) bad behind (inr e) = e

bad_read : (bytes method uri : List ℕ) (groups : List Group) (bad : LineView) (behind : List LineView) → Begins bytes method uri groups (bad ∷ behind)
    → IsBadLine groups bad.text → read bytes ≡ Err (fault 3 bad.place)
bad_read bytes method uri groups bad behind b i =
    let some : is_empty bad.text ≡ false = some_text bad.text i.some in
    let none : ◌≡◌ {A = Option (List ℕ × List ℕ)} (field_line bad.text) None = no_field_read bad.text (field_line bad.text) refl i.no_field in
    let o : ended (length bytes) (map placed_of groups) (bad ∷ behind) ≡ Err (fault 3 bad.place) = rw some refl in
    begun bytes method uri groups (bad ∷ behind) b (inr (some, none)) (bad_behind groups bad behind (no_more bad.text groups (is_continuation bad.text) refl i.no_continuation))
    ∙ ap (checked (method, uri)) o

long_read : (bytes : List ℕ) → 65535 < length bytes → read bytes ≡ Err (fault 1 65535)
unfolding read
long_read bytes long = let t : nat_le (length bytes) 65535 ≡ false = grind (arith, nat_tests) in rw t refl

no_line_read : (bytes : List ℕ) → length bytes ≤ 65535 → lines_of bytes ≡ [] → read bytes ≡ Err (fault 4 (length bytes))
unfolding read
no_line_read bytes short e = let t : nat_le (length bytes) 65535 ≡ true = grind (arith, nat_tests) in rw (t, e) refl

start_read : (bytes : List ℕ) (first : LineView) (others : List LineView) → length bytes ≤ 65535 → lines_of bytes ≡ first ∷ others
    → ((method uri : List ℕ) → IsStartLine first.text method uri → ⊥) → read bytes ≡ Err (fault 2 0)
unfolding read
start_read bytes first others short e none =
    let t : nat_le (length bytes) 65535 ≡ true = grind (arith, nat_tests) in
    let s : ◌≡◌ {A = Option (List ℕ × List ℕ)} (start_line first.text) None = no_start_read first (start_line first.text) refl none in
    rw (t, e, s) refl

behind_none : (groups : List Group) → Behind groups []
behind_none [] = tt
behind_none (group ∷ others) = tt

from_read : (bytes method uri : List ℕ) (groups : List Group) (empty : LineView) (body : List LineView) → Begins bytes method uri groups (empty ∷ body) → empty.text ≡ []
    → (place : ℕ) → IsSurplusAt is_from empty.place groups place → read bytes ≡ Err (fault 5 place)
from_read bytes method uri groups empty body b e place s =
    let f : surplus is_from (record { fields = map placed_of groups; end = empty.place }) ≡ Some place = surplus_is is_from groups empty.place ∙ s in
    headed bytes method uri groups empty body b e ∙ rw f refl

to_read : (bytes method uri : List ℕ) (groups : List Group) (empty : LineView) (body : List LineView) → Begins bytes method uri groups (empty ∷ body) → empty.text ≡ []
    → HasOne is_from groups → (place : ℕ) → IsSurplusAt is_to empty.place groups place → read bytes ≡ Err (fault 6 place)
to_read bytes method uri groups empty body b e one place s =
    let f : ◌≡◌ {A = Option ℕ} (surplus is_from (record { fields = map placed_of groups; end = empty.place })) None =
    surplus_is is_from groups empty.place ∙ one_none empty.place (filter (λ (g : Group). is_from g.name) groups) one in
    let t : surplus is_to (record { fields = map placed_of groups; end = empty.place }) ≡ Some place = surplus_is is_to groups empty.place ∙ s in
    headed bytes method uri groups empty body b e ∙ rw (f, t) refl

abbrev refused : FormFault → Result MessageView FormFault
refused f = Err f

same_fault : (bytes : List ℕ) (found made : FormFault) → read bytes ≡ Err made → found ≡ made → read bytes ≡ Err found
same_fault bytes found made r e = r ∙ ap refused (sym e)

pub form_read : (bytes : List ℕ) (found : FormFault) → FormOf bytes found → read bytes ≡ Err found
form_read bytes found (size long e) = same_fault bytes found _ (long_read bytes long) e
form_read bytes found (no_start short first others l none e) = same_fault bytes found _ (start_read bytes first others short l none) e
form_read bytes found (header_line method uri groups bad behind b i e) = same_fault bytes found _ (bad_read bytes method uri groups bad behind b i) e
form_read bytes found (no_line short l e) = same_fault bytes found _ (no_line_read bytes short l) e
form_read bytes found (no_end method uri groups b e) = same_fault bytes found _ (begun bytes method uri groups [] b tt (behind_none groups)) e
form_read bytes found (from method uri groups empty body b n place s e) = same_fault bytes found _ (from_read bytes method uri groups empty body b n place s) e
form_read bytes found (to method uri groups empty body b n one place s e) = same_fault bytes found _ (to_read bytes method uri groups empty body b n one place s) e

-- ---- bytes are a message or have a fault

abbrev Either : List ℕ → Type 0
Either bytes = ((m : MessageView) × Head bytes m) ⊎ ((f : FormFault) × FormOf bytes f)

empty_is : (text : List ℕ) → is_empty text ≡ true → text ≡ []
empty_is [] h = refl
empty_is (b ∷ bs) h = absurd cc

by_to : (bytes method uri : List ℕ) (groups : List Group) (empty : LineView) (body : List LineView) → Begins bytes method uri groups (empty ∷ body) → empty.text ≡ []
    → HasOne is_from groups
    → (length (filter (λ (g : Group). is_to g.name) groups) ≡ 1) ⊎ ((place : ℕ) × (place_of_surplus empty.place (filter (λ (g : Group). is_to g.name) groups) ≡ Some place))
    → Either bytes
by_to bytes method uri groups empty body b e one (inl two) =
    inl (
      record { method = method; uri = uri; fields = map field_of groups },
      record { groups = groups; empty = empty; body = body; begins = b; empty_ok = e; one_from = one; one_to = two; fields = refl },
    )
by_to bytes method uri groups empty body b e one (inr s) = inr (fault 6 s.0, to method uri groups empty body b e one s.0 s.1 refl)

by_from : (bytes method uri : List ℕ) (groups : List Group) (empty : LineView) (body : List LineView) → Begins bytes method uri groups (empty ∷ body) → empty.text ≡ []
    → (length (filter (λ (g : Group). is_from g.name) groups) ≡ 1) ⊎ ((place : ℕ) × (place_of_surplus empty.place (filter (λ (g : Group). is_from g.name) groups) ≡ Some place))
    → Either bytes
by_from bytes method uri groups empty body b e (inl one) = by_to bytes method uri groups empty body b e one (one_or_not empty.place (filter (λ (g : Group). is_to g.name) groups))
by_from bytes method uri groups empty body b e (inr s) = inr (fault 5 s.0, from method uri groups empty body b e s.0 s.1 refl)

by_end : (bytes method uri : List ℕ) (groups : List Group) (left : List LineView) → Begins bytes method uri groups left → NoneInFront left → Ends left → Either bytes
by_end bytes method uri groups [] b n e = inr (fault 4 (length bytes), no_end method uri groups b refl)
by_end bytes method uri groups (line ∷ others) b n (inl e) =
    by_from bytes method uri groups line others b (empty_is line.text e) (one_or_not line.place (filter (λ (g : Group). is_from g.name) groups))
by_end bytes method uri groups (line ∷ others) b n (inr e) =
    let bad : IsBadLine groups line.text = record {
      some = λ empty. true_or_false (is_empty line.text) (ap is_empty empty) e.0;
      no_field = λ name rest i. let s = field_only line.text name rest i in let w = e.1 in absurd cc;
      no_continuation = λ c. true_or_false (is_continuation line.text) c n;
    } in
    inr (fault 3 line.place, header_line method uri groups line others b bad refl)

by_front : (bytes method uri : List ℕ) (start : LineView) (others front : List LineView) (groups : List Group) (left : List LineView) → length bytes ≤ 65535
    → lines_of bytes ≡ start ∷ others → IsStartLine start.text method uri → others ≡ front ++ (lines_of_groups groups ++ left)
    → list_all (λ (line : LineView). is_continuation line.text) front ≡ true → AreGroups groups → NoneInFront left → Ends left → Either bytes
by_front bytes method uri start others [] groups left short l s split c g n e =
    by_end bytes method uri groups left (record { start = start; short = short; lines = l ∙ ap (λ (x : List LineView). start ∷ x) split; start_ok = s; groups_ok = g }) n e
by_front bytes method uri start others (line ∷ front) groups left short l s split c g n e =
    let first : is_continuation line.text ≡ true = (and_parts (is_continuation line.text) (list_all (λ (x : LineView). is_continuation x.text) front) c).0 in
    let bad : IsBadLine [] line.text = record {
      some = λ empty. true_or_false (is_continuation line.text) first (ap is_continuation empty);
      no_field = λ name rest i. true_or_false (is_continuation line.text) first (field_first line.text name rest i).1;
      no_continuation = λ _. refl;
    } in
    let b : Begins bytes method uri [] (line ∷ (front ++ (lines_of_groups groups ++ left))) =
    record { start = start; short = short; lines = l ∙ ap (λ (x : List LineView). start ∷ x) split; start_ok = s; groups_ok = tt } in
    inr (fault 3 line.place, header_line method uri [] line (front ++ (lines_of_groups groups ++ left)) b bad refl)

by_start : (bytes : List ℕ) (start : LineView) (others : List LineView) (k : Option (List ℕ × List ℕ)) → start_line start.text ≡ k → length bytes ≤ 65535
    → lines_of bytes ≡ start ∷ others → Parsed others → Either bytes
by_start bytes start others None k short l p =
    inr (fault 2 0, no_start short start others l (λ method uri i. let s = start_only start.text method uri i in absurd cc) refl)
by_start bytes start others (Some parts) k short l p =
    by_front bytes parts.0 parts.1 start others p.front p.groups p.left short l (start_found start.text parts k) p.split p.front_ok p.groups_ok p.none p.ends

by_lines : (bytes : List ℕ) (lines : List LineView) → length bytes ≤ 65535 → lines_of bytes ≡ lines → Either bytes
by_lines bytes [] short l = inr (fault 4 (length bytes), no_line short l refl)
by_lines bytes (start ∷ others) short l = by_start bytes start others (start_line start.text) refl short l (parse others)

by_size : (bytes : List ℕ) (t : Bool) → nat_le (length bytes) 65535 ≡ t → Either bytes
by_size bytes true e = by_lines bytes (lines_of bytes) (grind (arith, nat_tests)) refl
by_size bytes false e = inr (fault 1 65535, size (grind (arith, nat_tests)) refl)

pub either : (bytes : List ℕ) → Either bytes
either bytes = by_size bytes (nat_le (length bytes) 65535) refl

found_by : (bytes : List ℕ) (m : MessageView) → read bytes ≡ Ok m → Either bytes → Head bytes m
found_by bytes m e (inl h) =
    let r = head_read bytes h.0 h.1 in
    let same : h.0 ≡ m = cc in
    subst (Head bytes) same h.1
found_by bytes m e (inr f) = let r = form_read bytes f.0 f.1 in absurd cc

-- what is read as a message is one
pub read_found : (bytes : List ℕ) (m : MessageView) → read bytes ≡ Ok m → Head bytes m
read_found bytes m e = found_by bytes m e (either bytes)

fault_by : (bytes : List ℕ) (f : FormFault) → read bytes ≡ Err f → Either bytes → FormOf bytes f
fault_by bytes f e (inl h) = let r = head_read bytes h.0 h.1 in absurd cc
fault_by bytes f e (inr g) =
    let r = form_read bytes g.0 g.1 in
    let same : g.0 ≡ f = cc in
    subst (FormOf bytes) same g.1

-- what is read as a fault is the first one
pub read_fault : (bytes : List ℕ) (f : FormFault) → read bytes ≡ Err f → FormOf bytes f
read_fault bytes f e = fault_by bytes f e (either bytes)
