-- Laws of reading a list: it gives the entries whose text the bytes are, and no others; and a fault is the first that the bytes have.
use Rattle.std.proofs.Common.{◌≡◌, ◌≢◌, ◌↔◌, inl, inr, ◌⊎◌, ℕ, zero, suc, ◌+◌, ◌-◌, ◌*◌, ◌<◌, ◌≤◌, ◌==◌, not, ◌&&◌, nat_le, Bool, true, false, cond, List, [], ◌∷◌, ◌++◌, length, bit_and, Result, Ok, Err, refl, sym, ap, subst, ◌∙◌, append_assoc, append-nil, length-append, arith}
use Rattle.std.proofs.lemmas.Bool.{and_parts}
use Rattle.std.proofs.lemmas.Bool.Decides.{nat_tests}
use Rattle.std.specs.Cmp.Derive.{both_true}
use Rattle.std.specs.List.{list_all, flat_map}
use Rattle.lists.proofs.Bytes.{no_byte}
use Rattle.lists.proofs.StepLaws.{after, came, inside}
use Rattle.lists.specs.Steps.{◌>>=◌}
use Rattle.der_reader.specs.Broken.{LeftOver, Within, Behind}
use Rattle.der_reader.specs.Elem.{AllBytes, Elem, element_text, length_text}
use Rattle.der_reader.specs.Part.{ItemView, PartView, at_kind, element_at, end_at, item_at, whole_text}
use Rattle.der_reader.specs.declared.part.Fault.{Fault}
use Rattle.der_reader.specs.Tags.{sequence_tag}
use Rattle.der_reader.proofs.BrokenLaws.{Tells, element_tells, end_tells, first_tells, right, through_tells}
use Rattle.der_reader.proofs.PartLaws.{begins_text, element_again, element_found, element_length, ended, ends, item_found, item_stands, known, some_front, standing}
use Rattle.tn_auth_list.specs.declared.entries.Entry.{Entry}
use Rattle.tn_auth_list.specs.declared.entries.Entry.TheVariants.{Code, Range, Single}
use Rattle.tn_auth_list.specs.declared.faults.ListFault.{ListFault}
use Rattle.tn_auth_list.specs.declared.faults.ListFault.TheVariants.{At, Memory}
use Rattle.tn_auth_list.specs.Entry.{is_entry, is_list, is_range_of_one, is_typed}
use Rattle.tn_auth_list.specs.Fault.{Gives, der_at, no_entry, past_limit_at}
use Rattle.tn_auth_list.specs.ListText.{ListText, entry_content, entry_tag, entry_text, list_text}
use Rattle.tn_auth_list.specs.Read.{content_entries, entries_from, entry_in, read_list}
use Rattle.tn_auth_list.specs.Refused.{IsItemOf, IsLeftOver, IsContentOf, IsPastLimit, IsRefused, Refused, WrongContent, WrongEntries, WrongEntry}
use Rattle.tn_auth_list.proofs.EntryLaws.{content_length, entry_again, entry_found, either_tells, entry_tells, fault_tells}

-- ---- the text of an entry

entry_elem : (entry : Entry) → is_entry entry ≡ true → Elem (entry_text entry) (entry_tag entry) (entry_content entry)
entry_elem entry e = record { low_tag = low entry; size = omega (arith, content_length entry e); text = refl }
  where
    low : (entry : Entry) → bit_and (entry_tag entry) 31 ≢ 31
    low (Code text) e = omega (arith, e)
    low (Range span) e = omega (arith, e)
    low (Single number) e = omega (arith, e)

pub entries_length : (entries : List Entry) → list_all is_entry entries ≡ true → length (flat_map entry_text entries) ≤ 36 * length entries
entries_length [] e = omega arith
entries_length (x ∷ xs) e =
    let each = and_parts (is_entry x) (list_all is_entry xs) e in
    let content = content_length x each.0 in
    omega (
      arith,
      content,
      element_length (entry_tag x) (entry_content x) (omega (arith, content)),
      entries_length xs each.1,
      length-append (entry_text x) (flat_map entry_text xs),
    )

-- ---- entries in order

-- an answer after a test of the part's end
at_end : {A E : Type 0} (end : Bool) (v w : A) (r : Result A E) → cond end (Ok v) r ≡ Ok w → ((end ≡ true) × (v ≡ w)) ⊎ (r ≡ Ok w)
at_end true v w r e = inl (refl, inside v w e)
at_end false v w r e = inr e

-- these entries, and then all that the bytes are the texts of
record Follow (before : List Entry) (room : ℕ) (left : List ℕ) (all : List Entry) : Type 0 where
  more : List Entry
  is : all ≡ before ++ more
  text : left ≡ flat_map entry_text more
  most : length more ≤ room
  each : list_all is_entry more ≡ true

none : (before all : List Entry) (room : ℕ) (left : List ℕ) → (length left == 0 ≡ true) × (before ≡ all) → Follow before room left all
none before all room left e = record { more = []; is = sym e.1 ∙ sym (append-nil before); text = no_byte left e.0; most = omega arith; each = refl }

entries_found : (room : ℕ) (before : List Entry) (part : PartView) (all : List Entry) → AllBytes part.left → entries_from room before part ≡ Ok all
    → Follow before room part.left all
unfolding entries_from
entries_found zero before part all b e = elim (at_end (length part.left == 0) before all _ e) [
  | inl end ↦ none before all 0 part.left end
  | inr past ↦ absurd cc
]
entries_found (suc room) before part all b e = elim (at_end (length part.left == 0) before all _ e) [
  | inl end ↦ none before all (suc room) part.left end
  | inr some ↦
      let a = came (item_at part) _ all some in
      let c = came (entry_in a.0) _ all a.2 in
      let begins = item_found part a.0 b a.1 in
      let entry = entry_found a.0 c.0 begins.content_bytes c.1 in
      let rest = entries_found room (before ++ c.0 ∷ []) a.0.behind all begins.behind_bytes c.2 in
      record {
        more = c.0 ∷ rest.more;
        is = rest.is ∙ append_assoc before (c.0 ∷ []) rest.more;
        text = begins_text a.0.tag part a.0 (begins, refl) ∙ ap (λ t. element_text t a.0.content.left ++ a.0.behind.left) entry.0
            ∙ ap (λ t. element_text (entry_tag c.0) t ++ a.0.behind.left) entry.1 ∙ ap (λ r. entry_text c.0 ++ r) rest.text;
        most = omega (arith, rest.most);
        each = both_true entry.2 rest.each;
      }
]

-- at the end of the part
pub none_left : (before : List Entry) (room : ℕ) (part : PartView) → length part.left == 0 ≡ true → entries_from room before part ≡ Ok before
unfolding entries_from
none_left before zero part e = rw e refl
none_left before (suc room) part e = rw e refl

entries_again : (entries : List Entry) (room : ℕ) (before : List Entry) (part : PartView) → part.left ≡ flat_map entry_text entries
    → length entries ≤ room → list_all is_entry entries ≡ true → entries_from room before part ≡ Ok (before ++ entries)
unfolding entries_from
entries_again [] room before part e l is = rw (append-nil before) (none_left before room part (ap (λ l. length l == 0) e))
entries_again (x ∷ xs) zero before part e l is = absurd (omega (arith, l))
entries_again (x ∷ xs) (suc room) before part e l is =
    let each = and_parts (is_entry x) (list_all is_entry xs) is in
    let elem = entry_elem x each.0 in
    let rest : List ℕ = flat_map entry_text xs in
    let item : ItemView = standing (entry_tag x) (entry_content x) rest part.place in
    let some : length part.left == 0 ≡ false = ap (λ l. length l == 0) e ∙ some_front (entry_tag x) (entry_text x) (entry_content x) rest elem in
    rw (some, sym (append_assoc before (x ∷ []) xs))
    (after (item_at part) item _ _
    (ap (λ (left : List ℕ). item_at (record { left = left; place = part.place })) e
    ∙ item_stands (entry_tag x) (entry_text x) (entry_content x) rest part.place elem)
    (after (entry_in item) x _ _ (entry_again item x (refl, refl, each.0))
    (entries_again xs room (before ++ x ∷ []) item.behind refl (omega (arith, l)) each.1)))

-- what is wrong if the part doesn't end
some_tells : {A : Type 0} (part : PartView) (v : A) (r : Result A Fault) (Wrong : Fault → Type 0) → Tells r Wrong
    → Tells (cond (length part.left == 0) (Ok v) r) (λ fault. (1 ≤ length part.left) × Wrong fault)
some_tells part v r Wrong tells fault = of (length part.left == 0) refl
  where
    of : (t : Bool) → length part.left == 0 ≡ t → (cond t (Ok v) r ≡ Err fault) ↔ ((1 ≤ length part.left) × Wrong fault)
    of true k = (λ e. absurd (right v fault e), λ w. absurd (grind (arith, nat_tests, k, w.0)))
    of false k = (λ e. (grind (arith, nat_tests, k), (tells fault).0 e), λ w. (tells fault).1 w.1)

entries_tell : (room : ℕ) (before : List Entry) (part : PartView) → AllBytes part.left → Tells (entries_from room before part) (WrongEntries room part)
unfolding entries_from WrongEntries
entries_tell zero before part b = some_tells part before _ _ (fault_tells (past_limit_at part.place))
entries_tell (suc room) before part b =
    some_tells part before _ _ (first_tells part _ _ b (λ item begins.
    through_tells (entry_in item) item.content (λ entry. entries_from room (before ++ entry ∷ []) item.behind) (λ content. WrongEntry item)
    (λ content. (entry : Entry) × IsItemOf item entry) (WrongEntries room item.behind) (entry_tells item begins.content_bytes)
    (λ entry e. ((entry, entry_found item entry begins.content_bytes e), entries_tell room (before ++ entry ∷ []) item.behind begins.behind_bytes))
    (λ good. (good.0, entry_again item good.0 good.1))))

-- ---- entry after entry, in a loop

-- no room is left, and bytes are
pub one_too_many : (before : List Entry) (room : ℕ) (part : PartView) → length part.left == 0 ≡ false → room ≡ 0
    → entries_from room before part ≡ Err (past_limit_at part.place)
unfolding entries_from
one_too_many before zero part e n = rw e refl
one_too_many before (suc room) part e n = absurd (omega (arith, n))

-- there is room for one more
pub next : (before : List Entry) (room : ℕ) (part : PartView) → length part.left == 0 ≡ false → 0 < room
    → entries_from room before part
    ≡ (item_at part >>= λ item. entry_in item >>= λ entry. entries_from (room - 1) (before ++ entry ∷ []) item.behind)
unfolding entries_from
next before zero part e l = absurd (omega (arith, l))
next before (suc room) part e l =
    let less : suc room - 1 ≡ room = omega arith in
    rw (e, less) refl

-- ---- the content of a list

content_found : (part : PartView) (entries : List Entry) → AllBytes part.left → content_entries part ≡ Ok entries → IsContentOf part.left entries
unfolding content_entries
content_found part entries b e = of (length part.left == 0) refl e
  where
    one : (entries : List Entry) (left : List ℕ) → left ≡ flat_map entry_text entries → length left == 0 ≡ false → 1 ≤ length entries
    one [] left t e = let test : length left == 0 ≡ true = ap (λ l. length l == 0) t in absurd cc
    one (x ∷ xs) left t e = omega arith

    of : (t : Bool) → length part.left == 0 ≡ t → cond t (Err no_entry) (entries_from 1000 [] part) ≡ Ok entries → IsContentOf part.left entries
    of true k e = cc
    of false k e =
        let f = entries_found 1000 [] part entries b e in
        subst (IsContentOf part.left) (sym f.is) (f.text, one f.more part.left f.text k, f.most, f.each)

content_again : (part : PartView) (entries : List Entry) → IsContentOf part.left entries → content_entries part ≡ Ok entries
unfolding content_entries
content_again part [] is = absurd (omega (arith, is.1))
content_again part (x ∷ xs) is =
    let elem = entry_elem x (and_parts (is_entry x) (list_all is_entry xs) is.3).0 in
    let some = some_front (entry_tag x) (entry_text x) (entry_content x) (flat_map entry_text xs) elem in
    rw (ap (λ l. length l == 0) is.0 ∙ some) (entries_again (x ∷ xs) 1000 [] part is.0 is.2 is.3)

content_tells : (part : PartView) → AllBytes part.left → Tells (content_entries part) (WrongContent part)
unfolding content_entries
content_tells part b =
    either_tells (length part.left == 0) (part.left ≡ []) (1 ≤ length part.left) _ _ _ _ (empty part.left) (some part.left)
    (fault_tells no_entry) (entries_tell 1000 [] part b)
  where
    empty : (left : List ℕ) → length left == 0 ≡ true → (left ≡ []) × (1 ≤ length left → ⊥)
    empty left k = (no_byte left k, λ l. absurd (grind (arith, nat_tests, k, l)))

    some : (left : List ℕ) → length left == 0 ≡ false → (1 ≤ length left) × (left ≡ [] → ⊥)
    some left k = (grind (arith, nat_tests, k), λ e. absurd (grind (arith, nat_tests, k, ap length e)))

-- ---- a list

-- What is read are the entries whose text the bytes are.
pub list_found : (bytes : List ℕ) (entries : List Entry) → AllBytes bytes → read_list bytes ≡ Ok entries → ListText bytes entries
unfolding read_list
list_found bytes entries b e =
    let a = came (element_at sequence_tag (whole_text bytes)) _ entries e in
    let c = came (content_entries a.0.content) _ entries a.2 in
    let end = ended a.0.behind c.0 entries c.2 in
    let list = element_found sequence_tag (whole_text bytes) a.0 b a.1 in
    let is = content_found a.0.content c.0 list.0.content_bytes c.1 in
    subst (ListText bytes) end.1 (record {
      text = known sequence_tag (whole_text bytes) a.0 (flat_map entry_text c.0) list end.0 is.0;
      some = is.1;
      most = is.2;
      each = is.3;
    })

-- The entries whose text the bytes are are what is read.
pub list_again : (bytes : List ℕ) (entries : List Entry) → ListText bytes entries → read_list bytes ≡ Ok entries
unfolding read_list
list_again bytes entries t =
    let content : List ℕ = flat_map entry_text entries in
    let list : ItemView = standing sequence_tag content [] 0 in
    let size : length content < 65536 = omega (arith, entries_length entries t.each, t.most) in
    rw (t.text ∙ sym (append-nil (element_text sequence_tag content)))
    (after (element_at sequence_tag (whole_text (element_text sequence_tag content ++ []))) list _ _ (element_again sequence_tag content [] 0 (λ e. omega (arith, e)) size)
    (after (content_entries list.content) entries _ _ (content_again list.content entries (refl, t.some, t.most, t.each))
    (ends list.behind entries refl)))

-- A fault that is read is the first fault of the bytes, and their first fault is read.
pub list_tells : (bytes : List ℕ) → AllBytes bytes → Tells (read_list bytes) (Refused bytes)
unfolding read_list
list_tells bytes b =
    element_tells sequence_tag (whole_text bytes) _ _ b (λ list begins tag.
    through_tells (content_entries list.content) list.content (λ entries. end_at list.behind entries) WrongContent (λ text. (entries : List Entry) × IsContentOf text entries) (LeftOver list.behind)
    (content_tells list.content begins.content_bytes)
    (λ entries e. ((entries, content_found list.content entries begins.content_bytes e), end_tells list.behind entries))
    (λ good. (good.0, content_again list.content good.0 good.1)))

-- Bytes of which a list is read are its text.
pub one_text : (text bytes : List ℕ) (entries : List Entry) → read_list bytes ≡ Ok entries → AllBytes bytes → ListText text entries → text ≡ bytes
one_text text bytes entries e b t = t.text ∙ sym (list_found bytes entries b e).text

-- Two lists whose text the bytes are are one.
pub one_list : (bytes : List ℕ) (a b : List Entry) → ListText bytes a → ListText bytes b → a ≡ b
one_list bytes a b s t = inside a b (sym (list_again bytes a s) ∙ list_again bytes b t)

-- ---- faults of a list as a whole

-- what is wrong with the SEQUENCE that the bytes begin with, or after it
wrong_list : (bytes content rest : List ℕ) (fault : Fault) → bytes ≡ element_text sequence_tag content ++ rest → length content < 65536
    → Within WrongContent (λ text. (entries : List Entry) × IsContentOf text entries) (Behind LeftOver) (standing sequence_tag content rest 0) fault → Refused bytes fault
wrong_list bytes content rest fault text size wrong = inr (record {
  element = record { tag = sequence_tag; whole = element_text sequence_tag content; content = content };
  rest = rest;
  begins = record { elem = record { low_tag = λ e. omega (arith, e); size = size; text = refl }; split = text };
  wrong = inr (refl, wrong);
})

pub empty_refused : (bytes rest : List ℕ) → bytes ≡ list_text [] ++ rest → Refused bytes no_entry
empty_refused bytes rest text = wrong_list bytes [] rest no_entry text (omega arith) (inl (inl (refl, refl)))

pub left_over_refused : (bytes : List ℕ) (place : ℕ) → IsLeftOver bytes place → Refused bytes (der_at place)
left_over_refused bytes place o =
    let content : List ℕ = flat_map entry_text o.entries in
    let size : length content < 65536 = omega (arith, entries_length o.entries o.is.each, o.is.most) in
    let at : place ≡ 0 + length (element_text sequence_tag content) = omega (arith, o.at, ap length o.is.text) in
    wrong_list bytes content o.rest (der_at place) (o.text ∙ ap (λ l. l ++ o.rest) o.is.text) size
    (inr ((o.entries, (refl, o.is.some, o.is.most, o.is.each)), (o.some, ap der_at at)))

past_limit : (entries : List Entry) (more : List ℕ) (place end : ℕ) → list_all is_entry entries ≡ true → 1 ≤ length more
    → end ≡ place + length (flat_map entry_text entries)
    → WrongEntries (length entries) (record { left = flat_map entry_text entries ++ more; place = place }) (past_limit_at end)
unfolding WrongEntries
past_limit [] more place end e some at = (some, ap past_limit_at (omega (arith, at)))
past_limit (x ∷ xs) more place end e some at =
    let each = and_parts (is_entry x) (list_all is_entry xs) e in
    let rest : List ℕ = flat_map entry_text xs in
    let sizes = length-append (entry_text x) rest in (
      omega (arith, length-append (entry_text x ++ rest) more, sizes),
      inr (record {
        element = record { tag = entry_tag x; whole = entry_text x; content = entry_content x };
        rest = rest ++ more;
        begins = record { elem = entry_elem x each.0; split = append_assoc (entry_text x) rest more };
        wrong = inr ((x, (refl, refl, each.0)), past_limit xs more (place + length (entry_text x)) end each.1 some (omega (arith, at, sizes)));
      }),
    )

pub past_limit_refused : (bytes : List ℕ) (place : ℕ) → IsPastLimit bytes place → Refused bytes (past_limit_at place)
past_limit_refused bytes place o =
    let entries : List ℕ = flat_map entry_text o.entries in
    let content : List ℕ = entries ++ o.more in
    let first : ℕ = 0 + (length (element_text sequence_tag content) - length content) in
    let at : place ≡ first + length entries = omega (
      arith,
      o.at,
      length-append entries o.more,
      ap length o.text,
      length-append (element_text sequence_tag content) o.rest,
      length-append (length_text (length content)) content,
    ) in
    wrong_list bytes content o.rest (past_limit_at place) o.text o.size
    (inl (inr (
      omega (arith, o.some, length-append entries o.more),
      subst (λ room. WrongEntries room (record { left = content; place = first }) (past_limit_at place)) o.all
          (past_limit o.entries o.more first place o.each o.some at),
    )))

-- ---- what a list is

-- entries are what their types make sure of, and none of them is a range of a single number
pub entries_are : (entries : List Entry) → list_all is_entry entries
    ≡ (list_all (λ entry. not (is_range_of_one entry)) entries && list_all is_typed entries)
entries_are [] = refl
entries_are (x ∷ xs) = rw (one x, entries_are xs) (two (not (is_range_of_one x)) (is_typed x) _ _)
  where
    one : (entry : Entry) → is_entry entry ≡ (not (is_range_of_one entry) && is_typed entry)
    one (Code text) = refl
    one (Range span) = grind (arith, nat_tests)
    one (Single number) = refl

    two : (a b c d : Bool) → ((a && b) && (c && d)) ≡ ((a && c) && (b && d))
    two a b c d = grind (arith, nat_tests)

-- what a text has is a list
text_is_list : (bytes : List ℕ) (entries : List Entry) → ListText bytes entries → is_list entries ≡ true
unfolding is_list
text_is_list bytes entries t =
    let some : nat_le 1 (length entries) ≡ true = grind (arith, nat_tests, t.some) in
    let most : nat_le (length entries) 1000 ≡ true = grind (arith, nat_tests, t.most) in
    both_true (both_true some most) (and_parts _ (list_all is_typed entries) (sym (entries_are entries) ∙ t.each)).0

-- ---- an answer of `AuthList::read`

pub read_is_list : (bytes : List ℕ) (entries : List Entry) → AllBytes bytes → read_list bytes ≡ Ok entries → is_list entries ≡ true
read_is_list bytes entries b e = text_is_list bytes entries (list_found bytes entries b e)

pub answer_again : (bytes : List ℕ) (r : Result (List Entry) ListFault) → Gives r (read_list bytes)
    → (entries : List Entry) → ListText bytes entries → Gives r (Ok entries)
answer_again bytes r g entries t = subst (λ read. Gives r read) (list_again bytes entries t) g

pub answer_refused : (bytes : List ℕ) (r : Result (List Entry) ListFault) → AllBytes bytes → Gives r (read_list bytes)
    → (fault : Fault) → Refused bytes fault → Gives r (Err fault)
answer_refused bytes r b g fault w = subst (λ read. Gives r read) ((list_tells bytes b fault).1 w) g

pub answer_is_refused : (bytes : List ℕ) (r : Result (List Entry) ListFault) → AllBytes bytes → Gives r (read_list bytes) → IsRefused bytes r
answer_is_refused bytes (Ok entries) b g = tt
answer_is_refused bytes (Err (At kind place)) b g = (list_tells bytes b (at_kind kind place)).0 g
answer_is_refused bytes (Err Memory) b g = tt
