-- Laws of reading one entry: it gives the entry whose text is there, and no other; and a fault is what is wrong there.
use Rattle.std.proofs.Common.{◌≡◌, ◌≢◌, ℕ, ◌==◌, ◌<◌, ◌≤◌, ◌^◌, nat_le, nat_lt, Bool, true, false, cond, List, [], ◌++◌, length, bit_and, Some, None, Result, Ok, Err, refl, sym, ap, subst, ◌∙◌, inl, inr, ◌⊎◌, append-nil, length-append, arith}
use Rattle.std.proofs.lemmas.Bool.Decides.{nat_tests}
use Rattle.std.proofs.lemmas.Option.{cond_some}
use Rattle.lists.proofs.StepLaws.{after, came}
use Rattle.der_reader.specs.Broken.{Behind, LeftOver}
use Rattle.der_reader.specs.Elem.{AllBytes, element_text}
use Rattle.der_reader.specs.Integer.{IntegerText, integer_content, unsigned_of}
use Rattle.der_reader.specs.Part.{ItemView, PartView, at_kind, element_at, end_at, or_fault}
use Rattle.der_reader.specs.declared.fault.DerFault.{DerFault}
use Rattle.der_reader.specs.declared.part.Fault.{Fault}
use Rattle.der_reader.specs.Tags.{ia5_string_tag, integer_tag, sequence_tag}
use Rattle.der_reader.proofs.BrokenLaws.{Tells, element_tells, end_tells, same_fault, through_tells, value_tells}
use Rattle.der_reader.proofs.IntegerLaws.{unsigned_again, unsigned_found}
use Rattle.der_reader.proofs.IntegerTexts.{integer_is_text, integer_short, integer_text_is}
use Rattle.der_reader.proofs.PartLaws.{begins_text, element_again, element_found, element_length, ended, ends, known, standing, there}
use Rattle.tn_values.specs.Digit.{are_digits}
use Rattle.tn_values.specs.Number.{is_number}
use Rattle.tn_values.specs.Span.{SpanView}
use Rattle.tn_auth_list.specs.declared.entries.Entry.{Entry}
use Rattle.tn_auth_list.specs.declared.entries.Entry.TheVariants.{Code, Range, Single}
use Rattle.tn_auth_list.specs.Code.{is_code}
use Rattle.tn_auth_list.specs.Entry.{is_entry}
use Rattle.tn_auth_list.specs.Fault.{no_code_at, no_count_at, no_number_at}
use Rattle.tn_auth_list.specs.ListText.{code_tag, entry_content, integer_text, range_tag, single_tag, span_text, string_text}
use Rattle.tn_auth_list.specs.Read.{code_in, counted, entry_in, range_in, single_in, span_in, start_of, string_in}
use Rattle.tn_auth_list.specs.Refused.{IsCount, IsItemOf, IsSpanOf, IsStart, WrongCount, WrongEntry, WrongRange, WrongSpan, WrongString}
use Rattle.tn_auth_list.proofs.CodeFacts.{code_parts}

-- ---- how long texts are

number_short : (text : List ℕ) → is_number text ≡ true → length text ≤ 32
unfolding is_number
number_short text e = grind (arith, nat_tests)

string_length : (text : List ℕ) → length text ≤ 32 → length (string_text text) ≤ 34
string_length text l = omega (arith, element_length ia5_string_tag text (omega (arith, l)), l)

-- what a range is
is_range : (span : SpanView) → is_entry (Range span) ≡ true
    → (is_number span.start ≡ true) × (are_digits span.start ≡ true) × (2 ≤ span.size) × (span.size < 2 ^ 64)
is_range span e = (grind (arith, nat_tests), grind (arith, nat_tests), grind (arith, nat_tests), grind (arith, nat_tests))

span_length : (span : SpanView) → is_entry (Range span) ≡ true → length (span_text span) ≤ 28
unfolding is_number
span_length span e =
    let is = is_range span e in
    let start : length span.start ≤ 15 = grind (arith, nat_tests, is.0) in
    let count = integer_short span.size is.3 in
    omega (
      arith,
      start,
      count,
      element_length ia5_string_tag span.start (omega (arith, start)),
      element_length integer_tag (integer_content span.size) (omega (arith, count)),
      length-append (string_text span.start) (integer_text span.size),
    )

pub content_length : (entry : Entry) → is_entry entry ≡ true → length (entry_content entry) ≤ 34
content_length (Code text) e = string_length text (code_parts text e).short
content_length (Single number) e = string_length number (number_short number e)
content_length (Range span) e =
    let short = span_length span e in
    omega (arith, short, element_length sequence_tag (span_text span) (omega (arith, short)))

-- ---- the IA5String of a text

-- the element of a part that begins with its text
stands : (tag : ℕ) (part : PartView) (content rest : List ℕ) → part.left ≡ element_text tag content ++ rest → bit_and tag 31 ≢ 31
    → length content ≤ 34 → element_at tag part ≡ Ok (standing tag content rest part.place)
stands tag part content rest e t l =
    ap (λ (left : List ℕ). element_at tag (record { left = left; place = part.place })) e
    ∙ element_again tag content rest part.place t (omega (arith, l))

alone : (tag : ℕ) (part : PartView) (content : List ℕ) → part.left ≡ element_text tag content → bit_and tag 31 ≢ 31
    → length content ≤ 34 → element_at tag part ≡ Ok (standing tag content [] part.place)
alone tag part content e t l = stands tag part content [] (e ∙ sym (append-nil (element_text tag content))) t l

string_found : (passes : List ℕ → Bool) (fault_at : ℕ → Fault) (make : List ℕ → Entry) (part : PartView) (entry : Entry) → AllBytes part.left
    → string_in passes fault_at make part ≡ Ok entry
    → (text : List ℕ) × (make text ≡ entry) × (part.left ≡ string_text text) × (passes text ≡ true)
unfolding string_in
string_found passes fault_at make part entry b e =
    let a = came (element_at ia5_string_tag part) _ entry e in
    let c = came (or_fault (cond (passes a.0.content.left) (Some a.0.content.left) None) (fault_at a.0.place)) _ entry a.2 in
    let end = ended a.0.behind (make c.0) entry c.2 in
    let is = cond_some _ a.0.content.left c.0 (there _ _ c.0 c.1) in
    (c.0, end.1, known ia5_string_tag part a.0 c.0 (element_found ia5_string_tag part a.0 b a.1) end.0 is.1, sym (ap passes is.1) ∙ is.0)

string_again : (passes : List ℕ → Bool) (fault_at : ℕ → Fault) (make : List ℕ → Entry) (part : PartView) (text : List ℕ)
    → part.left ≡ string_text text → passes text ≡ true → length text ≤ 32 → string_in passes fault_at make part ≡ Ok (make text)
unfolding string_in
string_again passes fault_at make part text e p l =
    after (element_at ia5_string_tag part) (standing ia5_string_tag text [] part.place) _ _ (alone ia5_string_tag part text e (λ e. omega (arith, e)) (omega (arith, l)))
    (rw p (ends (standing ia5_string_tag text [] part.place).behind (make text) refl))

string_tells : (passes : List ℕ → Bool) (kind : ℕ) (make : List ℕ → Entry) (part : PartView) → AllBytes part.left
    → Tells (string_in passes (at_kind kind) make part) (WrongString (λ string. passes string.content.left ≡ true) kind part)
unfolding string_in
string_tells passes kind make part b =
    element_tells ia5_string_tag part _ _ b (λ string begins tag.
    value_tells (cond (passes string.content.left) (Some string.content.left) None) string kind (λ text. end_at string.behind (make text))
    (λ string. passes string.content.left ≡ true) (Behind LeftOver)
    (λ text e. ((cond_some _ string.content.left text e).0, end_tells string.behind (make text))) (λ good. (string.content.left, rw good refl)))

-- ---- the start and the count of a range

start_found : (text start : List ℕ) → start_of text ≡ Some start → (text ≡ start) × (is_number text ≡ true) × (are_digits text ≡ true)
start_found text start e = (grind (arith, nat_tests), grind (arith, nat_tests), grind (arith, nat_tests))

-- the start and the count of this range
abbrev IsCounted : List ℕ → List ℕ → SpanView → Type 0
IsCounted start content span = (start ≡ span.start) × IntegerText content span.size × (2 ≤ span.size) × (span.size < 2 ^ 64)

counted_found : (start : List ℕ) (tag : ℕ) (content : List ℕ) (span : SpanView) → counted start (unsigned_of tag content) ≡ Some span
    → IsCounted start content span
counted_found start tag content span e = of (unsigned_of tag content) refl e
  where
    of : (r : Result ℕ DerFault) → unsigned_of tag content ≡ r → counted start r ≡ Some span → IsCounted start content span
    of (Ok count) k e =
        let number = unsigned_found tag content count k in
        let is : record { start = start; size = count } ≡ span = grind (arith, nat_tests) in
        subst (IsCounted start content) is (refl, number.1, grind (arith, nat_tests), number.2)
    of (Err fault) k e = cc

counted_again : (start : List ℕ) (tag : ℕ) (content : List ℕ) (count : ℕ) → tag ≡ integer_tag → are_digits start ≡ true → IntegerText content count
    → 2 ≤ count → count < 2 ^ 64 → counted start (unsigned_of tag content) ≡ Some (record { start = start; size = count })
counted_again start tag content count t digits text l u =
    let least : nat_lt count 2 ≡ false = grind (arith, nat_tests, l) in
    let some : nat_le 1 count ≡ true = grind (arith, nat_tests, l) in
    rw (unsigned_again tag content count t text u, least, digits, some) refl

-- ---- a range

span_found : (part : PartView) (span : SpanView) → AllBytes part.left → span_in part ≡ Ok span → IsSpanOf part.left span
unfolding span_in
span_found part span b e =
    let a = came (element_at ia5_string_tag part) _ span e in
    let s = came (or_fault (start_of a.0.content.left) (no_number_at a.0.place)) _ span a.2 in
    let i = came (element_at integer_tag a.0.behind) _ span s.2 in
    let c = came (or_fault (counted s.0 (unsigned_of i.0.tag i.0.content.left)) (no_count_at i.0.place)) _ span i.2 in
    let end = ended i.0.behind c.0 span c.2 in
    let string = element_found ia5_string_tag part a.0 b a.1 in
    let integer = element_found integer_tag a.0.behind i.0 string.0.behind_bytes i.1 in
    let start = start_found a.0.content.left s.0 (there _ _ s.0 s.1) in
    let count = counted_found s.0 i.0.tag i.0.content.left c.0 (there _ _ c.0 c.1) in
    let text : a.0.content.left ≡ c.0.start = start.0 ∙ count.0 in
    let content : i.0.content.left ≡ integer_content c.0.size = integer_text_is i.0.content.left c.0.size integer.0.content_bytes count.1 in
    let is : is_entry (Range c.0) ≡ true =
    grind (arith, nat_tests, sym (ap are_digits text) ∙ start.2, sym (ap is_number text) ∙ start.1, count.2, count.3) in
    subst (IsSpanOf part.left) end.1 (
      begins_text ia5_string_tag part a.0 string ∙ ap (λ r. string_text a.0.content.left ++ r) (known integer_tag a.0.behind i.0 (integer_content c.0.size) integer end.0 content)
          ∙ ap (λ t. string_text t ++ integer_text c.0.size) text,
      is,
    )

span_again : (part : PartView) (span : SpanView) → part.left ≡ span_text span → is_entry (Range span) ≡ true → span_in part ≡ Ok span
unfolding span_in
span_again part span e is =
    let r = is_range span is in
    let string : ItemView = standing ia5_string_tag span.start (integer_text span.size) part.place in
    let integer : ItemView = standing integer_tag (integer_content span.size) [] string.behind.place in
    after (element_at ia5_string_tag part) string _ _
    (stands ia5_string_tag part span.start (integer_text span.size) e (λ e. omega (arith, e)) (omega (arith, number_short span.start r.0)))
    (rw (r.1, r.0)
    (after (element_at integer_tag string.behind) integer _ _
    (alone integer_tag string.behind (integer_content span.size) refl (λ e. omega (arith, e)) (omega (arith, integer_short span.size r.3)))
    (rw (counted_again span.start integer_tag (integer_content span.size) span.size refl r.1 (integer_is_text span.size) r.2 r.3)
    (ends integer.behind span refl))))

span_tells : (part : PartView) → AllBytes part.left → Tells (span_in part) (WrongSpan part)
unfolding span_in
span_tells part b =
    element_tells ia5_string_tag part _ _ b (λ string begins tag.
    value_tells (start_of string.content.left) string 4 _ IsStart (Behind WrongCount) (λ start e.
    let s = start_found string.content.left start e in (
      (s.1, s.2),
      element_tells integer_tag string.behind _ _ begins.behind_bytes (λ integer begins tag.
          value_tells (counted start (unsigned_of integer.tag integer.content.left)) integer 5 (λ span. end_at integer.behind span) IsCount (Behind LeftOver)
          (λ span e. let c = counted_found start integer.tag integer.content.left span e in ((span.size, c.1, c.2, c.3), end_tells integer.behind span))
          (λ good. (_, counted_again start integer.tag integer.content.left good.0 tag (sym (ap are_digits s.0) ∙ s.2) good.1 good.2 good.3))),
    ))
    (λ good. (string.content.left, rw (good.1, good.0) refl)))

range_found : (part : PartView) (entry : Entry) → AllBytes part.left → range_in part ≡ Ok entry
    → (span : SpanView) × (Range span ≡ entry) × (part.left ≡ element_text sequence_tag (span_text span)) × (is_entry (Range span) ≡ true)
unfolding range_in
range_found part entry b e =
    let a = came (element_at sequence_tag part) _ entry e in
    let s = came (span_in a.0.content) _ entry a.2 in
    let end = ended a.0.behind (Range s.0) entry s.2 in
    let sequence = element_found sequence_tag part a.0 b a.1 in
    let span = span_found a.0.content s.0 sequence.0.content_bytes s.1 in
    (s.0, end.1, known sequence_tag part a.0 (span_text s.0) sequence end.0 span.0, span.1)

range_again : (part : PartView) (span : SpanView) → part.left ≡ element_text sequence_tag (span_text span) → is_entry (Range span) ≡ true
    → range_in part ≡ Ok (Range span)
unfolding range_in
range_again part span e is =
    let sequence : ItemView = standing sequence_tag (span_text span) [] part.place in
    after (element_at sequence_tag part) sequence _ _ (alone sequence_tag part (span_text span) e (λ e. omega (arith, e)) (omega (arith, span_length span is)))
    (after (span_in sequence.content) span _ _ (span_again sequence.content span refl is) (ends sequence.behind (Range span) refl))

range_tells : (part : PartView) → AllBytes part.left → Tells (range_in part) (WrongRange part)
unfolding range_in
range_tells part b =
    element_tells sequence_tag part _ _ b (λ sequence begins tag.
    through_tells (span_in sequence.content) sequence.content (λ span. end_at sequence.behind (Range span)) WrongSpan (λ text. (span : SpanView) × IsSpanOf text span) (LeftOver sequence.behind)
    (span_tells sequence.content begins.content_bytes)
    (λ span e. ((span, span_found sequence.content span begins.content_bytes e), end_tells sequence.behind (Range span)))
    (λ good. (good.0, span_again sequence.content good.0 good.1.0 good.1.1)))

-- ---- an entry

-- which entry a tag announces
by_tag : (item : ItemView) (entry : Entry) → entry_in item ≡ Ok entry
    → ((item.tag ≡ code_tag) × (code_in item.content ≡ Ok entry)) ⊎ (((item.tag ≡ range_tag) × (range_in item.content ≡ Ok entry))
    ⊎ ((item.tag ≡ single_tag) × (single_in item.content ≡ Ok entry)))
unfolding entry_in
by_tag item entry e = grind (arith, nat_tests)

pub entry_found : (item : ItemView) (entry : Entry) → AllBytes item.content.left → entry_in item ≡ Ok entry → IsItemOf item entry
entry_found item entry b e = elim (by_tag item entry e) [
  | inl code ↦ let f = string_found is_code no_code_at Code item.content entry b code.1 in subst (IsItemOf item) f.1 (code.0, f.2, f.3)
  | inr other ↦ elim other [
    | inl range ↦ let f = range_found item.content entry b range.1 in subst (IsItemOf item) f.1 (range.0, f.2, f.3)
    | inr single ↦ let f = string_found is_number no_number_at Single item.content entry b single.1 in subst (IsItemOf item) f.1 (single.0, f.2, f.3)
  ]
]

pub entry_again : (item : ItemView) (entry : Entry) → IsItemOf item entry → entry_in item ≡ Ok entry
unfolding entry_in
entry_again item (Code text) is = rw is.0 (string_again is_code no_code_at Code item.content text is.1 is.2 (code_parts text is.2).short)
entry_again item (Range span) is = rw is.0 (range_again item.content span is.1 is.2)
entry_again item (Single number) is = rw is.0 (string_again is_number no_number_at Single item.content number is.1 is.2 (number_short number is.2))

-- a reading that is a fault
pub fault_tells : {A : Type 0} (at : Fault) → Tells {A = A} (Err at) (λ fault. fault ≡ at)
fault_tells at fault = (λ e. sym (same_fault _ _ e), λ w. ap (λ f. let r : Result _ Fault = Err f in r) (sym w))

-- a test that tells two cases apart
pub either_tells : {A : Type 0} (t : Bool) (Yes No : Type 0) (r s : Result A Fault) (Wrong Other : Fault → Type 0) → (t ≡ true → Yes × (No → ⊥))
    → (t ≡ false → No × (Yes → ⊥)) → Tells r Wrong → Tells s Other → Tells (cond t r s) (λ fault. (Yes × Wrong fault) ⊎ (No × Other fault))
either_tells true Yes No r s Wrong Other passes fails told other fault =
    let k = passes refl in
    (λ e. inl (k.0, (told fault).0 e), λ w. elim w [ inl so ↦ (told fault).1 so.1 | inr so ↦ absurd (k.1 so.0) ])
either_tells false Yes No r s Wrong Other passes fails told other fault =
    let k = fails refl in
    (λ e. inr (k.0, (other fault).0 e), λ w. elim w [ inl so ↦ absurd (k.1 so.0) | inr so ↦ (other fault).1 so.1 ])

pub entry_tells : (item : ItemView) → AllBytes item.content.left → Tells (entry_in item) (WrongEntry item)
unfolding entry_in
entry_tells item b =
    by code_tag _ _ _ _ (string_tells is_code 3 Code item.content b) (by range_tag _ _ _ _ (range_tells item.content b)
    (by single_tag _ _ _ _ (string_tells is_number 4 Single item.content b) (fault_tells (at_kind 1 item.place))))
  where
    by : (tag : ℕ) (r s : Result Entry Fault) (Wrong Other : Fault → Type 0) → Tells r Wrong → Tells s Other
        → Tells (cond (item.tag == tag) r s) (λ fault. ((item.tag ≡ tag) × Wrong fault) ⊎ ((item.tag ≢ tag) × Other fault))
    by tag r s Wrong Other =
        either_tells (item.tag == tag) (item.tag ≡ tag) (item.tag ≢ tag) r s Wrong Other
        (λ k. let is : item.tag ≡ tag = grind (arith, nat_tests, k) in (is, λ other. other is))
        (λ k. let is : item.tag ≢ tag = λ e. absurd (grind (arith, nat_tests, k, e)) in (is, is))
