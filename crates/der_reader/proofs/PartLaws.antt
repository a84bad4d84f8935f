-- Laws of elements one after another: each is what is there, and what is there is read.
use Rattle.std.proofs.Common.{◌≡◌, ◌≢◌, ℕ, ◌+◌, ◌<◌, ◌≤◌, ◌^◌, ◌==◌, ◌&&◌, true, false, List, [], ◌++◌, length, bit_and, Option, Some, None, Result, Ok, Err, refl, sym, ap, subst, ◌∙◌, length-append, append-nil, arith}
use Rattle.std.proofs.lemmas.Bool.Decides.{nat_tests}
use Rattle.lists.proofs.Bytes.{no_byte}
use Rattle.lists.proofs.StepLaws.{after, came, inside, taken}
use Rattle.der_reader.specs.declared.fault.DerFault.{DerFault}
use Rattle.der_reader.specs.declared.part.Fault.{Fault}
use Rattle.der_reader.specs.Fault.{bad_value}
use Rattle.der_reader.specs.Elem.{AllBytes, BeginsWith, Elem, Element, IsPair, element_text, length_text}
use Rattle.der_reader.specs.Next.{next_at, pair_at, sole_at}
use Rattle.der_reader.specs.Part.{ItemView, PartView, at_kind, element_at, end_at, item_at, item_from, item_in, or_broken, or_fault}
use Rattle.der_reader.specs.Tags.{sequence_tag}
use Rattle.der_reader.proofs.NextLaws.{all_front, next_again, next_found, parts_are_bytes, short_text}
use Rattle.lists.specs.Steps.{◌>>=◌}

-- ---- sizes

-- an element is no longer than what begins with it, and longer than its content
pub element_sizes : (bytes : List ℕ) (element : Element) (rest : List ℕ) → BeginsWith bytes element rest
    → (length element.whole + length rest ≡ length bytes) × (length element.content < length element.whole)
element_sizes bytes element rest b = (
  omega (arith, ap length b.split, length-append element.whole rest),
  omega (arith, ap length b.elem.text, length-append (length_text (length element.content)) element.content),
)

three_at_most : (n : ℕ) → length (length_text n) ≤ 3
unfolding length_text
three_at_most n = grind (arith, nat_tests)

-- an element is short, no longer than what begins with it, nor its content than the element
pub element_small : (bytes : List ℕ) (element : Element) (rest : List ℕ) → BeginsWith bytes element rest
    → (length element.whole < 2 ^ 17) × (length element.whole ≤ length bytes) × (length element.content ≤ length element.whole)
element_small bytes element rest b = (
  omega (arith, ap length b.elem.text, b.elem.size, length-append (length_text (length element.content)) element.content, three_at_most (length element.content)),
  omega (arith, ap length b.split, length-append element.whole rest),
  omega (arith, ap length b.elem.text, length-append (length_text (length element.content)) element.content),
)

-- ---- one step of a reader

-- a value that there is
pub there : {A : Type 0} (o : Option A) (fault : Fault) (v : A) → or_fault o fault ≡ Ok v → o ≡ Some v
there (Some x) fault v e = let is : x ≡ v = cc in ap Some is
there None fault v e = cc

-- what was read in spite of another fault
pub unbroken : {A E : Type 0} (r : Result A E) (broken : Fault) (x : A) → or_broken r broken ≡ Ok x → r ≡ Ok x
unbroken (Ok y) broken x e = let k : y ≡ x = cc in ap (λ y. let r : Result _ _ = Ok y in r) k
unbroken (Err f) broken x e = cc

-- what was read, if another fault would be this one
pub kept : {A E : Type 0} (r : Result A E) (broken : Fault) (x : A) → r ≡ Ok x → or_broken r broken ≡ Ok x
kept r broken x e = ap (λ r. or_broken r broken) e

-- answers that hold one thing are one
pub ok_is : {A E : Type 0} (x y : A) → x ≡ y → ◌≡◌ {A = Result A E} (Ok x) (Ok y)
ok_is x y e = ap (λ x. let r : Result _ _ = Ok x in r) e

-- nothing is left over
pub ended : {A : Type 0} (part : PartView) (v w : A) → end_at part v ≡ Ok w → (part.left ≡ []) × (v ≡ w)
ended part v w e = let t = taken (length part.left == 0) v w (at_kind 1 part.place) e in (no_byte part.left t.0, t.1)

pub ends : {A : Type 0} (part : PartView) (v : A) → part.left ≡ [] → end_at part v ≡ Ok v
ends part v e = let test : length part.left == 0 ≡ true = ap (λ l. length l == 0) e in rw test refl

-- ---- an element

-- the part begins with this element, and this is what comes after it
pub record Begins (part : PartView) (item : ItemView) : Type 0 where
  pub elem : Elem item.whole item.tag item.content.left
  pub split : part.left ≡ item.whole ++ item.behind.left
  pub whole_bytes : AllBytes item.whole
  pub content_bytes : AllBytes item.content.left
  pub behind_bytes : AllBytes item.behind.left

pub begins_with : (part : PartView) (element : Element) (rest : List ℕ) → AllBytes part.left → BeginsWith part.left element rest
    → Begins part (item_in part.place element rest)
begins_with part element rest b begins =
    let bytes = parts_are_bytes part.left element rest b begins in
    record {
      elem = begins.elem;
      split = begins.split;
      whole_bytes = all_front element.whole rest (subst AllBytes begins.split b);
      content_bytes = bytes.0;
      behind_bytes = bytes.1;
    }

pub item_found : (part : PartView) (item : ItemView) → AllBytes part.left → item_at part ≡ Ok item → Begins part item
unfolding item_at
item_found part item b e = by_next (next_at part.left) refl e
  where
    by_next : (r : Result (Element × List ℕ) DerFault) → next_at part.left ≡ r → item_from part.place r ≡ Ok item → Begins part item
    by_next (Ok found) k e =
        subst (Begins part) (inside (item_in part.place found.0 found.1) item e) (begins_with part found.0 found.1 b (next_found part.left found b k))
    by_next (Err fault) k e = cc

pub element_found : (tag : ℕ) (part : PartView) (item : ItemView) → AllBytes part.left → element_at tag part ≡ Ok item
    → Begins part item × (item.tag ≡ tag)
unfolding element_at
element_found tag part item b e =
    let a = came (item_at part) _ item e in
    let t = taken (a.0.tag == tag) a.0 item (at_kind 1 a.0.place) a.2 in
    let is : a.0.tag ≡ tag = grind (arith, nat_tests, t.0) in
    (subst (Begins part) t.1 (item_found part a.0 b a.1), sym (ap (λ (i : ItemView). i.tag) t.1) ∙ is)

-- a reading that gives something, by its first step: what follows from what this gave follows from it
pub came_by : {A B E C : Type 0} (r : Result A E) (next : A → Result B E) (x : B) → r >>= next ≡ Ok x → ((a : A) → r ≡ Ok a → next a ≡ Ok x → C) → C
came_by r next x e follows = let a = came r next x e in follows a.0 a.1 a.2

pub item_came : {A C : Type 0} (part : PartView) (next : ItemView → Result A Fault) (x : A) → AllBytes part.left → item_at part >>= next ≡ Ok x
    → ((item : ItemView) → Begins part item → next item ≡ Ok x → C) → C
item_came part next x b e follows = came_by (item_at part) next x e (λ item r. follows item (item_found part item b r))

pub element_came : {A C : Type 0} (tag : ℕ) (part : PartView) (next : ItemView → Result A Fault) (x : A) → AllBytes part.left → element_at tag part >>= next ≡ Ok x
    → ((item : ItemView) → Begins part item × (item.tag ≡ tag) → next item ≡ Ok x → C) → C
element_came tag part next x b e follows = came_by (element_at tag part) next x e (λ item r. follows item (element_found tag part item b r))

-- its text, and what comes after it
pub begins_text : (tag : ℕ) (part : PartView) (item : ItemView) → Begins part item × (item.tag ≡ tag)
    → part.left ≡ element_text tag item.content.left ++ item.behind.left
begins_text tag part item b =
    b.0.split ∙ ap (λ w. w ++ item.behind.left) b.0.elem.text ∙ ap (λ t. element_text t item.content.left ++ item.behind.left) b.1

-- an element alone, and what is in it
pub known : (tag : ℕ) (part : PartView) (item : ItemView) (inner : List ℕ) → Begins part item × (item.tag ≡ tag) → item.behind.left ≡ []
    → item.content.left ≡ inner → part.left ≡ element_text tag inner
known tag part item inner b none content =
    begins_text tag part item b ∙ ap (λ r. element_text tag item.content.left ++ r) none
    ∙ append-nil (element_text tag item.content.left) ∙ ap (λ c. element_text tag c) content

-- the same of the part's bytes
pub alone : (tag : ℕ) (part : PartView) (item : ItemView) → Begins part item × (item.tag ≡ tag) → item.behind.left ≡ []
    → Elem part.left tag item.content.left
alone tag part item b none =
    let whole : part.left ≡ item.whole = b.0.split ∙ ap (λ r. item.whole ++ r) none ∙ append-nil item.whole in
    subst (λ w. Elem w tag item.content.left) (sym whole) (subst (λ t. Elem item.whole t item.content.left) b.1 b.0.elem)

-- what is at this place is read
pub item_stands : (tag : ℕ) (text content rest : List ℕ) (place : ℕ) → Elem text tag content
    → item_at (record { left = text ++ rest; place = place })
    ≡ Ok (item_in place (record { tag = tag; whole = text; content = content }) rest)
unfolding item_at
item_stands tag text content rest place elem =
    ap (item_from place) (next_again (text ++ rest) (record { tag = tag; whole = text; content = content }) rest
    (record { elem = elem; split = refl }))

pub element_stands : (tag : ℕ) (text content rest : List ℕ) (place : ℕ) → Elem text tag content
    → element_at tag (record { left = text ++ rest; place = place })
    ≡ Ok (item_in place (record { tag = tag; whole = text; content = content }) rest)
unfolding element_at
element_stands tag text content rest place elem =
    let test : tag == tag ≡ true = grind (arith, nat_tests) in
    after (item_at (record { left = text ++ rest; place = place })) _ _ _ (item_stands tag text content rest place elem) (rw test refl)

-- an element that is alone
pub item_alone : (tag : ℕ) (text content : List ℕ) (place : ℕ) → Elem text tag content
    → item_at (record { left = text; place = place }) ≡ Ok (item_in place (record { tag = tag; whole = text; content = content }) [])
item_alone tag text content place elem =
    ap (λ (left : List ℕ). item_at (record { left = left; place = place })) (sym (append-nil text))
    ∙ item_stands tag text content [] place elem

pub element_alone : (tag : ℕ) (text content : List ℕ) (place : ℕ) → Elem text tag content
    → element_at tag (record { left = text; place = place })
    ≡ Ok (item_in place (record { tag = tag; whole = text; content = content }) [])
element_alone tag text content place elem =
    ap (λ (left : List ℕ). element_at tag (record { left = left; place = place })) (sym (append-nil text))
    ∙ element_stands tag text content [] place elem

-- some bytes are an element's
pub some_front : (tag : ℕ) (text content rest : List ℕ) → Elem text tag content → length (text ++ rest) == 0 ≡ false
some_front tag text content rest elem =
    let some : 0 < length (text ++ rest) = omega (arith, ap length elem.text, length-append text rest) in
    grind (arith, nat_tests)

pub some_bytes : (tag : ℕ) (text content : List ℕ) → Elem text tag content → length text == 0 ≡ false
some_bytes tag text content elem =
    let some : 0 < length text = omega (arith, ap length elem.text) in
    grind (arith, nat_tests)

-- the element of this tag and content that is there
abbrev pub standing : ℕ → List ℕ → List ℕ → ℕ → ItemView
standing tag content rest place = item_in place (record { tag = tag; whole = element_text tag content; content = content }) rest

pub item_again : (tag : ℕ) (content rest : List ℕ) (place : ℕ) → bit_and tag 31 ≢ 31 → length content < 65536
    → item_at (record { left = element_text tag content ++ rest; place = place }) ≡ Ok (standing tag content rest place)
item_again tag content rest place t l =
    item_stands tag (element_text tag content) content rest place (record { low_tag = t; size = l; text = refl })

pub element_again : (tag : ℕ) (content rest : List ℕ) (place : ℕ) → bit_and tag 31 ≢ 31 → length content < 65536
    → element_at tag (record { left = element_text tag content ++ rest; place = place }) ≡ Ok (standing tag content rest place)
element_again tag content rest place t l =
    element_stands tag (element_text tag content) content rest place (record { low_tag = t; size = l; text = refl })

-- ---- the first element of a text, and the one

pub next_stands : (tag : ℕ) (text content rest : List ℕ) → Elem text tag content
    → next_at (text ++ rest) ≡ Ok (record { tag = tag; whole = text; content = content }, rest)
next_stands tag text content rest elem =
    next_again (text ++ rest) (record { tag = tag; whole = text; content = content }) rest (record { elem = elem; split = refl })

pub next_alone : (tag : ℕ) (text content : List ℕ) → Elem text tag content
    → next_at text ≡ Ok (record { tag = tag; whole = text; content = content }, [])
next_alone tag text content elem =
    next_again text (record { tag = tag; whole = text; content = content }) [] (record { elem = elem; split = sym (append-nil text) })

-- the text is this element of this tag
pub record Sole (tag : ℕ) (text : List ℕ) (element : Element) : Type 0 where
  pub elem : Elem text tag element.content
  pub tagged : element.tag ≡ tag
  pub content_bytes : AllBytes element.content

pub sole_found : (tag : ℕ) (text : List ℕ) (element : Element) → AllBytes text → sole_at tag text ≡ Ok element → Sole tag text element
unfolding sole_at
sole_found tag text element b e =
    let a = came (next_at text) _ element e in
    let t = taken ((a.0.0.tag == tag) && (length a.0.1 == 0)) a.0.0 element bad_value a.2 in
    let is : a.0.0.tag ≡ tag = grind (arith, nat_tests, t.0) in
    let none : length a.0.1 == 0 ≡ true = grind (arith, nat_tests, t.0) in
    let begins : BeginsWith text a.0.0 a.0.1 = next_found text a.0 b a.1 in
    let whole : text ≡ a.0.0.whole = begins.split ∙ ap (λ r. a.0.0.whole ++ r) (no_byte a.0.1 none) ∙ append-nil a.0.0.whole in
    subst (Sole tag text) t.1 (record {
      elem = subst (λ w. Elem w tag a.0.0.content) (sym whole) (subst (λ n. Elem a.0.0.whole n a.0.0.content) is begins.elem);
      tagged = is;
      content_bytes = (parts_are_bytes text a.0.0 a.0.1 b begins).0;
    })

pub sole_again : (tag : ℕ) (text content : List ℕ) → Elem text tag content
    → sole_at tag text ≡ Ok (record { tag = tag; whole = text; content = content })
unfolding sole_at
sole_again tag text content elem =
    let test : tag == tag ≡ true = grind (arith, nat_tests) in
    after (next_at text) (record { tag = tag; whole = text; content = content }, []) _ _
    (next_alone tag text content elem) (rw test refl)

-- ---- two of a SEQUENCE

-- the two, and that their contents are bytes
pub record Pair (text : List ℕ) (found : Element × Element) : Type 0 where
  pub is : IsPair text found.0 found.1
  pub first_bytes : AllBytes found.0.content
  pub second_bytes : AllBytes found.1.content

pub pair_found : (text : List ℕ) (found : Element × Element) → AllBytes text → pair_at text ≡ Ok found → Pair text found
unfolding pair_at
pair_found text found b e =
    let a = came (sole_at sequence_tag text) _ found e in
    let sequence = sole_found sequence_tag text a.0 b a.1 in
    let f = came (next_at a.0.content) _ found a.2 in
    let first : BeginsWith a.0.content f.0.0 f.0.1 = next_found a.0.content f.0 sequence.content_bytes f.1 in
    let bytes = parts_are_bytes a.0.content f.0.0 f.0.1 sequence.content_bytes first in
    let s = came (next_at f.0.1) _ found f.2 in
    let second : BeginsWith f.0.1 s.0.0 s.0.1 = next_found f.0.1 s.0 bytes.1 s.1 in
    let t = taken (length s.0.1 == 0) (f.0.0, s.0.0) found bad_value s.2 in
    let last : f.0.1 ≡ s.0.0.whole = second.split ∙ ap (λ r. s.0.0.whole ++ r) (no_byte s.0.1 t.0) ∙ append-nil s.0.0.whole in
    subst (Pair text) t.1 (record {
      is = record { elem = subst (Elem text sequence_tag) (first.split ∙ ap (λ r. f.0.0.whole ++ r) last) sequence.elem; is_first = first.elem; is_second = second.elem };
      first_bytes = bytes.0;
      second_bytes = (parts_are_bytes f.0.1 s.0.0 s.0.1 bytes.1 second).0;
    })

pub pair_again : (text : List ℕ) (first second : Element) → IsPair text first second → pair_at text ≡ Ok (first, second)
unfolding pair_at
pair_again text first second t =
    after (sole_at sequence_tag text) _ _ _ (sole_again sequence_tag text (first.whole ++ second.whole) t.elem)
    (after (next_at (first.whole ++ second.whole)) _ _ _ (next_stands first.tag first.whole first.content second.whole t.is_first)
    (after (next_at second.whole) _ _ _ (next_alone second.tag second.whole second.content t.is_second) refl))

-- ---- how long an element is

-- an element of few bytes has two more
pub element_length : (tag : ℕ) (content : List ℕ) → length content < 128 → length (element_text tag content) ≡ 2 + length content
element_length tag content l = omega (arith, ap length (short_text (length content) l), length-append (length_text (length content)) content)
