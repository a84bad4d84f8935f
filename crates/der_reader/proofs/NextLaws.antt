-- Laws of `next_at`: it gives the element that the bytes begin with, and only that one.
use Rattle.std.proofs.Common.{true, ◌≡◌, ◌≢◌, ℕ, zero, suc, ◌+◌, ◌*◌, ◌/◌, ◌%◌, ◌<◌, ◌≤◌, List, [], ◌∷◌, ◌++◌, length, take, drop, nat_lt, bit_and, Result, Ok, Err, IfOk, IsOkAnd, refl, sym, ap, subst, inl, inr, ◌⊎◌, ◌∙◌, append_assoc, arith, length-append, length-take, length-drop}
use Rattle.std.proofs.lemmas.List.{take-append-drop}
use Rattle.std.proofs.Math.Seq.{take-add, take-append_seam, drop-append_seam}
use Rattle.std.specs.Borrow.{Bor}
use Rattle.std.proofs.lemmas.Bool.Decides.{nat_tests}
use Rattle.std.proofs.lemmas.Grind.{common_steps}
use Rattle.der_reader.specs.declared.element.Der.{Der}
use Rattle.der_reader.specs.declared.element.Header.{Header}
use Rattle.der_reader.specs.declared.fault.DerFault.{DerFault}
use Rattle.der_reader.specs.Elem.{AllBytes, Elem, Element, BeginsWith, element_of, length_text}
use Rattle.der_reader.specs.Fault.{short_at}
use Rattle.der_reader.specs.Next.{header_at, content_at, next_behind, next_at, next_view}
use Rattle.lists.proofs.StepLaws.{inside}

-- the bytes begin with a tag and the one minimal length
pub record HeaderText (bytes : List ℕ) (h : Header) : Type 0 where
  pub low_tag : bit_and h.tag 31 ≢ 31
  pub small : h.content_size < 65536
  pub fits : h.size ≤ length bytes
  pub some : 0 < h.size
  pub text : take h.size bytes ≡ h.tag ∷ length_text h.content_size

pub short_text : (n : ℕ) → n < 128 → length_text n ≡ n ∷ []
unfolding length_text
short_text n l = grind (arith, nat_tests)

pub one_byte_text : (n : ℕ) → 128 ≤ n → n < 256 → length_text n ≡ 129 ∷ n ∷ []
unfolding length_text
one_byte_text n l m = grind (arith, nat_tests)

two_byte_text : (n : ℕ) → 256 ≤ n → length_text n ≡ 130 ∷ n / 256 ∷ n % 256 ∷ []
unfolding length_text
two_byte_text n l = grind (arith, nat_tests)

pub header_again_short : (tag n : ℕ) (more : List ℕ) → bit_and tag 31 ≢ 31 → n < 128
    → header_at (tag ∷ n ∷ more) ≡ Ok (record { tag = tag; size = 2; content_size = n })
unfolding header_at
header_again_short tag n more t l = grind (arith, nat_tests, common_steps)

pub header_again_one : (tag n : ℕ) (more : List ℕ) → bit_and tag 31 ≢ 31 → 128 ≤ n
    → header_at (tag ∷ 129 ∷ n ∷ more) ≡ Ok (record { tag = tag; size = 3; content_size = n })
unfolding header_at
header_again_one tag n more t l = grind (arith, nat_tests, common_steps)

pub header_again_two : (tag a b : ℕ) (more : List ℕ) → bit_and tag 31 ≢ 31 → 0 < a
    → header_at (tag ∷ 130 ∷ a ∷ b ∷ more) ≡ Ok (record { tag = tag; size = 4; content_size = a * 256 + b })
unfolding header_at
header_again_two tag a b more t l = grind (arith, nat_tests, common_steps)

-- what comes after a tag that isn't high
behind_tag : (t s : ℕ) (rest : List ℕ) (h : Header) → header_at (t ∷ s ∷ rest) ≡ Ok h → bit_and t 31 ≢ 31
unfolding header_at
behind_tag t s rest h e = grind (arith, nat_tests, common_steps)

-- the three forms of a length
form : (t s : ℕ) (rest : List ℕ) (h : Header) → header_at (t ∷ s ∷ rest) ≡ Ok h
    → (s < 128) ⊎ ((s ≡ 129) ⊎ (s ≡ 130))
unfolding header_at
form t s rest h e = grind (arith, nat_tests, common_steps)

no_byte : (h : Header) → header_at [] ≡ Ok h → ⊥
unfolding header_at
no_byte h e = grind (arith, nat_tests, common_steps)

one_byte : (t : ℕ) (h : Header) → header_at (t ∷ []) ≡ Ok h → ⊥
unfolding header_at
one_byte t h e = grind (arith, nat_tests, common_steps)

one_missing : (t : ℕ) (h : Header) → header_at (t ∷ 129 ∷ []) ≡ Ok h → ⊥
unfolding header_at
one_missing t h e = grind (arith, nat_tests, common_steps)

one_minimal : (t x : ℕ) (more : List ℕ) (h : Header) → header_at (t ∷ 129 ∷ x ∷ more) ≡ Ok h → 128 ≤ x
unfolding header_at
one_minimal t x more h e = grind (arith, nat_tests, common_steps)

two_missing : (t : ℕ) (h : Header) → header_at (t ∷ 130 ∷ []) ≡ Ok h → ⊥
unfolding header_at
two_missing t h e = grind (arith, nat_tests, common_steps)

two_half : (t x : ℕ) (h : Header) → header_at (t ∷ 130 ∷ x ∷ []) ≡ Ok h → ⊥
unfolding header_at
two_half t x h e = grind (arith, nat_tests, common_steps)

two_minimal : (t x y : ℕ) (more : List ℕ) (h : Header) → header_at (t ∷ 130 ∷ x ∷ y ∷ more) ≡ Ok h → 0 < x
unfolding header_at
two_minimal t x y more h e = grind (arith, nat_tests, common_steps)

found_short : (t s : ℕ) (rest : List ℕ) (h : Header) → s < 128 → header_at (t ∷ s ∷ rest) ≡ Ok h → HeaderText (t ∷ s ∷ rest) h
found_short t s rest h l e =
    let low : bit_and t 31 ≢ 31 = behind_tag t s rest h e in
    let is : record { tag = t; size = 2; content_size = s } ≡ h = inside _ _ (sym (header_again_short t s rest low l) ∙ e) in
    subst (HeaderText (t ∷ s ∷ rest)) is (record {
      low_tag = low;
      small = omega arith;
      fits = omega arith;
      some = omega arith;
      text = ap (λ l. t ∷ l) (sym (short_text s l));
    })

found_one : (t : ℕ) (rest : List ℕ) (h : Header) → AllBytes (t ∷ 129 ∷ rest) → header_at (t ∷ 129 ∷ rest) ≡ Ok h → HeaderText (t ∷ 129 ∷ rest) h
found_one t [] h b e = absurd (one_missing t h e)
found_one t (x ∷ more) h b e =
    let low : bit_and t 31 ≢ 31 = behind_tag t 129 (x ∷ more) h e in
    let l : 128 ≤ x = one_minimal t x more h e in
    let u : x < 256 = b 2 in
    let is : record { tag = t; size = 3; content_size = x } ≡ h = inside _ _ (sym (header_again_one t x more low l) ∙ e) in
    subst (HeaderText (t ∷ 129 ∷ x ∷ more)) is (record {
      low_tag = low;
      small = omega arith;
      fits = omega arith;
      some = omega arith;
      text = ap (λ l. t ∷ l) (sym (one_byte_text x l u));
    })

pub two_digits : (x y : ℕ) → 0 < x → y < 256 → length_text (x * 256 + y) ≡ 130 ∷ x ∷ y ∷ []
two_digits x y l u =
    let big : 256 ≤ x * 256 + y = omega arith in
    let high : (x * 256 + y) / 256 ≡ x = omega arith in
    let low : (x * 256 + y) % 256 ≡ y = omega arith in
    two_byte_text (x * 256 + y) big ∙ cc

found_two : (t : ℕ) (rest : List ℕ) (h : Header) → AllBytes (t ∷ 130 ∷ rest) → header_at (t ∷ 130 ∷ rest) ≡ Ok h → HeaderText (t ∷ 130 ∷ rest) h
found_two t [] h b e = absurd (two_missing t h e)
found_two t (x ∷ []) h b e = absurd (two_half t x h e)
found_two t (x ∷ y ∷ more) h b e =
    let low : bit_and t 31 ≢ 31 = behind_tag t 130 (x ∷ y ∷ more) h e in
    let l : 0 < x = two_minimal t x y more h e in
    let ux : x < 256 = b 2 in
    let uy : y < 256 = b 3 in
    let is : record { tag = t; size = 4; content_size = x * 256 + y } ≡ h = inside _ _ (sym (header_again_two t x y more low l) ∙ e) in
    subst (HeaderText (t ∷ 130 ∷ x ∷ y ∷ more)) is (record {
      low_tag = low;
      small = omega arith;
      fits = omega arith;
      some = omega arith;
      text = ap (λ l. t ∷ l) (sym (two_digits x y l uy));
    })

-- what `header_at` gives is tag and length as they are written there
pub header_found : (bytes : List ℕ) (h : Header) → AllBytes bytes → header_at bytes ≡ Ok h → HeaderText bytes h
header_found [] h b e = absurd (no_byte h e)
header_found (t ∷ []) h b e = absurd (one_byte t h e)
header_found (t ∷ s ∷ rest) h b e =
    elim (form t s rest h e) [
      | inl l ↦ found_short t s rest h l e
      | inr two ↦ elim two [
        | inl k ↦
            subst (λ s. AllBytes (t ∷ s ∷ rest) → header_at (t ∷ s ∷ rest) ≡ Ok h → HeaderText (t ∷ s ∷ rest) h) (sym k) (found_one t rest h) b e
        | inr k ↦
            subst (λ s. AllBytes (t ∷ s ∷ rest) → header_at (t ∷ s ∷ rest) ≡ Ok h → HeaderText (t ∷ s ∷ rest) h) (sym k) (found_two t rest h) b e
      ]
    ]

-- the tag and the minimal length of n are read back
pub header_again : (t n : ℕ) (more : List ℕ) → bit_and t 31 ≢ 31 → n < 65536
    → header_at (t ∷ (length_text n ++ more)) ≡ Ok (record { tag = t; size = suc (length (length_text n)); content_size = n })
header_again t n more low small = elim (sizes n) [
  | inl l ↦ rw (short_text n l) (header_again_short t n more low l)
  | inr two ↦ elim two [
    | inl m ↦ rw (one_byte_text n m.0 m.1) (header_again_one t n more low m.0)
    | inr m ↦
        let a : 0 < n / 256 = omega arith in
        let is : n / 256 * 256 + n % 256 ≡ n = omega arith in
        rw (two_byte_text n m) (subst (λ k. header_at (t ∷ 130 ∷ n / 256 ∷ n % 256 ∷ more) ≡ Ok (record { tag = t; size = 4; content_size = k })) is (header_again_two t (n / 256) (n % 256) more low a))
  ]
]
  where
    sizes : (n : ℕ) → (n < 128) ⊎ (((128 ≤ n) × (n < 256)) ⊎ (256 ≤ n))
    sizes n = grind arith

-- ---- the element

-- the element that is cut off, by tag and length
abbrev cut_element : List ℕ → Header → Element
cut_element bytes h = record {
  tag = h.tag;
  whole = take (h.size + h.content_size) bytes;
  content = take h.content_size (drop h.size bytes);
}

cut_fits : (bytes : List ℕ) (h : Header) (found : Element × List ℕ) → content_at bytes h ≡ Ok found
    → h.size + h.content_size ≤ length bytes
cut_fits bytes h found e = grind (arith, nat_tests)

cut_is : (bytes : List ℕ) (h : Header) → h.size + h.content_size ≤ length bytes
    → content_at bytes h ≡ Ok (cut_element bytes h, drop (h.size + h.content_size) bytes)
cut_is bytes h l = grind (arith, nat_tests)

cut_begins : (bytes : List ℕ) (h : Header) → HeaderText bytes h → h.size + h.content_size ≤ length bytes
    → BeginsWith bytes (cut_element bytes h) (drop (h.size + h.content_size) bytes)
cut_begins bytes h t l =
    let n : length (take h.content_size (drop h.size bytes)) ≡ h.content_size = omega (arith, length-take {A = ℕ}, length-drop {A = ℕ}) in
    record {
      elem = record {
        low_tag = t.low_tag;
        size = omega (arith, n, t.small);
        text = take-add h.size h.content_size bytes
            ∙ ap (λ front. front ++ take h.content_size (drop h.size bytes)) t.text
            ∙ ap (λ k. h.tag ∷ (length_text k ++ take h.content_size (drop h.size bytes))) (sym n);
      };
      split = sym (take-append-drop (h.size + h.content_size) bytes);
    }

-- an answer is an element that the bytes begin with
content_found : (bytes : List ℕ) (h : Header) (found : Element × List ℕ) → HeaderText bytes h
    → content_at bytes h ≡ Ok found → BeginsWith bytes found.0 found.1
content_found bytes h found t e =
    let l : h.size + h.content_size ≤ length bytes = cut_fits bytes h found e in
    let is : (cut_element bytes h, drop (h.size + h.content_size) bytes) ≡ found = inside _ _ (sym (cut_is bytes h l) ∙ e) in
    let P : Element × List ℕ → Type 0 = λ f. BeginsWith bytes f.0 f.1 in
    subst P is (cut_begins bytes h t l)

-- the header of an element
abbrev header_of : Element → Header
header_of element = record {
  tag = element.tag;
  size = suc (length (length_text (length element.content)));
  content_size = length element.content;
}

-- an element and a rest, part by part
made : (element : Element) (rest w c r : List ℕ) → w ≡ element.whole → c ≡ element.content → r ≡ rest
    → ◌≡◌ {A = Element × List ℕ} (record { tag = element.tag; whole = w; content = c }, r) (element, rest)
made element rest w c r p q s =
    ap (λ (w : List ℕ). let f : Element × List ℕ = (record { tag = element.tag; whole = w; content = c }, r) in f) p
    ∙ ap (λ (c : List ℕ). let f : Element × List ℕ = (record { tag = element.tag; whole = element.whole; content = c }, r) in f) q
    ∙ ap (λ (r : List ℕ). let f : Element × List ℕ = (element, r) in f) s

-- the element that the bytes begin with is the answer
content_again : (element : Element) (rest : List ℕ) → Elem element.whole element.tag element.content
    → content_at (element.whole ++ rest) (header_of element) ≡ Ok (element, rest)
content_again element rest e =
    let front : List ℕ = element.tag ∷ length_text (length element.content) in
    let k : ℕ = suc (length (length_text (length element.content))) + length element.content in
    let all : k ≡ length element.whole = omega (arith, ap length e.text, length-append {A = ℕ}) in
    let l : k ≤ length (element.whole ++ rest) = omega (arith, all, length-append element.whole rest) in
    let whole : take k (element.whole ++ rest) ≡ element.whole = ap (λ n. take n (element.whole ++ rest)) all ∙ take-append_seam element.whole rest in
    let after : drop k (element.whole ++ rest) ≡ rest = ap (λ n. drop n (element.whole ++ rest)) all ∙ drop-append_seam element.whole rest in
    let regroup : element.whole ++ rest ≡ front ++ (element.content ++ rest) = ap (λ w. w ++ rest) e.text ∙ append_assoc front element.content rest in
    let behind : drop (length front) (element.whole ++ rest) ≡ element.content ++ rest = ap (λ b. drop (length front) b) regroup ∙ drop-append_seam front (element.content ++ rest) in
    let content : take (length element.content) (drop (length front) (element.whole ++ rest)) ≡ element.content = ap (λ b. take (length element.content) b) behind ∙ take-append_seam element.content rest in
    cut_is (element.whole ++ rest) (header_of element) l ∙ ap (λ (f : Element × List ℕ). let r : Result (Element × List ℕ) DerFault = Ok f in r) (made element rest _ _ _ whole content after)

-- ---- the laws

-- tag and length are some bytes
header_some : (bytes : List ℕ) (h : Header) → header_at bytes ≡ Ok h → 0 < h.size
unfolding header_at
header_some bytes h e = grind (arith, nat_tests)

-- An answer is an element that the bytes begin with, and the rest.
pub next_found : (bytes : List ℕ) (found : Element × List ℕ) → AllBytes bytes → next_at bytes ≡ Ok found
    → BeginsWith bytes found.0 found.1
unfolding next_at
next_found bytes found b e = behind (header_at bytes) refl e
  where
    behind : (r : Result Header DerFault) → header_at bytes ≡ r → next_behind bytes r ≡ Ok found → BeginsWith bytes found.0 found.1
    behind (Ok h) is e = content_found bytes h found (header_found bytes h b is) e
    behind (Err f) is e = cc

-- Each element that the bytes begin with is the answer.
pub next_again : (bytes : List ℕ) (element : Element) (rest : List ℕ) → BeginsWith bytes element rest
    → next_at bytes ≡ Ok (element, rest)
unfolding next_at
next_again bytes element rest s =
    let more : List ℕ = element.content ++ rest in
    let regroup : bytes ≡ element.tag ∷ (length_text (length element.content) ++ more) =
    s.split ∙ ap (λ w. w ++ rest) s.elem.text
    ∙ ap (λ w. element.tag ∷ w) (append_assoc (length_text (length element.content)) element.content rest) in
    let header : header_at bytes ≡ Ok (header_of element) =
    ap header_at regroup ∙ header_again element.tag (length element.content) more s.elem.low_tag s.elem.size in
    ap (next_behind bytes) header ∙ ap (λ b. content_at b (header_of element)) s.split ∙ content_again element rest s.elem

-- Two elements with which the same bytes begin are one, and so are the rests.
pub one_element : (bytes : List ℕ) (a b : Element) (r s : List ℕ) → BeginsWith bytes a r → BeginsWith bytes b s
    → (a ≡ b) × (r ≡ s)
one_element bytes a b r s x y =
    let is : (a, r) ≡ (b, s) = inside _ _ (sym (next_again bytes a r x) ∙ next_again bytes b s y) in
    (ap (λ (p : Element × List ℕ). p.0) is, ap (λ (p : Element × List ℕ). p.1) is)

-- The rest is shorter than the bytes.
pub next_shorter : (bytes : List ℕ) (found : Element × List ℕ) → next_at bytes ≡ Ok found
    → length found.1 < length bytes
unfolding next_at
next_shorter bytes found e = behind (header_at bytes) refl e
  where
    behind : (r : Result Header DerFault) → header_at bytes ≡ r → next_behind bytes r ≡ Ok found → length found.1 < length bytes
    behind (Ok h) is e =
        let some : 0 < h.size = header_some bytes h is in
        let l : h.size + h.content_size ≤ length bytes = cut_fits bytes h found e in
        let cut : (cut_element bytes h, drop (h.size + h.content_size) bytes) ≡ found = inside _ _ (sym (cut_is bytes h l) ∙ e) in
        let rest : drop (h.size + h.content_size) bytes ≡ found.1 = ap (λ (p : Element × List ℕ). p.1) cut in
        omega (arith, ap length rest, length-drop (h.size + h.content_size) bytes)
    behind (Err f) is e = cc

-- ---- the same of an answer of `Der::next`

pub answer_found : (bytes : List ℕ) (r : Result (Der × Bor (List ℕ)) DerFault) → AllBytes bytes → next_view r ≡ next_at bytes
    → IfOk r (λ r. BeginsWith bytes (element_of r.0) r.1.now)
answer_found bytes (Ok r) b e = next_found bytes (element_of r.0, r.1.now) b (sym e)
answer_found bytes (Err f) b e = tt

pub answer_again : (bytes : List ℕ) (r : Result (Der × Bor (List ℕ)) DerFault) (element : Element) (rest : List ℕ)
    → next_view r ≡ next_at bytes → BeginsWith bytes element rest
    → IsOkAnd r (λ r. (element_of r.0 ≡ element) × (r.1.now ≡ rest))
answer_again bytes (Ok r) element rest e s =
    let is : (element_of r.0, r.1.now) ≡ (element, rest) = inside _ _ (e ∙ next_again bytes element rest s) in
    (ap (λ (p : Element × List ℕ). p.0) is, ap (λ (p : Element × List ℕ). p.1) is)
answer_again bytes (Err f) element rest e s =
    let a : next_view (Err f) ≡ Ok (element, rest) = e ∙ next_again bytes element rest s in cc

pub answer_shorter : (bytes : List ℕ) (r : Result (Der × Bor (List ℕ)) DerFault) → next_view r ≡ next_at bytes
    → IfOk r (λ r. length r.1.now < length bytes)
answer_shorter bytes (Ok r) e = next_shorter bytes (element_of r.0, r.1.now) (sym e)
answer_shorter bytes (Err f) e = tt

-- ---- bytes of bytes

pub all_behind : (xs ys : List ℕ) → AllBytes (xs ++ ys) → AllBytes ys
all_behind [] ys b = b
all_behind (x ∷ xs) ys b = all_behind xs ys (λ i. b (suc i))

pub all_front : (xs ys : List ℕ) → AllBytes (xs ++ ys) → AllBytes xs
all_front [] ys b i = omega arith
all_front (x ∷ xs) ys b zero = b 0
all_front (x ∷ xs) ys b (suc i) = all_front xs ys (λ i. b (suc i)) i

pub take_bytes : (n : ℕ) (xs : List ℕ) → AllBytes xs → AllBytes (take n xs)
take_bytes zero xs b i = omega arith
take_bytes (suc n) [] b i = omega arith
take_bytes (suc n) (x ∷ xs) b zero = b 0
take_bytes (suc n) (x ∷ xs) b (suc i) = take_bytes n xs (λ i. b (suc i)) i

-- What an element and its rest are made of are bytes too.
pub parts_are_bytes : (bytes : List ℕ) (element : Element) (rest : List ℕ) → AllBytes bytes → BeginsWith bytes element rest
    → AllBytes element.content × AllBytes rest
parts_are_bytes bytes element rest b s =
    let all : AllBytes (element.whole ++ rest) = subst AllBytes s.split b in
    let whole : AllBytes element.whole = all_front element.whole rest all in
    let text : AllBytes ((element.tag ∷ length_text (length element.content)) ++ element.content) = subst AllBytes s.elem.text whole in
    (all_behind (element.tag ∷ length_text (length element.content)) element.content text, all_behind element.whole rest all)

-- ---- an element that is cut short

pub too_short : (bytes : List ℕ) (h : Header) → header_at bytes ≡ Ok h → length bytes < h.size + h.content_size → next_at bytes ≡ Err (short_at (length bytes))
unfolding next_at
too_short bytes h e l = let test : nat_lt (length bytes) (h.size + h.content_size) ≡ true = grind (arith, nat_tests, l) in rw (e, test) refl

pub nothing : next_at [] ≡ Err (short_at 0)
unfolding next_at header_at
nothing = refl

pub no_length_byte : (t : ℕ) → bit_and t 31 ≢ 31 → next_at (t ∷ []) ≡ Err (short_at 1)
unfolding next_at header_at
no_length_byte t low = grind (arith, nat_tests, common_steps)

pub one_wanting : (t : ℕ) → bit_and t 31 ≢ 31 → next_at (t ∷ 129 ∷ []) ≡ Err (short_at 2)
unfolding next_at header_at
one_wanting t low = grind (arith, nat_tests, common_steps)

pub two_wanting : (t : ℕ) → bit_and t 31 ≢ 31 → next_at (t ∷ 130 ∷ []) ≡ Err (short_at 2)
unfolding next_at header_at
two_wanting t low = grind (arith, nat_tests, common_steps)

pub half_wanting : (t a : ℕ) → bit_and t 31 ≢ 31 → next_at (t ∷ 130 ∷ a ∷ []) ≡ Err (short_at 3)
unfolding next_at header_at
half_wanting t a low = grind (arith, nat_tests, common_steps)

-- what reading a prefix of tag, length and content gives, by the bytes of the length
abbrev Short : List ℕ → Type 0
Short front = next_at front ≡ Err (short_at (length front))

front_one : (t n : ℕ) (content front more : List ℕ) → bit_and t 31 ≢ 31 → n < 128 → length content ≡ n → n ∷ content ≡ front ++ more → 1 ≤ length more → Short (t ∷ front)
front_one t n content [] more low l size e some = no_length_byte t low
front_one t n content (b ∷ rest) more low l size e some =
    let is : n ≡ b = cc in
    let left : content ≡ rest ++ more = cc in
    subst (λ b. Short (t ∷ b ∷ rest)) is
    (too_short (t ∷ n ∷ rest) _ (header_again_short t n rest low l) (omega (arith, size, some, ap length left, length-append rest more)))

front_two : (t n : ℕ) (content front more : List ℕ) → bit_and t 31 ≢ 31 → 128 ≤ n → length content ≡ n → 129 ∷ n ∷ content ≡ front ++ more → 1 ≤ length more → Short (t ∷ front)
front_two t n content [] more low l size e some = no_length_byte t low
front_two t n content (b ∷ []) more low l size e some = let is : 129 ≡ b = cc in subst (λ b. Short (t ∷ b ∷ [])) is (one_wanting t low)
front_two t n content (b ∷ c ∷ rest) more low l size e some =
    let is : 129 ≡ b = cc in
    let then : n ≡ c = cc in
    let left : content ≡ rest ++ more = cc in
    subst (λ b. Short (t ∷ b ∷ c ∷ rest)) is (subst (λ c. Short (t ∷ 129 ∷ c ∷ rest)) then
    (too_short (t ∷ 129 ∷ n ∷ rest) _ (header_again_one t n rest low l) (omega (arith, size, some, ap length left, length-append rest more))))

front_three : (t a b : ℕ) (content front more : List ℕ) → bit_and t 31 ≢ 31 → 0 < a → length content ≡ a * 256 + b → 130 ∷ a ∷ b ∷ content ≡ front ++ more → 1 ≤ length more
    → Short (t ∷ front)
front_three t a b content [] more low l size e some = no_length_byte t low
front_three t a b content (c ∷ []) more low l size e some = let is : 130 ≡ c = cc in subst (λ c. Short (t ∷ c ∷ [])) is (two_wanting t low)
front_three t a b content (c ∷ d ∷ []) more low l size e some = let is : 130 ≡ c = cc in subst (λ c. Short (t ∷ c ∷ d ∷ [])) is (half_wanting t d low)
front_three t a b content (c ∷ d ∷ f ∷ rest) more low l size e some =
    let is : 130 ≡ c = cc in
    let then : a ≡ d = cc in
    let last : b ≡ f = cc in
    let left : content ≡ rest ++ more = cc in
    subst (λ c. Short (t ∷ c ∷ d ∷ f ∷ rest)) is (subst (λ d. Short (t ∷ 130 ∷ d ∷ f ∷ rest)) then (subst (λ f. Short (t ∷ 130 ∷ a ∷ f ∷ rest)) last
    (too_short (t ∷ 130 ∷ a ∷ b ∷ rest) _ (header_again_two t a b rest low l) (omega (arith, size, some, ap length left, length-append rest more)))))

-- a prefix of an element ends before the element does
pub front_short : (tag : ℕ) (whole content front more : List ℕ) → Elem whole tag content → whole ≡ front ++ more → 1 ≤ length more
    → next_at front ≡ Err (short_at (length front))
front_short tag whole content [] more elem split some = nothing
front_short tag whole content (t ∷ front) more elem split some =
    let both : tag ∷ (length_text (length content) ++ content) ≡ t ∷ (front ++ more) = sym elem.text ∙ split in
    let is : tag ≡ t = cc in
    let left : length_text (length content) ++ content ≡ front ++ more = cc in
    subst (λ t. Short (t ∷ front)) is (by_size (sizes (length content)) left)
  where
    sizes : (n : ℕ) → (n < 128) ⊎ (((128 ≤ n) × (n < 256)) ⊎ (256 ≤ n))
    sizes n = grind arith

    by_size : (length content < 128) ⊎ (((128 ≤ length content) × (length content < 256)) ⊎ (256 ≤ length content))
        → length_text (length content) ++ content ≡ front ++ more → Short (tag ∷ front)
    by_size (inl l) e = front_one tag (length content) content front more elem.low_tag l refl (sym (ap (λ l. l ++ content) (short_text (length content) l)) ∙ e) some
    by_size (inr (inl m)) e =
        front_two tag (length content) content front more elem.low_tag m.0 refl (sym (ap (λ l. l ++ content) (one_byte_text (length content) m.0 m.1)) ∙ e) some
    by_size (inr (inr m)) e =
        front_three tag (length content / 256) (length content % 256) content front more elem.low_tag (omega (arith, m)) (omega arith)
        (sym (ap (λ l. l ++ content) (two_byte_text (length content) m)) ∙ e) some
