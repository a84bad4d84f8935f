-- Bytes begin with no element for the first test that fails, and the first that fails is the fault of reading them.
use Rattle.std.proofs.Common.{◌≡◌, ◌≢◌, ◌⊎◌, inl, inr, ℕ, ◌+◌, ◌<◌, ◌≤◌, Bool, true, false, cond, List, [], ◌∷◌, ◌++◌, length, take, drop, nat_lt, bit_and, Result, Ok, Err, IfErr, refl, sym, ap, subst, ◌∙◌, arith, length-append, length-drop}
use Rattle.std.proofs.lemmas.Bool.Decides.{nat_tests}
use Rattle.std.proofs.lemmas.Grind.{common_steps}
use Rattle.std.proofs.lemmas.List.{take-append-drop}
use Rattle.std.specs.Borrow.{Bor}
use Rattle.der_reader.specs.declared.element.Der.{Der}
use Rattle.der_reader.specs.declared.element.Header.{Header}
use Rattle.der_reader.specs.declared.fault.DerFault.{DerFault}
use Rattle.der_reader.specs.Elem.{AllBytes, Element, length_text}
use Rattle.der_reader.specs.Fault.{bad_length_at, fault_at, short_at}
use Rattle.der_reader.specs.Next.{content_at, header_at, next_at, next_behind, next_view}
use Rattle.der_reader.specs.Unreadable.{IsHighTag, IsLongForm, IsNotShortest, Unreadable, by_one, by_two, content_cut, high_tag, length_cut, no_form, no_length, no_tag, not_shortest}
use Rattle.der_reader.proofs.NextLaws.{HeaderText, half_wanting, header_again, header_again_one, header_again_short, header_again_two, header_found, no_length_byte, nothing, one_wanting, too_short, two_wanting}

-- ---- each test that fails is what is read

abbrev ReadAs : List ℕ → DerFault → Type 0
ReadAs bytes fault = next_at bytes ≡ Err fault

high_read : (tag : ℕ) (behind : List ℕ) → IsHighTag tag → ReadAs (tag ∷ behind) (fault_at 2 0)
unfolding next_at header_at
high_read tag behind high = grind (arith, nat_tests, common_steps)

small_form : (tag : ℕ) (behind : List ℕ) → bit_and tag 31 ≢ 31 → ReadAs (tag ∷ 128 ∷ behind) (fault_at 3 1)
unfolding next_at header_at
small_form tag behind low = grind (arith, nat_tests, common_steps)

large_form : (tag first : ℕ) (behind : List ℕ) → bit_and tag 31 ≢ 31 → 130 < first → header_at (tag ∷ first ∷ behind) ≡ Err (bad_length_at 1)
unfolding header_at
large_form tag first behind low large = grind (arith, nat_tests, common_steps)

one_not_shortest : (tag value : ℕ) (behind : List ℕ) → bit_and tag 31 ≢ 31 → value < 128 → header_at (tag ∷ 129 ∷ value ∷ behind) ≡ Err (bad_length_at 1)
unfolding header_at
one_not_shortest tag value behind low small = grind (arith, nat_tests, common_steps)

two_not_shortest : (tag low : ℕ) (behind : List ℕ) → bit_and tag 31 ≢ 31 → header_at (tag ∷ 130 ∷ 0 ∷ low ∷ behind) ≡ Err (bad_length_at 1)
unfolding header_at
two_not_shortest tag low behind is_low = grind (arith, nat_tests, common_steps)

-- the fault of tag and length is that of the element
by_header : (bytes : List ℕ) (fault : DerFault) → header_at bytes ≡ Err fault → ReadAs bytes fault
unfolding next_at
by_header bytes fault e = rw e refl

form_read : (tag first : ℕ) (behind : List ℕ) → bit_and tag 31 ≢ 31 → (first ≡ 128) ⊎ (130 < first) → ReadAs (tag ∷ first ∷ behind) (fault_at 3 1)
form_read tag first behind low (inl is) = subst (λ f. ReadAs (tag ∷ f ∷ behind) (fault_at 3 1)) (sym is) (small_form tag behind low)
form_read tag first behind low (inr large) = by_header (tag ∷ first ∷ behind) _ (large_form tag first behind low large)

cut_read : (tag first count : ℕ) (behind : List ℕ) → bit_and tag 31 ≢ 31 → IsLongForm first count → length behind < count
    → ReadAs (tag ∷ first ∷ behind) (fault_at 1 (length (tag ∷ first ∷ behind)))
cut_read tag first count [] low (inl k) few = subst (λ f. ReadAs (tag ∷ f ∷ []) (fault_at 1 2)) (sym k.0) (one_wanting tag low)
cut_read tag first count (a ∷ behind) low (inl k) few = absurd (omega (arith, few, k.1))
cut_read tag first count [] low (inr k) few = subst (λ f. ReadAs (tag ∷ f ∷ []) (fault_at 1 2)) (sym k.0) (two_wanting tag low)
cut_read tag first count (a ∷ []) low (inr k) few = subst (λ f. ReadAs (tag ∷ f ∷ a ∷ []) (fault_at 1 3)) (sym k.0) (half_wanting tag a low)
cut_read tag first count (a ∷ b ∷ behind) low (inr k) few = absurd (omega (arith, few, k.1))

shortest_read : (tag : ℕ) (size behind : List ℕ) → bit_and tag 31 ≢ 31 → IsNotShortest size → ReadAs (tag ∷ (size ++ behind)) (fault_at 3 1)
shortest_read tag size behind low (by_one value is small) =
    subst (λ s. ReadAs (tag ∷ (s ++ behind)) (fault_at 3 1)) (sym is)
    (by_header (tag ∷ 129 ∷ value ∷ behind) _ (one_not_shortest tag value behind low small))
shortest_read tag size behind low (by_two high least is small) =
    let none : high ≡ 0 = omega (arith, small) in
    subst (λ s. ReadAs (tag ∷ (s ++ behind)) (fault_at 3 1)) (sym is)
    (subst (λ h. ReadAs (tag ∷ 130 ∷ h ∷ least ∷ behind) (fault_at 3 1)) (sym none)
    (by_header (tag ∷ 130 ∷ 0 ∷ least ∷ behind) _ (two_not_shortest tag least behind low)))

content_read : (tag size : ℕ) (content : List ℕ) → bit_and tag 31 ≢ 31 → size < 65536 → length content < size
    → ReadAs (tag ∷ (length_text size ++ content)) (fault_at 1 (length (tag ∷ (length_text size ++ content))))
content_read tag size content low small few =
    too_short (tag ∷ (length_text size ++ content)) _ (header_again tag size content low small) (omega (arith, few, length-append (length_text size) content))

-- the first test that fails is what is read
pub unreadable_again : (bytes : List ℕ) (fault : DerFault) → Unreadable bytes fault → next_at bytes ≡ Err fault
unreadable_again bytes fault (no_tag is e) = rw (is, e) nothing
unreadable_again bytes fault (high_tag tag behind is high e) = rw (is, e) (high_read tag behind high)
unreadable_again bytes fault (no_length tag is low e) = rw (is, e) (no_length_byte tag low)
unreadable_again bytes fault (no_form tag first behind is low form e) = rw (is, e) (form_read tag first behind low form)
unreadable_again bytes fault (length_cut tag first count behind is low form few e) = rw (e, is) (cut_read tag first count behind low form few)
unreadable_again bytes fault (not_shortest tag size behind is low long e) = rw (is, e) (shortest_read tag size behind low long)
unreadable_again bytes fault (content_cut tag size content is low small few e) = rw (e, is) (content_read tag size content low small few)

-- ---- and what is read as a fault is the first test that fails

-- a test of tag and length fails, or both are there
abbrev IsHeaded : List ℕ → Type 0
IsHeaded bytes = ((fault : DerFault) × Unreadable bytes fault) ⊎ ((h : Header) × (header_at bytes ≡ Ok h))

-- after 81
one_headed : (tag : ℕ) (behind : List ℕ) → bit_and tag 31 ≢ 31 → IsHeaded (tag ∷ 129 ∷ behind)
one_headed tag [] low = inl (fault_at 1 2, length_cut tag 129 1 [] refl low (inl (refl, refl)) (omega arith) refl)
one_headed tag (a ∷ behind) low = elim (sizes a) [
  | inl small ↦ inl (fault_at 3 1, not_shortest tag (129 ∷ a ∷ []) behind refl low (by_one a refl small) refl)
  | inr large ↦ inr (_, header_again_one tag a behind low large)
]
  where
    sizes : (n : ℕ) → (n < 128) ⊎ (128 ≤ n)
    sizes n = grind arith

-- after 82
two_headed : (tag : ℕ) (behind : List ℕ) → AllBytes (tag ∷ 130 ∷ behind) → bit_and tag 31 ≢ 31 → IsHeaded (tag ∷ 130 ∷ behind)
two_headed tag [] b low = inl (fault_at 1 2, length_cut tag 130 2 [] refl low (inr (refl, refl)) (omega arith) refl)
two_headed tag (a ∷ []) b low = inl (fault_at 1 3, length_cut tag 130 2 (a ∷ []) refl low (inr (refl, refl)) (omega arith) refl)
two_headed tag (a ∷ c ∷ behind) b low = elim (sizes a) [
  | inl none ↦
      let small : c < 256 = b 3 in
      inl (fault_at 3 1, not_shortest tag (130 ∷ a ∷ c ∷ []) behind refl low (by_two a c refl (omega (arith, none, small))) refl)
  | inr some ↦ inr (_, header_again_two tag a c behind low some)
]
  where
    sizes : (n : ℕ) → (n ≡ 0) ⊎ (0 < n)
    sizes n = grind arith

low_headed : (tag : ℕ) (behind : List ℕ) → AllBytes (tag ∷ behind) → bit_and tag 31 ≢ 31 → IsHeaded (tag ∷ behind)
low_headed tag [] b low = inl (fault_at 1 1, no_length tag refl low refl)
low_headed tag (first ∷ behind) b low = elim (forms first) [
  | inl short ↦ inr (_, header_again_short tag first behind low short)
  | inr long ↦ elim long [
    | inl form ↦ inl (fault_at 3 1, no_form tag first behind refl low form refl)
    | inr two ↦ elim two [
      | inl is ↦ subst (λ f. IsHeaded (tag ∷ f ∷ behind)) (sym is) (one_headed tag behind low)
      | inr is ↦ subst (λ f. AllBytes (tag ∷ f ∷ behind) → IsHeaded (tag ∷ f ∷ behind)) (sym is) (λ b. two_headed tag behind b low) b
    ]
  ]
]
  where
    forms : (n : ℕ) → (n < 128) ⊎ (((n ≡ 128) ⊎ (130 < n)) ⊎ ((n ≡ 129) ⊎ (n ≡ 130)))
    forms n = grind arith

headed : (bytes : List ℕ) → AllBytes bytes → IsHeaded bytes
headed [] b = inl (fault_at 1 0, no_tag refl refl)
headed (tag ∷ behind) b = elim (highs (bit_and tag 31)) [
  | inl high ↦ inl (fault_at 2 0, high_tag tag behind refl high refl)
  | inr low ↦ low_headed tag behind b low
]
  where
    highs : (n : ℕ) → (n ≡ 31) ⊎ (n ≢ 31)
    highs n = grind arith

-- if tag and length are there, the content isn't
content_missing : (bytes : List ℕ) (h : Header) (fault : DerFault) → HeaderText bytes h → content_at bytes h ≡ Err fault → Unreadable bytes fault
content_missing bytes h fault text e = of (nat_lt (length bytes) (h.size + h.content_size)) refl e
  where
    of : (t : Bool) → nat_lt (length bytes) (h.size + h.content_size) ≡ t
        → ◌≡◌ {A = Result (Element × List ℕ) DerFault} (cond t (Err (short_at (length bytes))) (Ok (record { tag = h.tag; whole = take (h.size + h.content_size) bytes; content = take h.content_size (drop h.size bytes) }, drop (h.size + h.content_size) bytes))) (Err fault)
        → Unreadable bytes fault
    of true t e =
        let is : fault_at 1 (length bytes) ≡ fault = cc in
        let few : length bytes < h.size + h.content_size = grind (arith, nat_tests, t) in
        let split : bytes ≡ h.tag ∷ (length_text h.content_size ++ drop h.size bytes) = sym (take-append-drop h.size bytes) ∙ ap (λ front. front ++ drop h.size bytes) text.text in
        content_cut h.tag h.content_size (drop h.size bytes) split text.low_tag text.small (omega (arith, few, text.fits, length-drop h.size bytes)) (sym is)
    of false t e = absurd cc

one_fault : (one other : DerFault) → ◌≡◌ {A = Result (Element × List ℕ) DerFault} (Err one) (Err other) → one ≡ other
one_fault one other e = cc

pub unreadable_found : (bytes : List ℕ) (fault : DerFault) → AllBytes bytes → next_at bytes ≡ Err fault → Unreadable bytes fault
unfolding next_at
unreadable_found bytes fault b e = elim (headed bytes b) [
  | inl k ↦ subst (Unreadable bytes) (one_fault k.0 fault (sym (unreadable_again bytes k.0 k.1) ∙ e)) k.1
  | inr k ↦ content_missing bytes k.0 fault (header_found bytes k.0 b k.1) (sym (ap (next_behind bytes) k.1) ∙ e)
]

-- ---- of an answer of `Der::next`

pub answer_refused : (bytes : List ℕ) (r : Result (Der × Bor (List ℕ)) DerFault) → AllBytes bytes → next_view r ≡ next_at bytes → IfErr r (Unreadable bytes)
answer_refused bytes (Ok found) b e = tt
answer_refused bytes (Err fault) b e = unreadable_found bytes fault b (sym e)

pub answer_only_refused : (bytes : List ℕ) (r : Result (Der × Bor (List ℕ)) DerFault) → next_view r ≡ next_at bytes → (fault : DerFault) → Unreadable bytes fault → r ≡ Err fault
answer_only_refused bytes (Ok found) e fault u = absurd (let k = e ∙ unreadable_again bytes fault u in cc)
answer_only_refused bytes (Err own) e fault u =
    ap (λ (f : DerFault). let r : Result (Der × Bor (List ℕ)) DerFault = Err f in r) (one_fault own fault (e ∙ unreadable_again bytes fault u))
