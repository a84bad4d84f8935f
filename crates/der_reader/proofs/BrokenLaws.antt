-- Reading elements in order ends with a fault exactly if something is wrong with them.
use Rattle.std.proofs.Common.{◌≡◌, ◌↔◌, inl, inr, ℕ, ◌==◌, Bool, true, false, cond, List, length, Option, Some, None, Result, Ok, Err, refl, sym, ap, subst, ◌∙◌, arith}
use Rattle.std.proofs.lemmas.Bool.Decides.{nat_tests}
use Rattle.lists.proofs.Bytes.{no_byte}
use Rattle.lists.specs.Steps.{◌>>=◌}
use Rattle.lists.proofs.StepLaws.{inside}
use Rattle.der_reader.specs.declared.fault.DerFault.{DerFault}
use Rattle.der_reader.specs.declared.part.Fault.{Fault}
use Rattle.der_reader.specs.Elem.{AllBytes, BeginsWith, Element}
use Rattle.der_reader.specs.Next.{next_at}
use Rattle.der_reader.specs.Broken.{AtEnd, First, IsTagged, IsUnreadable, LeftOver, Through, Unless}
use Rattle.der_reader.specs.Part.{ItemView, PartView, at_kind, element_at, end_at, item_at, item_from, item_in, or_broken, or_fault}
use Rattle.der_reader.proofs.NextLaws.{next_again, next_found}
use Rattle.der_reader.proofs.PartLaws.{Begins, begins_with}

-- a reading ends with a fault exactly if this is wrong
abbrev pub Tells : {A : Type 0} → Result A Fault → (Fault → Type 0) → Type 0
Tells r Wrong = (fault : Fault) → (r ≡ Err fault) ↔ Wrong fault

pub same_fault : {A : Type 0} (a b : Fault) → ◌≡◌ {A = Result A Fault} (Err a) (Err b) → a ≡ b
same_fault a b e = cc

-- the same of two readings that are one
pub told : {A : Type 0} (r s : Result A Fault) (Wrong : Fault → Type 0) → r ≡ s → Tells s Wrong → Tells r Wrong
told r s Wrong e t = subst (λ r. Tells r Wrong) (sym e) t

-- a reading that gives something
pub right : {A : Type 0} (x : A) (fault : Fault) → ◌≡◌ {A = Result A Fault} (Ok x) (Err fault) → ⊥
right x fault e = cc

-- a reading with a last step that gives something
pub last_tells : {A B : Type 0} (r : Result B Fault) (make : B → A) (Wrong : Fault → Type 0) → Tells r Wrong → Tells (r >>= λ x. Ok (make x)) Wrong
last_tells (Ok x) make Wrong tells fault = (λ e. absurd (right (make x) fault e), λ w. absurd (right x fault ((tells fault).1 w)))
last_tells (Err f) make Wrong tells fault = (
  λ e. (tells fault).0 (ap (λ f. let r : Result _ Fault = Err f in r) (same_fault _ _ e)),
  λ w. ap (λ f. let r : Result _ Fault = Err f in r) (same_fault _ _ ((tells fault).1 w)),
)

-- a test, and what is read after it
pub tested : {A B : Type 0} (t : Bool) (x : B) (next : B → Result A Fault) (fault : Fault) → cond t (Ok x) (Err fault) >>= next ≡ cond t (next x) (Err fault)
tested true x next fault = refl
tested false x next fault = refl

-- nothing may be left over
pub end_tells : {A : Type 0} (part : PartView) (v : A) → Tells (end_at part v) (LeftOver part)
end_tells part v fault = of (length part.left == 0) refl
  where
    of : (t : Bool) → length part.left == 0 ≡ t → (cond t (Ok v) (Err (at_kind 1 part.place)) ≡ Err fault) ↔ LeftOver part fault
    of true e = (λ k. absurd (right v fault k), λ w. absurd (grind (arith, nat_tests, e, w.0)))
    of false e = (λ k. (grind (arith, nat_tests, e), sym (same_fault _ _ k)), λ w. ap (λ f. let r : Result _ Fault = Err f in r) (sym w.1))

-- an element that has to pass a test
pub unless_tells : {A : Type 0} (t : Bool) (item : ItemView) (kind : ℕ) (Good : ItemView → Type 0) (Wrong : ItemView → Fault → Type 0) (r : Result A Fault)
    → ((t ≡ true) ↔ Good item) → (Good item → Tells r (Wrong item)) → Tells (cond t r (Err (at_kind kind item.place))) (Unless Good kind Wrong item)
unless_tells true item kind Good Wrong r test next fault =
    let good = test.0 refl in
    (λ e. inr (good, (next good fault).0 e), λ w. elim w [ inl bad ↦ absurd (bad.0 good) | inr so ↦ (next good fault).1 so.1 ])
unless_tells false item kind Good Wrong r test next fault = (
  λ e. inl (λ good. let k = test.1 good in cc, sym (same_fault _ _ e)),
  λ w. elim w [ inl bad ↦ ap (λ f. let r : Result _ Fault = Err f in r) (sym bad.1) | inr so ↦ let k = test.1 so.0 in absurd cc ],
)

-- one whose form is read; any fault in it becomes this one
pub broken_tells : {A X E : Type 0} (r : Result X E) (item : ItemView) (kind : ℕ) (next : X → Result A Fault) (Good : ItemView → Type 0)
    (Wrong : ItemView → Fault → Type 0) → ((x : X) → r ≡ Ok x → Good item × Tells (next x) (Wrong item)) → (Good item → (x : X) × (r ≡ Ok x))
    → Tells (or_broken r (at_kind kind item.place) >>= next) (Unless Good kind Wrong item)
broken_tells (Ok x) item kind next Good Wrong found again = unless_tells true item kind Good Wrong (next x) (λ e. (found x refl).0, λ good. refl) (λ good. (found x refl).1)
broken_tells (Err f) item kind next Good Wrong found again = λ fault. (
  λ e. inl (λ good. let k = (again good).1 in cc, sym (same_fault _ _ e)),
  λ w. elim w [ inl bad ↦ ap (λ f. let r : Result _ Fault = Err f in r) (sym bad.1) | inr so ↦ let k = (again so.0).1 in absurd cc ],
)

pub value_tells : {A X : Type 0} (o : Option X) (item : ItemView) (kind : ℕ) (next : X → Result A Fault) (Good : ItemView → Type 0)
    (Wrong : ItemView → Fault → Type 0) → ((x : X) → o ≡ Some x → Good item × Tells (next x) (Wrong item)) → (Good item → (x : X) × (o ≡ Some x))
    → Tells (or_fault o (at_kind kind item.place) >>= next) (Unless Good kind Wrong item)
value_tells (Some x) item kind next Good Wrong found again = unless_tells true item kind Good Wrong (next x) (λ e. (found x refl).0, λ good. refl) (λ good. (found x refl).1)
value_tells None item kind next Good Wrong found again = λ fault. (
  λ e. inl (λ good. let k = (again good).1 in cc, sym (same_fault _ _ e)),
  λ w. elim w [ inl bad ↦ ap (λ f. let r : Result _ Fault = Err f in r) (sym bad.1) | inr so ↦ let k = (again so.0).1 in absurd cc ],
)

-- a part that is read to its end first
pub through_tells : {A X : Type 0} (r : Result X Fault) (part : PartView) (next : X → Result A Fault) (Inner : PartView → Fault → Type 0) (Good : List ℕ → Type 0)
    (Wrong : Fault → Type 0) → Tells r (Inner part) → ((x : X) → r ≡ Ok x → Good part.left × Tells (next x) Wrong) → (Good part.left → (x : X) × (r ≡ Ok x))
    → Tells (r >>= next) (Through Inner Good Wrong part)
through_tells (Ok x) part next Inner Good Wrong inner found again fault =
    let so = found x refl in
    (λ e. inr (so.0, (so.1 fault).0 e), λ w. elim w [ inl bad ↦ absurd (right x fault ((inner fault).1 bad)) | inr past ↦ (so.1 fault).1 past.1 ])
through_tells (Err f) part next Inner Good Wrong inner found again fault = (
  λ e. inl ((inner fault).0 (ap (λ f. let r : Result _ Fault = Err f in r) (same_fault _ _ e))),
  λ w. elim w [
    | inl bad ↦ ap (λ f. let r : Result _ Fault = Err f in r) (same_fault _ _ ((inner fault).1 bad))
    | inr past ↦ let k = (again past.0).1 in absurd cc
  ],
)

-- an end, and what is read elsewhere after it
pub at_end_tells : {A B : Type 0} (part : PartView) (v : B) (next : B → Result A Fault) (Wrong : Fault → Type 0) → Tells (next v) Wrong
    → Tells (end_at part v >>= next) (AtEnd Wrong part)
at_end_tells part v next Wrong tells fault = of (length part.left == 0) refl
  where
    of : (t : Bool) → length part.left == 0 ≡ t → (cond t (Ok v) (Err (at_kind 1 part.place)) >>= next ≡ Err fault) ↔ AtEnd Wrong part fault
    of true e = (
      λ k. inr (no_byte part.left e, (tells fault).0 k),
      λ w. elim w [ inl over ↦ absurd (grind (arith, nat_tests, e, over.0)) | inr past ↦ (tells fault).1 past.1 ],
    )
    of false e = (
      λ k. inl (grind (arith, nat_tests, e), sym (same_fault _ _ k)),
      λ w. elim w [
        | inl over ↦ ap (λ f. let r : Result _ Fault = Err f in r) (sym over.1)
        | inr past ↦ let k : length part.left == 0 ≡ true = ap (λ l. length l == 0) past.0 in absurd cc
      ],
    )

-- the first element alone: it is that which is read, or none can be read
pub record Stands (part : PartView) (item : ItemView) : Type 0 where
  pub element : Element
  pub rest : List ℕ
  pub begins : BeginsWith part.left element rest
  pub is : item ≡ item_in part.place element rest

pub item_is : (part : PartView) (item : ItemView) → AllBytes part.left → item_at part ≡ Ok item → Stands part item
unfolding item_at
item_is part item b e = of (next_at part.left) refl e
  where
    of : (r : Result (Element × List ℕ) DerFault) → next_at part.left ≡ r → item_from part.place r ≡ Ok item → Stands part item
    of (Ok found) k e = record { element = found.0; rest = found.1; begins = next_found part.left found b k; is = sym (inside _ _ e) }
    of (Err broken) k e = cc

pub unreadable : (part : PartView) (fault : Fault) → item_at part ≡ Err fault → IsUnreadable part fault
unfolding item_at
unreadable part fault e = of (next_at part.left) refl e
  where
    of : (r : Result (Element × List ℕ) DerFault) → next_at part.left ≡ r → item_from part.place r ≡ Err fault → IsUnreadable part fault
    of (Ok found) k e = cc
    of (Err broken) k e = record { broken = broken; read = k; is = sym (same_fault _ _ e) }

-- the first element, and what is wrong with it or after it
pub first_tells : {A : Type 0} (part : PartView) (next : ItemView → Result A Fault) (Wrong : ItemView → Fault → Type 0) → AllBytes part.left
    → ((item : ItemView) → Begins part item → Tells (next item) (Wrong item)) → Tells (item_at part >>= next) (First Wrong part)
unfolding item_at
first_tells part next Wrong b tells fault = (
  λ e. found (next_at part.left) refl e,
  λ w. elim w [
    | inl bad ↦ ap (λ r. item_from part.place r >>= next) bad.read ∙ ap (λ f. let r : Result _ Fault = Err f in r) (sym bad.is)
    | inr so ↦
        ap (λ r. item_from part.place r >>= next) (next_again part.left so.element so.rest so.begins)
        ∙ (tells (item_in part.place so.element so.rest) (begins_with part so.element so.rest b so.begins) fault).1 so.wrong
  ],
)
  where
    found : (r : Result (Element × List ℕ) DerFault) → next_at part.left ≡ r → item_from part.place r >>= next ≡ Err fault → First Wrong part fault
    found (Ok (element, rest)) k e =
        let begins = next_found part.left (element, rest) b k in
        inr (record { element = element; rest = rest; begins = begins; wrong = (tells (item_in part.place element rest) (begins_with part element rest b begins) fault).0 e })
    found (Err broken) k e = inl (record { broken = broken; read = k; is = sym (same_fault _ _ e) })

-- the same of one that has to have a tag
pub element_tells : {A : Type 0} (tag : ℕ) (part : PartView) (next : ItemView → Result A Fault) (Wrong : ItemView → Fault → Type 0) → AllBytes part.left
    → ((item : ItemView) → Begins part item → item.tag ≡ tag → Tells (next item) (Wrong item))
    → Tells (element_at tag part >>= next) (First (Unless (IsTagged tag) 1 Wrong) part)
unfolding element_at
element_tells tag part next Wrong b tells =
    told _ (item_at part >>= λ item. cond (item.tag == tag) (next item) (Err (at_kind 1 item.place))) _ (by_item (item_at part))
    (first_tells part _ (Unless (IsTagged tag) 1 Wrong) b
    (λ item begins. unless_tells (item.tag == tag) item 1 (IsTagged tag) Wrong (next item) (λ e. grind (arith, nat_tests, e), λ e. grind (arith, nat_tests, e)) (tells item begins)))
  where
    by_item : (r : Result ItemView Fault)
        → r >>= (λ item. cond (item.tag == tag) (Ok item) (Err (at_kind 1 item.place))) >>= next
        ≡ r >>= λ item. cond (item.tag == tag) (next item) (Err (at_kind 1 item.place))
    by_item (Ok item) = tested (item.tag == tag) item next (at_kind 1 item.place)
    by_item (Err fault) = refl
