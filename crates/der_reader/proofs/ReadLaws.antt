-- One pass over a reading: what it gives is so, and it ends with a fault exactly if something is wrong.
use Rattle.std.proofs.Common.{◌≡◌, ◌↔◌, ℕ, Bool, true, cond, List, [], Result, Ok, Err, refl, sym, ap, subst, ◌∙◌}
use Rattle.lists.specs.Steps.{◌>>=◌}
use Rattle.lists.proofs.StepLaws.{inside, taken}
use Rattle.der_reader.specs.declared.part.Fault.{Fault}
use Rattle.der_reader.specs.Broken.{AtEnd, First, IsTagged, LeftOver, Through, Unless}
use Rattle.der_reader.specs.Elem.{AllBytes}
use Rattle.der_reader.specs.Part.{ItemView, PartView, at_kind, element_at, end_at, item_at, or_broken}
use Rattle.der_reader.proofs.BrokenLaws.{Tells, at_end_tells, broken_tells, element_tells, end_tells, first_tells, last_tells, tested, through_tells, told, unless_tells}
use Rattle.der_reader.proofs.PartLaws.{Begins, came_by, element_came, ended, item_came, unbroken}

pub record Reads {A : Type 0} (r : Result A Fault) (Good : A → Type 0) (Wrong : Fault → Type 0) : Type 0 where
  pub found : (x : A) → r ≡ Ok x → Good x
  pub tells : Tells r Wrong

-- one that is another
pub reads_as : {A : Type 0} (r s : Result A Fault) (Good : A → Type 0) (Wrong : Fault → Type 0) → r ≡ s → Reads s Good Wrong → Reads r Good Wrong
reads_as r s Good Wrong e reads = subst (λ r. Reads r Good Wrong) (sym e) reads

pub in_order : {A B C : Type 0} (r : Result A Fault) (f : A → Result B Fault) (g : B → Result C Fault) → r >>= f >>= g ≡ r >>= λ x. f x >>= g
in_order (Ok x) f g = refl
in_order (Err fault) f g = refl

-- by the first element
pub item_reads : {A : Type 0} (part : PartView) (next : ItemView → Result A Fault) (Good : A → Type 0) (Wrong : ItemView → Fault → Type 0) → AllBytes part.left
    → ((item : ItemView) → Begins part item → Reads (next item) Good (Wrong item)) → Reads (item_at part >>= next) Good (First Wrong part)
item_reads part next Good Wrong b reads = record {
  found = λ x e. item_came part next x b e (λ item is. (reads item is).found x);
  tells = first_tells part next Wrong b (λ item is. (reads item is).tells);
}

pub element_reads : {A : Type 0} (tag : ℕ) (part : PartView) (next : ItemView → Result A Fault) (Good : A → Type 0) (Wrong : ItemView → Fault → Type 0) → AllBytes part.left
    → ((item : ItemView) → Begins part item × (item.tag ≡ tag) → Reads (next item) Good (Wrong item))
    → Reads (element_at tag part >>= next) Good (First (Unless (IsTagged tag) 1 Wrong) part)
element_reads tag part next Good Wrong b reads = record {
  found = λ x e. element_came tag part next x b e (λ item is. (reads item is).found x);
  tells = element_tells tag part next Wrong b (λ item is tagged. (reads item (is, tagged)).tells);
}

-- by a form that the element has to have
pub broken_reads : {A X E : Type 0} (r : Result X E) (item : ItemView) (kind : ℕ) (next : X → Result A Fault) (Good : A → Type 0) (Form : ItemView → Type 0)
    (Wrong : ItemView → Fault → Type 0) → ((x : X) → r ≡ Ok x → Form item × Reads (next x) Good (Wrong item)) → (Form item → (x : X) × (r ≡ Ok x))
    → Reads (or_broken r (at_kind kind item.place) >>= next) Good (Unless Form kind Wrong item)
broken_reads r item kind next Good Form Wrong reads again = record {
  found = λ y e. came_by (or_broken r (at_kind kind item.place)) next y e (λ x k. (reads x (unbroken r (at_kind kind item.place) x k)).1.found y);
  tells = broken_tells r item kind next Form Wrong (λ x k. ((reads x k).0, (reads x k).1.tells)) again;
}

-- by a test that it has to pass
pub test_reads : {A X : Type 0} (t : Bool) (x : X) (item : ItemView) (kind : ℕ) (next : X → Result A Fault) (Good : A → Type 0) (Form : ItemView → Type 0)
    (Wrong : ItemView → Fault → Type 0) → ((t ≡ true) ↔ Form item) → (t ≡ true → Reads (next x) Good (Wrong item))
    → Reads (cond t (Ok x) (Err (at_kind kind item.place)) >>= next) Good (Unless Form kind Wrong item)
test_reads t x item kind next Good Form Wrong test reads = record {
  found = λ y e. came_by (cond t (Ok x) (Err (at_kind kind item.place))) next y e (λ z k m.
      let is = taken t x z (at_kind kind item.place) k in
      (reads is.0).found y (ap next is.1 ∙ m));
  tells = told _ (cond t (next x) (Err (at_kind kind item.place))) _ (tested t x next (at_kind kind item.place))
      (unless_tells t item kind Form Wrong (next x) test (λ form. (reads (test.1 form)).tells));
}

-- by a part that is read to its end
pub through_reads : {A X : Type 0} (r : Result X Fault) (part : PartView) (next : X → Result A Fault) (Good : A → Type 0) (Inner : PartView → Fault → Type 0)
    (Form : List ℕ → Type 0) (Wrong : Fault → Type 0) → Tells r (Inner part) → ((x : X) → r ≡ Ok x → Form part.left × Reads (next x) Good Wrong)
    → (Form part.left → (x : X) × (r ≡ Ok x)) → Reads (r >>= next) Good (Through Inner Form Wrong part)
through_reads r part next Good Inner Form Wrong inner reads again = record {
  found = λ y e. came_by r next y e (λ x k. (reads x k).1.found y);
  tells = through_tells r part next Inner Form Wrong inner (λ x k. ((reads x k).0, (reads x k).1.tells)) again;
}

-- by what is read last, of which the answer is made
pub last_reads : {A X : Type 0} (r : Result X Fault) (make : X → A) (Good : A → Type 0) (Wrong : Fault → Type 0) → Tells r Wrong → ((x : X) → r ≡ Ok x → Good (make x))
    → Reads (r >>= λ x. Ok (make x)) Good Wrong
last_reads r make Good Wrong tells good = record {
  found = λ y e. came_by r (λ x. Ok (make x)) y e (λ x k m. subst Good (inside (make x) y m) (good x k));
  tells = last_tells r make Wrong tells;
}

-- at the end
pub end_reads : {A : Type 0} (part : PartView) (v : A) (Good : A → Type 0) → (part.left ≡ [] → Good v) → Reads (end_at part v) Good (LeftOver part)
end_reads part v Good good = record {
  found = λ x e. let k = ended part v x e in subst Good k.1 (good k.0);
  tells = end_tells part v;
}

pub at_end_reads : {A B : Type 0} (part : PartView) (v : B) (next : B → Result A Fault) (Good : A → Type 0) (Wrong : Fault → Type 0) → Tells (next v) Wrong
    → (part.left ≡ [] → (x : A) → next v ≡ Ok x → Good x) → Reads (end_at part v >>= next) Good (AtEnd Wrong part)
at_end_reads part v next Good Wrong tells good = record {
  found = λ x e. came_by (end_at part v) next x e (λ w k m. let is = ended part v w k in good is.0 x (ap next is.1 ∙ m));
  tells = at_end_tells part v next Wrong tells;
}
