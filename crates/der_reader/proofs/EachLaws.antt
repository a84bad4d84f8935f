-- Elements in order are what is read of them, are read as they are, and are refused exactly if one is wrong.
use Rattle.std.proofs.Common.{◌≡◌, inl, inr, ℕ, zero, suc, ◌+◌, ◌<◌, ◌≤◌, ◌==◌, Bool, true, false, cond, List, [], ◌∷◌, ◌++◌, length, Option, Some, None, Result, Ok, Err, refl, sym, ap, subst, ◌∙◌, append_assoc, append-nil, length-append, arith}
use Rattle.std.proofs.lemmas.Bool.Decides.{nat_tests}
use Rattle.lists.specs.Given.{IsFaultOf}
use Rattle.lists.specs.Steps.{◌>>=◌}
use Rattle.lists.proofs.Bytes.{no_byte}
use Rattle.lists.proofs.StepLaws.{after}
use Rattle.der_reader.specs.declared.part.Fault.{Fault}
use Rattle.der_reader.specs.Broken.{First}
use Rattle.der_reader.specs.Each.{ComeTo, OneAfterAnother, WrongBehind, each_in, each_up_to}
use Rattle.der_reader.specs.Elem.{AllBytes, BeginsWith, Elem, Element}
use Rattle.der_reader.specs.Part.{ItemView, PartView, at_kind, item_at, item_in}
use Rattle.der_reader.proofs.BrokenLaws.{first_tells, item_is, unreadable}
use Rattle.der_reader.proofs.NextLaws.{all_behind}
use Rattle.der_reader.proofs.PartLaws.{Begins, begins_with, element_sizes, item_stands, some_front}
use Rattle.der_reader.proofs.ReadLaws.{Reads}

-- the part of these bytes at this place
abbrev pub at : List ℕ → ℕ → PartView
at left place = record { left = left; place = place }

-- How one is taken: what is read is the element of something that adds to what was there, or is wrong; and what adds is read.
pub record Takes {S X : Type 0} (step : S → ItemView → Result S Fault) (Text : List ℕ → X → Type 0) (Adds : S → X → S → Type 0)
    (Wrong : S → ItemView → Fault → Type 0) : Type 0 where
  pub reads : (start : S) (part : PartView) (item : ItemView) → Begins part item
      → Reads (step start item) (λ next. (x : X) × Text item.whole x × Adds start x next) (Wrong start item)
  pub tag : (text : List ℕ) (x : X) → Text text x → ℕ
  pub content : (text : List ℕ) (x : X) → Text text x → List ℕ
  pub elem : (text : List ℕ) (x : X) (t : Text text x) → Elem text (tag text x t) (content text x t)
  pub again : (start next : S) (text : List ℕ) (x : X) (t : Text text x) (rest : List ℕ) (place : ℕ) → Adds start x next
      → step start (item_in place (record { tag = tag text x t; whole = text; content = content text x t }) rest) ≡ Ok next

-- what reading them gives is so
abbrev pub Is : {S X : Type 0} → (List ℕ → X → Type 0) → (S → X → S → Type 0) → (S → ItemView → Fault → Type 0) → S → PartView → Result S Fault → Type 0
Is Text Adds Wrong start part (Ok end) = (each : List _) × OneAfterAnother Text each part.left × ComeTo Adds start each end
Is Text Adds Wrong start part (Err fault) = WrongBehind Text Adds Wrong start part fault

-- the first element is wrong
here : {S X : Type 0} (Text : List ℕ → X → Type 0) (Adds : S → X → S → Type 0) (Wrong : S → ItemView → Fault → Type 0) (start : S) (part : PartView)
    (fault : Fault) → length part.left == 0 ≡ false → First (Wrong start) part fault → WrongBehind Text Adds Wrong start part fault
here Text Adds Wrong start part fault some wrong =
    let place : part.place ≡ part.place + length {A = ℕ} [] = omega arith in
    record {
      before = [];
      now = start;
      front = [];
      rest = part.left;
      split = refl;
      each = refl;
      come = refl;
      some = grind (arith, nat_tests, some);
      wrong = subst (λ n. First (Wrong start) (at part.left n) fault) place wrong;
    }

-- the first is taken, and this is so after it
behind_it : {S X : Type 0} (Text : List ℕ → X → Type 0) (Adds : S → X → S → Type 0) (Wrong : S → ItemView → Fault → Type 0) (start next : S) (part : PartView)
    (element : Element) (rest : List ℕ) (x : X) → BeginsWith part.left element rest → Text element.whole x → Adds start x next → (r : Result S Fault)
    → Is Text Adds Wrong next (at rest (part.place + length element.whole)) r → Is Text Adds Wrong start part r
behind_it Text Adds Wrong start next part element rest x begins text adds (Ok end) (others, each, come) =
    (x ∷ others, (element.whole, rest, begins.split, text, each), (next, adds, come))
behind_it Text Adds Wrong start next part element rest x begins text adds (Err fault) w =
    let place : part.place + length element.whole + length w.front ≡ part.place + length (element.whole ++ w.front) =
    omega (arith, length-append element.whole w.front) in
    record {
      before = x ∷ w.before;
      now = w.now;
      front = element.whole ++ w.front;
      rest = w.rest;
      split = begins.split ∙ ap (λ l. element.whole ++ l) w.split ∙ sym (append_assoc element.whole w.front w.rest);
      each = (element.whole, w.front, refl, text, w.each);
      come = (next, adds, w.come);
      some = w.some;
      wrong = subst (λ n. First (Wrong w.now) (at w.rest n) fault) place w.wrong;
    }

each_is : {S X : Type 0} (step : S → ItemView → Result S Fault) (Text : List ℕ → X → Type 0) (Adds : S → X → S → Type 0) (Wrong : S → ItemView → Fault → Type 0)
    → Takes step Text Adds Wrong → (room : ℕ) (start : S) (part : PartView) → length part.left ≤ room → AllBytes part.left
    → Is Text Adds Wrong start part (each_up_to step room start part)
unfolding each_up_to
each_is step Text Adds Wrong takes zero start part l b = of (length part.left == 0) refl
  where
    of : (t : Bool) → length part.left == 0 ≡ t → Is Text Adds Wrong start part (cond t (Ok start) (Err (at_kind 1 part.place)))
    of true e = ([], no_byte part.left e, refl)
    of false e = absurd (grind (arith, nat_tests, l, e))
each_is step Text Adds Wrong takes (suc room) start part l b = of (each_is step Text Adds Wrong takes room) (length part.left == 0) refl
  where
    of : ((start : _) (part : PartView) → length part.left ≤ room → AllBytes part.left → Is Text Adds Wrong start part (each_up_to step room start part))
        → (t : Bool) → length part.left == 0 ≡ t
        → Is Text Adds Wrong start part (cond t (Ok start) (item_at part >>= λ item. step start item >>= λ next. each_up_to step room next item.behind))
    of go true e = ([], no_byte part.left e, refl)
    of go false e = by_item (item_at part) refl
      where
        by_step : (element : Element) (rest : List ℕ) → BeginsWith part.left element rest → (r : Result _ Fault) → step start (item_in part.place element rest) ≡ r
            → Is Text Adds Wrong start part (r >>= λ next. each_up_to step room next (at rest (part.place + length element.whole)))
        by_step element rest begins (Ok next) k =
            let is = begins_with part element rest b begins in
            let w = (takes.reads start part (item_in part.place element rest) is).found next k in
            let sizes = element_sizes part.left element rest begins in
            behind_it Text Adds Wrong start next part element rest w.0 begins w.1 w.2 _
            (go next (at rest (part.place + length element.whole)) (omega (arith, l, sizes.0, sizes.1)) is.behind_bytes)
        by_step element rest begins (Err fault) k =
            let is = begins_with part element rest b begins in
            here Text Adds Wrong start part fault e (inr (record {
              element = element;
              rest = rest;
              begins = begins;
              wrong = ((takes.reads start part (item_in part.place element rest) is).tells fault).0 k;
            }))

        by_item : (r : Result ItemView Fault) → item_at part ≡ r
            → Is Text Adds Wrong start part (r >>= λ item. step start item >>= λ next. each_up_to step room next item.behind)
        by_item (Ok item) k =
            let s = item_is part item b k in
            subst (λ item. Is Text Adds Wrong start part (step start item >>= λ next. each_up_to step room next item.behind)) (sym s.is)
            (by_step s.element s.rest s.begins _ refl)
        by_item (Err fault) k = here Text Adds Wrong start part fault e (inl (unreadable part fault k))

-- what is read after some that are there
each_on : {S X : Type 0} (step : S → ItemView → Result S Fault) (Text : List ℕ → X → Type 0) (Adds : S → X → S → Type 0) (Wrong : S → ItemView → Fault → Type 0)
    → Takes step Text Adds Wrong → (each : List X) (room : ℕ) (start : S) (text rest : List ℕ) (place : ℕ) (end : S) → length (text ++ rest) ≤ room
    → OneAfterAnother Text each text → ComeTo Adds start each end
    → (next : ℕ) × (length rest ≤ next) × (each_up_to step room start (at (text ++ rest) place) ≡ each_up_to step next end (at rest (place + length text)))
unfolding each_up_to
each_on step Text Adds Wrong takes [] room start text rest place end l none come =
    let ends : place ≡ place + length text = omega (arith, ap length none) in (
      room,
      omega (arith, l, length-append text rest),
      ap (λ t. each_up_to step room start (at (t ++ rest) place)) none ∙ ap (λ n. each_up_to step room start (at rest n)) ends
          ∙ ap (λ v. each_up_to step room v (at rest (place + length text))) (sym come),
    )
each_on step Text Adds Wrong takes (x ∷ more) zero start text rest place end l (first, others, split, t, each) come =
    absurd (omega (arith, l, length-append text rest, ap length split, length-append first others, ap length (takes.elem first x t).text))
each_on step Text Adds Wrong takes (x ∷ more) (suc room) start text rest place end l (first, others, split, t, each) (next, adds, come) =
    let tag : ℕ = takes.tag first x t in
    let content : List ℕ = takes.content first x t in
    let elem : Elem first tag content = takes.elem first x t in
    let item : ItemView = item_in place (record { tag = tag; whole = first; content = content }) (others ++ rest) in
    let whole : text ++ rest ≡ first ++ (others ++ rest) = ap (λ l. l ++ rest) split ∙ append_assoc first others rest in
    let size : length text ≡ length first + length others = ap length split ∙ length-append first others in
    let some : length (text ++ rest) == 0 ≡ false = ap (λ l. length l == 0) whole ∙ some_front tag first content (others ++ rest) elem in
    let on = each_on step Text Adds Wrong takes more room next others rest (place + length first) end
    (omega (arith, l, size, length-append text rest, length-append others rest, ap length elem.text)) each come in
    let ends : place + length first + length others ≡ place + length text = omega (arith, size) in (
      on.0,
      on.1,
      rw some
          (after (item_at (at (text ++ rest) place)) item _ _
          (ap (λ (l : List ℕ). item_at (at l place)) whole ∙ item_stands tag first content (others ++ rest) place elem)
          (after (step start item) next _ _ (takes.again start next first x t (others ++ rest) place adds) on.2))
          ∙ ap (λ n. each_up_to step on.0 end (at rest n)) ends,
    )

pub end_by : {S : Type 0} (step : S → ItemView → Result S Fault) (room : ℕ) (start : S) (part : PartView) → length part.left == 0 ≡ true
    → each_up_to step room start part ≡ Ok start
unfolding each_up_to
end_by step zero start part e = rw e refl
end_by step (suc room) start part e = rw e refl

-- those that are there are read
pub each_again : {S X : Type 0} (step : S → ItemView → Result S Fault) (Text : List ℕ → X → Type 0) (Adds : S → X → S → Type 0) (Wrong : S → ItemView → Fault → Type 0)
    → Takes step Text Adds Wrong → (each : List X) (start : S) (part : PartView) (end : S) → OneAfterAnother Text each part.left → ComeTo Adds start each end
    → each_in step start part ≡ Ok end
each_again step Text Adds Wrong takes each start part end texts come =
    let alone : part.left ++ [] ≡ part.left = append-nil part.left in
    let on = each_on step Text Adds Wrong takes each (length part.left) start part.left [] part.place end (omega (arith, ap length alone)) texts come in
    ap (λ (l : List ℕ). each_up_to step (length part.left) start (at l part.place)) (sym alone) ∙ on.2
    ∙ end_by step on.0 end (at [] (part.place + length part.left)) refl

-- if the first element is wrong, reading ends
stuck : {S X : Type 0} (step : S → ItemView → Result S Fault) (Text : List ℕ → X → Type 0) (Adds : S → X → S → Type 0) (Wrong : S → ItemView → Fault → Type 0)
    → Takes step Text Adds Wrong → (room : ℕ) (start : S) (part : PartView) (fault : Fault) → 1 ≤ length part.left → length part.left ≤ room → AllBytes part.left
    → First (Wrong start) part fault → each_up_to step room start part ≡ Err fault
unfolding each_up_to
stuck step Text Adds Wrong takes zero start part fault some l b wrong = absurd (omega (arith, some, l))
stuck step Text Adds Wrong takes (suc room) start part fault some l b wrong =
    let test : length part.left == 0 ≡ false = grind (arith, nat_tests, some) in
    let next : ItemView → Result _ Fault = λ item. step start item >>= λ next. each_up_to step room next item.behind in
    rw test ((first_tells part next (λ item fault. next item ≡ Err fault) b (λ item is fault. (λ e. e, λ e. e)) fault).1 (elim wrong [
      | inl cut ↦ inl cut
      | inr w ↦
          let item : ItemView = item_in part.place w.element w.rest in
          inr (record {
            element = w.element;
            rest = w.rest;
            begins = w.begins;
            wrong = ap (λ r. r >>= λ next. each_up_to step room next item.behind)
                (((takes.reads start part item (begins_with part w.element w.rest b w.begins)).tells fault).1 w.wrong);
          })
    ]))

pub each_reads : {S X : Type 0} (step : S → ItemView → Result S Fault) (Text : List ℕ → X → Type 0) (Adds : S → X → S → Type 0) (Wrong : S → ItemView → Fault → Type 0)
    → Takes step Text Adds Wrong → (start : S) (part : PartView) → AllBytes part.left
    → Reads (each_in step start part) (λ end. (each : List X) × OneAfterAnother Text each part.left × ComeTo Adds start each end)
    (WrongBehind Text Adds Wrong start part)
each_reads step Text Adds Wrong takes start part b = record {
  found = λ end e. subst (Is Text Adds Wrong start part) e is;
  tells = λ fault. (
    λ e. subst (Is Text Adds Wrong start part) e is,
    λ w.
        let l : length (w.front ++ w.rest) ≤ length part.left = omega (arith, ap length w.split) in
        let on = each_on step Text Adds Wrong takes w.before (length part.left) start w.front w.rest part.place w.now l w.each w.come in
        ap (λ (l : List ℕ). each_up_to step (length part.left) start (at l part.place)) w.split ∙ on.2
        ∙ stuck step Text Adds Wrong takes on.0 w.now (at w.rest (part.place + length w.front)) fault w.some on.1
        (all_behind w.front w.rest (subst AllBytes w.split b)) w.wrong,
  );
}
  where
    is : Is Text Adds Wrong start part (each_in step start part)
    is = each_is step Text Adds Wrong takes (length part.left) start part (omega arith) b

-- ---- a loop over them

-- what is left, with what was taken before, gives what all give
pub record Left {S : Type 0} (step : S → ItemView → Result S Fault) (all : Result S Fault) (now : S) (part : PartView) : Type 0 where
  pub room : ℕ
  pub enough : length part.left ≤ room
  pub gives : each_up_to step room now part ≡ all

pub at_first : {S : Type 0} (step : S → ItemView → Result S Fault) (start : S) (part : PartView) → Left step (each_in step start part) start part
at_first step start part = record { room = length part.left; enough = omega arith; gives = refl }

-- if nothing is left, all was taken
pub at_end : {S : Type 0} (step : S → ItemView → Result S Fault) (all : Result S Fault) (now : S) (part : PartView) → Left step all now part
    → length part.left == 0 ≡ true → all ≡ Ok now
at_end step all now part l e = sym l.gives ∙ end_by step l.room now part e

one_by : {S : Type 0} (step : S → ItemView → Result S Fault) (room : ℕ) (now : S) (part : PartView) → length part.left ≤ room → length part.left == 0 ≡ false
    → (next : ℕ) × (room ≡ suc next)
    × (each_up_to step room now part ≡ (item_at part >>= λ item. step now item >>= λ more. each_up_to step next more item.behind))
unfolding each_up_to
one_by step zero now part l e = absurd (grind (arith, nat_tests, l, e))
one_by step (suc room) now part l e = (room, refl, rw e refl)

-- what is left after one more, with it
pub one_more : {S : Type 0} (step : S → ItemView → Result S Fault) (all : Result S Fault) (now more : S) (part : PartView) (item : ItemView) → Left step all now part
    → length part.left == 0 ≡ false → item_at part ≡ Ok item → length item.behind.left < length part.left → step now item ≡ Ok more
    → Left step all more item.behind
one_more step all now more part item l e i less w =
    let one = one_by step l.room now part l.enough e in
    record {
      room = one.0;
      enough = omega (arith, less, l.enough, one.1);
      gives = sym (one.2 ∙ after (item_at part) item _ _ i (ap (λ r. r >>= λ more. each_up_to step one.0 more item.behind) w)) ∙ l.gives;
    }

-- an element that can't be read ends all, and so does one that is refused, unless memory runs out
pub cut_off : {S : Type 0} (step : S → ItemView → Result S Fault) (all : Result S Fault) (now : S) (part : PartView) (fault : Fault) → Left step all now part
    → length part.left == 0 ≡ false → item_at part ≡ Err fault → all ≡ Err fault
cut_off step all now part fault l e i =
    let one = one_by step l.room now part l.enough e in
    sym l.gives ∙ one.2 ∙ ap (λ r. r >>= λ item. step now item >>= λ more. each_up_to step one.0 more item.behind) i

pub refused : {S : Type 0} (step : S → ItemView → Result S Fault) (all : Result S Fault) (now : S) (part : PartView) (item : ItemView) (seen : Option Fault)
    → Left step all now part → length part.left == 0 ≡ false → item_at part ≡ Ok item → IsFaultOf seen (step now item) → IsFaultOf seen all
refused step all now part item None l e i f = tt
refused step all now part item (Some fault) l e i f =
    let one = one_by step l.room now part l.enough e in
    sym l.gives ∙ one.2 ∙ after (item_at part) item _ _ i (ap (λ r. r >>= λ more. each_up_to step one.0 more item.behind) f)
