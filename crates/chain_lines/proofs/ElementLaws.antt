-- What was made so far, and what is made of the elements left, is what is made of all.
use Rattle.std.proofs.Common.{◌≡◌, ℕ, zero, suc, ◌<◌, ◌≤◌, List, [], ◌++◌, length, Ok, Err, refl, sym, ◌∙◌, ap, arith, append_assoc, append-nil}
use Rattle.der_reader.specs.Elem.{Element}
use Rattle.der_reader.specs.Next.{next_at}
use Rattle.der_reader.specs.declared.fault.DerFault.{DerFault}
use Rattle.chain_lines.specs.Elements.{each_up_to, made_from, made_of, within}

pub record Left (tag : ℕ) (make : List ℕ → List ℕ) (all out left : List ℕ) : Type 0 where
  pub room : ℕ
  pub enough : length left ≤ room
  pub sum : out ++ each_up_to tag make room left ≡ all

pub starts : (tag : ℕ) (make : List ℕ → List ℕ) (bytes : List ℕ) → Left tag make (within tag make bytes) [] bytes
starts tag make bytes = record { room = length bytes; enough = omega arith; sum = refl }

none_of : (tag : ℕ) (make : List ℕ → List ℕ) (room : ℕ) (left : List ℕ) (fault : DerFault) → next_at left ≡ Err fault → each_up_to tag make room left ≡ []
unfolding each_up_to
none_of tag make zero left fault e = refl
none_of tag make (suc room) left fault e = ap (made_from tag make (λ rest. each_up_to tag make room rest)) e

pub at_end : (tag : ℕ) (make : List ℕ → List ℕ) (all out left : List ℕ) (fault : DerFault) → Left tag make all out left → next_at left ≡ Err fault → out ≡ all
at_end tag make all out left fault l e = sym (append-nil out) ∙ (ap (λ x. out ++ x) (sym (none_of tag make l.room left fault e)) ∙ l.sum)

more_by : (tag : ℕ) (make : List ℕ → List ℕ) (all out now left : List ℕ) (element : Element) (rest : List ℕ) (room : ℕ) → length left ≤ room → out ++ each_up_to tag make room left ≡ all
    → next_at left ≡ Ok (element, rest) → length rest < length left → now ≡ out ++ made_of tag make element → Left tag make all now rest
unfolding each_up_to
more_by tag make all out now left element rest zero enough sum e less is = absurd (omega (arith, enough, less))
more_by tag make all out now left element rest (suc room) enough sum e less is = record {
  room = room;
  enough = omega (arith, enough, less);
  sum = ap (λ x. x ++ each_up_to tag make room rest) is ∙ (append_assoc out (made_of tag make element) (each_up_to tag make room rest)
      ∙ (ap (λ x. out ++ x) (sym (ap (made_from tag make (λ behind. each_up_to tag make room behind)) e)) ∙ sum));
}

pub more : (tag : ℕ) (make : List ℕ → List ℕ) (all out now left : List ℕ) (element : Element) (rest : List ℕ) → Left tag make all out left → next_at left ≡ Ok (element, rest)
    → length rest < length left → now ≡ out ++ made_of tag make element → Left tag make all now rest
more tag make all out now left element rest l e less is = more_by tag make all out now left element rest l.room l.enough l.sum e less is
