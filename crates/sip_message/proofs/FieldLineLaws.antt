-- A field line has just the name and the rest that are read from it.
use Rattle.std.proofs.Common.{◌≡◌, ℕ, Bool, true, false, not, ◌==◌, List, [], ◌∷◌, ◌++◌, Some, refl, ap, ◌∙◌, sym, append_assoc, option_and_then, reverse, subst}
use Rattle.std.specs.List.{list_all}
use Rattle.std.proofs.lemmas.List.{reverse-append, reverse-reverse}
use Rattle.std.proofs.lemmas.Option.{cond_some, option_and_then_some}
use Rattle.text_grammar.specs.Cut.{cut, lacks}
use Rattle.text_grammar.proofs.CutLaws.{cut_again, cut_found}
use Rattle.sip_message.specs.FieldLine.{IsFieldLine, field_line, name_before, named}
use Rattle.sip_message.specs.HeadAlphabet.{is_name}
use Rattle.text_grammar.specs.Bytes.{is_blank, is_empty, is_name_byte}
use Rattle.sip_message.specs.Lines.{is_continuation}
use Rattle.sip_message.specs.Value.{trimmed_end, trimmed_front}
use Rattle.sip_message.proofs.Bytes.{blank_no_colon, name_no_blank, name_no_colon}
use Rattle.lists.proofs.Bytes.{all_append, all_reverse, each}
use Rattle.std.proofs.lemmas.Bool.{and_parts}

-- ---- the blanks at the end

record InFront (text : List ℕ) : Type 0 where
  blanks : List ℕ
  blanks_ok : list_all is_blank blanks ≡ true
  split : text ≡ blanks ++ trimmed_front text

in_front_by : (b : ℕ) (bs : List ℕ) (t : Bool) → is_blank b ≡ t → InFront bs → InFront (b ∷ bs)
in_front_by b bs true e below =
    record { blanks = b ∷ below.blanks; blanks_ok = rw e below.blanks_ok; split = rw e (ap (λ x. b ∷ x) below.split) }
in_front_by b bs false e below = record { blanks = []; blanks_ok = refl; split = rw e refl }

in_front : (text : List ℕ) → InFront text
in_front [] = record { blanks = []; blanks_ok = refl; split = refl }
in_front (b ∷ bs) = in_front_by b bs (is_blank b) refl (in_front bs)

record AtEnd (text : List ℕ) : Type 0 where
  blanks : List ℕ
  blanks_ok : list_all is_blank blanks ≡ true
  split : text ≡ trimmed_end text ++ blanks

at_end : (text : List ℕ) → AtEnd text
at_end text =
    let f = in_front (reverse text) in
    record {
      blanks = reverse f.blanks;
      blanks_ok = all_reverse is_blank f.blanks f.blanks_ok;
      split = sym (reverse-reverse text) ∙ ap reverse f.split ∙ reverse-append f.blanks (trimmed_front (reverse text));
    }

skip_by : (b : ℕ) (bs rest : List ℕ) → (list_all is_blank bs ≡ true → trimmed_front (bs ++ rest) ≡ trimmed_front rest) → list_all is_blank (b ∷ bs) ≡ true
    → trimmed_front (b ∷ (bs ++ rest)) ≡ trimmed_front rest
skip_by b bs rest below h = let t = and_parts (is_blank b) (list_all is_blank bs) h in rw t.0 (below t.1)

skips : (blanks rest : List ℕ) → list_all is_blank blanks ≡ true → trimmed_front (blanks ++ rest) ≡ trimmed_front rest
skips [] rest h = refl
skips (b ∷ bs) rest h = skip_by b bs rest (skips bs rest) h

stays : (name : List ℕ) → list_all is_name_byte name ≡ true → trimmed_front name ≡ name
stays [] h = refl
stays (b ∷ bs) h = let n = name_no_blank b (and_parts (is_name_byte b) (list_all is_name_byte bs) h).0 in rw n refl

trims : (name blanks : List ℕ) → list_all is_name_byte name ≡ true → list_all is_blank blanks ≡ true → trimmed_end (name ++ blanks) ≡ name
trims name blanks n b =
    ap (λ x. reverse (trimmed_front x)) (reverse-append name blanks)
    ∙ ap reverse (skips (reverse blanks) (reverse name) (all_reverse is_blank blanks b) ∙ stays (reverse name) (all_reverse is_name_byte name n))
    ∙ reverse-reverse name

-- ---- the line

form : (line front rest : List ℕ) (parts : List ℕ × List ℕ) → line ≡ front ++ 58 ∷ rest → name_before (front, rest) ≡ Some parts → IsFieldLine line parts.0 parts.1
form line front rest parts e h =
    let c = cond_some (is_name (trimmed_end front)) (trimmed_end front, rest) parts h in
    let a = at_end front in
    let field : IsFieldLine line (trimmed_end front) rest =
    record { blanks = a.blanks; name_ok = c.0; blanks_ok = a.blanks_ok; text = e ∙ ap (λ x. x ++ 58 ∷ rest) a.split ∙ append_assoc (trimmed_end front) a.blanks (58 ∷ rest) } in
    subst (λ (x : List ℕ × List ℕ). IsFieldLine line x.0 x.1) c.1 field

pub field_found : (line : List ℕ) (parts : List ℕ × List ℕ) → field_line line ≡ Some parts → IsFieldLine line parts.0 parts.1
field_found line parts h =
    option_and_then_some name_before (cut 58 line) parts h (λ at e1 h1. form line at.0 at.1 parts (cut_found 58 line at e1) h1)

bytes_of_name : (name : List ℕ) → is_name name ≡ true → list_all is_name_byte name ≡ true
bytes_of_name name h = (and_parts (not (is_empty name)) (list_all is_name_byte name) h).1

pub field_only : (line name rest : List ℕ) → IsFieldLine line name rest → field_line line ≡ Some (name, rest)
field_only line name rest i =
    let n : is_name name ≡ true = i.name_ok in
    let bytes = bytes_of_name name n in
    let no_colon : lacks 58 (name ++ i.blanks) ≡ true =
    all_append (λ b. not (b == 58)) name i.blanks (each is_name_byte (λ b. not (b == 58)) name_no_colon name bytes) (each is_blank (λ b. not (b == 58)) blank_no_colon i.blanks i.blanks_ok) in
    let end : named name rest ≡ Some (name, rest) = rw n refl in
    ap field_line (i.text ∙ sym (append_assoc name i.blanks (58 ∷ rest)))
    ∙ ap (option_and_then name_before) (cut_again 58 (name ++ i.blanks) rest no_colon)
    ∙ ap (λ x. named x rest) (trims name i.blanks bytes i.blanks_ok)
    ∙ end

-- ---- no field line is empty or a continuation

first_of_name : (name more : List ℕ) → is_name name ≡ true → (is_empty (name ++ more) ≡ false) × (is_continuation (name ++ more) ≡ false)
first_of_name [] more h = absurd cc
first_of_name (b ∷ bs) more h = (refl, name_no_blank b (and_parts (is_name_byte b) (list_all is_name_byte bs) h).0)

pub field_first : (line name rest : List ℕ) → IsFieldLine line name rest → (is_empty line ≡ false) × (is_continuation line ≡ false)
field_first line name rest i =
    let f = first_of_name name (i.blanks ++ 58 ∷ rest) i.name_ok in
    (ap is_empty i.text ∙ f.0, ap is_continuation i.text ∙ f.1)
