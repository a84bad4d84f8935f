-- A field line is its name bytes, the blanks behind them, a colon and the rest.
use Rattle.std.proofs.Common.{◌≡◌, ℕ, suc, ◌+◌, Bool, true, false, not, ◌==◌, cond, List, [], ◌∷◌, ◌++◌, length, take, drop, Option, Some, None, Result, Ok, Err, refl, sym, ap, ◌∙◌, arith}
use Rattle.std.specs.List.{list_all, prefix_len}
use Rattle.std.proofs.Math.Seq.{take-append_seam, drop-append_seam}
use Rattle.std.proofs.lemmas.Bool.{and_parts}
use Rattle.std.proofs.lemmas.Bool.Decides.{nat_tests}
use Rattle.std.proofs.lemmas.List.{take-append-drop}
use Rattle.text_grammar.specs.Bytes.{is_blank, is_empty, is_name_byte}
use Rattle.text_grammar.specs.Reading.{byte_at, skip}
use Rattle.sip_message.specs.FieldLine.{IsFieldLine, field_line}
use Rattle.sip_message.specs.HeadAlphabet.{is_name}
use Rattle.sip_message.proofs.FieldLineLaws.{field_found, field_only}

-- ---- how many bytes pass a test

passed_by : (p : ℕ → Bool) (b : ℕ) (bs : List ℕ) (t : Bool) → p b ≡ t → list_all p (take (prefix_len p bs) bs) ≡ true
    → list_all p (take (cond t (1 + prefix_len p bs) 0) (b ∷ bs)) ≡ true
passed_by p b bs true e h = let one : 1 + prefix_len p bs ≡ suc (prefix_len p bs) = omega arith in rw one (rw (e, h) refl)
passed_by p b bs false e h = refl

passed : (p : ℕ → Bool) (text : List ℕ) → list_all p (take (prefix_len p text) text) ≡ true
passed p [] = refl
passed p (b ∷ bs) = passed_by p b bs (p b) refl (passed p bs)

stops : (p : ℕ → Bool) (xs ys : List ℕ) (y : ℕ) → list_all p xs ≡ true → p y ≡ false → prefix_len p (xs ++ y ∷ ys) ≡ length xs
stops p [] ys y h e = rw e refl
stops p (x ∷ xs) ys y h e = let t = and_parts (p x) (list_all p xs) h in rw (t.0, stops p xs ys y t.1 e) (omega arith)

-- ---- the name and what is behind it

abbrev pub name_of : List ℕ → List ℕ
name_of line = take (prefix_len is_name_byte line) line

abbrev pub behind_name : List ℕ → List ℕ
behind_name line = skip is_blank (drop (prefix_len is_name_byte line) line)

blank_no_name : (b : ℕ) → is_blank b ≡ true → is_name_byte b ≡ false
blank_no_name b h = grind (arith, nat_tests)

name_ends : (name blanks rest : List ℕ) → list_all is_name_byte name ≡ true → list_all is_blank blanks ≡ true → prefix_len is_name_byte (name ++ (blanks ++ 58 ∷ rest)) ≡ length name
name_ends name [] rest n b = stops is_name_byte name rest 58 n refl
name_ends name (first ∷ blanks) rest n b = stops is_name_byte name (blanks ++ 58 ∷ rest) first n (blank_no_name first (and_parts (is_blank first) (list_all is_blank blanks) b).0)

record Parted (line name rest : List ℕ) : Type 0 where
  name_is : name_of line ≡ name
  behind : behind_name line ≡ 58 ∷ rest

parted : (line name rest : List ℕ) → IsFieldLine line name rest → Parted line name rest
parted line name rest i =
    let bytes = (and_parts (not (is_empty name)) (list_all is_name_byte name) i.name_ok).1 in
    let count : prefix_len is_name_byte line ≡ length name = ap (prefix_len is_name_byte) i.text ∙ name_ends name i.blanks rest bytes i.blanks_ok in
    let left : drop (prefix_len is_name_byte line) line ≡ i.blanks ++ 58 ∷ rest = (λ k. drop (count k) (i.text k)) ∙ drop-append_seam name (i.blanks ++ 58 ∷ rest) in
    record {
      name_is = (λ k. take (count k) (i.text k)) ∙ take-append_seam name (i.blanks ++ 58 ∷ rest);
      behind = ap (skip is_blank) left ∙ ap (λ k. drop k (i.blanks ++ 58 ∷ rest)) (stops is_blank i.blanks rest 58 i.blanks_ok refl) ∙ drop-append_seam i.blanks (58 ∷ rest);
    }

-- ---- a line that is one

name_by : (name : List ℕ) → (length name == 0) ≡ false → list_all is_name_byte name ≡ true → is_name name ≡ true
name_by [] some all = absurd (grind (arith, nat_tests))
name_by (b ∷ bs) some all = all

colon_by : (b : ℕ) (bs rest : List ℕ) (t : Bool) → (b == 58) ≡ t → ◌≡◌ {A = Result (List ℕ) (List ℕ)} (cond t (Ok bs) (Err (b ∷ bs))) (Ok rest) → b ∷ bs ≡ 58 ∷ rest
colon_by b bs rest true e h = let same : b ≡ 58 = grind (arith, nat_tests) in let more : bs ≡ rest = cc in rw (same, more) refl
colon_by b bs rest false e h = absurd cc

colon_first : (text rest : List ℕ) → byte_at 58 text ≡ Ok rest → text ≡ 58 ∷ rest
colon_first [] rest h = absurd cc
colon_first (b ∷ bs) rest h = colon_by b bs rest (b == 58) refl h

pub named_line : (line rest : List ℕ) → (length (name_of line) == 0) ≡ false → byte_at 58 (behind_name line) ≡ Ok rest → field_line line ≡ Some (name_of line, rest)
named_line line rest some h =
    let count = prefix_len is_name_byte line in
    let left = drop count line in
    let blanks = take (prefix_len is_blank left) left in
    field_only line (take count line) rest (record {
      blanks = blanks;
      name_ok = name_by (take count line) some (passed is_name_byte line);
      blanks_ok = passed is_blank left;
      text = sym (take-append-drop count line)
          ∙ ap (λ x. take count line ++ x) (sym (take-append-drop (prefix_len is_blank left) left) ∙ ap (λ x. blanks ++ x) (colon_first (skip is_blank left) rest h));
    })

-- ---- a line that is none

none_by : (line : List ℕ) (r : Option (List ℕ × List ℕ)) → field_line line ≡ r → ((name rest : List ℕ) → IsFieldLine line name rest → ⊥) → r ≡ None
none_by line None e h = refl
none_by line (Some parts) e h = absurd (h parts.0 parts.1 (field_found line parts e))

some_name : (name : List ℕ) → is_name name ≡ true → (length name == 0) ≡ true → ⊥
some_name [] n e = cc
some_name (b ∷ bs) n e = grind (arith, nat_tests)

pub unnamed_line : (line : List ℕ) → (length (name_of line) == 0) ≡ true → field_line line ≡ None
unnamed_line line none = none_by line (field_line line) refl (λ name rest i. some_name name i.name_ok (ap (λ (x : List ℕ). length x == 0) (sym (parted line name rest i).name_is) ∙ none))

pub no_colon : (line left : List ℕ) → byte_at 58 (behind_name line) ≡ Err left → field_line line ≡ None
no_colon line left h = none_by line (field_line line) refl (λ name rest i.
    let two : ◌≡◌ {A = Result (List ℕ) (List ℕ)} (Ok rest) (Err left) = ap (byte_at 58) (sym (parted line name rest i).behind) ∙ h in cc)
