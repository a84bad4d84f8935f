-- What a member is: the functions find what the relations say, and nothing else.
use Rattle.std.proofs.Common.{◌≡◌, ◌≤◌, ℕ, suc, Bool, true, false, ◌&&◌, nat_le, List, [], ◌∷◌, ◌++◌, length, cond, Option, Some, None, refl, sym, ap, ◌∙◌, subst, codes, arith, append_assoc, append-nil}
use Rattle.std.specs.Prelude.{option_and_then}
use Rattle.std.specs.List.{list_all}
use Rattle.std.specs.Str.{bytes_eq}
use Rattle.std.proofs.lemmas.Bool.Decides.{nat_tests}
use Rattle.std.proofs.lemmas.Option.{cond_some, option_and_then_some}
use Rattle.std.proofs.lemmas.Slice.Eq.{bytes_eq-Decides}
use Rattle.serde_json.specs.Data.{Data, null, boolean, number, string, array, object, Items, no_items, item}
use Rattle.serde_json.specs.Find.{get, as_array, as_str}
use Rattle.serde_json.specs.View.{items_view}
use Rattle.serde_json.specs.declared.value.Value.{Value}
use Rattle.tn_values.specs.Number.{is_number}
use Rattle.passport_json.specs.Passport.{text_where, texts}
use Rattle.passport_claims.specs.Kind.{attest_of, attest_text}
use Rattle.passport_claims.specs.Members.{HasText, HasNumber, HasNumbers, called_in, items_length, number_in, number_of, numbers_after, numbers_of, tn_in}
use Rattle.passport_claims.specs.Passport.{IsCalledCount, is_text, most_called}
use Rattle.passport_claims.specs.Read.{has_text, has_text_where, is_absent}
use Rattle.passport_claims.specs.declared.kind.Attest.{Attest}
use Rattle.passport_claims.specs.declared.kind.Attest.TheVariants as levels
use Rattle.lists.proofs.Bytes.{same_bytes}
use Rattle.std.proofs.lemmas.Bool.{and_parts}

pub items_counted : (values : List Value) → items_length (items_view values) ≡ length values
items_counted [] = refl
items_counted (value ∷ others) = ap suc (items_counted others)

-- ---- texts

pub text_again : (name text : List ℕ) (value : Data) → HasText name text value → has_text name text value ≡ true
text_again name text value h = rw h (same_bytes text)

text_by : (found : Option Data) (text : List ℕ) → is_text text (option_and_then as_str found) ≡ true → found ≡ Some (string text)
text_by None text h = absurd cc
text_by (Some null) text h = absurd cc
text_by (Some (boolean b)) text h = absurd cc
text_by (Some (number n)) text h = absurd cc
text_by (Some (string s)) text h = ap (λ t. Some (string t)) ((bytes_eq-Decides s text).0 h)
text_by (Some (array items)) text h = absurd cc
text_by (Some (object ms)) text h = absurd cc

pub text_found : (name text : List ℕ) (value : Data) → has_text name text value ≡ true → HasText name text value
text_found name text value h = text_by (get name value) text h

absent_by : (found : Option Data) → is_absent found ≡ true → found ≡ None
absent_by None h = refl
absent_by (Some value) h = absurd cc

pub where_again : (name : List ℕ) (text : Option (List ℕ)) (value : Data) → get name value ≡ text_where text → has_text_where name text value ≡ true
where_again name None value h = rw h refl
where_again name (Some text) value h = text_again name text value h

pub where_found : (name : List ℕ) (text : Option (List ℕ)) (value : Data) → has_text_where name text value ≡ true → get name value ≡ text_where text
where_found name None value h = absent_by (get name value) h
where_found name (Some text) value h = text_found name text value h

-- the text of a member that was found
pub found_text : (found : Option Data) (text : List ℕ) → option_and_then as_str found ≡ Some text → found ≡ Some (string text)
found_text None text h = absurd cc
found_text (Some null) text h = absurd cc
found_text (Some (boolean b)) text h = absurd cc
found_text (Some (number n)) text h = absurd cc
found_text (Some (string s)) text h = let e : s ≡ text = cc in ap (λ t. Some (string t)) e
found_text (Some (array items)) text h = absurd cc
found_text (Some (object ms)) text h = absurd cc

-- ---- numbers

pub number_found : (value : Data) (n : List ℕ) → number_of value ≡ Some n → (value ≡ string n) × (is_number n ≡ true)
number_found null n h = absurd cc
number_found (boolean b) n h = absurd cc
number_found (number x) n h = absurd cc
number_found (string s) n h =
    let k = cond_some (is_number s) s n h in
    (ap string k.1, subst (λ t. is_number t ≡ true) k.1 k.0)
number_found (array items) n h = absurd cc
number_found (object ms) n h = absurd cc

pub number_again : (name : List ℕ) (value : Data) (n : List ℕ) → HasNumber name value n → number_in name value ≡ Some n
number_again name value n h = rw (h.member, h.tn, h.ok) refl

pub number_only : (name : List ℕ) (value : Data) (n : List ℕ) → number_in name value ≡ Some n → HasNumber name value n
number_only name value n h =
    option_and_then_some number_of (tn_in name value) n h
    (λ tn et en. option_and_then_some (get (codes "tn")) (get name value) tn et
    (λ holder eh etn. let k = number_found tn n en in
    record { holder = holder; member = eh; tn = etn ∙ ap (λ x. Some x) k.0; ok = k.1 }))

-- ---- the called numbers

texts_counted : (numbers : List (List ℕ)) → items_length (texts numbers) ≡ length numbers
texts_counted [] = refl
texts_counted (n ∷ others) = ap suc (texts_counted others)

after_again : (found numbers : List (List ℕ)) → list_all is_number numbers ≡ true → numbers_after found (texts numbers) ≡ Some (found ++ numbers)
after_again found [] h = ap (λ x. Some x) (sym (append-nil found))
after_again found (n ∷ others) h =
    let k = and_parts (is_number n) (list_all is_number others) h in
    rw k.0 (after_again (found ++ n ∷ []) others k.1 ∙ ap (λ x. Some x) (append_assoc found (n ∷ []) others))

record AreThese (found : List (List ℕ)) (items : Items) (numbers : List (List ℕ)) : Type 0 where
  these : List (List ℕ)
  texts_of : items ≡ texts these
  ok : list_all is_number these ≡ true
  behind : numbers ≡ found ++ these

all_more : (n : List ℕ) (others : List (List ℕ)) → is_number n ≡ true → list_all is_number others ≡ true → list_all is_number (n ∷ others) ≡ true
all_more n others a b = rw (a, b) refl

after_only : (found : List (List ℕ)) (items : Items) (numbers : List (List ℕ)) → numbers_after found items ≡ Some numbers → AreThese found items numbers
after_only found no_items numbers h =
    let e : found ≡ numbers = cc in
    record { these = []; texts_of = refl; ok = refl; behind = sym e ∙ sym (append-nil found) }
after_only found (item value others) numbers h =
    option_and_then_some (λ n. numbers_after (found ++ n ∷ []) others) (number_of value) numbers h
    (λ n en e. let k = number_found value n en in
    let rest = after_only (found ++ n ∷ []) others numbers e in
    record {
      these = n ∷ rest.these;
      texts_of = λ i. item (k.0 i) (rest.texts_of i);
      ok = all_more n rest.these k.1 rest.ok;
      behind = rest.behind ∙ append_assoc found (n ∷ []) rest.these;
    })

pub called_again : (most : ℕ) (value : Data) (numbers : List (List ℕ)) → HasNumbers value numbers → 1 ≤ length numbers → length numbers ≤ most
    → called_in most value ≡ Some numbers
called_again most value numbers h some few =
    let one : nat_le 1 (length numbers) ≡ true = grind (arith, nat_tests) in
    let all : nat_le (length numbers) most ≡ true = grind (arith, nat_tests) in
    rw (h.member, h.tn, texts_counted numbers, one, all) (after_again [] numbers h.ok)

counted_by : (t : Bool) (found : Option (List (List ℕ))) (numbers : List (List ℕ)) → cond t found None ≡ Some numbers → (t ≡ true) × (found ≡ Some numbers)
counted_by true found numbers h = (refl, h)
counted_by false found numbers h = absurd cc

array_by : (value : Data) (items : Items) → as_array value ≡ Some items → value ≡ array items
array_by null items h = absurd cc
array_by (boolean b) items h = absurd cc
array_by (number n) items h = absurd cc
array_by (string s) items h = absurd cc
array_by (array own) items h = let e : own ≡ items = cc in ap array e
array_by (object ms) items h = absurd cc

pub record AreCalled (most : ℕ) (value : Data) (numbers : List (List ℕ)) : Type 0 where
  pub has : HasNumbers value numbers
  pub some : 1 ≤ length numbers
  pub few : length numbers ≤ most

called_of : (most : ℕ) (value holder tn : Data) (items : Items) (numbers : List (List ℕ)) → get (codes "dest") value ≡ Some holder → get (codes "tn") holder ≡ Some tn
    → as_array tn ≡ Some items → numbers_of most items ≡ Some numbers → AreCalled most value numbers
called_of most value holder tn items numbers eh et ea h =
    let k = counted_by (nat_le 1 (items_length items) && nat_le (items_length items) most) (numbers_after [] items) numbers h in
    let l = and_parts (nat_le 1 (items_length items)) (nat_le (items_length items) most) k.0 in
    let a = after_only [] items numbers k.1 in
    let is : items ≡ texts numbers = a.texts_of ∙ ap texts (sym a.behind) in
    let count : items_length items ≡ length numbers = ap items_length is ∙ texts_counted numbers in
    let one : nat_le 1 (length numbers) ≡ true = subst (λ n. nat_le 1 n ≡ true) count l.0 in
    let all : nat_le (length numbers) most ≡ true = subst (λ n. nat_le n most ≡ true) count l.1 in
    record {
      has = record { holder = holder; member = eh; tn = et ∙ ap (λ x. Some x) (array_by tn items ea ∙ ap array is); ok = subst (λ ns. list_all is_number ns ≡ true) (sym a.behind) a.ok };
      some = grind (arith, nat_tests);
      few = grind (arith, nat_tests);
    }

pub called_only : (most : ℕ) (value : Data) (numbers : List (List ℕ)) → called_in most value ≡ Some numbers → AreCalled most value numbers
called_only most value numbers h =
    option_and_then_some (numbers_of most) (option_and_then as_array (tn_in (codes "dest") value)) numbers h
    (λ items ei en. option_and_then_some as_array (tn_in (codes "dest") value) items ei
    (λ tn et ea. option_and_then_some (get (codes "tn")) (get (codes "dest") value) tn et
    (λ holder eh etn. called_of most value holder tn items numbers eh etn ea en)))

-- ---- how many

div_is : (ppt : Option (List ℕ)) → is_text (codes "div") ppt ≡ true → ppt ≡ Some (codes "div")
div_is None h = absurd cc
div_is (Some text) h = ap (λ t. Some t) ((bytes_eq-Decides text (codes "div")).0 h)

pub called_count : (ppt : Option (List ℕ)) (count : ℕ) → 1 ≤ count → count ≤ most_called ppt → IsCalledCount ppt count
called_count ppt count some few = record {
  some = some;
  few = at_most_32 (is_text (codes "div") ppt) few;
  one = λ is. let at_most_one : count ≤ 1 = subst (λ p. count ≤ most_called p) is few in omega (arith, some, at_most_one);
}
  where
    at_most_32 : (t : Bool) → count ≤ cond t 1 32 → count ≤ 32
    at_most_32 true few = omega (arith, few)
    at_most_32 false few = few

pub count_called : (ppt : Option (List ℕ)) (count : ℕ) → IsCalledCount ppt count → count ≤ most_called ppt
count_called ppt count is = of (is_text (codes "div") ppt) refl
  where
    of : (t : Bool) → is_text (codes "div") ppt ≡ t → count ≤ cond t 1 32
    of true e = let one = is.one (div_is ppt e) in omega (arith, one)
    of false e = is.few

-- ---- attestations

pub attest_again : (level : Attest) → attest_of (attest_text level) ≡ Some level
attest_again levels.A = refl
attest_again levels.B = refl
attest_again levels.C = refl

level_by : (text : List ℕ) (a b c : Bool) (level : Attest) → bytes_eq text (codes "A") ≡ a → bytes_eq text (codes "B") ≡ b → bytes_eq text (codes "C") ≡ c
    → cond a (Some levels.A) (cond b (Some levels.B) (cond c (Some levels.C) None)) ≡ Some level → text ≡ attest_text level
level_by text true b c level ea eb ec h =
    let e : levels.A ≡ level = cc in (bytes_eq-Decides text (codes "A")).0 ea ∙ ap attest_text e
level_by text false true c level ea eb ec h =
    let e : levels.B ≡ level = cc in (bytes_eq-Decides text (codes "B")).0 eb ∙ ap attest_text e
level_by text false false true level ea eb ec h =
    let e : levels.C ≡ level = cc in (bytes_eq-Decides text (codes "C")).0 ec ∙ ap attest_text e
level_by text false false false level ea eb ec h = absurd cc

pub attest_only : (text : List ℕ) (level : Attest) → attest_of text ≡ Some level → text ≡ attest_text level
attest_only text level h =
    level_by text (bytes_eq text (codes "A")) (bytes_eq text (codes "B")) (bytes_eq text (codes "C")) level refl refl refl h
