-- A value that was read has the members of each object in byte order of their names.
use Rattle.std.proofs.Common.{◌≡◌, ℕ, List, Option, Some, None, option_map, option_and_then, Ordering, Less, Equal, Greater, refl, sym, ◌∙◌, subst}
use Rattle.std.specs.Prelude.{⊤, IfSome}
use Rattle.std.specs.Ordering.{nat_cmp, match_ordering, ordering_reverse}
use Rattle.std.specs.Cmp.Lexicographic.{slice_cmp, nat_list_cmp_total}
use Rattle.json.specs.Lex.{tokens}
use Rattle.json.specs.Json as json
use Rattle.serde_json.specs.Data.{Data, number, array, object, item, Members, no_members, member, put}
use Rattle.serde_json.specs.Read.{number_of, of_json, of_items, of_members, max_depth, read}
use Rattle.passport_json.specs.Deterministic.{IsBefore, IsInOrder, AreItemsInOrder, AreMembersInOrder}

reversed : (o : Ordering) → ordering_reverse o ≡ Greater → o ≡ Less
reversed Less h = refl
reversed Equal h = absurd cc
reversed Greater h = absurd cc

turned : (left right : List ℕ) → slice_cmp nat_cmp left right ≡ Greater → slice_cmp nat_cmp right left ≡ Less
turned left right h = reversed (slice_cmp nat_cmp right left) (sym (nat_list_cmp_total.antisymm left right) ∙ h)

before_by : (o : Ordering) (first name next : List ℕ) (value other : Data) (tail : Members) → slice_cmp nat_cmp first name ≡ Less → slice_cmp nat_cmp first next ≡ Less
    → IsBefore first (match_ordering o (member name value (member next other tail)) (member next value tail) (member next other (put name value tail)))
before_by Less first name next value other tail a b = a
before_by Equal first name next value other tail a b = b
before_by Greater first name next value other tail a b = b

before_put : (first name : List ℕ) (value : Data) (tail : Members) → slice_cmp nat_cmp first name ≡ Less → IsBefore first tail → IsBefore first (put name value tail)
before_put first name value no_members a b = a
before_put first name value (member next other tail) a b = before_by (slice_cmp nat_cmp name next) first name next value other tail a b

put_by : (o : Ordering) (name next : List ℕ) (value other : Data) (tail : Members) → slice_cmp nat_cmp name next ≡ o → IsInOrder value → IsBefore next tail → IsInOrder other
    → AreMembersInOrder tail → AreMembersInOrder (put name value tail)
    → AreMembersInOrder (match_ordering o (member name value (member next other tail)) (member next value tail) (member next other (put name value tail)))
put_by Less name next value other tail e v b o m rest = (e, (v, (b, (o, m))))
put_by Equal name next value other tail e v b o m rest = (b, (v, m))
put_by Greater name next value other tail e v b o m rest = (before_put next name value tail (turned name next e) b, (o, rest))

put_in_order : (name : List ℕ) (value : Data) (tail : Members) → IsInOrder value → AreMembersInOrder tail → AreMembersInOrder (put name value tail)
put_in_order name value no_members v m = (tt, (v, tt))
put_in_order name value (member next other tail) v m =
    put_by (slice_cmp nat_cmp name next) name next value other tail refl v m.0 m.1.0 m.1.1 (put_in_order name value tail v m.1.1)

mapped : {A B : Type 0} (P : A → Type 0) (Q : B → Type 0) (f : A → B) → ((a : A) → P a → Q (f a)) → (o : Option A) → IfSome o P → IfSome (option_map f o) Q
mapped P Q f k None x = tt
mapped P Q f k (Some a) x = k a x

chained : {A B : Type 0} (P : A → Type 0) (Q : B → Type 0) (f : A → Option B) → ((a : A) → P a → IfSome (f a) Q) → (o : Option A) → IfSome o P → IfSome (option_and_then f o) Q
chained P Q f k None x = tt
chained P Q f k (Some a) x = k a x

any : {A : Type 0} (o : Option A) → IfSome o (λ _. ⊤)
any None = tt
any (Some a) = tt

mutual
  json_in_order : (j : json.Json) → IfSome (of_json j) IsInOrder
  json_in_order json.null = tt
  json_in_order (json.boolean b) = tt
  json_in_order (json.number s) = mapped (λ _. ⊤) IsInOrder number (λ n x. tt) (number_of s) (any (number_of s))
  json_in_order (json.string s) = tt
  json_in_order (json.array js) = mapped AreItemsInOrder IsInOrder array (λ a x. x) (of_items js) (items_in_order js)
  json_in_order (json.object ms) = mapped AreMembersInOrder IsInOrder object (λ a x. x) (of_members ms no_members) (members_in_order ms no_members tt)

  items_in_order : (js : json.Items) → IfSome (of_items js) AreItemsInOrder
  items_in_order json.no_items = tt
  items_in_order (json.item j js) =
      chained IsInOrder AreItemsInOrder (λ d. option_map (item d) (of_items js))
      (λ d x. mapped AreItemsInOrder AreItemsInOrder (item d) (λ ds y. (x, y)) (of_items js) (items_in_order js)) (of_json j) (json_in_order j)

  members_in_order : (ms : json.Members) (found : Members) → AreMembersInOrder found → IfSome (of_members ms found) AreMembersInOrder
  members_in_order json.no_members found h = h
  members_in_order (json.member name j ms) found h =
      chained IsInOrder AreMembersInOrder (λ d. of_members ms (put name d found))
      (λ d x. members_in_order ms (put name d found) (put_in_order name d found x h)) (of_json j) (json_in_order j)

pub read_in_order : (text : List ℕ) (value : Data) → read text ≡ Some value → IsInOrder value
read_in_order text value e =
    let P : Option Data → Type 0 = λ o. IfSome o IsInOrder in
    let o : Option json.Json = option_and_then (λ p. json.if_last p.0 p.1) (json.value max_depth (tokens text)) in
    subst P e (chained (λ _. ⊤) IsInOrder of_json (λ j x. json_in_order j) o (any o))
