-- Two PASSporTs of a call that are read from one Identity field are one and the same.
use Rattle.std.proofs.Common.{◌≡◌, ℕ, suc, zero, ◌≤◌, ◌⊎◌, inl, inr, Bool, true, false, cond, List, [], ◌∷◌, ◌++◌, map, filter, find, get_or, codes, Option, Some, None, Result, Ok, Err, refl, sym, ap, ◌∙◌, subst, arith}
use Rattle.std.proofs.lemmas.Option.{same_Some}
use Rattle.std.specs.List.{cons_option, slice_get}
use Rattle.std.specs.Option.{option_or, option_to_list}
use Rattle.std.specs.Result.{result_ok}
use Rattle.identity_header.specs.Parts.{Parts}
use Rattle.identity_header.specs.Read.{read as read_parts}
use Rattle.identity_header.specs.declared.field.FieldFault.{FieldFault}
use Rattle.passport_claims.specs.Passport.{ClaimsView}
use Rattle.passport_claims.specs.Read.{read_claims}
use Rattle.passport_claims.specs.declared.fault.ClaimFault.{ClaimFault}
use Rattle.passport_json.specs.Token.{read_token}
use Rattle.passport_json.specs.View.{TokenView}
use Rattle.passport_json.specs.declared.fault.TokenFault.{TokenFault}
use Rattle.verify_rules.specs.Call.{Call, IdentityField, Mark, Reading, facts, fields_of, given_to_compact, has_ppt, in_call_order, in_message, in_turn, is_read, judged_fields, lacks_ppt, links, mark_of, marked_or_part, numbered, or_none, originating, read_field, reading, reading_by, readings_of, turn_of, values_of, with_field}
use Rattle.verify_rules.specs.declared.facts.Facts.{Facts}

abbrev pub IsIn : {A : Type 0} → A → List A → Type 0
IsIn x [] = ⊥
IsIn x (y ∷ ys) = (x ≡ y) ⊎ IsIn x ys

item_at : {A : Type 0} → (xs : List A) (i : ℕ) (x : A) → slice_get xs i ≡ Some x → IsIn x xs
item_at [] i x is = absurd cc
item_at (y ∷ ys) zero x is = inl (sym (same_Some y x is))
item_at (y ∷ ys) (suc i) x is = inr (item_at ys i x is)

-- ---- an order picks among them

item_in : {A : Type 0} → (xs : List A) (k : ℕ) (d : A) → IsIn (get_or xs k d) xs ⊎ (get_or xs k d ≡ d)
item_in [] k d = inr refl
item_in (y ∷ ys) zero d = inl (inl refl)
item_in (y ∷ ys) (suc k) d = by (item_in ys k d)
  where
    by : IsIn (get_or ys k d) ys ⊎ (get_or ys k d ≡ d) → IsIn (get_or ys k d) (y ∷ ys) ⊎ (get_or ys k d ≡ d)
    by (inl later) = inl (inr later)
    by (inr same) = inr same

picked : (o : Reading) (os : List Reading) (turn : List ℕ) (r : Reading) → IsIn r (map (λ link. get_or (o ∷ os) link o) turn) → IsIn r (o ∷ os)
picked o os [] r is = absurd is
picked o os (k ∷ turn) r (inl here) = by (item_in (o ∷ os) k o)
  where
    by : IsIn (get_or (o ∷ os) k o) (o ∷ os) ⊎ (get_or (o ∷ os) k o ≡ o) → IsIn r (o ∷ os)
    by (inl among) = subst (λ (x : Reading). IsIn x (o ∷ os)) (sym here) among
    by (inr same) = inl (here ∙ same)
picked o os (k ∷ turn) r (inr later) = picked o os turn r later

turned : (rs : List Reading) (turn : List ℕ) (r : Reading) → IsIn r (in_turn rs turn) → IsIn r rs
turned [] turn r is = absurd is
turned (o ∷ os) turn r (inl here) = inl here
turned (o ∷ os) turn r (inr later) = picked o os turn r later

-- ---- each is read of a field

record OfField (said : Facts) (fields : List IdentityField) (r : Reading) : Type 0 where
  field : IdentityField
  among : IsIn field fields
  read : is_read said field ≡ Some r

of_later : (said : Facts) (f : IdentityField) (fields : List IdentityField) (r : Reading) → OfField said fields r → OfField said (f ∷ fields) r
of_later said f fields r o = record { field = o.field; among = inr o.among; read = o.read }

of_by : (said : Facts) (f : IdentityField) (fields : List IdentityField) (r : Reading) (o : Option Reading) → is_read said f ≡ o → (IsIn r (readings_of said fields) → OfField said fields r)
    → IsIn r (cons_option o (readings_of said fields)) → OfField said (f ∷ fields) r
of_by said f fields r None e more h = of_later said f fields r (more h)
of_by said f fields r (Some one) e more (inl here) = record { field = f; among = inl refl; read = e ∙ ap (λ (x : Reading). Some x) (sym here) }
of_by said f fields r (Some one) e more (inr h) = of_later said f fields r (more h)

of_field : (said : Facts) (fields : List IdentityField) (r : Reading) → IsIn r (readings_of said fields) → OfField said fields r
of_field said [] r is = absurd is
of_field said (f ∷ fields) r is = of_by said f fields r (is_read said f) refl (of_field said fields r) is

-- ---- which carries its number

number_by : (signing : List ℕ) (mark : Mark) (claims : Result ClaimsView ClaimFault) (r : Reading) → result_ok (marked_or_part signing mark claims) ≡ Some r → r.mark ≡ mark
number_by signing mark (Ok claims) r is = ap (λ (x : Reading). x.mark) (sym (same_Some (reading claims signing mark) r is))
number_by signing mark (Err fault) r is = absurd cc

number_of : (field : IdentityField) (token : Result TokenView TokenFault) (r : Reading) → result_ok (reading_by field token) ≡ Some r → r.mark.field ≡ field.number
number_of field (Ok token) r is =
    ap (λ (m : Mark). m.field) (number_by token.signing (mark_of field.number token) (read_claims token.header token.payload field.parts.ppt field.parts.info) r is)
number_of field (Err fault) r is = absurd cc

number_is : (said : Facts) (field : IdentityField) (r : Reading) → is_read said field ≡ Some r → r.mark.field ≡ field.number
unfolding read_field
number_is said field r is = number_of field (read_token (given_to_compact said field.parts) field.parts.token) r is

-- ---- the judged fields are among all

found_by : (b : Bool) (g : IdentityField) (fields : List IdentityField) (f : IdentityField) {o : Option IdentityField} → (o ≡ Some f → IsIn f fields) → cond b (Some g) o ≡ Some f → IsIn f (g ∷ fields)
found_by true g fields f more is = inl (sym (same_Some g f is))
found_by false g fields f more is = inr (more is)

found_in : (p : IdentityField → Bool) (fields : List IdentityField) (f : IdentityField) → find p fields ≡ Some f → IsIn f fields
found_in p [] f is = absurd cc
found_in p (g ∷ fields) f is = found_by (p g) g fields f (found_in p fields f) is

kept_by : (b : Bool) (g : IdentityField) (kept fields : List IdentityField) (f : IdentityField) → (IsIn f kept → IsIn f fields) → IsIn f (cond b (g ∷ kept) kept) → IsIn f (g ∷ fields)
kept_by true g kept fields f more (inl here) = inl here
kept_by true g kept fields f more (inr later) = inr (more later)
kept_by false g kept fields f more is = inr (more is)

kept_in : (p : IdentityField → Bool) (fields : List IdentityField) (f : IdentityField) → IsIn f (filter p fields) → IsIn f fields
kept_in p [] f is = is
kept_in p (g ∷ fields) f is = kept_by (p g) g (filter p fields) fields f (kept_in p fields f) is

first_in : (o p : Option IdentityField) (fields : List IdentityField) (f : IdentityField) → (o ≡ Some f → IsIn f fields) → (p ≡ Some f → IsIn f fields) → IsIn f (option_to_list (option_or o p)) → IsIn f fields
first_in (Some g) p fields f one other (inl here) = one (ap (λ (x : IdentityField). Some x) (sym here))
first_in (Some g) p fields f one other (inr none) = absurd none
first_in None (Some g) fields f one other (inl here) = other (ap (λ (x : IdentityField). Some x) (sym here))
first_in None (Some g) fields f one other (inr none) = absurd none
first_in None None fields f one other none = absurd none

either_in : (xs ys fields : List IdentityField) (f : IdentityField) → (IsIn f xs → IsIn f fields) → (IsIn f ys → IsIn f fields) → IsIn f (xs ++ ys) → IsIn f fields
either_in [] ys fields f one other is = other is
either_in (x ∷ xs) ys fields f one other (inl here) = one (inl here)
either_in (x ∷ xs) ys fields f one other (inr later) = either_in xs ys fields f (λ h. one (inr h)) other later

judged_in : (fields : List IdentityField) (f : IdentityField) → IsIn f (judged_fields fields) → IsIn f fields
judged_in fields f is =
    either_in (option_to_list (originating fields)) (links fields) fields f
    (first_in (find (has_ppt (codes "shaken")) fields) (find lacks_ppt fields) fields f (found_in (has_ppt (codes "shaken")) fields f) (found_in lacks_ppt fields f))
    (kept_in (has_ppt (codes "div")) fields f) is

-- ---- numbers rise

above_by : (n : ℕ) (read : Result Parts FieldFault) (others : List IdentityField) (f : IdentityField) → (IsIn f others → suc n ≤ f.number) → IsIn f (with_field n read others) → n ≤ f.number
above_by n (Ok parts) others f more (inl here) = let e : f.number ≡ n = ap (λ (x : IdentityField). x.number) here in omega arith
above_by n (Ok parts) others f more (inr later) = let m = more later in omega arith
above_by n (Err fault) others f more is = let m = more is in omega arith

above : (n : ℕ) (values : List (List ℕ)) (f : IdentityField) → IsIn f (numbered n values) → n ≤ f.number
above n [] f is = absurd is
above n (v ∷ values) f is = above_by n (read_parts v) (numbered (suc n) values) f (above (suc n) values f) is

one_by : (n : ℕ) (read : Result Parts FieldFault) (others : List IdentityField) (f g : IdentityField) → ((x : IdentityField) → IsIn x others → suc n ≤ x.number)
    → (IsIn f others → IsIn g others → f ≡ g) → IsIn f (with_field n read others) → IsIn g (with_field n read others) → f.number ≡ g.number → f ≡ g
one_by n (Ok parts) others f g higher more (inl one) (inl two) same = one ∙ sym two
one_by n (Ok parts) others f g higher more (inl one) (inr two) same =
    let e : f.number ≡ n = ap (λ (x : IdentityField). x.number) one in let m = higher g two in absurd (omega arith)
one_by n (Ok parts) others f g higher more (inr one) (inl two) same =
    let e : g.number ≡ n = ap (λ (x : IdentityField). x.number) two in let m = higher f one in absurd (omega arith)
one_by n (Ok parts) others f g higher more (inr one) (inr two) same = more one two
one_by n (Err fault) others f g higher more one two same = more one two

one_number : (n : ℕ) (values : List (List ℕ)) (f g : IdentityField) → IsIn f (numbered n values) → IsIn g (numbered n values) → f.number ≡ g.number → f ≡ g
one_number n [] f g one two same = absurd one
one_number n (v ∷ values) f g one two same =
    one_by n (read_parts v) (numbered (suc n) values) f g (above (suc n) values) (λ a b. one_number (suc n) values f g a b same) one two same

-- ---- the law

one_reading : (said : Facts) (f g : IdentityField) (r s : Reading) → f ≡ g → is_read said f ≡ Some r → is_read said g ≡ Some s → r ≡ s
one_reading said f g r s same one two = same_Some r s (sym one ∙ ap (is_read said) same ∙ two)

pub one_field : (call : Call) (at other : ℕ) (one second : Reading) → slice_get (in_call_order call) at ≡ Some one → slice_get (in_call_order call) other ≡ Some second
    → one.mark.field ≡ second.mark.field → one ≡ second
one_field call at other one second here there same =
    let turn = or_none (turn_of (facts call) (in_message call)) in
    let a = of_field (facts call) (judged_fields (fields_of call)) one (turned (in_message call) turn one (item_at (in_call_order call) at one here)) in
    let b = of_field (facts call) (judged_fields (fields_of call)) second (turned (in_message call) turn second (item_at (in_call_order call) other second there)) in
    let numbers : a.field.number ≡ b.field.number = sym (number_is (facts call) a.field one a.read) ∙ same ∙ number_is (facts call) b.field second b.read in
    one_reading (facts call) a.field b.field one second
    (one_number 1 (values_of call) a.field b.field (judged_in (fields_of call) a.field a.among) (judged_in (fields_of call) b.field b.among) numbers) a.read b.read
