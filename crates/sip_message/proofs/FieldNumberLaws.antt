-- The number that is read of a message's header fields is the one that they give.
use Rattle.std.proofs.Common.{◌≡◌, ℕ, Bool, true, false, not, List, [], ◌∷◌, ◌++◌, Option, Some, None, IfSome, option_and_then, refl, ap, sym, ◌∙◌}
use Rattle.std.specs.List.{filter_map, list_all}
use Rattle.std.proofs.lemmas.Bool.{and_parts, not-true}
use Rattle.std.proofs.lemmas.Option.{option_and_then_some, same_Some}
use Rattle.tn_values.specs.Local.{LocalView}
use Rattle.sip_message.specs.Accessors.{asserted_number, calling_number, first, from_number, number_in, number_of, values}
use Rattle.sip_message.specs.Address.{address, address_number, or_else, uri_number}
use Rattle.sip_message.specs.FieldNumber.{AddressGives, IsCalling, IsFirst, IsFirstNumber, IsNumberOf, NoneGives, asserted, from}
use Rattle.sip_message.specs.Message.{FieldView, MessageView}
use Rattle.sip_message.specs.Names.{is_asserted, is_from}
use Rattle.sip_message.proofs.AddressLaws.{address_is, address_only}
use Rattle.sip_message.proofs.UriLaws.{number_found, number_read}

-- what is read has a property if all that this can be has it
pub if_some : {X : Type 0} (P : X → Type 0) (result read : Option X) → result ≡ read → ((x : X) → read ≡ Some x → P x) → IfSome result P
if_some P None read e all = tt
if_some P (Some x) read e all = all x (sym e)

-- ---- the first field with such a name

first_by : (test : List ℕ → Bool) (field : FieldView) (others : List FieldView) (value : List ℕ) (t : Bool) → test field.name ≡ t
    → (first (values test others) ≡ Some value → IsFirst test others value) → first (values test (field ∷ others)) ≡ Some value
    → IsFirst test (field ∷ others) value
first_by test field others value true e below h =
    let k : Some field.value ≡ Some value = rw e at h in
    record { earlier = []; own = field; later = others; parts = refl; named = e; none_before = refl; value_is = sym (same_Some field.value value k) }
first_by test field others value false e below h =
    let k : first (values test others) ≡ Some value = rw e at h in
    let i = below k in
    record {
      earlier = field ∷ i.earlier;
      own = i.own;
      later = i.later;
      parts = ap (λ (x : List FieldView). field ∷ x) i.parts;
      named = i.named;
      none_before = rw e i.none_before;
      value_is = i.value_is;
    }

pub first_found : (test : List ℕ → Bool) (fields : List FieldView) (value : List ℕ) → first (values test fields) ≡ Some value → IsFirst test fields value
first_found test [] value h = absurd cc
first_found test (field ∷ others) value h = first_by test field others value (test field.name) refl (first_found test others value) h

first_behind : (test : List ℕ → Bool) (earlier : List FieldView) (own : FieldView) (later : List FieldView)
    → list_all (λ (field : FieldView). not (test field.name)) earlier ≡ true → test own.name ≡ true → first (values test (earlier ++ own ∷ later)) ≡ Some own.value
first_behind test [] own later none named = rw named refl
first_behind test (field ∷ others) own later none named =
    let p = and_parts (not (test field.name)) (list_all (λ (f : FieldView). not (test f.name)) others) none in
    let other : test field.name ≡ false = not-true (test field.name) p.0 in
    rw other (first_behind test others own later p.1 named)

pub first_read : (test : List ℕ → Bool) (fields : List FieldView) (value : List ℕ) → IsFirst test fields value → first (values test fields) ≡ Some value
first_read test fields value i =
    ap (λ (x : List FieldView). first (values test x)) i.parts ∙ first_behind test i.earlier i.own i.later i.none_before i.named ∙ ap Some (sym i.value_is)

-- ---- the number of an address, and of the first such field

address_found : (value : List ℕ) (local : LocalView) (number : List ℕ) → address_number value local ≡ Some number → AddressGives value local number
address_found value local number h =
    record { uri = address value; address = address_is value; gives = number_found (address value) local number h }

address_read : (value : List ℕ) (local : LocalView) (number : List ℕ) → AddressGives value local number → address_number value local ≡ Some number
address_read value local number a =
    ap (λ x. uri_number x local) (sym (address_only value a.uri a.address)) ∙ number_read a.uri local number a.gives

pub number_of_found : (test : List ℕ → Bool) (fields : List FieldView) (local : LocalView) (number : List ℕ) → number_of test fields local ≡ Some number
    → IsNumberOf test fields local number
number_of_found test fields local number h =
    option_and_then_some (number_in local) (first (values test fields)) number h (λ value e k.
    record { value = value; first = first_found test fields value e; gives = address_found value local number k })

pub number_of_read : (test : List ℕ → Bool) (fields : List FieldView) (local : LocalView) (number : List ℕ) → IsNumberOf test fields local number
    → number_of test fields local ≡ Some number
number_of_read test fields local number i =
    ap (option_and_then (number_in local)) (first_read test fields i.value i.first) ∙ address_read i.value local number i.gives

-- ---- the first of several that gives a number, by any function of the values

-- none of these fields with such a name gives anything
abbrev NoneHas : (List ℕ → Bool) → (List ℕ → Option (List ℕ)) → List FieldView → Type 0
NoneHas test f [] = Unit {0}
NoneHas test f (field ∷ others) = (test field.name ≡ true → ◌≡◌ {A = Option (List ℕ)} (f field.value) None) × NoneHas test f others

record FirstSome (test : List ℕ → Bool) (f : List ℕ → Option (List ℕ)) (fields : List FieldView) (number : List ℕ) : Type 0 where
  earlier : List FieldView
  own : FieldView
  later : List FieldView
  parts : fields ≡ earlier ++ own ∷ later
  none_before : NoneHas test f earlier
  named : test own.name ≡ true
  has : f own.value ≡ Some number

abbrev found_in : (List ℕ → Bool) → (List ℕ → Option (List ℕ)) → List FieldView → Option (List ℕ)
found_in test f fields = first (filter_map f (values test fields))

passed : (test : List ℕ → Bool) (f : List ℕ → Option (List ℕ)) (field : FieldView) (others : List FieldView) (number : List ℕ)
    → (test field.name ≡ true → ◌≡◌ {A = Option (List ℕ)} (f field.value) None) → FirstSome test f others number → FirstSome test f (field ∷ others) number
passed test f field others number none i =
    record {
      earlier = field ∷ i.earlier;
      own = i.own;
      later = i.later;
      parts = ap (λ (x : List FieldView). field ∷ x) i.parts;
      none_before = (none, i.none_before);
      named = i.named;
      has = i.has;
    }

some_by : (test : List ℕ → Bool) (f : List ℕ → Option (List ℕ)) (field : FieldView) (others : List FieldView) (number : List ℕ) (t : Bool) (k : Option (List ℕ))
    → test field.name ≡ t → f field.value ≡ k → (found_in test f others ≡ Some number → FirstSome test f others number)
    → found_in test f (field ∷ others) ≡ Some number → FirstSome test f (field ∷ others) number
some_by test f field others number false k e is below h =
    let left : found_in test f others ≡ Some number = rw e at h in
    passed test f field others number (λ named. let no = sym e ∙ named in absurd cc) (below left)
some_by test f field others number true None e is below h =
    let left : found_in test f others ≡ Some number = rw (e, is) at h in
    passed test f field others number (λ named. is) (below left)
some_by test f field others number true (Some n) e is below h =
    let here : Some n ≡ Some number = rw (e, is) at h in
    record { earlier = []; own = field; later = others; parts = refl; none_before = tt; named = e; has = is ∙ here }

some_found : (test : List ℕ → Bool) (f : List ℕ → Option (List ℕ)) (fields : List FieldView) (number : List ℕ) → found_in test f fields ≡ Some number
    → FirstSome test f fields number
some_found test f [] number h = absurd cc
some_found test f (field ∷ others) number h = some_by test f field others number (test field.name) (f field.value) refl refl (some_found test f others number) h

behind_by : (test : List ℕ → Bool) (f : List ℕ → Option (List ℕ)) (field : FieldView) (others : List FieldView) (number : List ℕ) (t : Bool) → test field.name ≡ t
    → (test field.name ≡ true → ◌≡◌ {A = Option (List ℕ)} (f field.value) None) → found_in test f others ≡ Some number → found_in test f (field ∷ others) ≡ Some number
behind_by test f field others number true e none below = let is = none e in rw (e, is) below
behind_by test f field others number false e none below = rw e below

some_behind : (test : List ℕ → Bool) (f : List ℕ → Option (List ℕ)) (earlier : List FieldView) (own : FieldView) (later : List FieldView) (number : List ℕ)
    → NoneHas test f earlier → test own.name ≡ true → f own.value ≡ Some number → found_in test f (earlier ++ own ∷ later) ≡ Some number
some_behind test f [] own later number none named has = rw (named, has) refl
some_behind test f (field ∷ others) own later number none named has =
    behind_by test f field (others ++ own ∷ later) number (test field.name) refl none.0 (some_behind test f others own later number none.1 named has)

-- ---- the first field that gives a number

none_given : (test : List ℕ → Bool) (local : LocalView) (fields : List FieldView) → NoneHas test (number_in local) fields → NoneGives test local fields
none_given test local [] none = tt
none_given test local (field ∷ others) none = (
  λ named number gives. let no = sym (none.0 named) ∙ address_read field.value local number gives in absurd cc,
  none_given test local others none.1,
)

nothing_by : (value : List ℕ) (local : LocalView) (k : Option (List ℕ)) → number_in local value ≡ k → ((number : List ℕ) → AddressGives value local number → ⊥)
    → ◌≡◌ {A = Option (List ℕ)} (number_in local value) None
nothing_by value local None e none = e
nothing_by value local (Some number) e none = absurd (none number (address_found value local number e))

none_has : (test : List ℕ → Bool) (local : LocalView) (fields : List FieldView) → NoneGives test local fields → NoneHas test (number_in local) fields
none_has test local [] none = tt
none_has test local (field ∷ others) none =
    (λ named. nothing_by field.value local (number_in local field.value) refl (none.0 named), none_has test local others none.1)

pub asserted_found : (message : MessageView) (local : LocalView) (number : List ℕ) → asserted_number message local ≡ Some number
    → IsFirstNumber is_asserted message.fields local number
asserted_found message local number h =
    let i = some_found is_asserted (number_in local) message.fields number h in
    record {
      earlier = i.earlier;
      own = i.own;
      later = i.later;
      parts = i.parts;
      none_before = none_given is_asserted local i.earlier i.none_before;
      named = i.named;
      gives = address_found i.own.value local number i.has;
    }

pub asserted_read : (message : MessageView) (local : LocalView) (number : List ℕ) → IsFirstNumber is_asserted message.fields local number
    → asserted_number message local ≡ Some number
asserted_read message local number i =
    ap (found_in is_asserted (number_in local)) i.parts
    ∙ some_behind is_asserted (number_in local) i.earlier i.own i.later number (none_has is_asserted local i.earlier i.none_before) i.named
    (address_read i.own.value local number i.gives)

-- ---- the calling number

calling_by : (message : MessageView) (local : LocalView) (number : List ℕ) (k : Option (List ℕ)) → asserted_number message local ≡ k
    → or_else k (from_number message local) ≡ Some number → IsCalling message local number
calling_by message local number (Some n) e h = asserted (asserted_found message local number (e ∙ h))
calling_by message local number None e h =
    from (λ other i. let no = sym e ∙ asserted_read message local other i in absurd cc) (number_of_found is_from message.fields local number h)

pub calling_found : (message : MessageView) (local : LocalView) (number : List ℕ) → calling_number message local ≡ Some number → IsCalling message local number
calling_found message local number h = calling_by message local number (asserted_number message local) refl h

from_by : (message : MessageView) (local : LocalView) (k : Option (List ℕ)) → asserted_number message local ≡ k
    → ((other : List ℕ) → IsFirstNumber is_asserted message.fields local other → ⊥) → ◌≡◌ {A = Option (List ℕ)} (asserted_number message local) None
from_by message local None e none = e
from_by message local (Some n) e none = absurd (none n (asserted_found message local n e))

pub calling_read : (message : MessageView) (local : LocalView) (number : List ℕ) → IsCalling message local number → calling_number message local ≡ Some number
calling_read message local number (asserted i) =
    ap (λ k. or_else k (from_number message local)) (asserted_read message local number i)
calling_read message local number (from none i) =
    ap (λ k. or_else k (from_number message local)) (from_by message local (asserted_number message local) refl none)
    ∙ number_of_read is_from message.fields local number i
