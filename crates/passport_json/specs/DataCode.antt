-- How the logic stores a JSON value, so that a token's model may hold one: a tree of numbers that gives the value back.
use Rattle.std.specs.Prelude.{◌≡◌, ℕ, zero, suc, Bool, true, false, ℤ, pos, negsuc, List, [], ◌∷◌, refl}
use Rattle.std.specs.Coded.{Coded}
use Rattle.std.specs.Float.Ieee.{Float, nan, inf, fin}
use base.Stored.{Gv, gnil, gnum, gcons}
use mathlib.Core.Path.{sym, ◌∙◌, ap}
use Rattle.serde_json.specs.Data.{Num, unsigned, negative, float, Data, null, boolean, number, string, array, object}
use Rattle.serde_json.specs.Data.{Items, no_items, item, Members, no_members, member}

-- ---- the tree of a value

abbrev flag_tree : Bool → ℕ
flag_tree false = 0
flag_tree true = 1

abbrev integer_tree : ℤ → Gv
integer_tree (pos n) = gcons (gnum 0) (gnum n)
integer_tree (negsuc n) = gcons (gnum 1) (gnum n)

abbrev float_tree : Float → Gv
float_tree nan = gnil
float_tree (inf s) = gnum (flag_tree s)
float_tree (fin s m e) = gcons (gnum (flag_tree s)) (gcons (gnum m) (integer_tree e))

abbrev number_tree : Num → Gv
number_tree (unsigned n) = gcons (gnum 0) (gnum n)
number_tree (negative z) = gcons (gnum 1) (integer_tree z)
number_tree (float x) = gcons (gnum 2) (float_tree x)

abbrev text_tree : List ℕ → Gv
text_tree [] = gnil
text_tree (b ∷ bs) = gcons (gnum b) (text_tree bs)

abbrev mutual
  pub data_tree : Data → Gv
  data_tree null = gnil
  data_tree (boolean b) = gnum (flag_tree b)
  data_tree (number n) = gcons (gnum 0) (number_tree n)
  data_tree (string s) = gcons (gnum 1) (text_tree s)
  data_tree (array ds) = gcons (gnum 2) (items_tree ds)
  data_tree (object ms) = gcons (gnum 3) (members_tree ms)

  items_tree : Items → Gv
  items_tree no_items = gnil
  items_tree (item d ds) = gcons (data_tree d) (items_tree ds)

  members_tree : Members → Gv
  members_tree no_members = gnil
  members_tree (member k d ms) = gcons (text_tree k) (gcons (data_tree d) (members_tree ms))

-- ---- the value of a tree

abbrev natural : Gv → ℕ
natural gnil = 0
natural (gnum n) = n
natural (gcons a b) = 0

abbrev first : Gv → Gv
first gnil = gnil
first (gnum n) = gnil
first (gcons a b) = a

abbrev second : Gv → Gv
second gnil = gnil
second (gnum n) = gnil
second (gcons a b) = b

abbrev flag_of : ℕ → Bool
flag_of zero = false
flag_of (suc n) = true

abbrev integer_by : ℕ → ℕ → ℤ
integer_by zero n = pos n
integer_by (suc k) n = negsuc n

abbrev integer_of : Gv → ℤ
integer_of g = integer_by (natural (first g)) (natural (second g))

abbrev float_of : Gv → Float
float_of gnil = nan
float_of (gnum n) = inf (flag_of n)
float_of (gcons a b) = fin (flag_of (natural a)) (natural (first b)) (integer_of (second b))

abbrev number_by : ℕ → Gv → Num
number_by zero g = unsigned (natural g)
number_by (suc zero) g = negative (integer_of g)
number_by (suc (suc k)) g = float (float_of g)

abbrev text_of : Gv → List ℕ
text_of gnil = []
text_of (gnum n) = []
text_of (gcons a b) = natural a ∷ text_of b

abbrev data_by : ℕ → Gv → Items → Members → Data
data_by zero g ds ms = number (number_by (natural (first g)) (second g))
data_by (suc zero) g ds ms = string (text_of g)
data_by (suc (suc zero)) g ds ms = array ds
data_by (suc (suc (suc k))) g ds ms = object ms

abbrev mutual
  pub data_of : Gv → Data
  data_of gnil = null
  data_of (gnum n) = boolean (flag_of n)
  data_of (gcons a b) = data_by (natural a) b (items_of b) (members_of b)

  items_of : Gv → Items
  items_of gnil = no_items
  items_of (gnum n) = no_items
  items_of (gcons a b) = item (data_of a) (items_of b)

  members_of : Gv → Members
  members_of gnil = no_members
  members_of (gnum n) = no_members
  members_of (gcons a gnil) = no_members
  members_of (gcons a (gnum n)) = no_members
  members_of (gcons a (gcons b c)) = member (text_of a) (data_of b) (members_of c)

-- ---- a value's tree gives the value back

flag-back : (b : Bool) → flag_of (flag_tree b) ≡ b
flag-back false = refl
flag-back true = refl

integer-back : (z : ℤ) → integer_of (integer_tree z) ≡ z
integer-back (pos n) = refl
integer-back (negsuc n) = refl

float-back : (x : Float) → float_of (float_tree x) ≡ x
float-back nan = refl
float-back (inf s) = ap inf (flag-back s)
float-back (fin s m e) = λ i. fin (flag-back s i) m (integer-back e i)

number-back : (n : Num) → number_by (natural (first (number_tree n))) (second (number_tree n)) ≡ n
number-back (unsigned n) = refl
number-back (negative z) = ap negative (integer-back z)
number-back (float x) = ap float (float-back x)

text-back : (s : List ℕ) → text_of (text_tree s) ≡ s
text-back [] = refl
text-back (b ∷ bs) = λ i. b ∷ text-back bs i

mutual
  pub data-back : (d : Data) → data_of (data_tree d) ≡ d
  data-back null = refl
  data-back (boolean b) = ap boolean (flag-back b)
  data-back (number n) = ap number (number-back n)
  data-back (string s) = ap string (text-back s)
  data-back (array ds) = ap array (items-back ds)
  data-back (object ms) = ap object (members-back ms)

  items-back : (ds : Items) → items_of (items_tree ds) ≡ ds
  items-back no_items = refl
  items-back (item d ds) = λ i. item (data-back d i) (items-back ds i)

  members-back : (ms : Members) → members_of (members_tree ms) ≡ ms
  members-back no_members = refl
  members-back (member k d ms) = λ i. member (text-back k i) (data-back d i) (members-back ms i)

abbrev pub data_code : Coded Data
data_code = record { code = data_tree; inj = λ x y p. sym (data-back x) ∙ ap data_of p ∙ data-back y }
