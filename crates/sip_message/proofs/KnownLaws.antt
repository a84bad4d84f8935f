-- A name is that of a known header field exactly if this is the one that it means: no name is that of two.
use Rattle.std.proofs.Common.{◌≡◌, ℕ, ◌⊎◌, inl, inr, Bool, true, false, ◌||◌, List, [], ◌∷◌, Option, Some, refl, sym, ◌∙◌, ap}
use Rattle.std.specs.Prelude.{codes, find}
use Rattle.std.specs.Str.{bytes_eq, str_to_ascii_lowercase}
use Rattle.std.proofs.lemmas.Bool.{or_cases}
use Rattle.std.proofs.lemmas.Option.{same_Some}
use Rattle.lists.proofs.Bytes.{bytes_same}
use Rattle.sip_message.specs.declared.known.Known.{Known}
use Rattle.sip_message.specs.declared.known.Known.TheVariants.{From, To, Identity, Asserted, Date}
use Rattle.sip_message.specs.Known.{is_named, kind_of}

-- ---- a name means one thing

-- whether this text in small letters is such a name
abbrev is_spelled : Known → List ℕ → Bool
is_spelled From low = bytes_eq low (codes "from") || bytes_eq low (codes "f")
is_spelled To low = bytes_eq low (codes "to") || bytes_eq low (codes "t")
is_spelled Identity low = bytes_eq low (codes "identity") || bytes_eq low (codes "y")
is_spelled Asserted low = bytes_eq low (codes "p-asserted-identity")
is_spelled Date low = bytes_eq low (codes "date")

abbrev meaning : List ℕ → Option Known
meaning low = find (λ known. is_spelled known low) (From ∷ To ∷ Identity ∷ Asserted ∷ Date ∷ [])

spelled : (low word : List ℕ) (known : Known) → bytes_eq low word ≡ true → meaning word ≡ Some known → meaning low ≡ Some known
spelled low word known same is = ap meaning (bytes_same low word same) ∙ is

either : (low long short : List ℕ) (known : Known) → (bytes_eq low long ≡ true) ⊎ (bytes_eq low short ≡ true) → meaning long ≡ Some known → meaning short ≡ Some known
    → meaning low ≡ Some known
either low long short known (inl same) is_long is_short = spelled low long known same is_long
either low long short known (inr same) is_long is_short = spelled low short known same is_short

-- a name of a known header field means this one
pub means_known : (known : Known) (name : List ℕ) → is_named known name ≡ true → kind_of name ≡ Some known
unfolding kind_of
means_known From name h =
    let low = str_to_ascii_lowercase name in
    either low (codes "from") (codes "f") From (or_cases (bytes_eq low (codes "from")) (bytes_eq low (codes "f")) h) refl refl
means_known To name h =
    let low = str_to_ascii_lowercase name in
    either low (codes "to") (codes "t") To (or_cases (bytes_eq low (codes "to")) (bytes_eq low (codes "t")) h) refl refl
means_known Identity name h =
    let low = str_to_ascii_lowercase name in
    either low (codes "identity") (codes "y") Identity (or_cases (bytes_eq low (codes "identity")) (bytes_eq low (codes "y")) h) refl refl
means_known Asserted name h = spelled (str_to_ascii_lowercase name) (codes "p-asserted-identity") Asserted h refl
means_known Date name h = spelled (str_to_ascii_lowercase name) (codes "date") Date h refl

-- ---- and what it means is its name

found_by : (test : Known → Bool) (one : Known) (others : List Known) (known : Known) (t : Bool) → test one ≡ t
    → (find test others ≡ Some known → test known ≡ true) → find test (one ∷ others) ≡ Some known → test known ≡ true
found_by test one others known true e below h =
    let is : Some one ≡ Some known = rw e at h in
    ap test (sym (same_Some one known is)) ∙ e
found_by test one others known false e below h =
    let left : find test others ≡ Some known = rw e at h in
    below left

found : (test : Known → Bool) (all : List Known) (known : Known) → find test all ≡ Some known → test known ≡ true
found test [] known h = absurd cc
found test (one ∷ others) known h = found_by test one others known (test one) refl (found test others known) h

pub known_means : (known : Known) (name : List ℕ) → kind_of name ≡ Some known → is_named known name ≡ true
unfolding kind_of
known_means known name h = found (λ k. is_named k name) (From ∷ To ∷ Identity ∷ Asserted ∷ Date ∷ []) known h
