-- How long a chain is held: until as many others were used since as there may be chains (this project's own rule).
use Rattle.std.specs.Prelude.{◌≡◌, ⊤, ℕ, ◌≤◌, ◌⊎◌, Bool, true, false, List, [], ◌∷◌, map, length, is_some}
use Rattle.std.specs.Prelude.{if◌then◌else◌}
use Rattle.std.specs.List.{list_any}
use Rattle.std.specs.Str.{bytes_eq}
use Rattle.cert_store.specs.Holding.{Chains, chain_of}

-- ---- texts

-- it is one of them
abbrev pub has : List ℕ → List (List ℕ) → Bool
has x xs = list_any (bytes_eq x) xs

-- none of them is another
abbrev pub IsOnce : List (List ℕ) → Type 0
IsOnce [] = ⊤
IsOnce (x ∷ xs) = (has x xs ≡ false) × IsOnce xs

-- each of the one is one of the other
abbrev pub AreAmong : List (List ℕ) → List (List ℕ) → Type 0
AreAmong xs others = (x : List ℕ) → has x xs ≡ true → has x others ≡ true

-- ---- the x5us of chains that are held, the most recently used first

abbrev pub names : Chains → List (List ℕ)
names entries = map (λ entry. entry.0) entries

-- those that come before this one: they were used after it
abbrev pub used_after : List ℕ → Chains → List (List ℕ)
used_after x5u [] = []
used_after x5u (entry ∷ entries) = if bytes_eq x5u entry.0 then [] else entry.0 ∷ used_after x5u entries

-- ---- since a chain was used

-- Its chain is held, and none but these were used after it.
pub record IsHeldSince (used : List (List ℕ)) (x5u : List ℕ) (entries : Chains) : Type 0 where
  pub held : is_some (chain_of x5u entries) ≡ true
  pub since : AreAmong (used_after x5u entries) used

-- Others than it are among these, as many as there may be chains.
pub record HasGivenWay (capacity : ℕ) (used : List (List ℕ)) (x5u : List ℕ) : Type 0 where
  pub others : List (List ℕ)
  pub once : IsOnce others
  pub among : AreAmong others used
  pub apart : has x5u others ≡ false
  pub many : capacity ≤ length others

-- its chain is held, unless that many others were used
abbrev pub HeldUnless : ℕ → List (List ℕ) → List ℕ → Chains → Type 0
HeldUnless capacity used x5u entries = IsHeldSince used x5u entries ⊎ HasGivenWay capacity used x5u
