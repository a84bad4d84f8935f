-- Judged chains that are held by the x5u that names them (RFC 7515, section 4.1.5), the most recently used first, and
-- what becomes of them when one is used or put (this project's own rule).
use Rattle.std.specs.Prelude.{◌≡◌, ℕ, ◌-◌, false, List, ◌∷◌, take, is_some, Option, Some, None}
use Rattle.std.specs.Prelude.{if◌then◌else◌}
use Rattle.std.specs.Map.{lookup, remove_entry}
use Rattle.std.specs.Str.{bytes_eq}
use Rattle.cert_store.specs.Asking.{is_failed}
use Rattle.cert_store.specs.Judged.{JudgedView}

-- each chain with its x5u
abbrev pub Chains : Type 0
Chains = List (List ℕ × JudgedView)

-- the chains, and how many there may be
pub record Holding : Type 0 where
  pub entries : Chains
  pub capacity : ℕ

-- the chain that is held for this x5u
abbrev pub chain_of : List ℕ → Chains → Option JudgedView
chain_of x5u entries = lookup (bytes_eq x5u) entries

-- ---- a chain is used

-- this chain, if there is one, goes first
abbrev pub in_front : List ℕ → Chains → Option JudgedView → Chains
in_front x5u entries None = entries
in_front x5u entries (Some judged) = (x5u, judged) ∷ remove_entry (bytes_eq x5u) entries

-- the chain of this x5u goes first, if it is held
abbrev pub touched : List ℕ → Chains → Chains
touched x5u entries = in_front x5u entries (chain_of x5u entries)

-- ---- a chain is put

-- without the chain that was held for this x5u; if there was none and there are as many as there may be, without the
-- last
abbrev pub others_of : List ℕ → Holding → Chains
others_of x5u holding = if is_some (chain_of x5u holding.entries) then remove_entry (bytes_eq x5u) holding.entries
    else take (holding.capacity - 1) holding.entries

-- the chain goes first, before the others
abbrev pub put_in : List ℕ → JudgedView → Holding → Chains
put_in x5u judged holding = (x5u, judged) ∷ others_of x5u holding

-- ---- what was answered

-- the provider failed at no question of a chain that is held
abbrev pub AreAnswered : Chains → Type 0
AreAnswered entries = (x5u : List ℕ) (judged : JudgedView) → chain_of x5u entries ≡ Some judged
    → is_failed judged.asked ≡ false
