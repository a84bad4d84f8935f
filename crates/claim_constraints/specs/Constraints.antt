-- Constraints on the claims of PASSporTs (after RFC 8226, section 8; form and meaning are this project's own): which
-- claims must be there, and which values some may have.
use Rattle.std.specs.Prelude.{◌≡◌, ◌⊎◌, ℕ, ◌≤◌, Bool, true, ◌&&◌, nat_le, List, [], map, length, drop, get_or, Vec}
use Rattle.std.specs.List.{list_all}
use Rattle.std.specs.Str.{is_utf8}

-- a claim's name, and the values that the claim may have
pub record PermitView : Type 0 where
  pub claim : List ℕ
  pub values : List (List ℕ)

-- the names of the claims that must be there, and the claims of which some values are permitted
pub record ConstraintsView : Type 0 where
  pub must : List (List ℕ)
  pub permits : List PermitView

-- the claim of these texts: its name is the first of them
abbrev pub permit_of : List (List ℕ) → PermitView
permit_of texts = record { claim = get_or texts 0 []; values = drop 1 texts }

-- the texts that vectors of bytes are, and the claims with values that pairs of a name and values are
abbrev pub texts_of : {A : Type 0} → List (Vec ℕ A) → List (List ℕ)
texts_of texts = map (λ text. text.items) texts

abbrev pub permits_of : {A B C : Type 0} → List (Vec ℕ A × Vec (Vec ℕ B) C) → List PermitView
permits_of permits = map (λ entry. record { claim = entry.0.items; values = texts_of entry.1.items }) permits

-- the values of the permitted claim at an index
abbrev pub values_at : ConstraintsView → ℕ → List (List ℕ)
values_at c index = (get_or c.permits index (record { claim = []; values = [] })).values

-- ---- their form

-- visible ASCII
abbrev pub is_visible : ℕ → Bool
is_visible byte = nat_le 0x21 byte && nat_le byte 0x7E

-- a name is 1 to 64 bytes of visible ASCII
unfoldable pub is_name : List ℕ → Bool
is_name text = nat_le 1 (length text) && nat_le (length text) 64 && list_all is_visible text

-- a claim by its name, with one value or more, each of them UTF-8
abbrev pub is_permit : PermitView → Bool
is_permit permit = is_name permit.claim && (nat_le 1 (length permit.values) && list_all is_utf8 permit.values)

-- one claim or more, each by its name
pub record IsConstraints (c : ConstraintsView) : Type 0 where
  pub some : (1 ≤ length c.must) ⊎ (1 ≤ length c.permits)
  pub must : list_all is_name c.must ≡ true
  pub permits : list_all is_permit c.permits ≡ true
