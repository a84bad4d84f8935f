-- What one run hands on to the next (this project's own rule): by what window it judged, the number and the moment of
-- its last call, and which calls passed on which tickets.
use Rattle.std.specs.Prelude.{◌≡◌, ⊤, ℕ, ◌<◌, ◌≤◌, Bool, true, List, [], ◌∷◌, length, slice_index, Option, Some, None}
use Rattle.std.specs.Ordering.{is_lt, nat_cmp}
use Rattle.std.specs.Cmp.Lexicographic.{slice_cmp}
use Rattle.state_text.specs.declared.kept.Kept.{Kept}

-- a ticket, and the call that passed on it
abbrev pub Entry : Type 0
Entry = List ℕ × Kept

pub record StateView : Type 0 where
  -- how many seconds after its `iat` a PASSporT is fresh
  pub window : ℕ
  -- the number of the last call; 0 before the first
  pub call : ℕ
  -- the moment of the last call
  pub moment : ℕ
  pub kept : List Entry

-- a state in which no call came, and nothing is kept
abbrev pub none_kept : ℕ → StateView
none_kept window = record { window = window; call = 0; moment = 0; kept = [] }

-- ---- its rules

-- 32 bytes
pub record IsTicket (ticket : List ℕ) : Type 0 where
  pub size : length ticket ≡ 32
  pub bytes : (i : ℕ) → slice_index ticket i < 256

-- the entry is one of a call up to this number
pub record IsEntry (call : ℕ) (entry : Entry) : Type 0 where
  pub ticket : IsTicket entry.0
  pub some : 1 ≤ entry.1.call
  pub within : entry.1.call ≤ call
  -- a day after the last second of the year 9999
  pub last : entry.1.last ≤ 253402387199

-- the same of what is kept, whatever its ticket
pub record IsKept (call : ℕ) (kept : Kept) : Type 0 where
  pub some : 1 ≤ kept.call
  pub within : kept.call ≤ call
  pub last : kept.last ≤ 253402387199

abbrev pub EachIsKept : ℕ → List Entry → Type 0
EachIsKept call [] = ⊤
EachIsKept call (entry ∷ others) = IsKept call entry.1 × EachIsKept call others

abbrev pub EachIsEntry : ℕ → List Entry → Type 0
EachIsEntry call [] = ⊤
EachIsEntry call (entry ∷ others) = IsEntry call entry × EachIsEntry call others

-- the ticket is above the one before it, byte by byte from the first on
abbrev pub is_above : Option (List ℕ) → List ℕ → Bool
is_above None ticket = true
is_above (Some before) ticket = is_lt (slice_cmp nat_cmp before ticket)

-- each ticket is above the one before it, so no two are the same
abbrev pub Rises : Option (List ℕ) → List Entry → Type 0
Rises before [] = ⊤
Rises before (entry ∷ others) = (is_above before entry.0 ≡ true) × Rises (Some entry.0) others

pub record AreEntries (call : ℕ) (before : Option (List ℕ)) (entries : List Entry) : Type 0 where
  pub each : EachIsEntry call entries
  pub rise : Rises before entries

pub record IsState (s : StateView) : Type 0 where
  -- a day
  pub window : s.window ≤ 86400
  -- the last second of the year 9999
  pub moment : s.moment ≤ 253402300799
  pub entries : AreEntries s.call None s.kept
