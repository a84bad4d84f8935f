-- The bytes that a reader takes of a source ahead of their use, in blocks of 65,536, and how often it asks the source
-- for them.
use Rattle.std.specs.Prelude.{◌≡◌, ⊤, ℕ, ◌+◌, ◌*◌, ◌≤◌, Bool, true, false, List, [], ◌∷◌, length, Option, Some, None}
use Rattle.std.specs.Io.KnownBytes.{IsAtEnd, prepend_known}
use Rattle.stir_outside.specs.Count.{Rose}
use Rattle.stir_outside.specs.declared.source.Source.{Ghosts as SourceOf}

-- the bytes that were taken and not used yet, and whether the source has said that it has ended
pub record AheadState : Type 0 where
  pub bytes : List ℕ
  pub ended : Bool

-- of a source that has said so nothing more is taken
abbrev pub unless_ended : Bool → Option (List ℕ) → Option (List ℕ)
unless_ended true None = None
unless_ended true (Some left) = Some []
unless_ended false left = left

-- what is left to take: the bytes ahead, and then what the source has left
abbrev pub available : AheadState → Option (List ℕ) → Option (List ℕ)
available ahead left = prepend_known ahead.bytes (unless_ended ahead.ended left)

-- ---- how often the source is asked

-- a source and its reader: whether the source has said that it has ended, what it has left, whether its reads are
-- whole, and its counts
pub record Supply : Type 0 where
  pub ended : Bool
  pub left : Option (List ℕ)
  pub whole : Bool
  pub reads : ℕ
  pub faults : ℕ

abbrev pub supply_of : {I : Type 0} → SourceOf I → Bool → I → Supply
supply_of source ended input = record {
  ended = ended;
  left = source.left input;
  whole = source.whole input;
  reads = source.reads input;
  faults = source.faults input;
}

-- the source has nothing left if it has said so
abbrev pub EndsRight : Supply → Type 0
EndsRight supply = supply.ended ≡ true → IsAtEnd supply.left

-- the reads that give less than a block and may still come: one that takes the last bytes, and one that gives none
abbrev pub short_reads : Bool → List ℕ → ℕ
short_reads true left = 0
short_reads false [] = 1
short_reads false (byte ∷ bytes) = 2

-- 65,536 for each read, made or short and still to come, and one for each byte that is left
abbrev pub due : ℕ → Bool → List ℕ → ℕ
due reads ended left = 65536 * (reads + short_reads ended left) + length left

-- no read was made but for a block, or a short one
abbrev pub PacedBy : Supply → Supply → Option (List ℕ) → Option (List ℕ) → Type 0
PacedBy before now None left_now = ⊤
PacedBy before now (Some left) None = ⊥
PacedBy before now (Some left) (Some left_now) = due now.reads now.ended left_now ≤ due before.reads before.ended left

-- What a call asks of the source: nothing if the source has said that it has ended, and of one whose reads are whole no
-- more than is due.
pub record Draws (before now : Supply) : Type 0 where
  pub silent : before.ended ≡ true → now ≡ before
  pub keeps : EndsRight before → EndsRight now
  pub same_whole : now.whole ≡ before.whole
  pub paced : before.whole ≡ true → PacedBy before now before.left now.left
  pub never_falls : before.faults ≤ now.faults

-- each call goes on from where the one before it left the source
abbrev pub DrawsEach : Supply → List Supply → Supply → Type 0
DrawsEach before [] now = Draws before now
DrawsEach before (between ∷ others) now = Draws before between × DrawsEach between others now

-- What a reader asks of the source over the bytes ahead. If the source's own fault is answered, the source counted it
-- in this call, and no byte is ahead.
pub record Asks {I : Type 0} (source : SourceOf I) (ahead : AheadState) (before : I) (ahead_now : AheadState) (now : I)
    (is_failed : Type 0) : Type 0 where
  pub draws : Draws (supply_of source ahead.ended before) (supply_of source ahead_now.ended now)
  pub rose : is_failed → Rose (source.faults before) (source.faults now)
  pub drained : is_failed → available ahead_now (source.left now) ≡ source.left now
