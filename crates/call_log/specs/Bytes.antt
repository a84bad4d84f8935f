-- What the readers of a byte and of a message take.
use Rattle.std.specs.Prelude.{◌≡◌, ℕ, ◌<◌, ◌≤◌, List, [], ◌∷◌, ◌++◌, length, Option, Some, None, Result, Ok, Err, Vec}
use Rattle.std.specs.Vec.{vec_items}
use Rattle.std.specs.Io.KnownBytes.{Consumes, IsAtEnd}
use Rattle.stir_outside.specs.declared.source.Failed.{Failed}
use Rattle.stir_outside.specs.declared.transfer.ReadFault.{ReadFault}
use Rattle.stir_outside.specs.declared.transfer.ReadFault.TheVariants.{Source, Memory}

-- one byte was taken, or none if nothing is left or the source failed
abbrev pub ByteFrom : Option (List ℕ) → Option (List ℕ) → Result (Option ℕ) Failed → Type 0
ByteFrom left left_now (Ok (Some byte)) = Consumes left left_now (byte ∷ [])
ByteFrom left left_now (Ok None) = Consumes left left_now [] × IsAtEnd left_now
ByteFrom left left_now (Err failed) = Consumes left left_now []

-- some of the bytes, at most so many, were taken and come now after those that were held; none only if nothing is left
pub record TakesPiece (most : ℕ) (left left_now : Option (List ℕ)) (held held_now : List ℕ) (count : ℕ) : Type 0 where
  pub piece : List ℕ
  pub taken : Consumes left left_now piece
  pub behind : held_now ≡ held ++ piece
  pub size : length piece ≡ count
  pub within : count ≤ most
  pub none : count ≡ 0 → IsAtEnd left_now

abbrev pub PieceFrom : ℕ → Option (List ℕ) → Option (List ℕ) → List ℕ → List ℕ → Result ℕ ReadFault → Type 0
PieceFrom most left left_now held held_now (Ok count) = TakesPiece most left left_now held held_now count
PieceFrom most left left_now held held_now (Err fault) = Consumes left left_now []

-- fewer bytes than said were taken
pub record TakesFewer (said : ℕ) (left left_now : Option (List ℕ)) : Type 0 where
  pub bytes : List ℕ
  pub taken : Consumes left left_now bytes
  pub fewer : length bytes < said

-- some bytes were taken
pub record TakesSome (left left_now : Option (List ℕ)) : Type 0 where
  pub bytes : List ℕ
  pub taken : Consumes left left_now bytes

-- why no more were taken: the source failed, with fewer bytes taken than said; memory may run out at any time
abbrev pub MessageStops : ℕ → Option (List ℕ) → Option (List ℕ) → ReadFault → Type 0
MessageStops said left left_now Source = TakesFewer said left left_now
MessageStops said left left_now Memory = TakesSome left left_now

-- as many bytes as said were taken, or fewer if nothing is left
abbrev pub MessageFrom : {Y : Type 0} → ℕ → Option (List ℕ) → Option (List ℕ)
    → Result (Option (Vec ℕ Y)) ReadFault → Type 0
MessageFrom said left left_now (Ok (Some message)) =
    (length (vec_items message) ≡ said) × Consumes left left_now (vec_items message)
MessageFrom said left left_now (Ok None) = TakesFewer said left left_now × IsAtEnd left_now
MessageFrom said left left_now (Err fault) = MessageStops said left left_now fault
