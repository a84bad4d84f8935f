-- What the reader of a number takes: decimal digits without a leading zero except in `0` itself, and one byte after
-- them.
use Rattle.std.specs.Prelude.{◌≡◌, ◌≢◌, ℕ, ◌≤◌, false, List, [], ◌∷◌, ◌++◌, length, Option, Some, None, Result, Ok, Err}
use Rattle.std.specs.Prelude.{◌⊎◌}
use Rattle.std.specs.Char.{is_ascii_digit}
use Rattle.std.specs.Fmt.{decimal}
use Rattle.std.specs.Io.KnownBytes.{Consumes, IsAtEnd}
use Rattle.call_log.specs.declared.digits.Digits.{Digits}
use Rattle.stir_outside.specs.declared.source.Failed.{Failed}

-- the bytes don't begin with a number of at most `most` and the byte `last`
abbrev pub NoNumber : ℕ → ℕ → List ℕ → Type 0
NoNumber most last bytes = (number : ℕ) (behind : List ℕ) → number ≤ most → bytes ≡ decimal number ++ last ∷ behind → ⊥

-- the bytes go on to a number of at most `most`
pub record BeginsNumber (most : ℕ) (bytes : List ℕ) : Type 0 where
  pub number : ℕ
  pub more : List ℕ
  pub within : number ≤ most
  pub whole : bytes ++ more ≡ decimal number

-- the digits are those of a number of at most `most`
pub record IsNumber (most : ℕ) (digits : Digits) : Type 0 where
  pub within : digits.value ≤ most
  pub size : digits.count ≡ length (decimal digits.value)

-- the bytes are these digits, of which there may be none yet
pub record AreDigits (most : ℕ) (digits : Digits) (bytes : List ℕ) : Type 0 where
  pub within : digits.value ≤ most
  pub size : digits.count ≡ length bytes
  pub written : ((bytes ≡ []) × (digits.value ≡ 0)) ⊎ (bytes ≡ decimal digits.value)

-- the byte is a further digit, or no number goes on with it
abbrev pub GoesOn : ℕ → Digits → ℕ → Option Digits → Type 0
GoesOn most digits byte (Some more) = (bytes : List ℕ) → AreDigits most digits bytes
    → AreDigits most more (bytes ++ byte ∷ [])
GoesOn most digits byte None = (bytes more : List ℕ) (last : ℕ) → AreDigits most digits bytes
    → is_ascii_digit last ≡ false → byte ≢ last → NoNumber most last (bytes ++ byte ∷ more)

-- the number and the byte after it were taken
pub record TakesNumber (most last : ℕ) (left left_now : Option (List ℕ)) (digits : Digits) : Type 0 where
  pub number : IsNumber most digits
  pub taken : Consumes left left_now (decimal digits.value ++ last ∷ [])

-- the number breaks off at the last byte, or with the source
pub record BreaksAtByte (most last : ℕ) (bytes : List ℕ) : Type 0 where
  pub front : List ℕ
  pub byte : ℕ
  pub split : bytes ≡ front ++ byte ∷ []
  pub begun : BeginsNumber most front
  pub settled : (more : List ℕ) → NoNumber most last (bytes ++ more)

pub record BreaksAtEnd (most : ℕ) (bytes : List ℕ) (left_now : Option (List ℕ)) : Type 0 where
  pub ended : IsAtEnd left_now
  pub begun : BeginsNumber most bytes

pub record TakesNoNumber (most last : ℕ) (left left_now : Option (List ℕ)) : Type 0 where
  pub bytes : List ℕ
  pub taken : Consumes left left_now bytes
  pub breaks : BreaksAtByte most last bytes ⊎ BreaksAtEnd most bytes left_now

-- the source failed within the number
pub record FailsInNumber (most : ℕ) (left left_now : Option (List ℕ)) : Type 0 where
  pub bytes : List ℕ
  pub taken : Consumes left left_now bytes
  pub begun : BeginsNumber most bytes

abbrev pub NumberFrom : ℕ → ℕ → Option (List ℕ) → Option (List ℕ) → Result (Option Digits) Failed → Type 0
NumberFrom most last left left_now (Ok (Some digits)) = TakesNumber most last left left_now digits
NumberFrom most last left left_now (Ok None) = TakesNoNumber most last left left_now
NumberFrom most last left left_now (Err failed) = FailsInNumber most left left_now
