-- What an element that may be absent says (X.690, section 11.5: a value by default is left out).
use Rattle.std.specs.Prelude.{◌≡◌, ℕ, ◌^◌, ◌<◌, Bool, false, Option, Some, None, Result, Ok}
use Rattle.lists.specs.Steps.{◌>>=◌}
use Rattle.der_reader.specs.declared.fault.DerFault.{DerFault}
use Rattle.der_reader.specs.Boolean.{boolean_of, boolean_text}
use Rattle.der_reader.specs.Elem.{Element}
use Rattle.der_reader.specs.Integer.{IntegerText, unsigned_of}

-- a BOOLEAN: absent it is false
abbrev pub IsFlag : Option Element → Bool → Type 0
IsFlag (Some boolean) truth = boolean.content ≡ boolean_text truth
IsFlag None truth = truth ≡ false

-- an INTEGER below 2 ^ 64: absent there is none
abbrev pub IsLimit : Option Element → Option ℕ → Type 0
IsLimit (Some integer) (Some number) = IntegerText integer.content number × (number < 2 ^ 64)
IsLimit (Some integer) None = ⊥
IsLimit None (Some number) = ⊥
IsLimit None None = Unit {0}

-- what `Der::flag` and `Der::limit` read
abbrev pub flag_of : Option Element → Result Bool DerFault
flag_of (Some boolean) = boolean_of boolean.tag boolean.content
flag_of None = Ok false

abbrev pub limit_of : Option Element → Result (Option ℕ) DerFault
limit_of (Some integer) = unsigned_of integer.tag integer.content >>= λ number. Ok (Some number)
limit_of None = Ok None
