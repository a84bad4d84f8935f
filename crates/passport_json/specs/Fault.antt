-- The numbers of a token's faults (this project's own).
use Rattle.std.specs.Prelude.{ℕ, Option, Some, None}
use Rattle.passport_json.specs.declared.fault.TokenFault.{TokenFault}
use Rattle.passport_json.specs.declared.fault.TokenFault.TheVariants.{Parts, Base64, Json, SignatureLength, Compact}
use Rattle.passport_json.specs.declared.fault.TokenFault.TheVariants.{Memory}

-- 1 to 5, in the order of the faults' names; out of memory has none
abbrev pub fault_number : TokenFault → Option ℕ
fault_number Parts = Some 1
fault_number (Base64 part) = Some 2
fault_number (Json part) = Some 3
fault_number SignatureLength = Some 4
fault_number Compact = Some 5
fault_number Memory = None
