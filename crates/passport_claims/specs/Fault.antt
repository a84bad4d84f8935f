-- The numbers of the claims' faults (this project's own).
use Rattle.std.specs.Prelude.{ℕ, Option, Some, None}
use Rattle.passport_claims.specs.declared.fault.ClaimFault.{ClaimFault}
use Rattle.passport_claims.specs.declared.fault.ClaimFault.TheVariants as faults

-- 1 to 10, in the order of the faults' names; out of memory has none
abbrev pub fault_number : ClaimFault → Option ℕ
fault_number faults.Kind = Some 1
fault_number faults.Alg = Some 2
fault_number faults.Ppt = Some 3
fault_number faults.X5u = Some 4
fault_number faults.Iat = Some 5
fault_number faults.Orig = Some 6
fault_number faults.Dest = Some 7
fault_number faults.Attest = Some 8
fault_number faults.Origid = Some 9
fault_number faults.Div = Some 10
fault_number faults.Memory = None
