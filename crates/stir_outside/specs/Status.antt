-- The status with which the program ends (this project's own rule).
use Rattle.std.specs.Prelude.{ℕ}
use Rattle.stir_outside.specs.declared.status.Status.{Status}
use Rattle.stir_outside.specs.declared.status.Status.TheVariants.{Done, NotAllValid, Words, Read, Write, Input, Memory}

abbrev pub status_number : Status → ℕ
status_number Done = 0
status_number NotAllValid = 1
status_number Words = 2
status_number Read = 3
status_number Write = 4
status_number Input = 5
status_number Memory = 6
