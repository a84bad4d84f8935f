-- How clauses see the answers of the steps of a path.
use Rattle.std.specs.Prelude.{ℕ, Option, Result, Ok, Err}
use Rattle.std.specs.Borrow.{Bor}
use Rattle.x509_profile.specs.View.{CertView}
use Rattle.delegation.specs.declared.fault.PathFault.{PathFault}
use Rattle.delegation.specs.declared.found.Shape.{Shape}

-- a path's shape, as its anchor
abbrev pub shape_view : Result Shape PathFault → Result (Option ℕ) PathFault
shape_view (Ok shape) = Ok shape.anchor
shape_view (Err fault) = Err fault

-- a certificate that was found
abbrev pub last_view : Result (Bor CertView) PathFault → Result CertView PathFault
last_view (Ok last) = Ok last.now
last_view (Err fault) = Err fault

-- a certificate that passed
abbrev pub link_view : CertView → Result (Unit {0}) PathFault → Result CertView PathFault
link_view c (Ok passed) = Ok c
link_view c (Err fault) = Err fault
