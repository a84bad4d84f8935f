-- How a call of the drill differs from one that is valid (this project's own rule), and what its message is made of.
use Rattle.std.specs.Prelude.{ℕ, ◌+◌, ◌-◌, ◌==◌, Bool, true, false, if◌then◌else◌}
use Rattle.stir_drill.specs.declared.change.Change.{Change}
use Rattle.stir_drill.specs.declared.change.Change.TheVariants.{Plain, Repeats, Unsigned, Stale, Unconfirmed, Outside}

-- the change by the first draw of a call, modulo 8
abbrev pub change_by : ℕ → Change
change_by kind =
    if kind == 0 then Repeats
    else if kind == 1 then Unsigned
    else if kind == 2 then Stale
    else if kind == 3 then Unconfirmed
    else if kind == 4 then Outside
    else Plain

-- before the first call there is none that it could repeat
abbrev pub unless_repeats : Change → Change
unless_repeats Plain = Plain
unless_repeats Repeats = Plain
unless_repeats Unsigned = Unsigned
unless_repeats Stale = Stale
unless_repeats Unconfirmed = Unconfirmed
unless_repeats Outside = Outside

-- the change of the call of this number, the first being 1
abbrev pub change_of_call : ℕ → ℕ → Change
change_of_call i kind = if i == 1 then unless_repeats (change_by kind) else change_by kind

-- ---- what a change changes

-- whether its message is that of the call before
abbrev pub repeats : Change → Bool
repeats Plain = false
repeats Repeats = true
repeats Unsigned = false
repeats Stale = false
repeats Unconfirmed = false
repeats Outside = false

-- the calling number: in the leaf's range, or outside of it
abbrev pub calling_in : Change → ℕ → ℕ
calling_in Plain line = 12155550000 + line
calling_in Repeats line = 12155550000 + line
calling_in Unsigned line = 12155550000 + line
calling_in Stale line = 12155550000 + line
calling_in Unconfirmed line = 12155550000 + line
calling_in Outside line = 12165550000 + line

-- when its PASSporT was issued: when it came, or a second more than a minute before
abbrev pub issued_in : Change → ℕ → ℕ
issued_in Plain moment = moment
issued_in Repeats moment = moment
issued_in Unsigned moment = moment
issued_in Stale moment = moment - 61
issued_in Unconfirmed moment = moment
issued_in Outside moment = moment

-- whether its message has an Identity header field
abbrev pub has_identity : Change → Bool
has_identity Plain = true
has_identity Repeats = true
has_identity Unsigned = false
has_identity Stale = true
has_identity Unconfirmed = true
has_identity Outside = true

-- whether the answers confirm the signature of its PASSporT
abbrev pub is_confirmed : Change → Bool
is_confirmed Plain = true
is_confirmed Repeats = false
is_confirmed Unsigned = false
is_confirmed Stale = true
is_confirmed Unconfirmed = false
is_confirmed Outside = true
