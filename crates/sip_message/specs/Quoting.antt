-- Quoted strings byte by byte (RFC 3261, section 25.1).
use Rattle.std.specs.Prelude.{ℕ, ◌==◌, List, [], ◌∷◌, Option, Some, None, if◌then◌else◌}
use Rattle.sip_message.specs.declared.address.Quoting.{Quoting}
use Rattle.sip_message.specs.declared.address.Quoting.TheVariants.{Outside, Inside, Escaped}

-- where the next byte is: a `"` opens a string and closes it, and in it a backslash takes the next byte with it
abbrev pub after : Quoting → ℕ → Quoting
after Outside byte = if byte == 34 then Inside else Outside
after Inside byte = if byte == 92 then Escaped else (if byte == 34 then Outside else Inside)
after Escaped byte = Inside

-- what comes after the first `<` outside of quoted strings
abbrev pub bracket_from : Quoting → List ℕ → Option (List ℕ)
bracket_from quoting [] = None
bracket_from Outside (byte ∷ more) = if byte == 60 then Some more else bracket_from (after Outside byte) more
bracket_from Inside (byte ∷ more) = bracket_from (after Inside byte) more
bracket_from Escaped (byte ∷ more) = bracket_from (after Escaped byte) more
