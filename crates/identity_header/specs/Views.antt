-- What a reader has met so far, as the parts.
use Rattle.std.specs.Prelude.{ℕ, List}
use Rattle.std.specs.Option.{option_copied}
use denote.Ref.{Bor}
use Rattle.identity_header.specs.declared.params.Seen.{Seen}
use Rattle.identity_header.specs.Parts.{Parts}

abbrev pub parts_of : Seen → Parts
parts_of s = record { token = s.token.now; info = s.info.now; alg = option_copied s.alg; ppt = option_copied s.ppt }

abbrev pub state_view : Seen × Bor (List ℕ) → Parts × List ℕ
state_view x = (parts_of x.0, x.1.now)
