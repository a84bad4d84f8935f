-- The number of an address or a URI (RFC 3261, sections 19.1, 20.10 and 25.1; RFC 3966, section 3; which part is the
-- number's text is this project's own rule).
use Rattle.std.specs.Prelude.{ℕ, ◌&&◌, nat_le, List, length, take, drop, Option, Some, None, codes, option_and_then}
use Rattle.std.specs.Prelude.{if◌then◌else◌}
use Rattle.std.specs.Option.{option_map_or}
use Rattle.std.specs.Str.{str_eq_ignore_ascii_case}
use Rattle.text_grammar.specs.Cut.{cut}
use Rattle.tn_values.specs.Canon.{Canon}
use Rattle.tn_values.specs.Local.{LocalView}
use Rattle.sip_message.specs.declared.address.Quoting.TheVariants.{Outside}
use Rattle.sip_message.specs.Quoting.{bracket_from}

-- the text up to the first such byte, all of it if it has none
abbrev pub before : ℕ → List ℕ → List ℕ
before byte text = option_map_or (λ (parts : List ℕ × List ℕ). parts.0) (cut byte text) text

-- the first of the two that is there
abbrev pub or_else : {X : Type 0} → Option X → Option X → Option X
or_else (Some x) other = Some x
or_else None other = other

-- ---- the URI of an address

-- what comes after the first `<` outside of quoted strings
abbrev pub behind_bracket : List ℕ → Option (List ℕ)
behind_bracket value = bracket_from Outside value

-- up to the next `>` after such a bracket; without one up to the first `;`, `,`, space or tab
abbrev pub address : List ℕ → List ℕ
address value = option_map_or (before 62) (behind_bracket value) (before 9 (before 32 (before 44 (before 59 value))))

-- ---- the number of a URI

-- what comes after the scheme, which is compared without case
abbrev pub behind_scheme : List ℕ → List ℕ → Option (List ℕ)
behind_scheme scheme uri = if nat_le (length scheme) (length uri)
    && str_eq_ignore_ascii_case (take (length scheme) uri) scheme then Some (drop (length scheme) uri) else None

-- the number of a user part: up to its first `;` or `:`
abbrev pub user_part_number : LocalView → List ℕ × List ℕ → Option (List ℕ)
user_part_number local parts = Canon (before 58 (before 59 parts.0)) local

-- the number of the text after `sip:`: that of its part before the first `@`; none without one
abbrev pub user_number : LocalView → List ℕ → Option (List ℕ)
user_number local text = option_and_then (user_part_number local) (cut 64 text)

-- the number of the text after `tel:`: up to its first `;`
abbrev pub tel_number : LocalView → List ℕ → Option (List ℕ)
tel_number local text = Canon (before 59 text) local

-- the number by the scheme: `tel:`, `sip:` or `sips:`; another gives none
abbrev pub by_scheme : LocalView → Option (List ℕ) → Option (List ℕ) → Option (List ℕ) → Option (List ℕ)
by_scheme local (Some tel) sip sips = tel_number local tel
by_scheme local None (Some sip) sips = user_number local sip
by_scheme local None None (Some sips) = user_number local sips
by_scheme local None None None = None

abbrev pub uri_number : List ℕ → LocalView → Option (List ℕ)
uri_number uri local = by_scheme local (behind_scheme (codes "tel:") uri) (behind_scheme (codes "sip:") uri)
    (behind_scheme (codes "sips:") uri)

-- the number of the first address of a value
abbrev pub address_number : List ℕ → LocalView → Option (List ℕ)
address_number value local = uri_number (address value) local
