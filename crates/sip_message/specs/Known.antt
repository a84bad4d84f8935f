-- Which names a known header field has.
use Rattle.std.specs.Prelude.{ℕ, Bool, List, [], ◌∷◌, find, Option}
use Rattle.sip_message.specs.Names.{is_asserted, is_date, is_from, is_identity, is_to}
use Rattle.sip_message.specs.declared.known.Known.{Known}
use Rattle.sip_message.specs.declared.known.Known.TheVariants.{From, To, Identity, Asserted, Date}

abbrev pub is_named : Known → List ℕ → Bool
is_named From name = is_from name
is_named To name = is_to name
is_named Identity name = is_identity name
is_named Asserted name = is_asserted name
is_named Date name = is_date name

-- the known header field of this name, which no other known one has
unfoldable pub kind_of : List ℕ → Option Known
kind_of name = find (λ known. is_named known name) (From ∷ To ∷ Identity ∷ Asserted ∷ Date ∷ [])
