-- DER elements one after another, as far as they can be read, and what is made of the contents of those of one tag
-- (X.690, section 8.1).
use Rattle.std.specs.Prelude.{ℕ, zero, suc, ◌==◌, List, [], ◌∷◌, ◌++◌, length, Result, Ok, Err, if◌then◌else◌}
use Rattle.der_reader.specs.Elem.{Element}
use Rattle.der_reader.specs.Next.{next_at}
use Rattle.der_reader.specs.declared.fault.DerFault.{DerFault}

-- what is made of an element: something of its content if it has this tag, else nothing
abbrev pub made_of : ℕ → (List ℕ → List ℕ) → Element → List ℕ
made_of tag make element = if element.tag == tag then make element.content else []

-- what is made of the first, and of those behind it
abbrev pub made_from : ℕ → (List ℕ → List ℕ) → (List ℕ → List ℕ) → Result (Element × List ℕ) DerFault → List ℕ
made_from tag make behind (Ok found) = made_of tag make found.0 ++ behind found.1
made_from tag make behind (Err fault) = []

-- of so many at most
unfoldable pub each_up_to : ℕ → (List ℕ → List ℕ) → ℕ → List ℕ → List ℕ
each_up_to tag make zero bytes = []
each_up_to tag make (suc room) bytes = made_from tag make (λ rest. each_up_to tag make room rest) (next_at bytes)

-- what is made of the contents of those of this tag, one after another; each element has a byte or more
abbrev pub within : ℕ → (List ℕ → List ℕ) → List ℕ → List ℕ
within tag make bytes = each_up_to tag make (length bytes) bytes

-- the contents themselves
abbrev pub inside : ℕ → List ℕ → List ℕ
inside tag bytes = within tag (λ content. content) bytes

-- the contents of those of the last of these tags, in the contents of those of the one before it, and so on
abbrev pub along : List ℕ → List ℕ → List ℕ
along [] bytes = bytes
along (tag ∷ tags) bytes = along tags (inside tag bytes)
