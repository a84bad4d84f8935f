-- What writing one element after others leaves.
use Rattle.std.specs.Prelude.{◌≡◌, ℕ, List, ◌++◌, length, drop, Ok}
use Rattle.der_reader.specs.Elem.{Elem}
use Rattle.der_reader.specs.Next.{next_at}

-- one element of this tag and content was added
pub record AddsElement (old new : List ℕ) (tag : ℕ) (content : List ℕ) : Type 0 where
  pub added : List ℕ
  pub elem : Elem added tag content
  pub behind : new ≡ old ++ added

-- whatever follows it later, the element is what a reader finds at this place
pub record ReadsBack (old new : List ℕ) (tag : ℕ) (content : List ℕ) : Type 0 where
  pub reads : (more : List ℕ) → next_at (drop (length old) new ++ more)
      ≡ Ok (record { tag = tag; whole = drop (length old) new; content = content }, more)
