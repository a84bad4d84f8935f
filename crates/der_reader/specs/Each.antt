-- Elements in order up to the end of a part, each taken after those before it: this project's own rule.
use Rattle.std.specs.Prelude.{◌≡◌, ℕ, zero, suc, ◌+◌, ◌≤◌, ◌==◌, List, [], ◌∷◌, ◌++◌, length, Result, Ok, if◌then◌else◌}
use Rattle.lists.specs.Steps.{◌>>=◌}
use Rattle.der_reader.specs.declared.part.Fault.{Fault}
use Rattle.der_reader.specs.Broken.{First}
use Rattle.der_reader.specs.Part.{ItemView, PartView, end_at, item_at}

-- what they come to from this start on, if they are at most so many, or the first fault
unfoldable pub each_up_to : {S : Type 0} → (S → ItemView → Result S Fault) → ℕ → S → PartView → Result S Fault
each_up_to step zero start part = end_at part start
each_up_to step (suc room) start part =
    if length part.left == 0 then Ok start
    else (item_at part >>= λ item. step start item >>= λ next. each_up_to step room next item.behind)

-- of all that are there: each has a byte at least
abbrev pub each_in : {S : Type 0} → (S → ItemView → Result S Fault) → S → PartView → Result S Fault
each_in step start part = each_up_to step (length part.left) start part

-- the bytes are the texts of these, one after another
abbrev pub OneAfterAnother : {X : Type 0} → (List ℕ → X → Type 0) → List X → List ℕ → Type 0
OneAfterAnother Text [] bytes = bytes ≡ []
OneAfterAnother Text (x ∷ more) bytes =
    (first : List ℕ) × (rest : List ℕ) × (bytes ≡ first ++ rest) × Text first x × OneAfterAnother Text more rest

-- from this start on they come to this, one after the other
abbrev pub ComeTo : {S X : Type 0} → (S → X → S → Type 0) → S → List X → S → Type 0
ComeTo Adds start [] end = end ≡ start
ComeTo Adds start (x ∷ more) end = (next : _) × Adds start x next × ComeTo Adds next more end

-- after some that come to this, more bytes follow, and their first element is wrong
pub record WrongBehind {S X : Type 0} (Text : List ℕ → X → Type 0) (Adds : S → X → S → Type 0)
    (Wrong : S → ItemView → Fault → Type 0) (start : S) (part : PartView) (fault : Fault) : Type 0 where
  pub before : List X
  pub now : S
  pub front : List ℕ
  pub rest : List ℕ
  pub split : part.left ≡ front ++ rest
  pub each : OneAfterAnother Text before front
  pub come : ComeTo Adds start before now
  pub some : 1 ≤ length rest
  pub wrong : First (Wrong now) (record { left = rest; place = part.place + length front }) fault
