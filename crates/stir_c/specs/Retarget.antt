-- What is told of a call that is to go on.
use Rattle.std.specs.Prelude.{◌≡◌, ◌⊎◌, ℕ, List, Option, Some, None, Result, Ok, Err}
use Rattle.std.specs.List.{slice_get}
use Rattle.open_calls.specs.OpenChains.{certificates_of}
use Rattle.open_calls.specs.declared.found.Found.TheVariants as founds
use Rattle.open_calls.specs.Going.{Given}
use Rattle.open_calls.specs.declared.unmoved.Unmoved.{Unmoved}
use Rattle.open_calls.specs.declared.unmoved.Unmoved.TheVariants as unmoved
use Rattle.stir_c.specs.Holding.{HeldCallView, HeldChainView}
use Rattle.stir_c.specs.Saying.{said_found}
use Rattle.stir_c.specs.Signing.{ToldMessage, input_of, said_digest, said_withheld}
use Rattle.stir_c.specs.Told.{plain, said_by_input}
use Rattle.stir_c.specs.WrittenText.{ToldText}
use Rattle.stir_c.specs.declared.moving.Moving.{Moving}
use Rattle.stir_c.specs.declared.said.Said.{Said}
use Rattle.stir_c.specs.declared.writing.Text.{Text}

-- ---- what is handed in

-- a call with its chains, those of its own questions that are confirmed, and where it goes on: the request URI, the
-- first certificate of the key's chain, the URI of that chain, and the second of signing
abbrev pub given_on : HeldCallView → HeldChainView → List ℕ → List ℕ → List ℕ → ℕ → Given
given_on held by good uri x5u iat = record {
  world = held.world;
  call = held.call;
  chains = held.chains;
  good = good;
  target = record { uri = uri; leaf = slice_get (certificates_of by.chain.state) 0; x5u = x5u; iat = iat };
}

abbrev pub given_by : HeldCallView → HeldChainView → Moving → Given
given_by held by moving = given_on held by moving.good.now moving.uri.now moving.x5u.now moving.iat

-- If one of the handles is closed that is said, and nothing else; if both are open, what is said is this of what they
-- hold.
abbrev pub IfBothOpen : {V W : Type 0} → Option V → Option W → (V → W → Type 0) → Said → Type 0
IfBothOpen None by Says said = said ≡ plain 5 0
IfBothOpen (Some held) None Says said = said ≡ plain 5 0
IfBothOpen (Some held) (Some by) Says said = Says held by

-- ---- in the numbers that C sees

abbrev pub said_of_unmoved : Unmoved → Said
said_of_unmoved (unmoved.Input fault) = said_by_input (input_of fault)
said_of_unmoved (unmoved.Refused refused) = said_found (founds.Refused refused) 0
said_of_unmoved (unmoved.Held number) = said_withheld number
said_of_unmoved (unmoved.Digest digest) = said_digest digest

-- the call doesn't go on for this reason, and so it is told: nothing is said besides
pub record ToldUnmoved (Why : Unmoved → Type 0) (said : Said) : Type 0 where
  pub came : Unmoved
  pub why : Why came
  pub told_is : said ≡ said_of_unmoved came

-- ---- what is told

-- a message, written and told; or why there is none, and nothing is written
pub record ToldStays (Why : Unmoved → Type 0) (before now : List ℕ) (said : Said) : Type 0 where
  pub told : ToldUnmoved Why said
  pub as_was : now ≡ before

abbrev pub ToldMoved : (List ℕ → Type 0) → (Unmoved → Type 0) → List ℕ → List ℕ → Said → Type 0
ToldMoved Is Why before now said = ToldMessage Is before now said ⊎ ToldStays Why before now said

-- the same of what came
pub record ToldNothing (came : Unmoved) (before now : List ℕ) (said : Said) : Type 0 where
  pub told_is : said ≡ said_of_unmoved came
  pub as_was : now ≡ before

abbrev pub ToldCame : Result Text Unmoved → List ℕ → List ℕ → Said → Type 0
ToldCame (Ok text) before now said = ToldText text.bytes.items before now said
ToldCame (Err came) before now said = ToldNothing came before now said
