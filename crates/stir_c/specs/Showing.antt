-- What is shown of a chain of certificates that is handed in.
use Rattle.std.specs.Prelude.{◌≡◌, ⊤, ℕ, ◌<◌, List, ◌++◌, drop, length, Option, Some, None, Result, Ok, Err}
use Rattle.chain_lines.specs.Show.{show}
use Rattle.x509_profile.specs.Chain.{Chain}
use Rattle.x509_profile.specs.View.{CertView}
use Rattle.stir_c.specs.Told.{said_by_input}
use Rattle.stir_c.specs.WrittenText.{ToldText}
use Rattle.stir_c.specs.declared.said.Said.{Said}
use Rattle.stir_c.specs.declared.showing.Unshown.{Unshown}
use Rattle.stir_c.specs.declared.showing.Unshown.TheVariants as unshown
use Rattle.stir_c.specs.declared.writing.Text.{Text}

-- the bytes are a chain of certificates, whose lines are the text
pub record IsShown (bytes text : List ℕ) : Type 0 where
  pub certificates : List CertView
  pub chain : Chain bytes certificates
  pub lines : text ≡ show certificates

-- the bytes are no chain of certificates
abbrev pub IsNoChain : List ℕ → Type 0
IsNoChain bytes = (certificates : List CertView) → Chain bytes certificates → ⊥

-- why nothing is shown: that the bytes are none; memory may always run out
abbrev pub IsWhyUnshown : List ℕ → Unshown → Type 0
IsWhyUnshown bytes unshown.Certificate = IsNoChain bytes
IsWhyUnshown bytes unshown.Memory = ⊤

-- ---- what is told

-- the number of the input; `Memory` has none
abbrev pub input_of : Unshown → Option ℕ
input_of unshown.Certificate = Some 7
input_of unshown.Memory = None

abbrev pub said_of_unshown : Unshown → Said
said_of_unshown why = said_by_input (input_of why)

-- why, and nothing is written
pub record IsUnshown (why : Unshown) (before now : List ℕ) (said : Said) : Type 0 where
  pub told_is : said ≡ said_of_unshown why
  pub as_was : now ≡ before

-- the lines are in the room, and it is said how many bytes they have; what is after them is as it was
pub record ShownInto (bytes before now : List ℕ) (said : Said) : Type 0 where
  pub lines : List ℕ
  pub shown : IsShown bytes lines
  pub size_is : said.size ≡ length lines
  pub text : now ≡ lines ++ drop (length lines) before

-- they have more bytes than there is room for, and it is said how many
pub record ShowsMore (bytes before : List ℕ) (said : Said) : Type 0 where
  pub lines : List ℕ
  pub shown : IsShown bytes lines
  pub size_is : said.size ≡ length lines
  pub more : length before < said.size

abbrev pub ToldShown : Result Text Unshown → List ℕ → List ℕ → Said → Type 0
ToldShown (Ok text) before now said = ToldText text.bytes.items before now said
ToldShown (Err why) before now said = IsUnshown why before now said
