-- The command `show`: which certificates the input is.
use Rattle.std.specs.Prelude.{◌≡◌, ℕ, ◌⊎◌, List}
use Rattle.stir_outside.specs.Status.{status_number}
use Rattle.x509_profile.specs.Chain.{Chain}
use Rattle.x509_profile.specs.View.{CertView}
use Rattle.stir_cmd.specs.Answer.{long_line, shown}
use Rattle.stir_cmd.specs.Course.{Course}
use Rattle.stir_cmd.specs.Input.{Answering, answering_by, input_course}
use Rattle.chain_lines.specs.Show.{show}

-- the bytes are a chain of certificates, whose lines are the text
pub record Shows (bytes text : List ℕ) : Type 0 where
  pub certificates : List CertView
  pub chain : Chain bytes certificates
  pub lines : text ≡ show certificates

-- the bytes are no chain of certificates
abbrev pub IsNoChain : List ℕ → Type 0
IsNoChain bytes = (certificates : List CertView) → Chain bytes certificates → ⊥

-- A chain is shown, and ends with 0; any other bytes are refused, and end with 5; and the text is the one of these
-- bytes.
pub record ShowGives (bytes text : List ℕ) (status : ℕ) : Type 0 where
  pub says : ((status ≡ 0) × Shows bytes text) ⊎ ((status ≡ 5) × IsNoChain bytes)
  pub text_is : text ≡ (shown bytes).text
  pub status_is : status ≡ status_number (shown bytes).status

-- more bytes than a chain may have
abbrev pub ShowRefuses : List ℕ → ℕ → Type 0
ShowRefuses text status = (text ≡ long_line) × (status ≡ 5)

-- an input of at most 49,152 bytes
abbrev pub show_answering : Answering
show_answering = answering_by 49152 ShowGives ShowRefuses

-- what `show` promises
abbrev pub show_course : Course
show_course = input_course show_answering
