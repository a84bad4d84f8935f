-- What a shelf gave for the chain of an x5u, and what was judged of it.
use Rattle.std.specs.Prelude.{◌≡◌, ⊤, ℕ, List, length, Bool, true, false, Option, Some, None, if◌then◌else◌}
use Rattle.cert_store.specs.Asking.{is_failed}
use Rattle.cert_store.specs.ChainMap.{listed}
use Rattle.cert_store.specs.Judged.{JudgedAs, JudgedView, judged_of}
use Rattle.cert_store.specs.Links.{chain_in}
use Rattle.cert_store.specs.Rules.{Says}
use Rattle.cert_store.specs.declared.world.World.{World as Materials}
use Rattle.stir_outside.specs.Files.{Files, OfFile}
use Rattle.verify_rules.specs.States.{State, have, no_chain, long, unread}
use Rattle.call_judging.specs.Chains.{IsRightWhere}
use Rattle.call_judging.specs.declared.fetching.Fetched.{Fetched}
use Rattle.call_judging.specs.declared.fetching.Fetched.TheVariants as fetched

-- What is known of the chain by it is right, over the files that the shelf tells: of bytes, whatever the rules on a
-- chain say of them.
abbrev pub IsFetched : Option Files → Materials → List ℕ → Fetched → Type 0
IsFetched told materials x5u (fetched.Bytes bytes) = (says : Says) (judged : JudgedView)
    → JudgedAs (judged_of materials.anchors materials.table says bytes.items) judged
    → IsRightWhere told materials says x5u (have judged)
IsFetched told materials x5u fetched.Missing = (says : Says) → IsRightWhere told materials says x5u no_chain
IsFetched told materials x5u fetched.TooLong = (says : Says) → IsRightWhere told materials says x5u long
IsFetched told materials x5u fetched.Unread = (says : Says) → IsRightWhere told materials says x5u unread

abbrev pub is_unread_file : Fetched → Bool
is_unread_file (fetched.Bytes bytes) = false
is_unread_file fetched.Missing = false
is_unread_file fetched.TooLong = false
is_unread_file fetched.Unread = true

abbrev pub is_read_file : Fetched → Bool
is_read_file (fetched.Bytes bytes) = true
is_read_file fetched.Missing = false
is_read_file fetched.TooLong = false
is_read_file fetched.Unread = false

-- the bytes of the file, if it was read
abbrev pub bytes_in : Fetched → Option (List ℕ)
bytes_in (fetched.Bytes bytes) = Some bytes.items
bytes_in fetched.Missing = None
bytes_in fetched.TooLong = None
bytes_in fetched.Unread = None

-- bytes that were read are those of the file that is listed for this x5u, if the shelf tells its files
abbrev pub IsContent : Option Files → Materials → List ℕ → Option (List ℕ) → Type 0
IsContent told materials x5u None = ⊤
IsContent told materials x5u (Some bytes) =
    (name : List ℕ) × (listed materials.chains x5u ≡ Some name) × OfFile told name (λ held. held ≡ Some bytes)

-- how many certificates the chain in the bytes of a file has (RFC 5280, section 6.1); none if there are no bytes, or
-- they aren't a chain
abbrev pub chain_size : Option (List ℕ) → ℕ
chain_size None = 0
chain_size (Some bytes) = length (chain_in bytes)

-- how many files this is that were read
abbrev pub read_count : Fetched → ℕ
read_count file = if is_read_file file then 1 else 0

-- ---- judged

-- what the rules on a chain say of these bytes, as far as the provider answered
abbrev pub IsChainOf : Materials → Says → List ℕ → Option JudgedView → Type 0
IsChainOf materials says bytes (Some judged) = JudgedAs (judged_of materials.anchors materials.table says bytes) judged
IsChainOf materials says bytes None = ⊥

-- what the rules say of the bytes that were read, or nothing if none were
abbrev pub IsJudgedFile : Materials → Says → Fetched → Option JudgedView → Type 0
IsJudgedFile materials says (fetched.Bytes bytes) chain = IsChainOf materials says bytes.items chain
IsJudgedFile materials says fetched.Missing chain = chain ≡ None
IsJudgedFile materials says fetched.TooLong chain = chain ≡ None
IsJudgedFile materials says fetched.Unread chain = chain ≡ None

-- how many certificates were judged here
abbrev pub certificates_in : Option JudgedView → ℕ
certificates_in None = 0
certificates_in (Some judged) = length judged.certificates

-- the provider failed at a signature of this chain
abbrev pub has_failed : Option JudgedView → Bool
has_failed None = false
has_failed (Some judged) = is_failed judged.asked

-- what is known of the chain, by its file and what was judged of its bytes
abbrev pub file_state : Fetched → Option JudgedView → State
file_state (fetched.Bytes bytes) (Some judged) = have judged
file_state (fetched.Bytes bytes) None = no_chain
file_state fetched.Missing judged = no_chain
file_state fetched.TooLong judged = long
file_state fetched.Unread judged = unread
