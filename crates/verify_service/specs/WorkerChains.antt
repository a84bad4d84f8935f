-- The chains that a worker judged of its own texts of a round, one after the other.
use Rattle.std.specs.Prelude.{ℕ, ◌%◌, ◌/◌, ◌+◌, ◌≤◌, ⊤, List, [], ◌∷◌, Bool, true, false, get_or, map, Option, None}
use Rattle.cert_store.specs.Judged.{JudgedView}
use Rattle.cert_store.specs.Rules.{Says}
use Rattle.cert_store.specs.declared.world.World.{World as Materials}
use Rattle.verify_service.specs.Causes.{AreCounted}
use Rattle.call_judging.specs.declared.fetching.Fetched.{Fetched}
use Rattle.call_judging.specs.Fetched.{IsJudgedFile, bytes_in, certificates_in, has_failed}
use Rattle.verify_service.specs.Contents.{chain_sizes}
use Rattle.verify_service.specs.Judging.{EachPair}
use Rattle.verify_service.specs.RoundRead.{own_of}

-- ---- which are judged

-- These are what was judged of the files at the places of a worker's own, in turn, for the worker of this index among
-- so many. Its own are those from this place on that leave its index as remainder.
abbrev pub EachOwn : Materials → Says → ℕ → ℕ → ℕ → List Fetched → List (Option JudgedView) → Type 0
EachOwn materials says index count place files chains =
    EachPair (IsJudgedFile materials says) (own_of index count place files) chains

-- what was judged at a place, by what each worker judged: the worker whose place it is has it after what it judged at
-- its places before
abbrev pub chain_at : (ℕ → List (Option JudgedView)) → ℕ → ℕ → Option JudgedView
chain_at chains count place = get_or (chains (place % count)) (place / count) None

-- unless memory ran out
abbrev pub EachOwnUnless : Bool → Materials → Says → ℕ → ℕ → List Fetched → List (Option JudgedView) → Type 0
EachOwnUnless true materials says index count files chains = ⊤
EachOwnUnless false materials says index count files chains = EachOwn materials says index count 0 files chains

-- ---- what is asked for them

-- how many certificates the chains in the files have at the worker's own places from this one on
abbrev pub own_sizes : ℕ → ℕ → ℕ → List Fetched → ℕ
own_sizes index count place files = chain_sizes (own_of index count place (map bytes_in files))

abbrev pub certificates : List (Option JudgedView) → ℕ
certificates [] = 0
certificates (chain ∷ chains) = certificates_in chain + certificates chains

-- A worker asked its provider no more questions than there are certificates in the chains that it judged. At most as
-- many of these chains have a question that failed as faults of its provider were counted, and one only if the count
-- rose.
pub record ChainsCounted (asks asks_now faults faults_now : ℕ) (chains : List (Option JudgedView)) : Type 0 where
  pub asks_most : asks_now ≤ asks + certificates chains
  pub asks_stay : asks ≤ asks_now
  pub failed : AreCounted has_failed chains faults faults_now
  pub faults_stay : faults ≤ faults_now

-- if memory ran out, the counts didn't fall
pub record CountsStay (asks asks_now faults faults_now : ℕ) : Type 0 where
  pub asks_stay : asks ≤ asks_now
  pub faults_stay : faults ≤ faults_now

abbrev pub CountedUnless : Bool → ℕ → ℕ → ℕ → ℕ → List (Option JudgedView) → Type 0
CountedUnless true asks asks_now faults faults_now chains = CountsStay asks asks_now faults faults_now
CountedUnless false asks asks_now faults faults_now chains = ChainsCounted asks asks_now faults faults_now chains
