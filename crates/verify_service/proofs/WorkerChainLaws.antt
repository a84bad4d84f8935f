-- What a worker judged, one place more.
use Rattle.std.proofs.Common.{◌≡◌, ◌≢◌, ℕ, ◌+◌, ◌<◌, ◌≤◌, ◌%◌, List, [], ◌∷◌, ◌++◌, length, take, get_or, Option, sym, subst, arith}
use Rattle.cert_store.specs.Judged.{JudgedView}
use Rattle.cert_store.specs.Rules.{Says}
use Rattle.cert_store.specs.declared.world.World.{World as Materials}
use Rattle.call_judging.specs.Causes.{HasCauseIf}
use Rattle.call_judging.specs.Fetched.{IsJudgedFile, certificates_in, has_failed}
use Rattle.verify_service.specs.Judging.{EachPair}
use Rattle.verify_service.specs.RoundRead.{own_of}
use Rattle.verify_service.specs.WorkerChains.{ChainsCounted, EachOwn, certificates}
use Rattle.call_judging.specs.declared.fetching.Fetched.{Fetched}
use Rattle.verify_service.proofs.CountLaws.{counted_more}
use Rattle.verify_service.proofs.ListLaws.{each_more}
use Rattle.verify_service.proofs.OwnPlaceLaws.{own_here, own_not_here}

-- ---- judged

-- one that is the worker's own was judged
pub own_judged : (materials : Materials) (says says_now : Says) (index count : ℕ) (files : List Fetched) (place : ℕ) (chains : List (Option JudgedView)) (file d : Fetched) (chain : Option JudgedView)
    → says_now ≡ says → place < length files → file ≡ get_or files place d → place % count ≡ index → EachOwn materials says index count 0 (take place files) chains
    → IsJudgedFile materials says_now file chain → EachOwn materials says index count 0 (take (place + 1) files) (chains ++ chain ∷ [])
own_judged materials says says_now index count files place chains file d chain same within is own each here =
    subst (λ (fs : List Fetched). EachPair (IsJudgedFile materials says) fs (chains ++ chain ∷ [])) (sym (own_here index count files place file d within is own))
    (each_more (IsJudgedFile materials says) (own_of index count 0 (take place files)) chains file chain each (subst (λ (s : Says). IsJudgedFile materials s file chain) same here))

-- one that is another's is passed over
pub own_passed : (materials : Materials) (says : Says) (index count : ℕ) (files : List Fetched) (place : ℕ) (chains : List (Option JudgedView)) (file d : Fetched) → place < length files
    → file ≡ get_or files place d → place % count ≢ index → EachOwn materials says index count 0 (take place files) chains → EachOwn materials says index count 0 (take (place + 1) files) chains
own_passed materials says index count files place chains file d within is other each =
    subst (λ (fs : List Fetched). EachPair (IsJudgedFile materials says) fs chains) (sym (own_not_here index count files place file d within is other)) each

-- ---- asked

certificates_more : (chains : List (Option JudgedView)) (chain : Option JudgedView) → certificates (chains ++ chain ∷ []) ≡ certificates chains + certificates_in chain
certificates_more [] chain = omega arith
certificates_more (c ∷ chains) chain = let more = certificates_more chains chain in omega arith

pub counted_next : (asks asks_mid asks_now faults faults_mid faults_now : ℕ) (chains : List (Option JudgedView)) (chain : Option JudgedView)
    → ChainsCounted asks asks_mid faults faults_mid chains → asks_now ≤ asks_mid + certificates_in chain → asks_mid ≤ asks_now → faults_mid ≤ faults_now
    → HasCauseIf (has_failed chain) faults_mid faults_now → ChainsCounted asks asks_now faults faults_now (chains ++ chain ∷ [])
counted_next asks asks_mid asks_now faults faults_mid faults_now chains chain so_far most stay further cause = record {
  asks_most = (let a = so_far.asks_most in let more = certificates_more chains chain in omega arith);
  asks_stay = (let a = so_far.asks_stay in omega arith);
  failed = counted_more has_failed chains chain faults faults_mid faults_now so_far.faults_stay further so_far.failed cause;
  faults_stay = (let f = so_far.faults_stay in omega arith);
}
