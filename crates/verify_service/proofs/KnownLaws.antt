-- What a round knows of the chains of its texts, from the files that were fetched and what each worker judged.
use Rattle.std.proofs.Common.{◌≡◌, ℕ, zero, suc, ◌+◌, ◌<◌, ◌≤◌, ◌%◌, ◌/◌, ◌==◌, ◌||◌, Bool, true, false, cond, List, [], ◌∷◌, filter, length, get_or, Option, Some, None, refl, sym, ap, ◌∙◌, subst, arith, mod-lt, zero-add}
use Rattle.std.specs.List.{list_any, slice_get}
use Rattle.std.proofs.lemmas.Bool.Decides.{nat_tests}
use Rattle.cert_store.specs.Judged.{JudgedView}
use Rattle.cert_store.specs.Rules.{Says}
use Rattle.cert_store.specs.declared.world.World.{World as Materials}
use Rattle.stir_outside.specs.Files.{Counts, Files}
use Rattle.verify_rules.specs.States.{State}
use Rattle.verify_service.specs.Causes.{AreCounted}
use Rattle.call_judging.specs.Chains.{is_unasked, is_unread}
use Rattle.call_judging.specs.Fetched.{IsFetched, IsJudgedFile, is_read_file, is_unread_file}
use Rattle.verify_service.specs.Judging.{EachPair}
use Rattle.call_judging.specs.Fetched.{file_state}
use Rattle.verify_service.specs.RoundRead.{HasAskedOwn, IsKnownRight, KnownBy, all_certificates, certificates_of, is_judged, own_of, states_from}
use Rattle.call_judging.specs.Fetched.{certificates_in, has_failed}
use Rattle.verify_service.specs.WorkerChains.{ChainsCounted, CountedUnless, EachOwn, EachOwnUnless, certificates, chain_at}
use Rattle.call_judging.specs.declared.fetching.Fetched.{Fetched}
use Rattle.call_judging.specs.declared.fetching.Fetched.TheVariants as fetched
use Rattle.call_judging.proofs.FetchedLaws.{failed_one, unread_one}
use Rattle.verify_service.proofs.CountLaws.{counted_as}
use Rattle.verify_service.proofs.OwnPlaceLaws.{StandInTurn, own_at, own_count, stands_first, stands_others}

-- ---- one chain

known_one : (told : Option Files) (materials : Materials) (says : Says) (x5u : List ℕ) (file : Fetched) (chain : Option JudgedView) → IsFetched told materials x5u file
    → IsJudgedFile materials says file chain → IsKnownRight told materials says x5u (file_state file chain)
known_one told materials says x5u (fetched.Bytes bytes) (Some judged) read own = record { right = read says judged own; question = own.question }
known_one told materials says x5u (fetched.Bytes bytes) None read own = absurd own
known_one told materials says x5u fetched.Missing chain read own = record { right = read says; question = tt }
known_one told materials says x5u fetched.TooLong chain read own = record { right = read says; question = tt }
known_one told materials says x5u fetched.Unread chain read own = record { right = read says; question = tt }

judged_one : (materials : Materials) (says : Says) (file : Fetched) (chain : Option JudgedView) → IsJudgedFile materials says file chain → is_judged (file_state file chain) ≡ is_read_file file
judged_one materials says (fetched.Bytes bytes) (Some judged) own = refl
judged_one materials says (fetched.Bytes bytes) None own = absurd own
judged_one materials says fetched.Missing chain own = refl
judged_one materials says fetched.TooLong chain own = refl
judged_one materials says fetched.Unread chain own = refl

certificates_one : (materials : Materials) (says : Says) (file : Fetched) (chain : Option JudgedView) → IsJudgedFile materials says file chain
    → certificates_of (file_state file chain) ≡ certificates_in chain
certificates_one materials says (fetched.Bytes bytes) (Some judged) own = refl
certificates_one materials says (fetched.Bytes bytes) None own = absurd own
certificates_one materials says fetched.Missing chain own = sym (ap certificates_in own)
certificates_one materials says fetched.TooLong chain own = sym (ap certificates_in own)
certificates_one materials says fetched.Unread chain own = sym (ap certificates_in own)

-- ---- of files in turn, by what was judged at each place

-- what was judged at each place is the own of some worker
abbrev pub AreOwn : Materials → Says → ℕ → (ℕ → Option JudgedView) → List Fetched → Type 0
AreOwn materials says place judged files = (i : ℕ) (file : Fetched) → slice_get files i ≡ Some file → IsJudgedFile materials says file (judged (place + i))

own_first : (materials : Materials) (says : Says) (place : ℕ) (judged : ℕ → Option JudgedView) (file : Fetched) (files : List Fetched) → AreOwn materials says place judged (file ∷ files)
    → IsJudgedFile materials says file (judged place)
own_first materials says place judged file files own =
    let same : place + 0 ≡ place = omega arith in subst (λ n. IsJudgedFile materials says file (judged n)) same (own 0 file refl)

own_others : (materials : Materials) (says : Says) (place : ℕ) (judged : ℕ → Option JudgedView) (file : Fetched) (files : List Fetched) → AreOwn materials says place judged (file ∷ files)
    → AreOwn materials says (suc place) judged files
own_others materials says place judged file files own i other is =
    let same : place + suc i ≡ suc place + i = omega arith in subst (λ n. IsJudgedFile materials says other (judged n)) same (own (suc i) other is)

known_all : (told : Option Files) (materials : Materials) (says : Says) (place : ℕ) (judged : ℕ → Option JudgedView) (texts : List (List ℕ)) (files : List Fetched)
    → EachPair (IsFetched told materials) texts files → AreOwn materials says place judged files → EachPair (IsKnownRight told materials says) texts (states_from place judged files)
known_all told materials says place judged [] [] each own = tt
known_all told materials says place judged [] (file ∷ files) each own = absurd each
known_all told materials says place judged (x ∷ texts) [] each own = absurd each
known_all told materials says place judged (x ∷ texts) (file ∷ files) each own = (
  known_one told materials says x file (judged place) each.0 (own_first materials says place judged file files own),
  known_all told materials says (suc place) judged texts files each.1 (own_others materials says place judged file files own),
)

count_by : {A B : Type 0} → (b c : Bool) (x : A) (y : B) (xs : List A) (ys : List B) → b ≡ c → length xs ≡ length ys → length (cond b (x ∷ xs) xs) ≡ length (cond c (y ∷ ys) ys)
count_by true true x y xs ys same lengths = omega arith
count_by true false x y xs ys same lengths = absurd cc
count_by false true x y xs ys same lengths = absurd cc
count_by false false x y xs ys same lengths = lengths

any_by : (b c d e : Bool) → b ≡ c → d ≡ e → (b || d) ≡ (c || e)
any_by b c d e one other = ap (λ t. t || d) one ∙ ap (λ t. c || t) other

unread_any : (place : ℕ) (judged : ℕ → Option JudgedView) (files : List Fetched) → list_any is_unread (states_from place judged files) ≡ list_any is_unread_file files
unread_any place judged [] = refl
unread_any place judged (file ∷ files) =
    any_by (is_unread (file_state file (judged place))) (is_unread_file file) (list_any is_unread (states_from (suc place) judged files)) (list_any is_unread_file files)
    (unread_one file (judged place)) (unread_any (suc place) judged files)

unread_all : (place : ℕ) (judged : ℕ → Option JudgedView) (files : List Fetched) → length (filter is_unread (states_from place judged files)) ≡ length (filter is_unread_file files)
unread_all place judged [] = refl
unread_all place judged (file ∷ files) =
    count_by (is_unread (file_state file (judged place))) (is_unread_file file) (file_state file (judged place)) file (filter is_unread (states_from (suc place) judged files))
    (filter is_unread_file files) (unread_one file (judged place)) (unread_all (suc place) judged files)

judged_all : (materials : Materials) (says : Says) (place : ℕ) (judged : ℕ → Option JudgedView) (files : List Fetched) → AreOwn materials says place judged files
    → length (filter is_judged (states_from place judged files)) ≡ length (filter is_read_file files)
judged_all materials says place judged [] own = refl
judged_all materials says place judged (file ∷ files) own =
    count_by (is_judged (file_state file (judged place))) (is_read_file file) (file_state file (judged place)) file (filter is_judged (states_from (suc place) judged files))
    (filter is_read_file files) (judged_one materials says file (judged place) (own_first materials says place judged file files own))
    (judged_all materials says (suc place) judged files (own_others materials says place judged file files own))

judged_any : (materials : Materials) (says : Says) (place : ℕ) (judged : ℕ → Option JudgedView) (files : List Fetched) → AreOwn materials says place judged files
    → list_any is_judged (states_from place judged files) ≡ list_any is_read_file files
judged_any materials says place judged [] own = refl
judged_any materials says place judged (file ∷ files) own =
    any_by (is_judged (file_state file (judged place))) (is_read_file file) (list_any is_judged (states_from (suc place) judged files)) (list_any is_read_file files)
    (judged_one materials says file (judged place) (own_first materials says place judged file files own))
    (judged_any materials says (suc place) judged files (own_others materials says place judged file files own))

-- ---- a worker's own places

-- as many of them failed, and they have as many certificates
pub record CountedSame (states : List State) (chains : List (Option JudgedView)) : Type 0 where
  pub failed : length (filter is_unasked states) ≡ length (filter has_failed chains)
  pub any_failed : list_any is_unasked states ≡ list_any has_failed chains
  pub certificates_are : all_certificates states ≡ certificates chains

-- a worker's own place has one more, and another's has none
same_by : (materials : Materials) (says : Says) (b : Bool) (file : Fetched) (here : Option JudgedView) (files : List Fetched) (states : List State) (chains : List (Option JudgedView))
    → EachPair (IsJudgedFile materials says) (cond b (file ∷ files) files) chains → (b ≡ true → here ≡ get_or chains 0 None)
    → ((others : List (Option JudgedView)) → chains ≡ cond b (get_or chains 0 None ∷ others) others → EachPair (IsJudgedFile materials says) files others → CountedSame states others)
    → CountedSame (cond b (file_state file here ∷ states) states) chains
same_by materials says true file here files states [] each is so = absurd each
same_by materials says true file here files states (chain ∷ chains) each is so =
    let same = is refl in
    let owned : IsJudgedFile materials says file here = subst (IsJudgedFile materials says file) (sym same) each.0 in
    let later = so chains refl each.1 in
    record {
      failed = count_by (is_unasked (file_state file here)) (has_failed chain) (file_state file here) chain (filter is_unasked states) (filter has_failed chains)
          (failed_one materials says file here owned ∙ ap has_failed same) later.failed;
      any_failed = any_by (is_unasked (file_state file here)) (has_failed chain) (list_any is_unasked states) (list_any has_failed chains)
          (failed_one materials says file here owned ∙ ap has_failed same) later.any_failed;
      certificates_are = (let one = certificates_one materials says file here owned ∙ ap certificates_in same in let more = later.certificates_are in omega arith);
    }
same_by materials says false file here files states chains each is so = so chains refl each

own_same : (materials : Materials) (says : Says) (index count place : ℕ) (judged : ℕ → Option JudgedView) (files : List Fetched) (chains : List (Option JudgedView))
    → EachOwn materials says index count place files chains → StandInTurn index count place judged chains
    → CountedSame (own_of index count place (states_from place judged files)) chains
own_same materials says index count place judged [] [] each is = record { failed = refl; any_failed = refl; certificates_are = refl }
own_same materials says index count place judged [] (chain ∷ chains) each is = absurd each
own_same materials says index count place judged (file ∷ files) chains each is =
    same_by materials says (place % count == index) file (judged place) (own_of index count (suc place) files) (own_of index count (suc place) (states_from (suc place) judged files)) chains each
    (stands_first index count place judged chains is)
    (λ others are later.
    own_same materials says index count (suc place) judged files others later (stands_others index count place judged (get_or chains 0 None) chains others are is))

pub asked_own : (materials : Materials) (says : Says) (index count : ℕ) (judged : ℕ → Option JudgedView) (files : List Fetched) (chains : List (Option JudgedView)) (asks asks_now faults faults_now : ℕ)
    → EachOwn materials says index count 0 files chains → StandInTurn index count 0 judged chains → ChainsCounted asks asks_now faults faults_now chains
    → HasAskedOwn index count asks asks_now faults faults_now (states_from 0 judged files)
asked_own materials says index count judged files chains asks asks_now faults faults_now each is counted =
    let same = own_same materials says index count 0 judged files chains each is in
    record {
      asked = (let most = counted.asks_most in let so = same.certificates_are in omega arith);
      failed = counted_as has_failed is_unasked chains (own_of index count 0 (states_from 0 judged files)) faults faults_now same.failed same.any_failed counted.failed;
    }

-- ---- each place is some worker's own

itself : (n : ℕ) → (n == n) ≡ true
itself n = grind (arith, nat_tests)

pub from_workers : (materials : Materials) (says : Says) (count : ℕ) (chains : ℕ → List (Option JudgedView)) (files : List Fetched) → 0 < count
    → ((w : ℕ) → w < count → EachOwn materials says w count 0 files (chains w)) → AreOwn materials says 0 (chain_at chains count) files
from_workers materials says count chains files some each i file is =
    let none : 0 + i ≡ i = zero-add i in
    let own : i % count < count = mod-lt i some in
    subst (λ n. IsJudgedFile materials says file (chain_at chains count n)) (sym none)
    (subst (λ n. IsJudgedFile materials says file (get_or (chains (i % count)) n None)) (own_count (i % count) count i own refl)
    (own_at (IsJudgedFile materials says) (i % count) count 0 files (chains (i % count)) (each (i % count) own) i file is (ap (λ n. n % count == i % count) none ∙ itself (i % count))))

same_number : (m n : ℕ) → (m == n) ≡ true → m ≡ n
same_number m n e = grind (arith, nat_tests)

pub is_workers : (count : ℕ) (chains : ℕ → List (Option JudgedView)) (w : ℕ) → w < count → StandInTurn w count 0 (chain_at chains count) (chains w)
is_workers count chains w less i own =
    let none : 0 + i ≡ i = zero-add i in
    let same : i % count ≡ w = same_number (i % count) w (sym (ap (λ n. n % count == w) none) ∙ own) in
    ap (chain_at chains count) none ∙ ap (λ n. get_or (chains n) (i / count) None) same ∙ ap (λ n. get_or (chains w) n None) (sym (own_count w count i less same))

-- ---- together

pub known_chains : (told : Option Files) (materials : Materials) (says : Says) (texts : List (List ℕ)) (counts counts_now : Counts) (count : ℕ) (asks asks_now faults faults_now : ℕ → ℕ)
    (chains : ℕ → List (Option JudgedView)) (files : List Fetched) → 0 < count → EachPair (IsFetched told materials) texts files
    → AreCounted is_unread_file files counts.faults counts_now.faults → counts_now.reads ≤ counts.reads + length (filter is_read_file files)
    → AreCounted is_read_file files counts.reads counts_now.reads → ((w : ℕ) → w < count → EachOwn materials says w count 0 files (chains w)) → ((w : ℕ) → w < count → ChainsCounted (asks w) (asks_now w) (faults w) (faults_now w) (chains w))
    → KnownBy told materials says texts counts counts_now (λ states. (w : ℕ) → w < count → HasAskedOwn w count (asks w) (asks_now w) (faults w) (faults_now w) states)
    (states_from 0 (chain_at chains count) files)
known_chains told materials says texts counts counts_now count asks asks_now faults faults_now chains files some each failures reads rose own counted =
    let judged : ℕ → Option JudgedView = chain_at chains count in
    let are = from_workers materials says count chains files some own in
    record {
      knows = record {
        right = known_all told materials says 0 judged texts files each are;
        unread = counted_as is_unread_file is_unread files (states_from 0 judged files) counts.faults counts_now.faults (unread_all 0 judged files) (unread_any 0 judged files) failures;
        reads = (let same = judged_all materials says 0 judged files are in omega arith);
        judged = counted_as is_read_file is_judged files (states_from 0 judged files) counts.reads counts_now.reads (judged_all materials says 0 judged files are)
            (judged_any materials says 0 judged files are) rose;
      };
      own = λ w less. asked_own materials says w count judged files (chains w) (asks w) (asks_now w) (faults w) (faults_now w) (own w less) (is_workers count chains w less) (counted w less);
    }

-- ---- no worker is out of memory

pub not_out : {W : Type 0} → (is_out : W → Bool) (workers : List W) (w : ℕ) (d : W) → list_any is_out workers ≡ false → w < length workers → is_out (get_or workers w d) ≡ false
not_out is_out [] w d none less = absurd (omega arith)
not_out is_out (x ∷ workers) zero d none less = first (is_out x) (list_any is_out workers) none
  where
    first : (b c : Bool) → (b || c) ≡ false → b ≡ false
    first true c e = absurd cc
    first false c e = refl
not_out is_out (x ∷ workers) (suc w) d none less = not_out is_out workers w d (second (is_out x) (list_any is_out workers) none) (omega arith)
  where
    second : (b c : Bool) → (b || c) ≡ false → c ≡ false
    second true c e = absurd cc
    second false c e = e

pub own_unless : (materials : Materials) (says agreed : Says) (index count : ℕ) (read files : List Fetched) (chains : List (Option JudgedView)) (out : Bool) → out ≡ false → says ≡ agreed
    → read ≡ files → EachOwnUnless out materials says index count read chains → EachOwn materials agreed index count 0 files chains
own_unless materials says agreed index count read files chains true within agree same each = absurd cc
own_unless materials says agreed index count read files chains false within agree same each =
    subst (λ (s : Says). EachOwn materials s index count 0 files chains) agree (subst (λ (fs : List Fetched). EachOwn materials says index count 0 fs chains) same each)

pub counted_unless : (asks asks_now faults faults_now : ℕ) (chains : List (Option JudgedView)) (out : Bool) → out ≡ false → CountedUnless out asks asks_now faults faults_now chains
    → ChainsCounted asks asks_now faults faults_now chains
counted_unless asks asks_now faults faults_now chains true within counted = absurd cc
counted_unless asks asks_now faults faults_now chains false within counted = counted
