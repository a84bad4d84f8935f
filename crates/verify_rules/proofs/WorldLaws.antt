-- What the rules of the call say in a world, and what is right of a chain.
use Rattle.std.proofs.Common.{◌≡◌, ℕ, suc, ◌≤◌, nat_lt, true, false, cond, List, [], ◌∷◌, ◌++◌, length, Option, Some, None, option_and_then, Ok, refl, ◌∙◌, ap, arith}
use Rattle.std.specs.List.{slice_get}
use Rattle.std.specs.Option.{option_map}
use Rattle.std.proofs.lemmas.Bool.Decides.{nat_tests}
use Rattle.stir_outside.specs.Files.{IsLonger, file}
use Rattle.delegation.specs.Coverage.{Table}
use Rattle.cert_store.specs.ChainMap.{listed}
use Rattle.cert_store.specs.Judged.{JudgedAs, JudgedView, judged_of}
use Rattle.cert_store.specs.Rules.{Says}
use Rattle.verify_rules.specs.Call.{Call, Reading, in_call_order}
use Rattle.verify_rules.specs.Rules.{early_rules}
use Rattle.verify_rules.specs.Screened.{IsScreenedBy, ScreenedView, digest_in, last_of, last_of_call, screened_by, screened_of, ticket_of}
use Rattle.verify_rules.specs.States.{State, have, long, no_chain, unread}
use Rattle.verify_rules.specs.World.{AreRight, IsJudgedBy, IsRight, World, truth_by, truth_of}

-- ---- screened

readings_are : (call : Call) (screened : ScreenedView) → screened ≡ screened_of call → screened.readings ≡ in_call_order call
unfolding screened_by
readings_are call screened is = ap (λ (x : ScreenedView). x.readings) is

pub judged_by : (world : World) (call : Call) (table : Table) (says : Says) (moment : ℕ) (screened : ScreenedView) → IsScreenedBy early_rules call (Ok screened)
    → moment ≡ call.moment → table ≡ world.table → says ≡ world.says → IsJudgedBy world call table says moment screened.readings
judged_by world call table says moment screened h now grants answers =
    record { early = h.0; in_order = readings_are call screened h.1; now = now; grants = grants; answers = answers }

pub ticket_is : (call : Call) (screened : ScreenedView) → IsScreenedBy early_rules call (Ok screened) → option_map digest_in (last_of screened.readings) ≡ ticket_of call
ticket_is call screened h = ap (λ readings. option_map digest_in (last_of readings)) (readings_are call screened h.1)

pub last_is : (call : Call) (screened : ScreenedView) → IsScreenedBy early_rules call (Ok screened) → screened.last ≡ last_of_call call
unfolding screened_by
last_is call screened h = ap (λ (x : ScreenedView). x.last) h.1

-- ---- one chain

truth_named : (world : World) (x5u : List ℕ) (name : Option (List ℕ)) → listed world.chains x5u ≡ name → truth_of world x5u ≡ truth_by world (option_and_then (λ n. file n world.files) name)
unfolding truth_of
truth_named world x5u name e = ap (λ x. truth_by world (option_and_then (λ n. file n world.files) x)) e

truth_there : (world : World) (x5u name : List ℕ) (content : Option (List ℕ)) → listed world.chains x5u ≡ Some name → file name world.files ≡ content → truth_of world x5u ≡ truth_by world content
truth_there world x5u name content named there = truth_named world x5u (Some name) named ∙ ap (truth_by world) there

pub right_judged : (world : World) (x5u name bytes : List ℕ) (judged : JudgedView) → listed world.chains x5u ≡ Some name → file name world.files ≡ Some bytes
    → length bytes ≤ 49152 → JudgedAs (judged_of world.anchors world.table world.says bytes) judged → IsRight world x5u (have judged)
right_judged world x5u name bytes judged named there short j =
    let low : nat_lt 49152 (length bytes) ≡ false = grind (arith, nat_tests) in
    let truth : JudgedView = judged_of world.anchors world.table world.says bytes in
    (truth, truth_there world x5u name (Some bytes) named there ∙ ap (λ t. cond t long (have truth)) low, j)

pub right_unlisted : (world : World) (x5u : List ℕ) → listed world.chains x5u ≡ None → IsRight world x5u no_chain
right_unlisted world x5u none = truth_named world x5u None none

pub right_missing : (world : World) (x5u name : List ℕ) → listed world.chains x5u ≡ Some name → file name world.files ≡ None → IsRight world x5u no_chain
right_missing world x5u name named none = truth_there world x5u name None named none

long_by : (world : World) (x5u name : List ℕ) (content : Option (List ℕ)) → listed world.chains x5u ≡ Some name → file name world.files ≡ content → IsLonger 49152 content → truth_of world x5u ≡ long
long_by world x5u name None named there longer = absurd longer
long_by world x5u name (Some bytes) named there longer =
    let high : nat_lt 49152 (length bytes) ≡ true = grind (arith, nat_tests) in
    truth_there world x5u name (Some bytes) named there ∙ ap (λ t. cond t long (have (judged_of world.anchors world.table world.says bytes))) high

pub right_long : (world : World) (x5u name : List ℕ) → listed world.chains x5u ≡ Some name → IsLonger 49152 (file name world.files) → IsRight world x5u long
right_long world x5u name named longer = long_by world x5u name (file name world.files) named refl longer

pub right_failed : (world : World) (x5u name : List ℕ) → listed world.chains x5u ≡ Some name → IsRight world x5u unread
right_failed world x5u name named = (name, named)

-- ---- several

pub right_more : (world : World) (readings : List Reading) (states : List State) (one : Reading) (state : State) → AreRight world readings states
    → IsRight world one.passport.x5u state → AreRight world (readings ++ one ∷ []) (states ++ state ∷ [])
right_more world [] [] one state right here = (here, tt)
right_more world [] (s ∷ states) one state right here = absurd right
right_more world (r ∷ readings) [] one state right here = absurd right
right_more world (r ∷ readings) (s ∷ states) one state right here = (right.0, right_more world readings states one state right.1 here)

pub right_each : (world : World) (readings : List Reading) (states : List State) → length states ≡ length readings
    → ((at : ℕ) (one : Reading) (state : State) → slice_get readings at ≡ Some one → slice_get states at ≡ Some state → IsRight world one.passport.x5u state)
    → AreRight world readings states
right_each world [] [] same each = tt
right_each world [] (state ∷ states) same each = absurd (omega (arith, same))
right_each world (one ∷ readings) [] same each = absurd (omega (arith, same))
right_each world (one ∷ readings) (state ∷ states) same each =
    let fewer : length states ≡ length readings = omega (arith, same) in
    (each 0 one state refl refl, right_each world readings states fewer (λ at one state. each (suc at) one state))
