-- What is answered to a call over the chains that a round has.
use Rattle.std.proofs.Common.{◌≡◌, ℕ, zero, suc, ◌≤◌, ◌==◌, ◌||◌, ◌⊎◌, ◌↔◌, inl, inr, true, false, List, [], ◌∷◌, length, map, is_some, Option, Some, None, Ok, refl, sym, ap, ◌∙◌, subst, arith}
use Rattle.std.proofs.lemmas.Bool.Decides.{nat_tests}
use Rattle.std.proofs.lemmas.Option.{same_Some}
use Rattle.std.specs.Cmp.Lexicographic.{nat_list_eq_equiv}
use Rattle.std.specs.List.{slice_get}
use Rattle.std.specs.Str.{bytes_eq}
use Rattle.cert_store.specs.Asking.{FailedAt, is_failed}
use Rattle.cert_store.specs.ChainMap.{listed}
use Rattle.cert_store.specs.Files.{Files}
use Rattle.cert_store.specs.Holding.{AreAnswered, Chains, chain_of}
use Rattle.cert_store.specs.Judged.{JudgedView}
use Rattle.cert_store.specs.Rules.{Says}
use Rattle.cert_store.specs.Using.{has}
use Rattle.cert_store.specs.declared.judged.Asked.{Asked}
use Rattle.cert_store.specs.declared.judged.Asked.TheVariants.{Failed}
use Rattle.cert_store.specs.declared.world.World.{World as Materials}
use Rattle.delegation.specs.Coverage.{Table}
use Rattle.replay_desk.specs.Holder.{Holder, gained, lost_to}
use Rattle.stir_outside.specs.Count.{Rose}
use Rattle.stir_outside.specs.Files.{Files as ShelfFiles}
use Rattle.verify_rules.specs.Call.{Call, Reading}
use Rattle.verify_rules.specs.Causes.{HasFailed, IsCaused}
use Rattle.verify_rules.specs.Rules.{early_rules, first}
use Rattle.verify_rules.specs.Screened.{IsScreenedBy, ScreenedView}
use Rattle.verify_rules.specs.Signed.{IsKnownAgain}
use Rattle.verify_rules.specs.States.{State, have, no_chain}
use Rattle.verify_rules.specs.Verdict.{IsLeftOpen, IsVerdict}
use Rattle.verify_rules.specs.World.{AreRight, IsJudgedBy, IsRight, VerdictOf, World}
use Rattle.verify_rules.specs.declared.refusal.Place.{Place}
use Rattle.verify_rules.specs.declared.verdict.Verdict.{Verdict}
use Rattle.verify_service.specs.Aside.{IsAsideFor}
use Rattle.call_judging.specs.Causes.{HasCauseIf}
use Rattle.verify_service.specs.Causes.{is_unasked_passport}
use Rattle.call_judging.specs.Chains.{IsRightWhere, world_by}
use Rattle.verify_service.specs.Claiming.{Claims, HasWon, IsAnswer, OutcomeSays, verdict_of}
use Rattle.verify_service.specs.Judging.{IsJudged, IsJudgedWhere}
use Rattle.verify_service.specs.Kept.{Kept, kept_state, state_at, state_by, state_for, states_for}
use Rattle.verify_service.specs.Needed.{x5us}
use Rattle.verify_service.specs.Ready.{Basis, Provided, class_in}
use Rattle.verify_service.specs.RightChains.{AreRightHeld, AreThere, FailAtQuestions, IsThere}
use Rattle.verify_service.specs.declared.outcome.Outcome.{Outcome}
use Rattle.verify_service.specs.declared.outcome.Outcome.TheVariants as outcomes
use Rattle.verify_service.specs.declared.screening.ReadyCall.{ReadyCall}
use Rattle.call_judging.proofs.ReadLaws.{right_unlisted}
use Rattle.verify_service.proofs.TestLaws.{false_is_not_true, or_left, or_right}

-- ---- the chains of a call are right

abbrev pub UnlistedLaw : Type 0
UnlistedLaw = (world : World) (x5u : List ℕ) → listed world.chains x5u ≡ None → IsRight world x5u no_chain

abbrev pub ScreenedLaw : Type 0
ScreenedLaw = (world : World) (call : Call) (table : Table) (says : Says) (moment : ℕ) (screened : ScreenedView) → IsScreenedBy early_rules call (Ok screened)
    → moment ≡ call.moment → table ≡ world.table → says ≡ world.says → IsJudgedBy world call table says moment screened.readings

abbrev pub SignedLaw : Type 0
SignedLaw = (call : Call) → first early_rules call ≡ None → IsKnownAgain call

none_listed : (files : Files) (x5u : List ℕ) (kept : Kept) (held : Chains) (name : Option (List ℕ)) → kept_state x5u kept ≡ None → chain_of x5u held ≡ None
    → listed files x5u ≡ name → IsThere files held kept x5u → listed files x5u ≡ None
none_listed files x5u kept held None no_kept no_held is there = is
none_listed files x5u kept held (Some name) no_kept no_held is there =
    let some : (is_some (kept_state x5u kept) || is_some (chain_of x5u held)) ≡ true = there (ap is_some is) in
    let none : (is_some (kept_state x5u kept) || is_some (chain_of x5u held)) ≡ false =
    ap (λ o. is_some o || is_some (chain_of x5u held)) no_kept ∙ ap is_some no_held in
    absurd (false_is_not_true (sym none ∙ some))

right_by : (told : Option ShelfFiles) (materials : Materials) (says : Says) (x5u : List ℕ) (kept : Kept) (held : Chains) (o : Option State) (p : Option JudgedView) → UnlistedLaw
    → kept_state x5u kept ≡ o → chain_of x5u held ≡ p → AreRightHeld told materials says held kept → IsThere materials.chains held kept x5u
    → IsRightWhere told materials says x5u (state_by o p)
right_by told materials says x5u kept held (Some state) p law e f right there = right.others x5u state e
right_by told materials says x5u kept held None (Some judged) law e f right there = right.cached x5u judged f
right_by told materials says x5u kept held None None law e f right there =
    right_unlisted told materials says x5u law (none_listed materials.chains x5u kept held (listed materials.chains x5u) e f refl there)

right_for : (told : Option ShelfFiles) (materials : Materials) (says : Says) (x5u : List ℕ) (kept : Kept) (held : Chains) → UnlistedLaw
    → AreRightHeld told materials says held kept → IsThere materials.chains held kept x5u → IsRightWhere told materials says x5u (state_for kept held x5u)
right_for told materials says x5u kept held law right there = right_by told materials says x5u kept held (kept_state x5u kept) (chain_of x5u held) law refl refl right there

are_right : (files : ShelfFiles) (materials : Materials) (says : Says) (kept : Kept) (held : Chains) (readings : List Reading) → UnlistedLaw
    → AreRightHeld (Some files) materials says held kept → AreThere materials.chains held kept (x5us readings)
    → AreRight (world_by materials files says) readings (states_for kept held readings)
are_right files materials says kept held [] law right there = tt
are_right files materials says kept held (one ∷ others) law right there =
    let here = one.passport.x5u in (
      right_for (Some files) materials says here kept held law right (there here (or_left (bytes_eq here here) (has here (x5us others)) (nat_list_eq_equiv.refl here))),
      are_right files materials says kept held others law right (λ x5u is. there x5u (or_right (bytes_eq x5u here) (has x5u (x5us others)) is)),
    )

-- ---- what is said of the call

judged_of_verdict : (world : World) (call : Call) (outcome : Outcome) → VerdictOf world call (verdict_of outcome) → IsJudged world call outcome
judged_of_verdict world call outcomes.Valid so = so
judged_of_verdict world call (outcomes.Refused refused) so = so
judged_of_verdict world call (outcomes.Replay winner) so = so
judged_of_verdict world call (outcomes.Unread bad) so = so
judged_of_verdict world call (outcomes.Unasked bad) so = so

left_open : (readings : List Reading) (kept : Kept) (held : Chains) (faults faults_now : ℕ) (bad : Place)
    → IsLeftOpen readings (states_for kept held readings) bad ⊎ HasFailed faults faults_now bad → IsLeftOpen readings (states_for kept held readings) bad ⊎ (bad.part ≡ 0)
left_open readings kept held faults faults_now bad (inl chain) = inl chain
left_open readings kept held faults faults_now bad (inr failed) = inr failed.part

aside_by : (readings : List Reading) (kept : Kept) (held : Chains) (faults faults_now : ℕ) (outcome : Outcome)
    → IsCaused readings (states_for kept held readings) faults faults_now (verdict_of outcome) → IsAsideFor readings kept held outcome
aside_by readings kept held faults faults_now outcomes.Valid caused = tt
aside_by readings kept held faults faults_now (outcomes.Refused refused) caused = tt
aside_by readings kept held faults faults_now (outcomes.Replay winner) caused = tt
aside_by readings kept held faults faults_now (outcomes.Unread bad) caused = caused
aside_by readings kept held faults faults_now (outcomes.Unasked bad) caused = left_open readings kept held faults faults_now bad caused

module _ (on : Basis) (by : Provided) (moment : ℕ) (screened : ScreenedView) (verdict : Verdict) (outcome : Outcome) (same : verdict ≡ verdict_of outcome) where
  abbrev states : List State
  states = states_for on.kept on.held screened.readings

  abbrev RightLaw : Type 0
  RightLaw = (world : World) (call : Call) → IsJudgedBy world call on.materials.table by.says moment screened.readings → AreRight world screened.readings states
      → VerdictOf world call verdict

  judged_where : (told : Option ShelfFiles) (seen : Call) → UnlistedLaw → ScreenedLaw → RightLaw → AreThere on.materials.chains on.held on.kept (x5us screened.readings)
      → IsScreenedBy early_rules seen (Ok screened) → moment ≡ seen.moment → AreRightHeld told on.materials by.says on.held on.kept
      → IsJudgedWhere told on.materials by.says seen outcome
  judged_where None seen unlisted judged right there passed now are = tt
  judged_where (Some files) seen unlisted judged right there passed now are =
      let world = world_by on.materials files by.says in
      judged_of_verdict world seen outcome
      (subst (VerdictOf world seen) same
      (right world seen (judged world seen on.materials.table by.says moment screened passed now refl refl)
      (are_right files on.materials by.says on.kept on.held screened.readings unlisted are there)))

  -- what the rules of the chains come to is answered
  pub answer_by : UnlistedLaw → ScreenedLaw → SignedLaw → RightLaw → AreThere on.materials.chains on.held on.kept (x5us screened.readings)
      → IsVerdict by.says on.materials.table moment screened.readings states by.faults by.faults_now verdict
      → IsCaused screened.readings states by.faults by.faults_now verdict → IsAnswer on by moment screened outcome
  answer_by unlisted judged signed right there is caused = record {
    ruled = subst (IsVerdict by.says on.materials.table moment screened.readings states by.faults by.faults_now) same is;
    judged = λ seen passed now told are. judged_where told seen unlisted judged right there passed now are;
    owed = λ seen passed pass. signed seen passed.0;
    aside = aside_by screened.readings on.kept on.held by.faults by.faults_now outcome (subst (IsCaused screened.readings states by.faults by.faults_now) same caused);
  }

-- ---- a signature of its own that failed

map_at : {X Y : Type 0} → (f : X → Y) (xs : List X) (i : ℕ) (x : X) (y : Y) → slice_get xs i ≡ Some x → slice_get (map f xs) i ≡ Some y → y ≡ f x
map_at f [] i x y is at = absurd cc
map_at f (z ∷ zs) zero x y is at = same_Some y (f x) (sym at ∙ ap (λ o. Some (f o)) (same_Some z x is))
map_at f (z ∷ zs) (suc i) x y is at = map_at f zs i x y is at

have_same : (one other : JudgedView) → have one ≡ have other → one ≡ other
have_same one other e = cc

some_part : (judged : JudgedView) (part : ℕ) → judged.asked ≡ Failed part → FailedAt judged.keys judged.asked → 1 ≤ part
some_part judged part is at = (subst (λ (a : Asked). FailedAt judged.keys a) is at).some

part_by : (kept : Kept) (held : Chains) (x5u : List ℕ) (judged : JudgedView) (part : ℕ) (o : Option State) (p : Option JudgedView) → kept_state x5u kept ≡ o → chain_of x5u held ≡ p
    → FailAtQuestions kept → AreAnswered held → state_by o p ≡ have judged → judged.asked ≡ Failed part → 1 ≤ part
part_by kept held x5u judged part (Some state) p e f parts answered is failed = some_part judged part failed (parts x5u judged (e ∙ ap (λ (s : State). Some s) is))
part_by kept held x5u judged part None (Some other) e f parts answered is failed =
    let same : other ≡ judged = have_same other judged is in
    let k : is_failed judged.asked ≡ false = answered x5u judged (f ∙ ap (λ (j : JudgedView). Some j) same) in
    absurd (false_is_not_true (sym k ∙ ap is_failed failed))
part_by kept held x5u judged part None None e f parts answered is failed = absurd cc

left_part : (readings : List Reading) (kept : Kept) (held : Chains) (bad : Place) → FailAtQuestions kept → AreAnswered held
    → IsLeftOpen readings (states_for kept held readings) bad → 1 ≤ bad.part
left_part readings kept held bad parts answered left =
    let x5u = left.here.passport.x5u in
    let state : have left.judged ≡ state_at kept held left.here = map_at (state_at kept held) readings left.at left.here (have left.judged) left.is left.chain in
    let some : 1 ≤ left.part = part_by kept held x5u left.judged left.part (kept_state x5u kept) (chain_of x5u held) refl refl parts answered (sym state) left.failed in
    let same : bad.part ≡ left.part = ap (λ (p : Place). p.part) left.place in
    omega arith

own_cause : (readings : List Reading) (kept : Kept) (held : Chains) (bad : Place) (faults faults_now : ℕ) → FailAtQuestions kept → AreAnswered held
    → IsLeftOpen readings (states_for kept held readings) bad ⊎ HasFailed faults faults_now bad → (bad.part == 0) ≡ true → Rose faults faults_now
own_cause readings kept held bad faults faults_now parts answered (inl left) own =
    let some : 1 ≤ bad.part = left_part readings kept held bad parts answered left in
    let none : bad.part ≡ 0 = grind (arith, nat_tests) in
    absurd (omega arith)
own_cause readings kept held bad faults faults_now parts answered (inr failed) own = failed.rose

own_by : (readings : List Reading) (kept : Kept) (held : Chains) (faults faults_now : ℕ) (outcome : Outcome) → FailAtQuestions kept → AreAnswered held
    → IsCaused readings (states_for kept held readings) faults faults_now (verdict_of outcome) → HasCauseIf (is_unasked_passport outcome) faults faults_now
own_by readings kept held faults faults_now outcomes.Valid parts answered caused = λ own. absurd (false_is_not_true own)
own_by readings kept held faults faults_now (outcomes.Refused refused) parts answered caused = λ own. absurd (false_is_not_true own)
own_by readings kept held faults faults_now (outcomes.Replay winner) parts answered caused = λ own. absurd (false_is_not_true own)
own_by readings kept held faults faults_now (outcomes.Unread bad) parts answered caused = λ own. absurd (false_is_not_true own)
own_by readings kept held faults faults_now (outcomes.Unasked bad) parts answered caused = λ own. own_cause readings kept held bad faults faults_now parts answered caused own

pub own_unasked : (readings : List Reading) (kept : Kept) (held : Chains) (faults faults_now : ℕ) (verdict : Verdict) (outcome : Outcome) → FailAtQuestions kept → AreAnswered held
    → verdict ≡ verdict_of outcome → IsCaused readings (states_for kept held readings) faults faults_now verdict → HasCauseIf (is_unasked_passport outcome) faults faults_now
own_unasked readings kept held faults faults_now verdict outcome parts answered same caused =
    own_by readings kept held faults faults_now outcome parts answered (subst (IsCaused readings (states_for kept held readings) faults faults_now) same caused)

-- ---- a call is valid exactly if it is won

more_wins : (old : Holder) (p : ℕ × ℕ) → old.wins ≡ p ∷ old.wins → ⊥
more_wins old p same = let more : length old.wins ≡ suc (length old.wins) = ap length same in omega arith

not_gained : (class number : ℕ) (old new : Holder) → new ≡ old → new ≡ gained class number old → ⊥
not_gained class number old new same win = more_wins old (class, number) (ap (λ (h : Holder). h.wins) (sym same ∙ win))

not_lost : (class number winner : ℕ) (old new : Holder) → new ≡ lost_to class winner old → new ≡ gained class number old → ⊥
not_lost class number winner old new lost win = more_wins old (class, number) (ap (λ (h : Holder). h.wins) (sym lost ∙ win))

won_if : (on : Basis) (by : Provided) (call : ReadyCall) (old new : Holder) (outcome : Outcome) → OutcomeSays on by call outcome → Claims on.past call old new outcome
    → outcome ≡ outcomes.Valid → HasWon on by call old new
won_if on by call old new outcome says claims is =
    let said : OutcomeSays on by call outcomes.Valid = subst (OutcomeSays on by call) is says in
    let gains : Claims on.past call old new outcomes.Valid = subst (Claims on.past call old new) is claims in
    record { passed = said.passed refl; ruled = said.ruled; free = gains.0; win = gains.1 }

valid_if : (on : Basis) (by : Provided) (call : ReadyCall) (old new : Holder) (outcome : Outcome) → Claims on.past call old new outcome → HasWon on by call old new
    → outcome ≡ outcomes.Valid
valid_if on by call old new outcomes.Valid claims won = refl
valid_if on by call old new (outcomes.Refused refused) claims won = absurd (not_gained (class_in call) call.number old new claims won.win)
valid_if on by call old new (outcomes.Replay winner) (inl kept) won = absurd (not_gained (class_in call) call.number old new kept.1 won.win)
valid_if on by call old new (outcomes.Replay winner) (inr lost) won = absurd (not_lost (class_in call) call.number winner old new lost.1 won.win)
valid_if on by call old new (outcomes.Unread bad) claims won = absurd (not_gained (class_in call) call.number old new claims won.win)
valid_if on by call old new (outcomes.Unasked bad) claims won = absurd (not_gained (class_in call) call.number old new claims won.win)

pub valid_just_if_won : (on : Basis) (by : Provided) (call : ReadyCall) (old new : Holder) (outcome : Outcome) → OutcomeSays on by call outcome → Claims on.past call old new outcome
    → (outcome ≡ outcomes.Valid) ↔ HasWon on by call old new
valid_just_if_won on by call old new outcome says claims = (won_if on by call old new outcome says claims, valid_if on by call old new outcome claims)
