-- One chain more of those that are read and asked for.
use Rattle.std.proofs.Common.{◌≡◌, ℕ, ◌+◌, ◌<◌, Bool, true, false, ◌||◌, List, [], ◌∷◌, ◌++◌, length, take, append_assoc, append-nil, Option, Some, refl, sym, ◌∙◌, ap, subst}
use Rattle.std.specs.List.{list_any, slice_get}
use Rattle.std.specs.Option.{option_map}
use Rattle.std.proofs.lemmas.List.{length_push}
use Rattle.std.proofs.lemmas.List.Folds.{list_any-append}
use Rattle.cert_store.specs.Rules.{QuestionView, Says}
use Rattle.stir_outside.specs.Files.{Files}
use Rattle.passport_claims.specs.Passport.{ClaimsView}
use Rattle.verify_rules.specs.Call.{Reading, passport_in}
use Rattle.verify_rules.specs.States.{State}
use Rattle.call_judging.specs.Chains.{AreRightWhere, IsRightWhere, is_unread}
use Rattle.cert_store.specs.declared.world.World.{World as Materials}
use Rattle.call_judging.specs.AlwaysYes.{always_yes}
use Rattle.call_judging.specs.CallQuestions.{chain_questions, chains_questions}
use Rattle.single_calls.specs.Reading.{AreAsked, Lines}
use Rattle.single_calls.specs.Written.{Writes}
use Rattle.single_calls.proofs.WriteLaws.{writes_both}

-- the law that one chain more is right
abbrev pub NextRight : Type 0
NextRight = (told told_now : Option Files) (materials : Materials) (says says_now : Says) (readings : List Reading) (states : List State) (i : ℕ) (passport : ClaimsView)
    (x5u : List ℕ) (state : State) → told_now ≡ told → says_now ≡ says → AreRightWhere told materials says (take i readings) states → i < length readings
    → option_map passport_in (slice_get readings i) ≡ Some passport → x5u ≡ passport.x5u → IsRightWhere told_now materials says_now x5u state
    → AreRightWhere told materials says (take (i + 1) readings) (states ++ state ∷ [])

chains_append : (states : List State) (state : State) → chains_questions (states ++ state ∷ []) ≡ chains_questions states ++ chain_questions state
chains_append [] state = append-nil (chain_questions state)
chains_append (s ∷ states) state =
    ap (λ (x : List QuestionView). chain_questions s ++ x) (chains_append states state) ∙ sym (append_assoc (chain_questions s) (chains_questions states) (chain_questions state))

neither : (a b : Bool) → a ≡ false → b ≡ false → (a || b) ≡ false
neither true b first second = absurd (cc)
neither false b first second = second

pub one_more : (told told_now : Option Files) (materials : Materials) (readings : List Reading) (before mid now : Lines) (states pushed : List State) (i : ℕ) (passport : ClaimsView)
    (x5u : List ℕ) (state : State) → NextRight → told_now ≡ told → length states ≡ i → i < length readings → option_map passport_in (slice_get readings i) ≡ Some passport
    → x5u ≡ passport.x5u → AreAsked told materials readings before mid states → IsRightWhere told_now materials always_yes x5u state → is_unread state ≡ false
    → Writes mid.held now.held mid.text now.text (chain_questions state) → pushed ≡ states ++ state ∷ [] → AreAsked told materials readings before now pushed
one_more told told_now materials readings before mid now states pushed i passport x5u state law same_files counted within is text asked right known more is_pushed =
    let count : length (states ++ state ∷ []) ≡ i + 1 = length_push states state ∙ ap (λ n. n + 1) counted in
    let so_far : AreRightWhere told materials always_yes (take i readings) states = subst (λ n. AreRightWhere told materials always_yes (take n readings) states) counted asked.right in
    let next : AreRightWhere told materials always_yes (take (i + 1) readings) (states ++ state ∷ []) =
    law told told_now materials always_yes always_yes readings states i passport x5u state same_files refl so_far within is text right in
    subst (AreAsked told materials readings before now) (sym is_pushed) (record {
      right = subst (λ n. AreRightWhere told materials always_yes (take n readings) (states ++ state ∷ [])) (sym count) next;
      known = list_any-append is_unread states (state ∷ []) ∙ neither (list_any is_unread states) (list_any is_unread (state ∷ [])) asked.known (neither (is_unread state) false known refl);
      writes = subst (Writes before.held now.held before.text now.text) (sym (chains_append states state))
          (writes_both before.held mid.held now.held before.text mid.text now.text (chains_questions states) (chain_questions state) asked.writes more);
    })

-- ---- a stop
