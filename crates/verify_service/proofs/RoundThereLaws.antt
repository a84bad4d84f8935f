-- The chains of a round are right, and there.
use Rattle.std.proofs.Common.{◌≡◌, ℕ, ◌≤◌, Bool, true, false, not, ◌&&◌, List, [], length, is_some, inr, Option, refl, sym, ◌∙◌, subst}
use Rattle.cert_store.specs.ChainMap.{listed}
use Rattle.cert_store.specs.Files.{Files as ChainFiles}
use Rattle.cert_store.specs.Holding.{Chains, Holding, chain_of}
use Rattle.cert_store.specs.Rules.{Says}
use Rattle.cert_store.specs.Using.{AreAmong, has}
use Rattle.cert_store.specs.declared.world.World.{World as Materials}
use Rattle.stir_outside.specs.Files.{Counts, Files}
use Rattle.verify_rules.specs.States.{State}
use Rattle.verify_service.specs.Kept.{Kept}
use Rattle.verify_service.specs.Needed.{all_named, needed, round_texts, touch_all}
use Rattle.verify_service.specs.RightChains.{AreRightHeld, AreThere, IsThere, IsThereUnless}
use Rattle.verify_service.specs.RoundRead.{RoundReads, StoresAll, texts_of, used_in}
use Rattle.verify_service.specs.declared.screening.ReadyCall.{ReadyCall}
use Rattle.verify_service.proofs.ReadyChainLaws.{right_same}
use Rattle.verify_service.proofs.StoreAllLaws.{HereLaw, OthersLaw, RightLaw, all_capacity, all_here, all_others, all_right}
use Rattle.verify_service.proofs.TouchLaws.{SameLaw, TouchedLaw, TouchedOthersLaw, named_needed, needed_named, touch_chains, touch_here}
use Rattle.verify_service.proofs.TestLaws.{false_is_not_true}

-- ---- the chains are right, and there

pub right_now : RightLaw → SameLaw → (told : Option Files) (materials : Materials) (says : Says) (calls : List ReadyCall) (counts counts_now : Counts) (Own : List State → Type 0)
    (held now : Holding) (kept : Kept) → RoundReads told materials says calls counts counts_now Own held now kept → AreRightHeld told materials says held.entries []
    → AreRightHeld told materials says now.entries kept
right_now law same told materials says calls counts counts_now Own held now kept reads right =
    all_right law told materials says (texts_of materials held.entries calls) reads.states (used_in calls held) now [] kept reads.known.knows.right reads.stores
    (right_same told materials says held.entries (touch_all (all_named calls) held.entries) [] (touch_chains same (all_named calls) held.entries) right)

abbrev pub TheseLaw : Type 0
TheseLaw = (files : ChainFiles) (held : Chains) (texts : List (List ℕ)) (x5u : List ℕ) → has x5u (round_texts files held texts) ≡ has x5u (needed files held texts)

abbrev pub ThereLaw : Type 0
ThereLaw = (files : ChainFiles) (capacity : ℕ) (used : List (List ℕ)) (x5u : List ℕ) (held : Chains) (kept : Kept) → has x5u used ≡ true → length used ≤ capacity
    → IsThereUnless capacity used held kept x5u → IsThere files held kept x5u

pub texts_named : TheseLaw → (files : ChainFiles) (held : Chains) (texts : List (List ℕ)) → AreAmong (round_texts files held texts) texts
texts_named law files held texts x is = (needed_named files held texts x (sym (law files held texts x) ∙ is)).1

there_by : TheseLaw → SameLaw → TouchedLaw → TouchedOthersLaw → HereLaw → OthersLaw → (materials : Materials) (calls : List ReadyCall) (states : List State) (held now : Holding) (kept : Kept)
    → StoresAll (texts_of materials held.entries calls) states (used_in calls held) now [] kept → (x : List ℕ) → has x (all_named calls) ≡ true → is_some (listed materials.chains x) ≡ true
    → (b : Bool) → is_some (chain_of x held.entries) ≡ b → IsThereUnless now.capacity (all_named calls) now.entries kept x
there_by these same first touched here others materials calls states held now kept stores x given stands true is =
    all_others others (all_named calls) (texts_of materials held.entries calls) states (used_in calls held) now [] kept
    (texts_named these materials.chains held.entries (all_named calls)) stores x
    (inr (touch_here same first touched held.capacity (all_named calls) (all_named calls) held.entries (λ z more stay. more) x given is))
there_by these same first touched here others materials calls states held now kept stores x given stands false is =
    all_here here others (all_named calls) (texts_of materials held.entries calls) states (used_in calls held) now [] kept
    (texts_named these materials.chains held.entries (all_named calls)) stores x
    (these materials.chains held.entries (all_named calls) x
    ∙ named_needed materials.chains held.entries (all_named calls) x given (needs (is_some (listed materials.chains x)) (is_some (chain_of x held.entries)) stands is))
  where
    needs : (b c : Bool) → b ≡ true → c ≡ false → (b && not c) ≡ true
    needs true true one two = absurd (false_is_not_true (sym two))
    needs true false one two = refl
    needs false c one two = absurd (false_is_not_true one)

pub are_there : TheseLaw → SameLaw → TouchedLaw → TouchedOthersLaw → HereLaw → OthersLaw → ThereLaw → (materials : Materials) (calls : List ReadyCall) (states : List State)
    (held now : Holding) (kept : Kept) → length (all_named calls) ≤ held.capacity → StoresAll (texts_of materials held.entries calls) states (used_in calls held) now [] kept
    → AreThere materials.chains now.entries kept (all_named calls)
are_there these same first touched here others there materials calls states held now kept few stores x given = λ stands.
    there materials.chains now.capacity (all_named calls) x now.entries kept given
    (subst (λ n. length (all_named calls) ≤ n) (sym (all_capacity (texts_of materials held.entries calls) states (used_in calls held) now [] kept stores)) few)
    (there_by these same first touched here others materials calls states held now kept stores x given stands (is_some (chain_of x held.entries)) refl) stands

-- ---- the workers
