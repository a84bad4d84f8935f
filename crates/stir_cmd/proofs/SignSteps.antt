-- The steps of `sign` and `divert`: what the call gives of bytes is what is answered to them.
use Rattle.std.proofs.Common.{◌≡◌, ℕ, ◌+◌, ◌≤◌, inr, true, List, length, Option, Some, None, Result, Ok, Err, IfErr, IfOk, refl, subst, arith}
use Rattle.passport_claims.specs.declared.form.Form.{Form}
use Rattle.auth_service.specs.Answer.{names_provider}
use Rattle.auth_service.specs.Order.{HolderView, OrderView}
use Rattle.auth_service.specs.Promise.{IsPromised}
use Rattle.auth_service.specs.declared.fault.SignFault.{SignFault}
use Rattle.auth_service.specs.declared.fault.SignFault.TheVariants as faults
use Rattle.stir_files.specs.Named.{NamedFile}
use Rattle.stir_files.specs.Signing.{IsHolderOf, SigningOf, signing_files}
use Rattle.stir_files.specs.declared.signing.HolderMaterials.{HolderMaterials}
use Rattle.stir_files.specs.declared.signing.SigningMaterials.{SigningMaterials}
use Rattle.stir_files.specs.Stop.{Truly}
use Rattle.stir_outside.specs.Count.{Rose}
use Rattle.stir_outside.specs.Files.{Counts, CountsGoOn, Files}
use Rattle.stir_words.specs.Order.{HolderNames}
use Rattle.stir_cmd.specs.Input.{RanInput}
use Rattle.stir_cmd.specs.Outside.{Outside, io, outside}
use Rattle.stir_cmd.specs.Signing.{GivesMessage, GivesWhy, HasList, SignCommand, files_named, sign_answering, sign_course, sign_over}
use Rattle.stir_cmd.specs.Stopping.{EndsEarly}
use Rattle.stir_cmd.proofs.OverFilesSteps.{goes_on}

abbrev Signs : Type 0
Signs = List ℕ → List ℕ → Option (List ℕ)

-- ---- what the call gives

pub gives_of : {V : Type 0} (items : V → List ℕ) (order : OrderView) (holder : Option HolderView) (signs : Signs) (bytes : List ℕ) (result : Result V SignFault)
    → IsPromised items bytes order holder signs result → IfOk result (λ out. GivesMessage order holder signs bytes (items out))
gives_of items order holder signs bytes (Ok out) p = record { gives = p.exact; says = p.is_signed }
gives_of items order holder signs bytes (Err why) p = tt

never : Rose 0 0 → ⊥
never rose = omega (arith, rose (λ e. omega (arith, e)))

pub refuses_of : {V : Type 0} (items : V → List ℕ) (order : OrderView) (holder : Option HolderView) (signs : Signs) (bytes : List ℕ) (result : Result V SignFault)
    → IsPromised items bytes order holder signs result → (names_provider result ≡ true → Rose 0 0) → IfErr result (GivesWhy order holder signs bytes)
refuses_of items order holder signs bytes (Ok out) p failed = tt
refuses_of items order holder signs bytes (Err faults.Form) p failed = record { decided = refl; gives = p.exact; caused = p.causes }
refuses_of items order holder signs bytes (Err faults.NoNumber) p failed = record { decided = refl; gives = p.exact; caused = p.causes }
refuses_of items order holder signs bytes (Err faults.Authority) p failed = record { decided = refl; gives = p.exact; caused = p.causes }
refuses_of items order holder signs bytes (Err (faults.NoSignature digest)) p failed = record { decided = refl; gives = p.exact; caused = p.causes }
refuses_of items order holder signs bytes (Err faults.Provider) p failed = absurd (never (failed refl))
refuses_of items order holder signs bytes (Err faults.Memory) p failed = tt

-- ---- the files

in_holder : (files : Option Files) (names : Option HolderNames) (holder : Option HolderMaterials) → IsHolderOf files names holder → HasList holder
in_holder files names None h = tt
in_holder files None (Some holder) h = absurd h
in_holder files (Some names) (Some holder) h = h.leaf.holds.listed

pub has_list : (files : Option Files) (answers : List ℕ) (names : Option HolderNames) (materials : SigningMaterials) → SigningOf files answers names materials → HasList materials.holder
has_list files answers names materials s = in_holder files names materials.holder s.held

same_named : (command : SignCommand) (answers : List ℕ) (names : Option HolderNames) → answers ≡ command.answers → names ≡ command.holder → signing_files answers names ≡ files_named command
same_named command answers names same_answers same_holder = λ i. signing_files (same_answers i) (same_holder i)

same_stands : (command : SignCommand) (files : Option Files) (answers : List ℕ) (names : Option HolderNames) (materials : SigningMaterials) → answers ≡ command.answers → names ≡ command.holder
    → SigningOf files answers names materials → SigningOf files command.answers command.holder materials
same_stands command files answers names materials same_answers same_holder stands =
    subst (λ (x : Option HolderNames). SigningOf files command.answers x materials) same_holder (subst (λ (x : List ℕ). SigningOf files x names materials) same_answers stands)

-- the files were read
pub from_files : (command : SignCommand) (answers : List ℕ) (names : Option HolderNames) (materials : SigningMaterials) (files files_now : Option Files) (counts counts_now : Counts)
    (left left_now : Option (List ℕ)) (reads reads_now : ℕ) (written written_now : Option (List ℕ)) (writes writes_now status : ℕ) → answers ≡ command.answers → names ≡ command.holder
    → files_now ≡ files → CountsGoOn counts counts_now → counts_now.reads ≤ counts.reads + length (signing_files answers names) → SigningOf files answers names materials → Truly files (signing_files answers names) (Ok materials)
    → RanInput (sign_answering command.order materials) (io left reads written writes) (io left_now reads_now written_now writes_now) status
    → (sign_course command).Came (outside files counts left reads written writes) (outside files_now counts_now left_now reads_now written_now writes_now) status
from_files command answers names materials files files_now counts counts_now left left_now reads reads_now written written_now writes writes_now status same_answers same_holder same goes few stands truly ran =
    goes_on (sign_over command) materials files files_now counts counts_now left reads written writes (outside files_now counts_now left_now reads_now written_now writes_now) status
    (same_stands command files answers names materials same_answers same_holder stands)
    (subst (λ (x : List NamedFile). Truly files x (Ok materials)) (same_named command answers names same_answers same_holder) truly) same goes
    (subst (λ (x : List NamedFile). counts_now.reads ≤ counts.reads + length x) (same_named command answers names same_answers same_holder) few) (omega arith) (record { counts = refl; ran = ran })

-- one of them stopped it
pub from_stop : (command : SignCommand) (answers : List ℕ) (names : Option HolderNames) (before now : Outside) (status : ℕ) → answers ≡ command.answers → names ≡ command.holder
    → EndsEarly (signing_files answers names) before now status → (sign_course command).Came before now status
from_stop command answers names before now status same_answers same_holder early =
    inr (subst (λ (x : List NamedFile). EndsEarly x before now status) (same_named command answers names same_answers same_holder) early)

-- ---- what the words say can be signed
