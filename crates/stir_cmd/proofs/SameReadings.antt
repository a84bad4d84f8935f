-- Two readings of the same text say the same, however a chain map, a code table or answers are kept.
use Rattle.std.proofs.Common.{◌≡◌, ◌↔◌, ℕ, List, Some, Result, Ok, sym, ◌∙◌, ap, subst}
use Rattle.std.proofs.lemmas.Option.{same_Some}
use Rattle.cert_store.specs.ChainMap.{MapOf, file_in, listed}
use Rattle.cert_store.specs.Files.{Files as ChainFiles}
use Rattle.stir_outside.specs.AnswersText.{says as says_in}
use Rattle.stir_outside.specs.Held.{AnswersOf, Held, held_says}
use Rattle.tn_auth_list.specs.CodeTable.{Grants}
use Rattle.tn_auth_list.specs.Grant.{GrantHolds, TableOf, grant_in}
use Rattle.tn_auth_list.specs.declared.table_groups.Held.{Held as Granted}
use Rattle.stir_files.specs.Materials.{MaterialsOf}
use Rattle.stir_files.specs.Named.{AnchorsOf, NamedFile, ReadOf, anchor_file, answers_file, chain_map, code_table}
use Rattle.stir_files.specs.declared.materials.Materials.{Materials}
use Rattle.stir_outside.specs.Files.{Files}
use Rattle.stir_words.specs.Order.{JudgingView}
use Rattle.verify_rules.specs.Call.{Call}
use Rattle.verify_rules.specs.SameWorld.{SayTheSame}
use Rattle.verify_rules.specs.World.{First, World}
use Rattle.stir_cmd.specs.Calls.{world_by}
use Rattle.stir_cmd.specs.OneReport.{AreOneMap}
use Rattle.stir_cmd.specs.Outside.{IfTold, Outside}

pub one_ok : {X : Type 0} (a b : X) (r : Result X ℕ) → r ≡ Ok a → r ≡ Ok b → a ≡ b
one_ok a b r is there = let both : Ok a ≡ Ok b = sym is ∙ there in cc

pub one_map : (content : List ℕ) (mine yours : ChainFiles) → MapOf content mine → MapOf content yours → (x5u : List ℕ) → listed mine x5u ≡ listed yours x5u
one_map content mine yours a b x5u = a.files x5u ∙ ap (λ rows. file_in rows x5u) (one_ok a.rows b.rows _ a.read b.read) ∙ sym (b.files x5u)

pub one_table : (content : List ℕ) (mine yours : List (List ℕ × Granted)) → TableOf content mine → TableOf content yours → (code number : List ℕ)
    → GrantHolds (grant_in mine code) number ↔ GrantHolds (grant_in yours code) number
one_table content mine yours a b code number =
    let rows = one_ok a.rows b.rows _ a.read b.read in (
      (λ h. ((b.grants code).holds number).1 (subst (λ r. Grants r code number) rows (((a.grants code).holds number).0 h))),
      (λ h. ((a.grants code).holds number).1 (subst (λ r. Grants r code number) (sym rows) (((b.grants code).holds number).0 h))),
    )

pub one_answers : (content : List ℕ) (mine yours : Held) → AnswersOf content mine → AnswersOf content yours → held_says mine ≡ held_says yours
one_answers content mine yours a b = a.says ∙ ap says_in (one_ok a.rows b.rows _ a.read b.read) ∙ sym b.says

-- ---- what was read of the same files

-- one file was read twice, of files that are the same as maps
pub one_content : (files others : Files) → AreOneMap files others → (named : NamedFile) (P Q : List ℕ → Type 0) (mine : ReadOf (Some files) named P) (yours : ReadOf (Some others) named Q)
    → mine.content ≡ yours.content
one_content files others same named P Q mine yours =
    let first = mine.told in let second = yours.told in same_Some mine.content yours.content (sym first ∙ same named.name ∙ second)

pub same_says : (files others : Files) → AreOneMap files others → (judging : JudgingView) (mine yours : Materials) → MaterialsOf (Some files) judging mine → MaterialsOf (Some others) judging yours
    → SayTheSame (world_by mine files) (world_by yours others)
same_says files others same judging mine yours a b = record {
  chains = one_map b.chains.content mine.world.chains yours.world.chains (subst (λ c. MapOf c mine.world.chains) (one_content files others same (chain_map judging.chains) _ _ a.chains b.chains) a.chains.holds) b.chains.holds;
  files = same;
  anchors =
      one_ok mine.world.anchors yours.world.anchors _ (subst (λ c. AnchorsOf c mine.world.anchors) (one_content files others same (anchor_file judging.anchors) _ _ a.anchors b.anchors) a.anchors.holds).read
      b.anchors.holds.read;
  grants = one_table b.table.content mine.world.table yours.world.table (subst (λ c. TableOf c mine.world.table) (one_content files others same (code_table judging.table) _ _ a.table b.table) a.table.holds) b.table.holds;
  says = one_answers b.answers.content mine.answers yours.answers
      (subst (λ c. AnswersOf c mine.answers) (one_content files others same (answers_file judging.answers) _ _ a.answers b.answers) a.answers.holds) b.answers.holds;
}

abbrev pub SameWorldLaw : Type 0
SameWorldLaw = (world other : World) → SayTheSame world other → (call : Call) → First world call ≡ First other call

-- what is said of a run whose files and log these are
pub told_of : (Said : Files → List ℕ → Outside → Outside → ℕ → Type 0) (files : Files) (bytes : List ℕ) (before now : Outside) (status : ℕ) → before.files ≡ Some files → before.left ≡ Some bytes
    → IfTold before.files before.left (λ f b. Said f b before now status) → Said files bytes before now status
told_of Said files bytes before now status same_files same_log said =
    subst (λ left. IfTold (Some files) left (λ f b. Said f b before now status)) same_log
    (subst (λ told. IfTold told before.left (λ f b. Said f b before now status)) same_files said)
