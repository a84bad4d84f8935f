-- The files of `sign` and `divert`, in the order of reading (this project's own rule).
use Rattle.std.specs.Prelude.{ℕ, List, [], ◌∷◌, Option, Some, None}
use Rattle.stir_outside.specs.Files.{Files}
use Rattle.stir_outside.specs.Held.{AnswersOf}
use Rattle.tn_auth_list.specs.Grant.{TableOf}
use Rattle.stir_words.specs.Order.{HolderNames}
use Rattle.stir_files.specs.Leaf.{LeafOf, leaf_file}
use Rattle.stir_files.specs.Named.{NamedFile, ReadOf, answers_file, code_table}
use Rattle.stir_files.specs.declared.signing.HolderMaterials.{HolderMaterials}
use Rattle.stir_files.specs.declared.signing.SigningMaterials.{SigningMaterials}

-- the certificate of the holder of the key and the code table, if they are named
abbrev pub holder_files : Option HolderNames → List NamedFile
holder_files None = []
holder_files (Some names) = leaf_file names.leaf ∷ code_table names.table ∷ []

-- the answers, and after them the files of the holder
abbrev pub signing_files : List ℕ → Option HolderNames → List NamedFile
signing_files answers holder = answers_file answers ∷ holder_files holder

-- what was read is what the files say
pub record HolderOf (files : Option Files) (names : HolderNames) (holder : HolderMaterials) : Type 0 where
  pub leaf : ReadOf files (leaf_file names.leaf) (λ content. LeafOf content holder.leaf)
  pub table : ReadOf files (code_table names.table) (λ content. TableOf content holder.table)

-- a holder was read exactly if one is named
abbrev pub IsHolderOf : Option Files → Option HolderNames → Option HolderMaterials → Type 0
IsHolderOf files None None = Unit {0}
IsHolderOf files None (Some holder) = ⊥
IsHolderOf files (Some names) None = ⊥
IsHolderOf files (Some names) (Some holder) = HolderOf files names holder

pub record SigningOf (files : Option Files) (answers : List ℕ) (holder : Option HolderNames)
    (materials : SigningMaterials) : Type 0 where
  pub answered : ReadOf files (answers_file answers) (λ content. AnswersOf content materials.answers)
  pub held : IsHolderOf files holder materials.holder
