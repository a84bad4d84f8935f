-- The four files of `verify`, in the order of reading (this project's own rule).
use Rattle.std.specs.Prelude.{List, [], ◌∷◌, Option}
use Rattle.stir_outside.specs.Files.{Files}
use Rattle.stir_outside.specs.Held.{AnswersOf}
use Rattle.tn_auth_list.specs.Grant.{TableOf}
use Rattle.cert_store.specs.ChainMap.{MapOf}
use Rattle.stir_words.specs.Order.{JudgingView}
use Rattle.stir_files.specs.Named.{AnchorsOf, NamedFile, ReadOf, anchor_file, answers_file, chain_map, code_table}
use Rattle.stir_files.specs.declared.materials.Materials.{Materials}

abbrev pub files_of : JudgingView → List NamedFile
files_of judging = chain_map judging.chains ∷ anchor_file judging.anchors ∷ code_table judging.table
    ∷ answers_file judging.answers ∷ []

-- what was read is what the files say
pub record MaterialsOf (files : Option Files) (judging : JudgingView) (materials : Materials) : Type 0 where
  pub chains : ReadOf files (chain_map judging.chains) (λ content. MapOf content materials.world.chains)
  pub anchors : ReadOf files (anchor_file judging.anchors) (λ content. AnchorsOf content materials.world.anchors)
  pub table : ReadOf files (code_table judging.table) (λ content. TableOf content materials.world.table)
  pub answers : ReadOf files (answers_file judging.answers) (λ content. AnswersOf content materials.answers)
