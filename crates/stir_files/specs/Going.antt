-- The files of `verify` for a log that goes on from the state of an earlier run, in the order of reading (this
-- project's own rule).
use Rattle.std.specs.Prelude.{ℕ, List, [], ◌∷◌, Option}
use Rattle.stir_outside.specs.Files.{Files}
use Rattle.stir_words.specs.Order.{JudgingView}
use Rattle.stir_files.specs.Materials.{MaterialsOf}
use Rattle.stir_files.specs.Named.{NamedFile, ReadOf, anchor_file, answers_file, chain_map, code_table}
use Rattle.stir_files.specs.StateFile.{StateOf, state_file}
use Rattle.stir_files.specs.declared.going.GoingMaterials.{GoingMaterials}

-- the four files, and after them the state, whose window is that of the words
abbrev pub going_files : JudgingView → List ℕ → List NamedFile
going_files judging state = chain_map judging.chains ∷ anchor_file judging.anchors ∷ code_table judging.table
    ∷ answers_file judging.answers ∷ state_file judging.settings.past state ∷ []

-- what was read is what the files say
pub record GoingOf (files : Option Files) (words : JudgingView) (name : List ℕ)
    (materials : GoingMaterials) : Type 0 where
  pub judging : MaterialsOf files words materials.judging
  pub state : ReadOf files (state_file words.settings.past name)
      (λ content. StateOf words.settings.past content materials.state)
