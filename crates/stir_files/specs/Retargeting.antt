-- The files of `retarget`, in the order of reading (this project's own rule).
use Rattle.std.specs.Prelude.{List, [], ◌∷◌, ◌++◌, Option}
use Rattle.stir_outside.specs.Files.{Files}
use Rattle.stir_words.specs.Order.{RetargetingView}
use Rattle.stir_files.specs.Leaf.{LeafOf, leaf_file}
use Rattle.stir_files.specs.Materials.{MaterialsOf, files_of}
use Rattle.stir_files.specs.Named.{NamedFile, ReadOf}
use Rattle.stir_files.specs.declared.retargeting.RetargetingMaterials.{RetargetingMaterials}

-- the four of `verify`, and the certificate of the holder of the key
abbrev pub retargeting_files : RetargetingView → List NamedFile
retargeting_files words = files_of words.judging ++ leaf_file words.leaf ∷ []

-- what was read is what the files say
pub record RetargetingOf (files : Option Files) (words : RetargetingView)
    (materials : RetargetingMaterials) : Type 0 where
  pub judging : MaterialsOf files words.judging materials.judging
  pub leaf : ReadOf files (leaf_file words.leaf) (λ content. LeafOf content materials.leaf)
