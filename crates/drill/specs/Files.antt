-- What is read of the drill's files.
use Rattle.std.specs.Prelude.{◌≡◌, ℕ, Ok}
use Rattle.cert_store.specs.ChainMap.{MapOf}
use Rattle.delegation.specs.Anchors.{anchors_in}
use Rattle.stir_drill.specs.World.{anchors_text, answers_of, chain_map_text, table_text}
use Rattle.stir_outside.specs.Held.{AnswersOf}
use Rattle.tn_auth_list.specs.Grant.{TableOf}
use Rattle.drill.specs.declared.files.DrillFiles.{DrillFiles}

-- it is what the files of the drill of this seed, with so many calls, say
pub record FilesOf (seed count : ℕ) (files : DrillFiles) : Type 0 where
  pub chains : MapOf chain_map_text files.world.chains
  pub anchors : anchors_in anchors_text ≡ Ok files.world.anchors
  pub table : TableOf table_text files.world.table
  pub answers : AnswersOf (answers_of seed count) files.answers
