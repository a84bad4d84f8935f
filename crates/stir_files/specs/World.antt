-- The three files of `ask`, in the order of reading (this project's own rule).
use Rattle.std.specs.Prelude.{List, [], ◌∷◌, Option}
use Rattle.stir_outside.specs.Files.{Files}
use Rattle.tn_auth_list.specs.Grant.{TableOf}
use Rattle.cert_store.specs.ChainMap.{MapOf}
use Rattle.stir_words.specs.Order.{AskingView}
use Rattle.stir_files.specs.Named.{AnchorsOf, NamedFile, ReadOf, anchor_file, chain_map, code_table}
use Rattle.cert_store.specs.declared.world.World.{World}

abbrev pub world_files : AskingView → List NamedFile
world_files asking = chain_map asking.chains ∷ anchor_file asking.anchors ∷ code_table asking.table ∷ []

-- what was read is what the files say
pub record WorldOf (files : Option Files) (asking : AskingView) (world : World) : Type 0 where
  pub chains : ReadOf files (chain_map asking.chains) (λ content. MapOf content world.chains)
  pub anchors : ReadOf files (anchor_file asking.anchors) (λ content. AnchorsOf content world.anchors)
  pub table : ReadOf files (code_table asking.table) (λ content. TableOf content world.table)
