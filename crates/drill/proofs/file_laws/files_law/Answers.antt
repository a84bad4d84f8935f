use Rattle.drill.proofs.FileLaws.{good_anchors, good_map, good_table}
use Rattle.drill.proofs.file_laws.files_law.Goals as goal

pub returns-clause-chains : goal.returns-clause-chains
returns-clause-chains c = good_map

pub returns-clause-anchors : goal.returns-clause-anchors
returns-clause-anchors c = good_anchors

pub returns-clause-table : goal.returns-clause-table
returns-clause-table c = good_table
