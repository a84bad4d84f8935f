-- The name of a file in a chain map.
use Rattle.cert_store.proofs.NameLaws.{is_name, named, some_name}
use Rattle.cert_store.proofs.laws.file_name_law.Goals as goal

pub returns-clause-name : goal.returns-clause-name
returns-clause-name c = λ word. (is_name word, named word)

pub returns-clause-some : goal.returns-clause-some
returns-clause-some c = some_name
