-- What a text holds is read, in either form.
use Rattle.passport_json.proofs.CompactLaws.{read_again}
use Rattle.passport_json.proofs.laws.token_law.Goals as goal

pub returns : goal.returns
returns c = read_again
