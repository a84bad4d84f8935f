-- What is read is what the text holds, in either form.
use Rattle.passport_json.proofs.FoundLaws.{token_found}
use Rattle.passport_json.proofs.laws.token_found_law.Goals as goal

pub returns : goal.returns
returns c = token_found
