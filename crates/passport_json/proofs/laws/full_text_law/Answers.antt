-- What is written in the full form is a token.
use Rattle.passport_json.proofs.SpelledLaws.{full_is_token}
use Rattle.passport_json.proofs.laws.full_text_law.Goals as goal

pub returns : goal.returns
returns c = full_is_token
