-- What is written in the compact form is a token.
use Rattle.passport_json.proofs.SpelledLaws.{compact_is_token}
use Rattle.passport_json.proofs.laws.compact_text_law.Goals as goal

pub returns : goal.returns
returns c = compact_is_token
