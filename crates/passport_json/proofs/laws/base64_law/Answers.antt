-- What base64url text is written in.
use Rattle.passport_json.proofs.SignedLaws.{encoded_lacks}
use Rattle.passport_json.proofs.SpelledLaws.{symbols, symbols_length}
use Rattle.passport_json.proofs.laws.base64_law.Goals as goal

pub returns-clause-symbols : goal.returns-clause-symbols
returns-clause-symbols c = symbols

pub returns-clause-dots : goal.returns-clause-dots
returns-clause-dots c = encoded_lacks

pub returns-clause-size : goal.returns-clause-size
returns-clause-size c = symbols_length
