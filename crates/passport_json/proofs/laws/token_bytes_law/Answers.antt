-- Of what bytes the text of a token is, and of how many.
use Rattle.passport_json.proofs.SpelledLaws.{compact_run, compact_size, full_run, full_size}
use Rattle.passport_json.proofs.laws.token_bytes_law.Goals as goal

pub returns : goal.returns
returns c = record { full = full_run; compact = compact_run; full_size = full_size; compact_size = compact_size }
