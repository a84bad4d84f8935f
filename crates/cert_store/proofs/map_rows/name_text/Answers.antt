-- A file's name is text, so the other arm isn't reached.
use Rattle.cert_store.proofs.FileNames.{name_utf8}
use Rattle.cert_store.proofs.map_rows.name_text.Goals as goal

pub unreachable-requires : goal.unreachable-requires
unreachable-requires c = c.in-Err.ensures.cases.0 (name_utf8 c.args.name.now c.requires)
