use Rattle.text_grammar.proofs.UriLaws.{uri_utf8}
use Rattle.text_grammar.proofs.uri.uri_text.Goals as goal

-- a URI is text, so the other arm isn't reached
pub unreachable-requires : goal.unreachable-requires
unreachable-requires c = c.in-Err.ensures.cases.0 (uri_utf8 c.args.uri.now c.requires)
