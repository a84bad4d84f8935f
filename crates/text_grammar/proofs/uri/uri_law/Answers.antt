-- The test and the grammar say the same of a text.
use Rattle.text_grammar.proofs.UriLaws.{run_of_uri, uri_of_run}
use Rattle.text_grammar.proofs.uri.uri_law.Goals as goal

pub returns : goal.returns
returns c = λ text. (uri_of_run text, run_of_uri text)
