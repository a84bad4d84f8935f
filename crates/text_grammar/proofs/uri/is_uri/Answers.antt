-- What tests the text tells whether it is a run of uri bytes.
use Rattle.text_grammar.proofs.UriLaws.{test_is_run}
use Rattle.text_grammar.proofs.uri.is_uri.Goals as goal

pub returns-clause-run : goal.returns-clause-run
returns-clause-run c = test_is_run c.args.text.now c.has_form_of_uri.result c.has_form_of_uri.ensures
