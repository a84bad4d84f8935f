-- Each byte is counted.
use Rattle.std.proofs.Common.{eqb, length, ap, ◌∙◌}
use Rattle.text_grammar.specs.Bytes.{is_uri_byte}
use Rattle.text_grammar.proofs.BlockLaws.{all_counted}
use Rattle.text_grammar.proofs.uri.are_uri_bytes.Goals as goal

pub returns : goal.returns
returns c = ap (λ n. eqb n (length c.args.text.now)) c.uri_len.ensures.count ∙ all_counted is_uri_byte c.args.text.now
