-- one text more, and all of them
use Rattle.std.proofs.Common.{ap, ◌∙◌}
use Rattle.serde_json.proofs.Views.{view-Array}
use Rattle.serde_json.specs.Data.{string}
use Rattle.passport_claims.proofs.ValueLaws.{called_all, called_more, numbers_more, view_text}
use Rattle.passport_claims.proofs.values.called_value.Goals as goal

pub called-preserved : goal.called-preserved
called-preserved c = record {
  texts = called_more c.called.items.items c.push.new.self.items _ c.args.called.now c.called.number-index c.number-item.result c.called-test.true
      c.called.invariant.texts c.number-item.is (view_text c.in_ok-text.text ∙ ap string (c.in_ok-text.ensures.ok ∙ c.as_str.ensures.value)) c.in_ok-push.ensures.items;
  numbers = numbers_more c.args.called.now c.called.number-index c.number-item.result c.called-test.true c.called.invariant.numbers c.number-item.is c.as_str.ensures.number;
}

pub returns-clause-value : goal.returns-clause-value
returns-clause-value c = view-Array c.called.items ∙ called_all c.called.items.items c.args.called.now c.called.number-index c.called-test.false c.called.invariant.texts
