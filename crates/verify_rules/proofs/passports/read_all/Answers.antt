-- The originating PASSporT is the first, and one link more is read or one field passed over.
use Rattle.std.proofs.Common.{◌≡◌, ◌+◌, [], ◌∷◌, ◌++◌, List, sym, ◌∙◌, ap, subst}
use Rattle.verify_rules.specs.Call.{Reading}
use Rattle.verify_rules.specs.Screened.{judged_seen}
use Rattle.verify_rules.specs.Seen.{ReadSoFar, field_seen}
use Rattle.verify_rules.proofs.ReadSteps.{pushed, read_more, read_past, read_start}
use Rattle.verify_rules.proofs.passports.read_all.Goals as goal
use Rattle.verify_rules.proofs.passports.read_all.Goals.{then-is_link+in-Ok-read_passport+else-is_err-2, else-is_link}

pub fields-init : goal.fields-init
fields-init c =
    let one = judged_seen c.in-Ok.one in
    let start = ap (λ (x : List Reading). x ++ one ∷ []) c.new-readings.ensures in
    read_start c.args.facts.now (field_seen c.args.origin.now) c.args.fields.now one c.push.new.self c.in-Ok.ensures.exact
    (pushed c.push.result (c.push.new.self ≡ c.new-readings.result ++ one ∷ []) c.push.ensures (sym c.is_err.ensures.value ∙ c.if-is_err.false) ∙ start)

pub fields-preserved : goal.fields-preserved
fields-preserved c = elim c.if-is_link.branch [
  | then-is_link+in-Ok-read_passport+else-is_err-2 w ↦
      let one = judged_seen w.in-Ok-read_passport.one in
      let now = pushed w.push-in-Ok-read_passport.result (w.push-in-Ok-read_passport.new.self ≡ c.fields.readings ++ one ∷ []) w.push-in-Ok-read_passport.ensures
      (sym w.is_err-in-Ok-read_passport.ensures.value ∙ w.if-is_err-2.false) in
      read_more c.args.facts.now (field_seen c.args.origin.now) c.args.fields.now c.fields.field-index c.field-item.result one c.fields.readings c.if-is_link.readings c.fields.invariant c.fields-test.true
      c.field-item.is (sym c.is_link.ensures ∙ w.if-is_link.true) w.in-Ok-read_passport.ensures.exact w.in-Ok-read_passport.ensures.kind (w.readings-is ∙ now)
  | else-is_link w ↦
      subst (ReadSoFar c.args.facts.now (field_seen c.args.origin.now) c.args.fields.now (c.fields.field-index + 1)) (sym w.readings-is)
      (read_past c.args.facts.now (field_seen c.args.origin.now) c.args.fields.now c.fields.field-index c.field-item.result c.fields.readings c.fields.invariant c.fields-test.true c.field-item.is
      (sym c.is_link.ensures ∙ w.if-is_link.false))
]
