-- A call whose message has another request URI says the same by rules 1 to 7.
use Rattle.std.proofs.Common.{◌≡◌, ℕ, List, [], ◌∷◌, refl, ap, ◌∙◌}
use Rattle.std.specs.Option.{option_or}
use Rattle.tn_values.specs.Local.{LocalView}
use Rattle.sip_message.specs.Message.{MessageView}
use Rattle.sip_message.specs.Target.{to_uri}
use Rattle.verify_rules.specs.Call.{Call, IdentityField, facts, facts_of, fields_of, in_message, judged_fields, read_call, read_field, readings_of}
use Rattle.verify_rules.specs.Moved.{HoldsMoved, SaysSame}
use Rattle.verify_rules.specs.Rules.{each, other_calling, unreadable}
use Rattle.verify_rules.specs.declared.settings.Settings.{Settings}

abbrev moved : Settings → ℕ → MessageView → List ℕ → Call
moved settings later message uri = read_call settings later (to_uri message uri)

unreadable_same : (local : LocalView) (message : MessageView) (uri : List ℕ) (fields : List IdentityField)
    → each (unreadable (facts_of local (to_uri message uri))) fields ≡ each (unreadable (facts_of local message)) fields
unfolding unreadable read_field
unreadable_same local message uri [] = refl
unreadable_same local message uri (field ∷ fields) = ap (option_or (unreadable (facts_of local (to_uri message uri)) field)) (unreadable_same local message uri fields)

readings_same : (local : LocalView) (message : MessageView) (uri : List ℕ) (fields : List IdentityField)
    → readings_of (facts_of local (to_uri message uri)) fields ≡ readings_of (facts_of local message) fields
unfolding read_field
readings_same local message uri fields = refl

pub says_same : SaysSame
says_same settings other moment later message uri same =
    let fields : List IdentityField = judged_fields (fields_of (read_call settings moment message)) in
    readings_same other.local message uri fields ∙ ap (λ local. readings_of (facts_of local message) fields) same

pub holds_moved : HoldsMoved
unfolding other_calling
holds_moved settings other moment later message uri same (one, (two, (three, (four, (five, (six, (seven, end))))))) =
    let fields : List IdentityField = judged_fields (fields_of (read_call settings moment message)) in
    let calling_same = ap (λ local. (facts_of local message).calling) same in (
      one,
      (
        two,
        (
          three,
          (
            four,
            (
              five,
              (
                unreadable_same other.local message uri fields ∙ ap (λ local. each (unreadable (facts_of local message)) fields) same ∙ six,
                (
                  ap (each (other_calling (facts (moved other later message uri)).calling)) (says_same settings other moment later message uri same)
                      ∙ ap (λ calling. each (other_calling calling) (in_message (read_call settings moment message))) calling_same ∙ seven,
                  end,
                ),
              ),
            ),
          ),
        ),
      ),
    )
