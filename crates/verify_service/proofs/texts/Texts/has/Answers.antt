-- A text that the set has is one of the list.
use Rattle.std.proofs.Common.{ℕ, List, ap, ◌∙◌}
use Rattle.std.specs.List.{list_any}
use Rattle.std.specs.Str.{bytes_eq}
use Rattle.verify_service.proofs.TextLaws.{text_among}
use Rattle.verify_service.proofs.texts.Texts.has.Goals as goal

pub returns : goal.returns
returns c =
    c.contains.ensures ∙ text_among c.args.text.now c.self.inside.texts.keys ∙ ap (λ (texts : List (List ℕ)). list_any (bytes_eq c.args.text.now) texts) c.self.view_is
