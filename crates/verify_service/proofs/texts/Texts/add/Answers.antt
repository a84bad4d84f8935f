-- A text that was put into the set is last in the list.
use Rattle.std.proofs.Common.{ℕ, List, [], ◌∷◌, map, ap, ◌∙◌}
use Rattle.std.specs.Vec.{vec_items}
use Rattle.verify_service.specs.Needed.{once}
use Rattle.verify_service.proofs.TextLaws.{text_added}
use Rattle.verify_service.proofs.texts.Texts.add.Goals as goal

pub returns : goal.returns
returns c =
    ap (map vec_items) c.in_ok-insert.ensures.keys ∙ text_added c.self.inside.texts.keys c.in_ok-own.own
    ∙ ap (λ (text : List ℕ). once (map vec_items c.self.inside.texts.keys) (text ∷ [])) c.in_ok-own.ensures.items
    ∙ ap (λ (texts : List (List ℕ)). once texts (c.args.text.now ∷ [])) c.self.view_is
