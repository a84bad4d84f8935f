-- The chain at an index, as the rules take it.
use Rattle.std.proofs.Common.{◌≡◌, ◌<◌, List, Option, Some, length, map, sym, ◌∙◌, ap, subst, arith}
use Rattle.std.specs.List.{slice_get}
use Rattle.std.specs.Option.{option_copied}
use Rattle.std.proofs.lemmas.List.{length-map}
use Rattle.verify_rules.specs.States.{seen}
use Rattle.open_calls.specs.OpenChains.{ChainView, state_or_none, states_of}
use Rattle.open_calls.proofs.ListLaws.{seen_at}
use Rattle.open_calls.proofs.chains.OpenChainsChains.state.Goals as goal

pub returns : goal.returns
returns c =
    let items = c.self.inside.chains.items in
    let size : length (states_of c.args.self.now) ≡ length items =
    ap (λ (v : List (Option ChainView)). length (states_of v)) (sym c.self.view_is) ∙ length-map (map option_copied items) state_or_none ∙ length-map items option_copied in
    let within : c.args.i < length items = omega (arith, size, c.requires) in
    subst (λ (v : List (Option ChainView)). slice_get (states_of v) c.args.i ≡ Some (seen c.state_of.result)) c.self.view_is
    (seen_at option_copied state_or_none c.self.inside.chains.items c.args.i _ (seen c.state_of.result) within c.index.ensures c.state_of.ensures)
