use Rattle.std.proofs.Common.{nat_le, rules}
use Rattle.std.proofs.lemmas.Map.Made.{filter_same_pairs}
use Rattle.replay_desk.proofs.past.take_out.Goals as goal

pub returns-clause-left : goal.returns-clause-left
returns-clause-left c = filter_same_pairs _ (λ p. nat_le c.args.moment p.1.last) _ (λ k v b w f t. search rules) _ _ c.retain.ensures.filtered
