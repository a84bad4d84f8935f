-- Rounds and turns one after another.
use Rattle.std.proofs.Common.{[], ◌∷◌, refl, sym, subst}
use Rattle.replay_law.specs.Held.{purged}
use Rattle.replay_law.specs.Round.{Rounds}
use Rattle.replay_law.specs.Turn.{Turn}
use Rattle.replay_law.specs.Law.{MoreRounds, OneRoundMore, PurgedAlone, OneTurnMore}
use Rattle.replay_law.proofs.TurnLaws.{same_is_one, settled_alone}

pub more_rounds : MoreRounds
more_rounds past middle next [] more runs behind = subst (λ h. Rounds h more next) (sym (same_is_one past middle runs)) behind
more_rounds past middle next (round ∷ rounds) more (left, settled, runs) behind = (left, settled, more_rounds left middle next rounds more runs behind)

pub one_round_more : OneRoundMore
one_round_more past middle next rounds round runs settled = more_rounds past middle next rounds (round ∷ []) runs (next, settled, λ ticket. refl)

pub one_turn_more : OneTurnMore
one_turn_more held middle next [] row same turn = (next, subst (λ h. Turn h row next) (sym (same_is_one held middle same)) turn, λ ticket. refl)
one_turn_more held middle next (r ∷ rows) row (left, first, turns) turn = (left, first, one_turn_more left middle next rows row turns turn)

pub purged_alone : PurgedAlone
purged_alone past next moment same = settled_alone (purged moment past) next same
