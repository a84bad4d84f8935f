-- The rounds of services that go on from one another's states.
use Rattle.verify_service.proofs.RunLaws.{judged_says_first, legal_names_one, legal_pass_once, runs_are_legal, states_hand_on}
use Rattle.verify_service.proofs.RunTimeLaws.{rounds_rise}
use Rattle.verify_service.proofs.laws.rounds_law.Goals as goal

pub returns-clause-rise : goal.returns-clause-rise
returns-clause-rise c = rounds_rise

pub returns-clause-handed : goal.returns-clause-handed
returns-clause-handed c = states_hand_on

pub returns-clause-legal : goal.returns-clause-legal
returns-clause-legal c = runs_are_legal c.legal_in_runs.ensures c.purged_alone.ensures

pub returns-clause-once : goal.returns-clause-once
returns-clause-once c = legal_pass_once c.passes_once.ensures

pub returns-clause-names : goal.returns-clause-names
returns-clause-names c = legal_names_one c.replay_names_one.ensures

pub returns-clause-first : goal.returns-clause-first
returns-clause-first c = judged_says_first
