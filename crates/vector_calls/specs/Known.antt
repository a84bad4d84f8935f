-- What is known of a chain, as a call is judged by it.
use Rattle.verify_rules.specs.States.{State, have, no_chain, long, unread}
use Rattle.vector_calls.specs.declared.verdicts.Known.{Known}
use Rattle.vector_calls.specs.declared.verdicts.Known.TheVariants as kept

abbrev pub known_seen : Known → State
known_seen (kept.Have judged) = have judged
known_seen kept.NoChain = no_chain
known_seen kept.Long = long
known_seen kept.Unread = unread
