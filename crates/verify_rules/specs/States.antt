-- What is known of the certificate chain of a PASSporT when its call is judged.
use Rattle.cert_store.specs.Judged.{JudgedView}
use Rattle.verify_rules.specs.declared.chains.ChainState.{ChainState}
use Rattle.verify_rules.specs.declared.chains.ChainState.TheVariants as held

-- the chain was judged; there is none, since no file is listed for the x5u or the file isn't there; its file has more
-- bytes than a chain may have; or it isn't known, since the file couldn't be read
pub data State : Type 0 where
  have : JudgedView → State
  no_chain : State
  long : State
  unread : State

abbrev pub seen : ChainState → State
seen (held.Have judged) = have judged.now
seen held.NoChain = no_chain
seen held.Long = long
seen held.Unread = unread
