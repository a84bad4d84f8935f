-- A prepared round and its service among threads: they may be lent to several, if a screened call may be. The round holds seats, but a seat that is only
-- lent can do nothing.
use denote.Param.Send.{IsSync, sendable}
use denote.Param.SendFields.{as_row_sync, declared_sync}
use Rattle.std.proofs.Crossing.{crosses}
use Rattle.std.proofs.MapsCrossing as maps
use Rattle.std.proofs.MapsCrossing.{HashMap-sync}
use Rattle.cert_store.specs.contracts.cache.Cache as cache
use Rattle.cert_store.specs.contracts.judged.Judged as judged
use Rattle.cert_store.specs.contracts.map.ChainMap as map
use Rattle.cert_store.specs.contracts.world.World as world
use Rattle.delegation.specs.contracts.anchors.Anchors as anchors
use Rattle.tn_auth_list.specs.contracts.table.CodeTable as table
use Rattle.replay_desk.proofs.Shared.{among_threads}
use Rattle.replay_desk.specs.contracts.past.Past as past
use Rattle.verify_rules.specs.contracts.refusal.Refusal as refusal
use Rattle.verify_rules.specs.contracts.screened.Screened as screened
use Rattle.call_judging.specs.contracts.chains.ChainStatus as chain
use Rattle.verify_service.specs.contracts.kept.KeptChains as kept
use Rattle.verify_service.specs.contracts.outcome.Outcome as outcome
use Rattle.verify_service.specs.contracts.prepared.Prepared as prepared
use Rattle.verify_service.specs.contracts.ready.Round as round
use Rattle.verify_service.specs.contracts.screening.ReadyCall as call
use Rattle.verify_service.specs.contracts.screening.Screening as screening
use Rattle.verify_service.specs.contracts.service.Service as service

refusal_sync : IsSync (refusal.the_field).row
refusal_sync = search among_threads depth 60 fits 50000

screening_sync : IsSync screened.the_row → IsSync (screening.the_field).row
screening_sync s = search (s, refusal_sync, sendable) depth 60 fits 50000

call_sync : IsSync screened.the_row → IsSync call.the_row
call_sync s = declared_sync call.the_type (search (screening_sync, s, as_row_sync, among_threads) depth 60 fits 50000)

judged_sync : IsSync judged.the_row
judged_sync = search (crosses, sendable) depth 60 fits 50000

chain_sync : IsSync chain.the_row
chain_sync = search (among_threads, judged_sync) depth 60 fits 50000

kept_sync : IsSync kept.the_row
kept_sync = search (HashMap-sync, chain_sync, crosses, sendable) depth 60 fits 50000

round_by : IsSync call.the_row → IsSync (round.the_field).row
round_by c = search (among_threads, c, kept_sync) depth 60 fits 50000

round_sync : IsSync screened.the_row → IsSync (round.the_field).row
round_sync s = round_by (call_sync s)

outcome_sync : IsSync outcome.the_row
outcome_sync = search among_threads depth 60 fits 50000

pub prepared_sync : IsSync screened.the_row → IsSync prepared.the_row
prepared_sync s = search ((round_sync s).shared, outcome_sync, among_threads) depth 60 fits 50000

past_sync : IsSync past.the_row
past_sync = search (HashMap-sync, crosses, sendable) depth 60 fits 50000

map_sync : IsSync map.the_row
map_sync = search (maps.crosses, crosses, sendable) depth 60 fits 50000

anchors_sync : IsSync anchors.the_row
anchors_sync = search (crosses, sendable) depth 60 fits 50000

table_sync : IsSync table.the_row
table_sync = search (maps.crosses, crosses, sendable) depth 60 fits 50000

world_sync : IsSync (world.the_field).row
world_sync = search (map_sync, anchors_sync, table_sync, sendable) depth 60 fits 50000

-- a service keeps the calls of a round for their places
service_by : IsSync call.the_row → IsSync cache.the_row → IsSync service.the_row
service_by c k = search (past_sync, world_sync, among_threads) depth 60 fits 50000

pub service_sync : IsSync screened.the_row → IsSync cache.the_row → IsSync service.the_row
service_sync s k = service_by (call_sync s) k
