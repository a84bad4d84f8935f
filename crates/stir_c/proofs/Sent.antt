-- Which of the types that a slot owns may go to another thread. Assumes nothing.
use denote.Param.Send.{IsSend, IsSync, sendable}
use Rattle.std.proofs.Crossing.{crosses}
use Rattle.std.proofs.MapsCrossing as maps
use Rattle.std.proofs.MapsCrossing.{String-send}
use Rattle.call_judging.specs.contracts.chains.ChainStatus as status
use Rattle.cert_store.specs.contracts.judged.Judged as judged
use Rattle.delegation.specs.contracts.anchors.Anchors as anchors
use Rattle.open_calls.specs.contracts.call.OpenCall as call
use Rattle.open_calls.specs.contracts.chain.OpenChain as chain
use Rattle.open_calls.specs.contracts.world.OpenWorld as world
use Rattle.passport_claims.specs.contracts.kind.Kind as kind
use Rattle.passport_claims.specs.contracts.passport.Passport as passport
use Rattle.serde_json.proofs.value.Value.TheLaws.TheKnot as knot
use Rattle.serde_json.specs.contracts.value.Value as value
use Rattle.tn_auth_list.specs.contracts.table.CodeTable as table
use Rattle.tn_values.specs.contracts.numbering.Local as local
use Rattle.tn_values.specs.contracts.numbers.Number as number
use Rattle.verify_rules.specs.contracts.judged_passport.JudgedPassport as judged_passport
use Rattle.verify_rules.specs.contracts.readings.Readings as readings
use Rattle.verify_rules.specs.contracts.refusal.Refusal as refusal
use Rattle.verify_rules.specs.contracts.screened.Screened as screened
use Rattle.verify_rules.specs.contracts.settings.Settings as settings
use Rattle.verify_rules.specs.contracts.signed_token.SignedToken as signed_token
use Rattle.stir_c.specs.contracts.call_chains.CallChains as chains

number_send : IsSend number.the_row
number_send = search (crosses, sendable) depth 60 fits 50000

number_sync : IsSync number.the_row
number_sync = search (crosses, sendable) depth 60 fits 50000

local_send : IsSend local.the_row
local_send = search (number_send, sendable) depth 60 fits 50000

local_sync : IsSync local.the_row
local_sync = search (number_sync, sendable) depth 60 fits 50000

settings_send : IsSend settings.the_row
settings_send = search (local_send, sendable) depth 60 fits 50000

settings_sync : IsSync settings.the_row
settings_sync = search (local_sync, sendable) depth 60 fits 50000

anchors_send : IsSend anchors.the_row
anchors_send = search (crosses, sendable) depth 60 fits 50000

anchors_sync : IsSync anchors.the_row
anchors_sync = search (crosses, sendable) depth 60 fits 50000

table_send : IsSend table.the_row
table_send = search (maps.crosses, crosses, sendable) depth 60 fits 50000

table_sync : IsSync table.the_row
table_sync = search (maps.crosses, crosses, sendable) depth 60 fits 50000

pub world_send : IsSend world.the_row
world_send = search (settings_send, anchors_send, table_send, sendable) depth 60 fits 50000

pub world_sync : IsSync world.the_row
world_sync = search (settings_sync, anchors_sync, table_sync, sendable) depth 60 fits 50000

judged_send : IsSend judged.the_row
judged_send = search (crosses, sendable) depth 60 fits 50000

judged_sync : IsSync judged.the_row
judged_sync = search (crosses, sendable) depth 60 fits 50000

status_send : IsSend (status.the_field).row
status_send = search (judged_send, sendable) depth 60 fits 50000

status_sync : IsSync (status.the_field).row
status_sync = search (judged_sync, sendable) depth 60 fits 50000

pub chain_send : IsSend chain.the_row
chain_send = search (crosses, status_send, sendable) depth 100 fits 50000

pub chain_sync : IsSync chain.the_row
chain_sync = search (crosses, status_sync, sendable) depth 100 fits 50000

value_send : IsSend value.the_row
value_send = first_of (search (maps.crosses, crosses, knot.crosses, sendable) depth 60 fits 50000, search (maps.crosses, crosses, knot.crosses_both, sendable) depth 60 fits 50000)

token_send : IsSend signed_token.the_row
token_send = search (value_send, maps.crosses, crosses, knot.crosses, sendable) depth 60 fits 50000

kind_send : IsSend kind.the_row
kind_send = search (number_send, sendable) depth 60 fits 50000

passport_send : IsSend passport.the_row
passport_send = search (kind_send, number_send, String-send, crosses, sendable) depth 60 fits 50000

judged_passport_send : IsSend judged_passport.the_row
judged_passport_send = search (token_send, passport_send, sendable) depth 60 fits 50000

readings_send : IsSend readings.the_row
readings_send = search (judged_passport_send, crosses, sendable) depth 60 fits 50000

screened_send : IsSend screened.the_row
screened_send = search (readings_send, sendable) depth 60 fits 50000

refusal_send : IsSend refusal.the_row
refusal_send = search sendable depth 60 fits 50000

pub call_send : IsSend call.the_row
call_send = search (settings_send, screened_send, refusal_send, crosses, sendable) depth 60 fits 50000

pub chains_send : IsSend chains.the_row
chains_send = search (chain_send, chain_sync, crosses, sendable) depth 60 fits 50000
