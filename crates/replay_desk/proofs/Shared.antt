-- A desk and its seats among threads. A desk is shared, and so is what holds seats: a seat that is only lent can do nothing.
-- That a type above with both in it is shared, `search among_threads depth 60` finds.
use denote.RattleType.{RattleType}
use denote.Param.Send.{IsSend, IsSync, Frees, sendable, part_keyless}
use denote.Struct.Struct.{Struct}
use denote.Struct.Owning.{shape}
use Rattle.std.specs.declared.alloc.Allocator as allocator
use Rattle.std.proofs.Crossing.{crosses}
use Rattle.atomic_table.specs.declared.shared.TableRule as rule
use Rattle.atomic_table.specs.contracts.send_lease.SendLease as lease
use Rattle.atomic_table.specs.contracts.shared.Seat as token
use Rattle.atomic_table.specs.contracts.shared.Shared as shared
use Rattle.atomic_table.proofs.Rights.{right_send}
use Rattle.atomic_table.proofs.Sent.{seat_keyless, shares_keyless}
use Rattle.replay_desk.specs.contracts.desk.Desk as desk
use Rattle.replay_desk.specs.contracts.desk.Seat as seat

-- ---- what the table's own parts may do

token_send : (S V : RattleType) → IsSend S → IsSend (token.the_row S V)
token_send S V s = record { owned = λ d vs. ((λ vss. (tt, ((λ uss. (tt, tt)), tt))), seat_keyless S s V.coded.code d.table_id d.id d.me); leaving = λ k f vs. tt }

token_sync : (S V : RattleType) → IsSend S → IsSync (token.the_row S V)
token_sync S V s = record { shared = λ d b o ν q. part_keyless (token.the_row S V) (token_send S V s) q d b o }

shared_sync : (S V K P : RattleType) (g : rule.Ghosts P.Denot S.Denot V.Denot K.Denot) → IsSend S → IsSync (shared.the_row S V K P g)
shared_sync S V K P g s =
    let fields : IsSync (Struct (shape (shared.the_type S V K P g))) = search sendable depth 20 in
    record { shared = λ d b o ν. (fields.shared (d.words, (d.slots, (tt, tt))) b o ν, shares_keyless S s V.coded.code d.table_id (g.holds d.key) d.words d.slots ν) }

lease_sync : (T A : RattleType) (g : allocator.Ghosts A.Denot) → IsSend A → Frees g g.dealloc_token → IsSync (lease.the_row T A g)
lease_sync T A g s f = record { shared = λ d b o ν q. part_keyless (lease.the_row T A g) (right_send T A g f) q d b o }

-- ---- the desk and its seats

pub seat_send : IsSend seat.the_row
seat_send = search (sendable, token_send) depth 30

pub seat_sync : IsSync seat.the_row
seat_sync = search (sendable, token_sync) depth 30

pub desk_sync : IsSync desk.the_row
desk_sync = search (sendable, crosses, shared_sync, lease_sync) depth 60

-- what finds that a type with a desk and seats in it may be sent and shared
pub ruleset among_threads = (sendable, crosses, desk_sync, seat_send, seat_sync)
