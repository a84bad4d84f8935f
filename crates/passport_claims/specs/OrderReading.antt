-- The order of the links, or the first fault, as a function: what is tried, one after another.
use Rattle.std.specs.Prelude.{ℕ, zero, suc, ◌==◌, ◌+◌, ◌-◌, Bool, false, ◌||◌, not, nat_lt, List, [], ◌∷◌, length}
use Rattle.std.specs.Prelude.{Option, Some, None, is_some, Result, Ok, Err, if◌then◌else◌}
use Rattle.std.specs.List.{list_any}
use Rattle.std.specs.Option.{option_map_or}
use Rattle.std.specs.Str.{bytes_eq}
use Rattle.passport_claims.specs.Passport.{ClaimsView}
use Rattle.passport_claims.specs.Links.{dest_at, div_at}
use Rattle.passport_claims.specs.Order.{is_among, last_of}
use Rattle.passport_claims.specs.declared.order.ChainFault.{ChainFault}

-- a fault of this kind, shown by this link
abbrev pub fault_at : ℕ → ℕ → ChainFault
fault_at kind link = record { kind = kind; link = link }

-- the first of so many numbers, from this one on, that passes the test
unfoldable pub first_from : (ℕ → Bool) → ℕ → ℕ → Option ℕ
first_from test number zero = None
first_from test number (suc room) = if test number then Some number else first_from test (suc number) room

-- ---- tests of a link

-- the other link has its div or its dest
unfoldable pub is_twin : List ClaimsView → ℕ → ℕ → Bool
is_twin links link other =
    bytes_eq (div_at links other) (div_at links link) || bytes_eq (dest_at links other) (dest_at links link)

-- its div is its own dest, or an earlier link has its div or its dest
unfoldable pub repeats : List ClaimsView → ℕ → Bool
repeats links link =
    bytes_eq (div_at links link) (dest_at links link) || is_some (first_from (is_twin links link) 1 (link - 1))

-- its dest is this number
unfoldable pub leads_to : List ClaimsView → List ℕ → ℕ → Bool
leads_to links number link = bytes_eq (dest_at links link) number

-- its div is this number
unfoldable pub leads_from : List ClaimsView → List ℕ → ℕ → Bool
leads_from links number link = bytes_eq (div_at links link) number

-- its div is no link's dest
unfoldable pub may_start : List ClaimsView → ℕ → Bool
may_start links link = not (is_some (first_from (leads_to links (div_at links link)) 1 (length links)))

-- it isn't among these
unfoldable pub is_left : List ℕ → ℕ → Bool
is_left turn link = not (is_among link turn)

-- ---- the order

-- the number is one of these
abbrev pub is_one_of : List (List ℕ) → List ℕ → Bool
is_one_of numbers number = list_any (λ other. bytes_eq other number) numbers

-- the start, if no other may start and its div is one of these dests
abbrev pub only_start : List (List ℕ) → List ClaimsView → ℕ → Option ℕ → Result ℕ ChainFault
only_start dests links start (Some second) = Err (fault_at 3 second)
only_start dests links start None = if is_one_of dests (div_at links start) then Ok start else Err (fault_at 3 start)

abbrev pub start_in : List (List ℕ) → List ClaimsView → Option ℕ → Result ℕ ChainFault
start_in dests links None = Err (fault_at 3 1)
start_in dests links (Some start) =
    only_start dests links start (first_from (may_start links) (start + 1) (length links - start))

unfoldable pub start_of : List (List ℕ) → List ClaimsView → Result ℕ ChainFault
start_of dests links = start_in dests links (first_from (may_start links) 1 (length links))

-- the links by which the call went on from this number, at most so many
unfoldable pub walk : List ClaimsView → ℕ → List ℕ → List ℕ
walk links zero number = []
walk links (suc room) number = option_map_or (λ link. link ∷ walk links room (dest_at links link))
    (first_from (leads_from links number) 1 (length links)) []

-- the links after the start
abbrev pub behind : List ClaimsView → ℕ → List ℕ
behind links start = walk links (length links - 1) (dest_at links start)

-- the called number is this one
abbrev pub calls : Option (List ℕ) → List ℕ → Bool
calls None number = false
calls (Some called) number = bytes_eq called number

-- the called number is one of these
abbrev pub calls_one_of : List (List ℕ) → Option (List ℕ) → Bool
calls_one_of dests None = false
calls_one_of dests (Some called) = is_one_of dests called

-- a call that wasn't diverted: the order of no links, if the called number is one of these
unfoldable pub undiverted : List (List ℕ) → Option (List ℕ) → Result (List ℕ) ChainFault
undiverted dests called = if calls_one_of dests called then Ok [] else Err (fault_at 5 0)

-- the way from the start, if its last dest is called
abbrev pub ended : List ClaimsView → Option (List ℕ) → ℕ → List ℕ → Result (List ℕ) ChainFault
ended links called start later = if calls called (dest_at links (last_of start later)) then Ok (start ∷ later)
    else Err (fault_at 5 (last_of start later))

-- and if it leaves no link
abbrev pub unless_left : List ClaimsView → Option (List ℕ) → ℕ → List ℕ → Option ℕ → Result (List ℕ) ChainFault
unless_left links called start later (Some link) = Err (fault_at 4 link)
unless_left links called start later None = ended links called start later

unfoldable pub way_from : List ClaimsView → Option (List ℕ) → ℕ → Result (List ℕ) ChainFault
way_from links called start = unless_left links called start (behind links start)
    (first_from (is_left (start ∷ behind links start)) 1 (length links))

-- a call that was diverted
abbrev pub started : List ClaimsView → Option (List ℕ) → Result ℕ ChainFault → Result (List ℕ) ChainFault
started links called (Err fault) = Err fault
started links called (Ok start) = way_from links called start

-- no link repeats
abbrev pub unless_repeated : List (List ℕ) → List ClaimsView → Option (List ℕ) → Option ℕ → Result (List ℕ) ChainFault
unless_repeated dests links called (Some link) = Err (fault_at 2 link)
unless_repeated dests links called None = if length links == 0 then undiverted dests called
    else started links called (start_of dests links)

-- the numbers of the links in the order in which the call went, or the first fault
unfoldable pub order_of : ClaimsView → List ClaimsView → Option (List ℕ) → Result (List ℕ) ChainFault
order_of origin links called =
    if nat_lt 8 (length links) then Err (fault_at 1 9)
    else unless_repeated origin.dest links called (first_from (repeats links) 1 (length links))
