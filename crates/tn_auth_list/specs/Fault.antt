-- The faults of an authority list, by kind and place: this project's own rule. A place counts from the list's first
-- byte.
use Rattle.std.specs.Prelude.{◌≤◌, ℕ, Option, Some, None, Result, Ok, Err, ⊤}
use Rattle.lists.specs.Given as given
use Rattle.der_reader.specs.Part.{at_kind}
use Rattle.der_reader.specs.declared.part.Fault.{Fault}
use Rattle.tn_auth_list.specs.declared.faults.ListFault.{ListFault}
use Rattle.tn_auth_list.specs.declared.faults.ListFault.TheVariants.{At, Memory}

-- an element at this place can't be read or has another tag, or bytes here are left over
abbrev pub der_at : ℕ → Fault
der_at place = at_kind 1 place

-- the list has no entry
abbrev pub no_entry : Fault
no_entry = at_kind 2 0

-- the IA5String at this place is no code
abbrev pub no_code_at : ℕ → Fault
no_code_at place = at_kind 3 place

-- the IA5String at this place is no number, or no start of a range
abbrev pub no_number_at : ℕ → Fault
no_number_at place = at_kind 4 place

-- the INTEGER at this place is no count of a range
abbrev pub no_count_at : ℕ → Fault
no_count_at place = at_kind 5 place

-- an entry past the last that a list may have begins at this place
abbrev pub past_limit_at : ℕ → Fault
past_limit_at place = at_kind 6 place

-- a fault other than `Memory`
abbrev pub fault_seen : ListFault → Option Fault
fault_seen (At kind place) = Some (at_kind kind place)
fault_seen Memory = None

-- the result, as it is seen, is what was read, or its fault; `Memory` is free
abbrev pub GivesSeen : {A B : Type 0} → (A → B) → Result A ListFault → Result B Fault → Type 0
GivesSeen seen result read = given.Gives fault_seen seen result read

abbrev pub Gives : {A : Type 0} → Result A ListFault → Result A Fault → Type 0
Gives result read = GivesSeen (λ x. x) result read

-- a fault's place is no further than this
abbrev pub IsPlaceBelow : {A : Type 0} → ℕ → Result A ListFault → Type 0
IsPlaceBelow end (Ok x) = ⊤
IsPlaceBelow end (Err (At kind place)) = place ≤ end
IsPlaceBelow end (Err Memory) = ⊤
