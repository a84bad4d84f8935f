use Rattle.std.proofs.Common.{◌≡◌}
use Rattle.der_reader.specs.Part.{end_of, part_of}
use Rattle.tn_auth_list.specs.Read.{content_entries, entries_from}
use Rattle.tn_auth_list.proofs.reading.content_entries.Given as goal

-- what is left gives, after the entries so far, what the whole content gives
abbrev pub invariant-loop-rest : goal.invariant-loop-rest
invariant-loop-rest l = (entries_from l.room l.entries.items (part_of l.rest) ≡ content_entries (part_of l.content))
    × (end_of l.rest ≡ end_of l.content)

abbrev pub decreases-loop-rest : goal.decreases-loop-rest
decreases-loop-rest l = l.room
