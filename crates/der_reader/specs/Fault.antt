-- The faults of the readers, by kind and place: this project's own rule.
use Rattle.std.specs.Prelude.{ℕ}
use Rattle.der_reader.specs.declared.fault.DerFault.{DerFault}

-- the fault of this kind and place
abbrev pub fault_at : ℕ → ℕ → DerFault
fault_at kind place = record { kind = kind; place = place }

-- the bytes end at this place, before the element does
abbrev pub short_at : ℕ → DerFault
short_at place = record { kind = 1; place = place }

-- the tag byte at this place announces a tag number in further bytes
abbrev pub high_tag_at : ℕ → DerFault
high_tag_at place = record { kind = 2; place = place }

-- the length that begins at this place is indefinite, has more than two bytes, or isn't the shortest
abbrev pub bad_length_at : ℕ → DerFault
bad_length_at place = record { kind = 3; place = place }

-- the element isn't of the form that was asked for
abbrev pub bad_value : DerFault
bad_value = record { kind = 4; place = 0 }
