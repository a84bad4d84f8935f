-- The row that a line of a chain map says, as it is read.
use Rattle.cert_store.specs.ChainMap.{Row}
use Rattle.cert_store.specs.declared.map_rows.Entry.{Entry}

abbrev pub entry_row : Entry → Row
entry_row entry = record { x5u = entry.x5u.now; file = entry.file.now }
