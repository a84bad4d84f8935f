-- What reading the element that some bytes begin with gives, with the ordered table of its faults.
use Rattle.std.specs.Prelude.{ℕ, ◌+◌, ◌*◌, ◌&&◌, ◌==◌, List, length, take, drop, nat_lt, slice_index, bit_and, Option}
use Rattle.std.specs.Prelude.{Some, None, Result, Ok, Err, if◌then◌else◌}
use Rattle.std.specs.Borrow.{Bor}
use Rattle.std.specs.Option.{option_map}
use Rattle.der_reader.specs.declared.element.Der.{Der}
use Rattle.der_reader.specs.declared.element.Header.{Header}
use Rattle.der_reader.specs.declared.fault.DerFault.{DerFault}
use Rattle.lists.specs.Steps.{◌>>=◌}
use Rattle.der_reader.specs.Fault.{short_at, high_tag_at, bad_length_at, bad_value}
use Rattle.der_reader.specs.Elem.{Element, element_of}
use Rattle.der_reader.specs.Tags.{sequence_tag}

-- The length of one byte, below 0x80.
abbrev short_header : List ℕ → Result Header DerFault
short_header bytes =
    Ok (record { tag = slice_index bytes 0; size = 2; content_size = slice_index bytes 1 })

-- The length of one byte after 81: it is the shortest from 0x80 on.
abbrev one_byte_header : List ℕ → Result Header DerFault
one_byte_header bytes =
    if nat_lt (length bytes) 3 then Err (short_at (length bytes))
    else (if nat_lt (slice_index bytes 2) 0x80 then Err (bad_length_at 1)
    else Ok (record { tag = slice_index bytes 0; size = 3; content_size = slice_index bytes 2 }))

-- The length of two bytes after 82: it is the shortest from 0x0100 on.
abbrev two_byte_header : List ℕ → Result Header DerFault
two_byte_header bytes =
    if nat_lt (length bytes) 4 then Err (short_at (length bytes))
    else (if slice_index bytes 2 == 0 then Err (bad_length_at 1)
    else Ok (record {
      tag = slice_index bytes 0;
      size = 4;
      content_size = slice_index bytes 2 * 0x100 + slice_index bytes 3;
    }))

-- Tag and length, or the first fault, in this order: no byte, a high tag number, no length byte,
-- a first length byte of 80 or above 82, length bytes missing, a length that isn't the shortest.
unfoldable pub header_at : List ℕ → Result Header DerFault
header_at bytes =
    if length bytes == 0 then Err (short_at 0)
    else (if bit_and (slice_index bytes 0) 0x1F == 0x1F then Err (high_tag_at 0)
    else (if length bytes == 1 then Err (short_at 1)
    else (if nat_lt (slice_index bytes 1) 0x80 then short_header bytes
    else (if slice_index bytes 1 == 0x81 then one_byte_header bytes
    else (if slice_index bytes 1 == 0x82 then two_byte_header bytes
    else Err (bad_length_at 1))))))

-- the element that the bytes begin with and the rest, if the content is all there
abbrev pub content_at : List ℕ → Header → Result (Element × List ℕ) DerFault
content_at bytes header =
    if nat_lt (length bytes) (header.size + header.content_size) then Err (short_at (length bytes))
    else Ok (
      record {
        tag = header.tag;
        whole = take (header.size + header.content_size) bytes;
        content = take header.content_size (drop header.size bytes);
      },
      drop (header.size + header.content_size) bytes,
    )

-- what follows tag and length, or their fault
abbrev pub next_behind : List ℕ → Result Header DerFault → Result (Element × List ℕ) DerFault
next_behind bytes (Ok header) = content_at bytes header
next_behind bytes (Err fault) = Err fault

-- The element that the bytes begin with and the rest, or the first fault.
unfoldable pub next_at : List ℕ → Result (Element × List ℕ) DerFault
next_at bytes = next_behind bytes (header_at bytes)

-- an answer of `Der::next` as plain data
abbrev pub next_view : Result (Der × Bor (List ℕ)) DerFault → Result (Element × List ℕ) DerFault
next_view (Ok found) = Ok (element_of found.0, found.1.now)
next_view (Err fault) = Err fault

-- the one element that the bytes are, if it has this tag
unfoldable pub sole_at : ℕ → List ℕ → Result Element DerFault
sole_at tag bytes = do
  found ← next_at bytes
  if (found.0.tag == tag) && (length found.1 == 0) then Ok found.0 else Err bad_value

-- an answer of `Der::sole` as plain data
abbrev pub sole_view : Result Der DerFault → Result Element DerFault
sole_view (Ok der) = Ok (element_of der)
sole_view (Err fault) = Err fault

-- the first element, if it has this tag, and what comes after it; else the bytes as they are
abbrev pub tagged_or : ℕ → List ℕ → Element × List ℕ → Option Element × List ℕ
tagged_or tag bytes found = if found.0.tag == tag then (Some found.0, found.1) else (None, bytes)

-- an element of this tag that may be absent, and what comes after it
unfoldable pub optional_at : ℕ → List ℕ → Result (Option Element × List ℕ) DerFault
optional_at tag bytes = if length bytes == 0 then Ok (None, bytes)
    else (next_at bytes >>= λ found. Ok (tagged_or tag bytes found))

-- an answer of `Der::optional` as plain data
abbrev pub optional_view : Result (Option Der × Bor (List ℕ)) DerFault → Result (Option Element × List ℕ) DerFault
optional_view (Ok found) = Ok (option_map element_of found.0, found.1.now)
optional_view (Err fault) = Err fault

-- the two elements that are the content of a SEQUENCE
unfoldable pub pair_at : List ℕ → Result (Element × Element) DerFault
pair_at bytes = do
  sequence ← sole_at sequence_tag bytes
  first ← next_at sequence.content
  second ← next_at first.1
  if length second.1 == 0 then Ok (first.0, second.0) else Err bad_value

-- an answer of `Der::pair` as plain data
abbrev pub pair_view : Result (Der × Der) DerFault → Result (Element × Element) DerFault
pair_view (Ok found) = Ok (element_of found.0, element_of found.1)
pair_view (Err fault) = Err fault
