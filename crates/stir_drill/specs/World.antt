-- The files of the drill, and what is confirmed (this project's own rule).
use Rattle.std.specs.Prelude.{ℕ, zero, suc, List, [], ◌∷◌, ◌++◌, codes, if◌then◌else◌}
use Rattle.std.specs.List.{flat_map, join_with_byte}
use Rattle.hex.specs.Hex.{encode_lower}
use Rattle.passport_json.specs.Signing.{Ticket}
use Rattle.stir_outside.specs.Memory.{ShelfState}
use Rattle.stir_drill.specs.Calls.{drawn_at}
use Rattle.stir_drill.specs.Certificates.{Recipe, certificate_text, digest, intermediate, leaf, point, root, scalars}
use Rattle.stir_drill.specs.Change.{is_confirmed}
use Rattle.stir_drill.specs.declared.drawn.Drawn.{Drawn}
use Rattle.stir_drill.specs.Message.{drill_x5u, signature_of, signing_of}

-- the name of the one file on the shelf, the chain of all calls: the leaf, and who issued it
abbrev pub chain_name : List ℕ
chain_name = codes "drill.der"

abbrev pub chain_text : List ℕ
chain_text = certificate_text leaf ++ certificate_text intermediate

-- the shelf with this file, before any call, and no call of which is to fail
abbrev pub shelf_with : List ℕ → ShelfState
shelf_with chain = record {
  files = (chain_name, chain) ∷ [];
  calls = 0;
  failing = [];
  counts = record { reads = 0; misses = 0; longs = 0; faults = 0 };
}

abbrev pub shelf : ShelfState
shelf = shelf_with chain_text

-- the trust anchors: one certificate
abbrev pub anchors_text : List ℕ
anchors_text = certificate_text root

-- the code table, which lists no code
abbrev pub table_text : List ℕ
table_text = []

-- the chain map: one line, the URI and the name of the chain's file
abbrev pub chain_map_text : List ℕ
chain_map_text = join_with_byte 32 (drill_x5u ∷ chain_name ∷ []) ++ 10 ∷ []

-- ---- the answers

-- a signature that is confirmed, of this digest under this key
pub record Triple : Type 0 where
  pub key : List ℕ
  pub digest : List ℕ
  pub signature : List ℕ

abbrev pub triple : List ℕ → List ℕ → List ℕ → Triple
triple key digest signature = record { key = key; digest = digest; signature = signature }

-- a line of the answers file: `confirm KEY DIGEST SIGNATURE` in lower-case hex digits
abbrev pub answer_line : Triple → List ℕ
answer_line triple = join_with_byte 32 (codes "confirm" ∷ encode_lower triple.key ∷ encode_lower triple.digest
    ∷ encode_lower triple.signature ∷ []) ++ 10 ∷ []

-- the signature of a certificate under the key of its issuer
abbrev pub issued_by : Recipe → Recipe → Triple
issued_by issuer recipe = triple (point issuer.byte) (digest recipe) (scalars recipe.byte)

abbrev pub chain_triples : List Triple
chain_triples = issued_by intermediate leaf ∷ issued_by root intermediate ∷ []

-- the signature of a call's PASSporT under the leaf's key
abbrev pub call_triple : Drawn → Triple
call_triple call = triple (point leaf.byte) (Ticket (signing_of call)) (signature_of call.number)

-- that of a call of its own message, if it is confirmed
abbrev pub triples_of : Drawn → List Triple
triples_of call = if is_confirmed call.change then call_triple call ∷ [] else []

-- those of the first calls, so many
unfoldable pub call_triples : ℕ → ℕ → List Triple
call_triples seed zero = []
call_triples seed (suc before) = call_triples seed before ++ triples_of (drawn_at seed (suc before))

-- the signatures of the chain, and those of the calls
abbrev pub answers_of : ℕ → ℕ → List ℕ
answers_of seed count = flat_map answer_line (chain_triples ++ call_triples seed count)
