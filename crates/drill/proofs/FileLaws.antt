-- The files of the drill are in their grammars.
use Rattle.std.proofs.Common.{◌≡◌, ◌≢◌, ℕ, Bool, true, false, Result, Ok, Err, refl}
use Rattle.cert_store.specs.ChainMap.{map_rows, row_of as map_row}
use Rattle.delegation.specs.Anchors.{anchor_at, anchors_at, anchors_in}
use Rattle.der_reader.specs.BitString.{bits_of, flags_in}
use Rattle.der_reader.specs.Boolean.{boolean_of}
use Rattle.der_reader.specs.Each.{each_up_to}
use Rattle.der_reader.specs.Elem.{length_text}
use Rattle.der_reader.specs.Integer.{scalar_of, unsigned_of}
use Rattle.der_reader.specs.Moment.{day_of, seconds_of, unix_seconds}
use Rattle.der_reader.specs.Next.{header_at, next_at, optional_at, pair_at, sole_at}
use Rattle.der_reader.specs.Part.{element_at, item_at}
use Rattle.der_reader.specs.Time.{generalized_moment, moment_at, moment_of, time_of, two_front, utc_moment}
use Rattle.stir_drill.specs.World.{anchors_text, chain_map_text, table_text}
use Rattle.text_grammar.specs.LineWords.{line_words}
use Rattle.tn_auth_list.specs.CodeTable.{table_rows}
use Rattle.x509_profile.specs.Contents.{basic_of, extension_of, signature_of, validity_of}
use Rattle.x509_profile.specs.ExtensionId.{name_of}
use Rattle.x509_profile.specs.Extensions.{marked_in, optional_in, values_with}
use Rattle.x509_profile.specs.Read.{behind_text, outer_in, read_certificate, signature_in, tbs_in}

abbrev is_read : {X : Type 0} → Result X ℕ → Bool
is_read (Ok x) = true
is_read (Err bad) = false

never : {X : Type 0} (read : Result X ℕ) (bad : ℕ) → is_read read ≡ true → read ≢ Err bad
never (Ok x) bad is e = absurd cc
never (Err other) bad is e = absurd cc

map_read : is_read (map_rows chain_map_text) ≡ true
unfolding map_rows map_row line_words
map_read = refl

table_read : is_read (table_rows table_text) ≡ true
unfolding table_rows
table_read = refl

anchors_read : is_read (anchors_in anchors_text) ≡ true
unfolding anchor_at anchors_at bits_of flags_in boolean_of each_up_to length_text scalar_of unsigned_of day_of seconds_of unix_seconds header_at next_at optional_at pair_at sole_at element_at item_at generalized_moment moment_at moment_of time_of two_front utc_moment basic_of extension_of signature_of validity_of name_of marked_in optional_in values_with behind_text outer_in read_certificate signature_in tbs_in
anchors_read = refl

pub good_map : (bad : ℕ) → map_rows chain_map_text ≢ Err bad
good_map bad = never (map_rows chain_map_text) bad map_read

pub good_table : (bad : ℕ) → table_rows table_text ≢ Err bad
good_table bad = never (table_rows table_text) bad table_read

pub good_anchors : (bad : ℕ) → anchors_in anchors_text ≢ Err bad
good_anchors bad = never (anchors_in anchors_text) bad anchors_read
