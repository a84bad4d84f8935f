-- The URI of a certificate, as an Identity header field's `info` has it (RFC 8224, section 4; this project's own
-- limits).
use Rattle.std.specs.Prelude.{ℕ, Bool, ◌&&◌, nat_le, List, length}
use Rattle.std.specs.List.{list_all}
use Rattle.text_grammar.specs.Bytes.{is_uri_byte}

-- 1 to 2,048 bytes of the uri alphabet
unfoldable pub is_uri : List ℕ → Bool
is_uri text = nat_le 1 (length text) && nat_le (length text) 2048 && list_all is_uri_byte text
