-- The header and the payload of a PASSporT of the drill, byte for byte.
use Rattle.std.specs.Prelude.{ℕ, List, ◌++◌, codes, decimal}
use Rattle.std.specs.Int.{bytes_high_first}
use Rattle.hex.specs.Hex.{encode_lower}
use Rattle.stir_drill.specs.Change.{calling_in, issued_in}
use Rattle.stir_drill.specs.Message.{moment_of}
use Rattle.stir_drill.specs.declared.drawn.Drawn.{Drawn}

abbrev pub header_text : List ℕ
header_text =
    codes "{\"alg\":\"ES256\",\"ppt\":\"shaken\",\"typ\":\"passport\",\"x5u\":\"https://cert.example.org/drill.cer\"}"

-- by when it was issued, the calling number, and the end of its identifier
abbrev pub payload_with : ℕ → ℕ → List ℕ → List ℕ
payload_with iat orig tail = codes "{\"attest\":\"A\",\"dest\":{\"tn\":[\"12125551213\"]},\"iat\":" ++ decimal iat
    ++ codes ",\"orig\":{\"tn\":\"" ++ decimal orig
    ++ codes "\"},\"origid\":\"00000000-0000-4000-8000-" ++ tail ++ codes "\"}"

abbrev pub payload_text : Drawn → List ℕ
payload_text call = payload_with (issued_in call.change (moment_of call.number)) (calling_in call.change call.line)
    (encode_lower (bytes_high_first 6 call.number))
