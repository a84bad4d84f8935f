-- What is around the parts of a message that differ.
use Rattle.std.specs.Prelude.{ℕ, List, codes}

-- before the calling number, between it and the Identity header field, and after this
abbrev pub before_number : List ℕ
before_number = codes
    "INVITE sip:+12125551213@example.net SIP/2.0\r\nVia: SIP/2.0/UDP host.example.org;branch=z9hG4bK1\r\nMax-Forwards: 70\r\nFrom: <sip:+"

abbrev pub between : List ℕ
between =
    codes "@example.org>;tag=1\r\nTo: <sip:+12125551213@example.net>\r\nCall-ID: 1@example.org\r\nCSeq: 1 INVITE\r\n"

abbrev pub at_end : List ℕ
at_end = codes "Content-Length: 0\r\n\r\n"

-- in the line of this field, before the token and after it
abbrev pub before_token : List ℕ
before_token = codes "Identity: "

abbrev pub parameters : List ℕ
parameters = codes ";info=<https://cert.example.org/drill.cer>;alg=ES256;ppt=\"shaken\"\r\n"
