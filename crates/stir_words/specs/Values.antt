-- What the values of options come to (this project's own rule).
use Rattle.std.specs.Prelude.{unwrap_or, ℕ, Bool, ◌&&◌, ◌||◌, ◌==◌, not, nat_le, List, length, codes, Option, Some}
use Rattle.std.specs.Prelude.{None, option_and_then, if◌then◌else◌}
use Rattle.std.specs.List.{list_all}
use Rattle.std.specs.Option.{option_map}
use Rattle.std.specs.Str.{bytes_eq}
use Rattle.text_grammar.specs.Bytes.{is_uri_byte}
use Rattle.text_grammar.specs.Decimal.{number_up_to}
use Rattle.text_grammar.specs.Moment.{last_second}
use Rattle.text_grammar.specs.Uri.{is_uri}
use Rattle.tn_values.specs.Local.{LocalView, local_of}
use Rattle.tn_values.specs.Number.{exact}
use Rattle.passport_claims.specs.Kind.{attest_of}
use Rattle.passport_claims.specs.Origid.{is_origid}
use Rattle.passport_claims.specs.declared.form.Form.{Form}
use Rattle.passport_claims.specs.declared.form.Form.TheVariants as forms
use Rattle.stir_words.specs.Table.{Given}

-- the text, if it has this form
abbrev pub text_if : (List ℕ → Bool) → List ℕ → Option (List ℕ)
text_if fits text = if fits text then Some text else None

-- a number of at most so much; if the option isn't given, this one
abbrev pub number_or : ℕ → ℕ → Option (List ℕ) → Option ℕ
number_or other most None = Some other
number_or other most (Some text) = number_up_to most text

-- ---- by what calls are judged and numbers are read

-- `--past`: at most a day, in seconds; 60 if the option isn't given
abbrev pub past_of : Given → Option ℕ
past_of given = number_or 60 86400 (given (codes "past"))

-- `--future`: at most a day, in seconds; 5 if the option isn't given
abbrev pub future_of : Given → Option ℕ
future_of given = number_or 5 86400 (given (codes "future"))

-- a number that isn't 0
abbrev pub unless_none : Option ℕ → Option ℕ
unless_none None = None
unless_none (Some n) = if n == 0 then None else Some n

-- `--workers`: 1 to 8, and 1 if the option isn't given
abbrev pub workers_of : Given → Option ℕ
workers_of given = unless_none (number_or 1 8 (given (codes "workers")))

-- `--seed`: a number below 2^64
abbrev pub seed_of : Given → Option ℕ
seed_of given = option_and_then (number_up_to 18446744073709551615) (given (codes "seed"))

-- `--count`: at most 100,000 calls
abbrev pub count_of : Given → Option ℕ
count_of given = option_and_then (number_up_to 100000) (given (codes "count"))

-- `--size`: 1 to 1,048,576 slots
abbrev pub size_of : Given → Option ℕ
size_of given = unless_none (option_and_then (number_up_to 1048576) (given (codes "size")))

-- `--national`: a national number has at most 14 digits
abbrev pub national_of : Given → Option ℕ
national_of given = number_or 10 14 (given (codes "national"))

-- `--country`: its digits, as they are given
abbrev pub country_of : Given → List ℕ
country_of given = unwrap_or (given (codes "country")) (codes "1")

-- the country and the length of national numbers have to fit each other
abbrev pub local_in : Given → Option LocalView
local_in given = option_and_then (λ national. local_of (country_of given) national) (national_of given)

-- ---- what is signed, and how

-- a byte of the name of a key: visible ASCII other than `;`, `,`, `"`, `<`, `>` and backslash
abbrev pub is_key_byte : ℕ → Bool
is_key_byte byte = is_uri_byte byte && not (byte == 59 || byte == 44)

-- the name of a key: 1 to 64 such bytes
unfoldable pub is_key : List ℕ → Bool
is_key text = nat_le 1 (length text) && nat_le (length text) 64 && list_all is_key_byte text

-- `--key`: the name by which the provider of signatures knows the key
abbrev pub key_of : Given → Option (List ℕ)
key_of given = option_and_then (text_if is_key) (given (codes "key"))

-- `--x5u`: the URI of the key's certificates (RFC 8225, section 4.3)
abbrev pub x5u_of : Given → Option (List ℕ)
x5u_of given = option_and_then (text_if is_uri) (given (codes "x5u"))

-- `--iat`: when it is signed, in Unix seconds (RFC 8225, section 5.1.1), no later than the year 9999
abbrev pub iat_of : Given → Option ℕ
iat_of given = option_and_then (number_up_to last_second) (given (codes "iat"))

-- `--moment`: when the call came, in Unix seconds, no later than the year 9999
abbrev pub moment_of : Given → Option ℕ
moment_of given = option_and_then (number_up_to last_second) (given (codes "moment"))

-- `--earlier`: the number that was called before the diversion (RFC 8946, section 4)
abbrev pub earlier_of : Given → Option (List ℕ)
earlier_of given = option_and_then exact (given (codes "earlier"))

-- ---- the form of the PASSporT

-- `shaken` with this attestation and this identifier of the call
abbrev pub shaken_by : List ℕ → List ℕ → Option Form
shaken_by attest origid =
    option_and_then (λ level. option_map (λ id. forms.Shaken level id) (text_if is_origid origid)) (attest_of attest)

-- a form without them
abbrev pub plain_by : List ℕ → Option Form
plain_by form =
    if bytes_eq form (codes "base") then Some forms.Base
    else if bytes_eq form (codes "compact") then Some forms.Compact
    else None

-- the attestation and the identifier are given exactly with `shaken`
abbrev pub form_by : List ℕ → Option (List ℕ) → Option (List ℕ) → Option Form
form_by form None None = plain_by form
form_by form (Some attest) (Some origid) = if bytes_eq form (codes "shaken") then shaken_by attest origid else None
form_by form (Some attest) None = None
form_by form None (Some origid) = None

-- `--form`, `--attest` and `--origid`
abbrev pub form_of : Given → Option Form
form_of given =
    option_and_then (λ form. form_by form (given (codes "attest")) (given (codes "origid"))) (given (codes "form"))
