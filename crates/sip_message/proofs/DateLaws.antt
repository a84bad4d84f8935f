-- The time that is read of a message's header field is the one that its date shows.
use Rattle.std.proofs.Common.{◌≡◌, ℕ, Bool, cond, List, Some, None, option_and_then, ap, sym, ◌∙◌}
use Rattle.std.proofs.lemmas.Option.{cond_some, option_and_then_some}
use Rattle.httpdate.specs.Date.{parse_secs, valid_secs}
use Rattle.httpdate.specs.Reader.{parse}
use Rattle.httpdate.specs.Valid.{is_valid, parts_secs}
use Rattle.httpdate.proofs.FormatLemmas.{parse_complete, parse_sound}
use Rattle.httpdate.proofs.ValidLemmas.{is_valid_complete, is_valid_sound}
use Rattle.sip_message.specs.Accessors.{first, time_of, values}
use Rattle.sip_message.specs.FieldDate.{IsTimeOf, ShowsSecond}
use Rattle.sip_message.specs.Message.{FieldView}
use Rattle.sip_message.proofs.FieldNumberLaws.{first_found, first_read}

second_found : (text : List ℕ) (second : ℕ) → parse_secs text ≡ Some second → ShowsSecond text second
second_found text second h =
    option_and_then_some valid_secs (parse text) second h (λ parts e k.
    let c = cond_some (is_valid parts) (parts_secs parts) second k in
    let valid = is_valid_sound parts c.0 in
    record {
      date = record { parts = parts; civil = valid.0; time = valid.1; right_day = valid.2 };
      shown = parse_sound text parts e;
      second_is = sym c.1;
    })

second_read : (text : List ℕ) (second : ℕ) → ShowsSecond text second → parse_secs text ≡ Some second
second_read text second s =
    let d = s.date in
    let parsed : parse text ≡ Some d.parts = parse_complete text d.parts (d.civil, d.time, d.right_day) s.shown in
    let valid : valid_secs d.parts ≡ Some (parts_secs d.parts)
    = ap (λ t. cond t (Some (parts_secs d.parts)) None) (is_valid_complete d.parts (d.civil, d.time, d.right_day)) in
    ap (option_and_then valid_secs) parsed ∙ valid ∙ ap Some (sym s.second_is)

pub time_found : (test : List ℕ → Bool) (fields : List FieldView) (second : ℕ) → time_of test fields ≡ Some second → IsTimeOf test fields second
time_found test fields second h =
    option_and_then_some parse_secs (first (values test fields)) second h (λ value e k.
    record { value = value; first = first_found test fields value e; shows = second_found value second k })

pub time_read : (test : List ℕ → Bool) (fields : List FieldView) (second : ℕ) → IsTimeOf test fields second → time_of test fields ≡ Some second
time_read test fields second i = ap (option_and_then parse_secs) (first_read test fields i.value i.first) ∙ second_read i.value second i.shows
