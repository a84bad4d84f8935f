-- What is ordered to be signed is as signing takes it for granted: its rows say so.
use Rattle.std.proofs.Common.{◌≡◌, ◌≤◌, ℕ, true, List, codes, Option, Some, None, Result, Ok, Err, IfOk, refl}
use Rattle.text_grammar.specs.Uri.{is_uri}
use Rattle.tn_values.specs.Number.{is_number}
use Rattle.passport_claims.specs.Form.{form_kind}
use Rattle.passport_claims.specs.Made.{has_origid}
use Rattle.passport_claims.specs.Origid.{is_origid}
use Rattle.passport_claims.specs.declared.form.Form.{Form}
use Rattle.passport_claims.specs.declared.form.Form.TheVariants as forms
use Rattle.stir_words.specs.Order.{AskBy, CanBeSigned, DivertBy, DrillBy, ExplainBy, IsSigner, OnceBy, OrderView, RetargetBy, ShowCertificates, SignBy, SignerView, VerifyBy, order_of}
use Rattle.stir_words.specs.Rows.{EachMeans, Means, Number, form_rows, key_rows, rows_of, settings_rows, signer_rows}
use Rattle.stir_words.specs.Seen.{Orders, order_view}
use Rattle.stir_words.specs.Table.{Given, given_by}
use Rattle.stir_words.specs.Values.{is_key}
use Rattle.stir_words.specs.declared.fault.WordsFault.{WordsFault}
use Rattle.stir_words.specs.declared.order.Order.{Order}
use Rattle.stir_words.proofs.RowLaws.{after_key, after_keys, from_key, rows_are}
use Rattle.stir_words.proofs.RowValues.{fits_parts, split_mean}

within : (least most number : ℕ) (value : Option (List ℕ)) → Means (Number least most number) value → number ≤ most
within least most number None h = absurd h
within least most number (Some text) h = h.high

is_signer : (given : Given) (key x5u : List ℕ) (iat : ℕ) → EachMeans given (key_rows key x5u iat) → IsSigner key x5u iat
is_signer given key x5u iat h = record {
  name = (fits_parts is_key key (given (codes "key")) h.0).1;
  uri = (fits_parts is_uri x5u (given (codes "x5u")) h.1.0).1;
  within = within 0 253402300799 iat (given (codes "iat")) h.1.1.0;
}

signs : (given : Given) (by : SignerView) → EachMeans given (signer_rows by) → IsSigner by.key by.x5u by.iat
signs given by h = is_signer given by.key by.x5u by.iat (split_mean given (key_rows by.key by.x5u by.iat) (after_keys by) h).0

-- the identifier of the call
has : (given : Given) (form : Form) → EachMeans given (form_rows form) → has_origid (form_kind form) ≡ true
has given forms.Base h = refl
has given forms.Compact h = refl
has given (forms.Shaken level origid) h = (fits_parts is_origid origid (given (codes "origid")) h.1.1.0).1

can : (order : OrderView) (given : Given) → EachMeans given (rows_of order) → CanBeSigned order
can (SignBy order) given h =
    let parts = split_mean given (form_rows order.form) (signer_rows order.signer) h in record { by = signs given order.signer parts.1; origid = has given order.form parts.0 }
can (DivertBy order) given h = record { by = signs given order.signer h.1; number = (fits_parts is_number order.earlier (given (codes "earlier")) h.0).1 }
can (RetargetBy order) given h =
    let more = split_mean given (from_key order) (settings_rows order.judging.settings) h.1.1.1.1 in
    let parts = split_mean given (key_rows order.key order.x5u order.iat) (after_key order) more.0 in record {
      by = is_signer given order.key order.x5u order.iat parts.0;
      moment = within 0 253402300799 order.moment (given (codes "moment")) parts.1.1.1.0;
    }
can (VerifyBy verifying) given h = tt
can (ExplainBy judging) given h = tt
can (AskBy asking) given h = tt
can ShowCertificates given h = tt
can (DrillBy drilling) given h = tt
can (OnceBy claiming) given h = tt

-- as the code has it
pub can_be_signed : (words : List (List ℕ)) (result : Result Order WordsFault) → Orders (order_of words) result → IfOk result (λ order. CanBeSigned (order_view order))
can_be_signed words (Ok order) h = let ordered = (rows_are words (order_view order)).0 h in can (order_view order) (given_by ordered.pairs) ordered.rows
can_be_signed words (Err fault) h = tt
