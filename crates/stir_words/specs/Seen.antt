-- How clauses see the words, the options and the orders that the code holds.
use Rattle.std.specs.Prelude.{◌≡◌, ℕ, List, map, Option, Some, None, Result, Ok, Err}
use Rattle.std.specs.Borrow.{Bor}
use Rattle.std.specs.Option.{option_copied, option_map}
use Rattle.stir_words.specs.Options.{Named}
use Rattle.stir_words.specs.Table.{Known}
use Rattle.stir_words.specs.Order.{AskingView, ClaimingView, DivertingView, DrillingView, HolderNames, JudgingView}
use Rattle.stir_words.specs.Order.{OrderView, RetargetingView, SettingsView, SignerView, SigningView, VerifyingView}
use Rattle.stir_words.specs.Order.{VerifyBy, ExplainBy, AskBy, SignBy, DivertBy, RetargetBy, ShowCertificates, DrillBy}
use Rattle.stir_words.specs.Order.{OnceBy}
use Rattle.stir_words.specs.declared.commands.Row.{Row}
use Rattle.stir_words.specs.declared.options.Long.{Long}
use Rattle.stir_words.specs.declared.fault.WordsFault.{WordsFault}
use Rattle.stir_words.specs.declared.fault.WordsFault.TheVariants.{Refused, Memory}
use Rattle.stir_words.specs.declared.claiming.Claiming.{Claiming}
use Rattle.stir_words.specs.declared.drilling.Drilling.{Drilling}
use Rattle.stir_words.specs.declared.settings.Settings.{Settings}
use Rattle.stir_words.specs.declared.order.Asking.{Asking}
use Rattle.stir_words.specs.declared.order.Judging.{Judging}
use Rattle.stir_words.specs.declared.verifying.Verifying.{Verifying}
use Rattle.stir_words.specs.declared.order.Order.{Order}
use Rattle.stir_words.specs.declared.order.Order.TheVariants.{Verify, Explain, Ask, Sign, Divert, Retarget, Show, Drill}
use Rattle.stir_words.specs.declared.order.Order.TheVariants.{Once}
use Rattle.stir_words.specs.declared.retargeting.Retargeting.{Retargeting}
use Rattle.stir_words.specs.declared.signing.Diverting.{Diverting}
use Rattle.stir_words.specs.declared.signing.HolderFiles.{HolderFiles}
use Rattle.stir_words.specs.declared.signing.Signer.{Signer}
use Rattle.stir_words.specs.declared.signing.Signing.{Signing}

-- the texts of the words
abbrev pub texts : List (Bor (List ℕ)) → List (List ℕ)
texts words = map (λ word. word.now) words

abbrev pub named_of : Long → Named
named_of long = record { name = long.name.now; value = option_copied long.value }

abbrev pub known_of : Row → Known
known_of row = record { name = row.name.now; required = row.required }

abbrev pub settings_view : Settings → SettingsView
settings_view settings = record { past = settings.past; future = settings.future; local = settings.local }

abbrev pub judging_view : Judging → JudgingView
judging_view judging = record {
  chains = judging.chains.now;
  anchors = judging.anchors.now;
  table = judging.table.now;
  answers = judging.answers.now;
  settings = settings_view judging.settings;
}

abbrev pub verifying_view : Verifying → VerifyingView
verifying_view verifying = record {
  judging = judging_view verifying.judging;
  state = option_copied verifying.state;
  workers = verifying.workers;
}

abbrev pub asking_view : Asking → AskingView
asking_view asking = record {
  chains = asking.chains.now;
  anchors = asking.anchors.now;
  table = asking.table.now;
  settings = settings_view asking.settings;
}

abbrev pub holder_view : HolderFiles → HolderNames
holder_view files = record { leaf = files.leaf.now; table = files.table.now }

abbrev pub signer_view : Signer → SignerView
signer_view signer = record {
  key = signer.key.now;
  x5u = signer.x5u.now;
  iat = signer.iat;
  local = signer.local;
  answers = signer.answers.now;
  holder = option_map holder_view signer.holder;
}

abbrev pub signing_view : Signing → SigningView
signing_view signing = record { form = signing.form; signer = signer_view signing.signer }

abbrev pub diverting_view : Diverting → DivertingView
diverting_view diverting = record { earlier = diverting.earlier; signer = signer_view diverting.signer }

abbrev pub retargeting_view : Retargeting → RetargetingView
retargeting_view words = record {
  judging = judging_view words.judging;
  key = words.key.now;
  x5u = words.x5u.now;
  iat = words.iat;
  target = words.target.now;
  leaf = words.leaf.now;
  moment = words.moment;
}

abbrev pub drilling_view : Drilling → DrillingView
drilling_view drilling = record { seed = drilling.seed; count = drilling.count; workers = drilling.workers }

abbrev pub claiming_view : Claiming → ClaimingView
claiming_view claiming = record { size = claiming.size; workers = claiming.workers }

abbrev pub order_view : Order → OrderView
order_view (Verify verifying) = VerifyBy (verifying_view verifying)
order_view (Explain judging) = ExplainBy (judging_view judging)
order_view (Ask asking) = AskBy (asking_view asking)
order_view (Sign signing) = SignBy (signing_view signing)
order_view (Divert diverting) = DivertBy (diverting_view diverting)
order_view (Retarget words) = RetargetBy (retargeting_view words)
order_view Show = ShowCertificates
order_view (Drill drilling) = DrillBy (drilling_view drilling)
order_view (Once claiming) = OnceBy (claiming_view claiming)

-- the answer is what is ordered; or nothing is, or memory ran out
abbrev pub Orders : Option OrderView → Result Order WordsFault → Type 0
Orders order (Ok found) = order ≡ Some (order_view found)
Orders order (Err Refused) = order ≡ None
Orders order (Err Memory) = Unit {0}
