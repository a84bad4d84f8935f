-- The texts so far are those of the numbers passed, and each of these is a number.
use Rattle.std.proofs.Common.{◌≡◌, true, take}
use Rattle.std.specs.List.{list_all}
use Rattle.serde_json.specs.View.{items_view}
use Rattle.tn_values.specs.Number.{is_number}
use Rattle.passport_json.specs.Passport.{texts}
use Rattle.passport_claims.proofs.values.called_value.Given as goal

abbrev pub invariant-called : goal.invariant-called
invariant-called l = record {
  texts : items_view l.items.items ≡ texts (take l.number-index l.called);
  numbers : list_all is_number (take l.number-index l.called) ≡ true;
}
