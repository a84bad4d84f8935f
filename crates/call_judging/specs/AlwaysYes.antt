-- A provider of signatures to which each signature is good.
use Rattle.std.specs.Prelude.{true}
use Rattle.cert_store.specs.Rules.{Says}

abbrev pub always_yes : Says
always_yes key digest signature = true
