-- What is kept for the x5u is what is listed.
use Rattle.std.proofs.Common.{Some, None, ap, ◌∙◌}
use Rattle.cert_store.proofs.HeldLaws.{found_is}
use Rattle.cert_store.proofs.map.ChainMap.listed.Goals as goal

pub returns-in-Some : goal.returns-in-Some
returns-in-Some c = ap (λ b. Some b) c.as_str.ensures.value ∙ found_is c.self.inside.files.entries c.args.self.now c.args.x5u.now (Some c.in-Some.file.now) c.self.view_is c.in-Some.ensures.value

pub returns-in-None : goal.returns-in-None
returns-in-None c = found_is c.self.inside.files.entries c.args.self.now c.args.x5u.now None c.self.view_is c.in-None.ensures.value
