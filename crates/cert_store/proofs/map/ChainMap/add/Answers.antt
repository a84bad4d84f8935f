-- What is listed after an entry more.
use Rattle.cert_store.proofs.HeldLaws.{adds_row}
use Rattle.cert_store.specs.MapEntry.{entry_row}
use Rattle.cert_store.proofs.map.ChainMap.add.Goals as goal

pub returns : goal.returns
returns c =
    let put = c.in_ok-before.ensures in
    adds_row (entry_row c.args.row) c.in_ok-x5u.x5u c.in_ok-file.file c.self.inside.files.entries c.insert.new.self.entries c.in_ok-before.before c.is_none.result c.args.self.now
    c.self.view_is c.in_ok-x5u.ensures.items c.in_ok-file.ensures.ok put.old c.is_none.ensures (put.updates.1, put.updates.3)
