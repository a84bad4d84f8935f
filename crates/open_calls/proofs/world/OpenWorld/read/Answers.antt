-- The world that was read, or what is at fault of it.
use Rattle.open_calls.proofs.WorldLaws.{anchors_faulty, table_faulty}
use Rattle.open_calls.specs.Worlds.{given_world}
use Rattle.open_calls.proofs.world.OpenWorld.read.Goals as goal

pub returns-in-None-clause-fault : goal.returns-in-None-clause-fault
returns-in-None-clause-fault c = c.settings.ensures.none c.args.anchors.now c.args.table.now c.in-None.is

pub returns-in-Err-clause-fault : goal.returns-in-Err-clause-fault
returns-in-Err-clause-fault c =
    anchors_faulty (given_world c.args.setting.now c.args.anchors.now c.args.table.now) c.in-Some.settings c.in-Err.fault (c.in-Some.ensures.read c.args.anchors.now c.args.table.now) c.in-Err.ensures.fault

pub returns-in-Ok-read_table-clause-read : goal.returns-in-Ok-read_table-clause-read
returns-in-Ok-read_table-clause-read c = record {
  settings_are = c.in-Some.ensures.read c.args.anchors.now c.args.table.now;
  anchors_are = c.in-Ok.ensures.read;
  table_is = c.in-Ok-read_table.ensures.read;
}

pub returns-in-Err-read_table-clause-fault : goal.returns-in-Err-read_table-clause-fault
returns-in-Err-read_table-clause-fault c =
    table_faulty (given_world c.args.setting.now c.args.anchors.now c.args.table.now) c.in-Some.settings c.in-Ok.anchors c.in-Err-read_table.fault
    (c.in-Some.ensures.read c.args.anchors.now c.args.table.now) c.in-Ok.ensures.read c.in-Err-read_table.ensures.fault
