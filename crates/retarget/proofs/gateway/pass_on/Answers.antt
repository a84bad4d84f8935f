-- The call goes on to the number, or one of the first three faults is there.
use Rattle.std.proofs.Common.{refl, sym}
use Rattle.retarget.specs.Hop.{hop_of}
use Rattle.retarget.proofs.GatewayLaws.{IsRead, cannot_sign, causes_err, causes_ok, exact_err, exact_ok, goes, not_asked, stopped, written_ok}
use Rattle.retarget.proofs.gateway.pass_on.Goals as goal

pub written-requires-clause-target : goal.written-requires-clause-target
written-requires-clause-target g c =
    let read : IsRead c.args.bytes.now c.args.screened.now.readings (hop_of c.args.hop.now) c.in-Ok.message c.in-Some.earlier = (record { is_read = c.in-Ok.ensures.exact; called = sym c.in-Some.ensures.called; some = c.in-Some.ensures.some }) in
    (goes _ _ _ _ _ c.in-Ok-onward.field-0 read c.in-Ok-onward.ensures).leads.uri

pub returns-in-Ok-onward-clause-exact : goal.returns-in-Ok-onward-clause-exact
returns-in-Ok-onward-clause-exact g c =
    let read : IsRead c.args.bytes.now c.args.screened.now.readings (hop_of c.args.hop.now) c.in-Ok.message c.in-Some.earlier = (record { is_read = c.in-Ok.ensures.exact; called = sym c.in-Some.ensures.called; some = c.in-Some.ensures.some }) in
    exact_ok (λ out. out.items) c.written.result c.laws.ensures _ _ _ _ _ _ _ c.in-Ok-onward.field-0 read c.in-Ok-onward.ensures c.written.ensures.exact

pub returns-in-Ok-onward-clause-written : goal.returns-in-Ok-onward-clause-written
returns-in-Ok-onward-clause-written g c =
    let read : IsRead c.args.bytes.now c.args.screened.now.readings (hop_of c.args.hop.now) c.in-Ok.message c.in-Some.earlier = (record { is_read = c.in-Ok.ensures.exact; called = sym c.in-Some.ensures.called; some = c.in-Some.ensures.some }) in
    written_ok (λ out. out.items) c.written.result c.laws.ensures _ _ _ _ _ _ _ c.in-Ok-onward.field-0 read c.in-Ok-onward.ensures c.written.ensures.is_written

pub returns-in-Ok-onward-clause-causes : goal.returns-in-Ok-onward-clause-causes
returns-in-Ok-onward-clause-causes g c =
    let read : IsRead c.args.bytes.now c.args.screened.now.readings (hop_of c.args.hop.now) c.in-Ok.message c.in-Some.earlier = (record { is_read = c.in-Ok.ensures.exact; called = sym c.in-Some.ensures.called; some = c.in-Some.ensures.some }) in
    causes_ok c.written.result c.laws.ensures _ _ c.args.screened.now _ _ _ _ _ c.in-Ok-onward.field-0 c.requires.screened.1 read c.in-Ok-onward.ensures c.written.ensures.causes

pub returns-in-Ok-onward-clause-withheld : goal.returns-in-Ok-onward-clause-withheld
returns-in-Ok-onward-clause-withheld g c =
    let read : IsRead c.args.bytes.now c.args.screened.now.readings (hop_of c.args.hop.now) c.in-Ok.message c.in-Some.earlier = (record { is_read = c.in-Ok.ensures.exact; called = sym c.in-Some.ensures.called; some = c.in-Some.ensures.some }) in
    λ h. c.written.ensures.withheld
    (cannot_sign c.laws.ensures _ _ c.args.screened.now _ _ _ _ c.in-Ok-onward.field-0 c.requires.screened.1 read c.in-Ok-onward.ensures h)

pub returns-clause-exact : goal.returns-clause-exact
returns-clause-exact g c =
    let read : IsRead c.args.bytes.now c.args.screened.now.readings (hop_of c.args.hop.now) c.in-Ok.message c.in-Some.earlier = (record { is_read = c.in-Ok.ensures.exact; called = sym c.in-Some.ensures.called; some = c.in-Some.ensures.some }) in
    exact_err c.laws.ensures _ _ _ _ _ _ _ c.in-Err-onward.fault read c.in-Err-onward.ensures

pub returns-clause-causes : goal.returns-clause-causes
returns-clause-causes g c =
    let read : IsRead c.args.bytes.now c.args.screened.now.readings (hop_of c.args.hop.now) c.in-Ok.message c.in-Some.earlier = (record { is_read = c.in-Ok.ensures.exact; called = sym c.in-Some.ensures.called; some = c.in-Some.ensures.some }) in
    causes_err c.laws.ensures _ _ _ _ _ _ _ c.in-Err-onward.fault read c.in-Err-onward.ensures

pub returns-clause-asked : goal.returns-clause-asked
returns-clause-asked g c =
    let read : IsRead c.args.bytes.now c.args.screened.now.readings (hop_of c.args.hop.now) c.in-Ok.message c.in-Some.earlier = (record { is_read = c.in-Ok.ensures.exact; called = sym c.in-Some.ensures.called; some = c.in-Some.ensures.some }) in
    not_asked g.P.Provider _ c.in-Err-onward.fault (stopped _ _ _ _ _ c.in-Err-onward.fault read c.in-Err-onward.ensures).unnamed

pub returns-clause-withheld : goal.returns-clause-withheld
returns-clause-withheld g c =
    let read : IsRead c.args.bytes.now c.args.screened.now.readings (hop_of c.args.hop.now) c.in-Ok.message c.in-Some.earlier = (record { is_read = c.in-Ok.ensures.exact; called = sym c.in-Some.ensures.called; some = c.in-Some.ensures.some }) in
    λ h. record { asks = refl; unnamed = (stopped _ _ _ _ _ c.in-Err-onward.fault read c.in-Err-onward.ensures).unnamed }

pub returns-clause-passed : goal.returns-clause-passed
returns-clause-passed g c =
    let read : IsRead c.args.bytes.now c.args.screened.now.readings (hop_of c.args.hop.now) c.in-Ok.message c.in-Some.earlier = (record { is_read = c.in-Ok.ensures.exact; called = sym c.in-Some.ensures.called; some = c.in-Some.ensures.some }) in
    (stopped _ _ _ _ _ c.in-Err-onward.fault read c.in-Err-onward.ensures).after
