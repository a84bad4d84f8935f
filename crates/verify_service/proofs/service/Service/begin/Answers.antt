-- What is kept is purged, and the calls go on from the last one.
use Rattle.std.proofs.Common.{◌≡◌, ◌≤◌, rules, sym, ap, subst, arith}
use Rattle.verify_service.specs.Service.{ServiceView, last_moment_of, last_number}
use Rattle.verify_service.proofs.ClassLaws.{moments_within, rises_to}
use Rattle.verify_service.proofs.KeepingLaws.{purged_kept}
use Rattle.verify_service.proofs.service.Service.begin.Goals as goal

pub invariant_of-self-2 : goal.invariant_of-self-2
invariant_of-self-2 c =
    let number : c.number-self-inside.result ≡ last_number c.args.self.now.number c.args.calls.now = search rules in
    let moment : c.moment-self-inside.result ≡ last_moment_of c.args.self.now.moment c.args.calls.now = search rules in
    let before : c.self.inside.number ≡ c.args.self.now.number = ap (λ (s : ServiceView). s.number) c.self.view_is in
    let more : c.args.self.now.number ≤ last_number c.args.self.now.number c.args.calls.now = rises_to c.args.self.now.number c.args.self.now.moment c.args.calls.now c.requires.follow.each in
    let within : c.args.self.now.moment ≤ 253402300799 = subst (λ n. n ≤ 253402300799) (ap (λ (s : ServiceView). s.moment) c.self.view_is) c.self.invariant.moment_within in
    record {
      capacity_is = c.self.invariant.capacity_is;
      moment_within = subst (λ n. n ≤ 253402300799) (sym moment) (moments_within c.args.self.now.number c.args.self.now.moment c.args.calls.now c.requires.follow.each within);
      each_kept = purged_kept c.self.inside.number c.number-self-inside.result _ c.self.inside.past c.purge.new.self (omega (arith, number, before, more)) c.self.invariant.each_kept c.purge.ensures.calls;
    }
