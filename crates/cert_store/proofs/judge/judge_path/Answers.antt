-- A path has a leaf, with a list if there is authority, and signatures are asked for only then.
use Rattle.std.proofs.Common.{◌≡◌, ◌≢◌, ◌≤◌, length, None, arith}
use Rattle.cert_store.specs.declared.judged.Asked.TheVariants.{NotAsked}
use Rattle.cert_store.proofs.JudgedLaws.{path_holds}
use Rattle.cert_store.proofs.judge.judge_path.Goals.{in-Some, in-None}
use Rattle.cert_store.proofs.judge.judge_path.Goals as goal

pub invariant_of-result : goal.invariant_of-result
invariant_of-result g c =
    let only : c.match-authority.asked ≢ NotAsked → c.in_ok-authority.authority ≡ None =
    elim c.match-authority.branch [ in-Some w ↦ λ asked. absurd (asked w.asked-is) | in-None w ↦ λ asked. w.in-None.is ] in
    let few : length c.args.certificates.items ≤ 6 = let size = c.deref-3.ensures.len in omega arith in
    path_holds c.args.table.now c.args.certificates.items c.issuer_of_last-top.result.now c.requires.path.leaf c.in_ok-authority.authority c.match-authority.asked _ _
    few c.requires.path.is_leaf (rw c.deref-3.ensures.value at c.in_ok-keys.ensures.count) (rw c.deref-4.ensures.value at c.in_ok-authority.ensures) only
