-- What comes of a message that was screened, over the chains that were read.
use Rattle.std.proofs.Common.{◌≡◌, inl, ap, ◌∙◌, subst}
use Rattle.stir_outside.specs.Held.{Held, held_says, held_signs}
use Rattle.stir_outside.specs.Provided.{SteadyState}
use Rattle.retarget.specs.Hop.{hop_of}
use Rattle.call_judging.specs.Chains.{AreRightWhere}
use Rattle.stir_cmd.specs.Sending.{place_of}
use Rattle.stir_cmd.proofs.SendingLaws.{may_come, over_chains}
use Rattle.stir_cmd.proofs.sending.send_screened.Goals as goal

pub returns-clause-sent : goal.returns-clause-sent
returns-clause-sent g c =
    let held : c.steady-provider.result.held ≡ c.args.place.now.answers.now = ap (λ (s : SteadyState). s.held) c.steady-provider.ensures in
    let told = g.S.Shelf.files c.args.shelf.now in
    let readings = c.args.screened.now.readings in
    inl (over_chains (place_of c.args.place.now) told _ _ (held_says c.read_chains.new.provider.held) (held_signs c.read_chains.new.provider.held) (hop_of c.args.hop.now) c.args.bytes.now c.args.screened.now
    c.read_chains.new.chains (λ out. out.items) c.retarget.result c.requires.screened (c.in_ok-read_chains.ensures.provider.says ∙ ap held_says held) (c.in_ok-read_chains.ensures.provider.signs ∙ ap held_signs held)
    c.in_ok-read_chains.ensures.counted
    (subst (λ (h : Held). AreRightWhere told c.args.place.now.world.now (held_says h) readings c.read_chains.new.chains) held c.in_ok-read_chains.ensures.right)
    c.in_ok-read_chains.ensures.unread c.in_ok-read_chains.ensures.unasked (record {
      finished = c.retarget.ensures.finished;
      no_pass = c.retarget.ensures.no_pass;
      exact = c.retarget.ensures.exact;
      written = c.retarget.ensures.written;
      causes = c.retarget.ensures.causes;
      next = c.retarget.ensures.next;
      link = c.retarget.ensures.link;
    }))

pub returns-clause-may : goal.returns-clause-may
returns-clause-may g c =
    may_come c.retarget.result _ (place_of c.args.place.now) _ _ _ _ c.retarget.ensures.finished c.retarget.ensures.no_pass c.retarget.ensures.failed c.in_ok-read_chains.ensures.unread c.in_ok-read_chains.ensures.unasked
