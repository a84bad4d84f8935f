-- One chain more.
use Rattle.verify_rules.specs.States.{seen}
use Rattle.open_calls.specs.OpenChains.{states_of}
use Rattle.open_calls.proofs.ChainsLaws.{one_more}
use Rattle.open_calls.proofs.lines.add_chains.Goals as goal

pub chains-preserved : goal.chains-preserved
chains-preserved c =
    let i = c.chains.invariant in
    record {
      end = i.end;
      so = one_more (states_of c.args.chains.now) c.args.text.now.items c.chains.text.items c.add_chain.new.text.items c.chains.i (seen c.state.result) i.so c.state.ensures c.in_ok-add_chain.ensures;
    }
