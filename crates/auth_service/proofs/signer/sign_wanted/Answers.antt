-- Each fault has its cause.
use Rattle.auth_service.specs.Order.{holder_seen, wanted_of}
use Rattle.auth_service.proofs.CauseLaws.{Laws, answers_caused, withheld_fault}
use Rattle.auth_service.proofs.signer.sign_wanted.Goals as goal

pub returns : goal.returns
returns g c =
    let laws : Laws = record {
      head = c.head_law.ensures;
      full = c.token_bytes_law.ensures.full_size;
      compact = c.token_bytes_law.ensures.compact_size;
      covers = c.covers_kind_law.ensures;
    } in
    record {
      promised = record {
        exact = c.sign_exactly.ensures.exact;
        is_signed = c.sign_exactly.ensures.signed;
        causes = answers_caused (λ out. out.items) c.sign_exactly.result laws c.args.bytes.now (wanted_of c.args.wanted.now) (holder_seen c.args.holder) (g.P.Provider.signs c.args.provider.now) c.sign_exactly.ensures.exact;
      };
      asked = c.sign_exactly.ensures.asked;
      provider = c.sign_exactly.ensures.provider;
      withheld = λ w. let f = withheld_fault laws c.args.bytes.now (wanted_of c.args.wanted.now) (holder_seen c.args.holder) w in c.sign_exactly.ensures.withheld f.0 f.1;
    }
