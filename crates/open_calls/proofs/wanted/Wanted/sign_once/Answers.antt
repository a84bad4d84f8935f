-- What is wanted is one of the two orders, and the signer has this signature or none.
use Rattle.std.proofs.Common.{List, ℕ, Option, Some, ap, sym, subst}
use Rattle.auth_service.specs.Order.{holder_of}
use Rattle.auth_service.specs.Promise.{IsPromised}
use Rattle.open_calls.specs.Confirmed.{ConfirmedView}
use Rattle.open_calls.specs.Order.{wanted_of}
use Rattle.open_calls.specs.Signing.{signs_of}
use Rattle.open_calls.specs.declared.wanted.Wanted.{Wanted}
use Rattle.open_calls.proofs.wanted.Wanted.sign_once.Goals as goal

pub returns-in-Origin-clause-promised : goal.returns-in-Origin-clause-promised
returns-in-Origin-clause-promised c =
    subst (λ (m : Option (List ℕ)). IsPromised (λ out. out.items) c.args.message.now (wanted_of c.args.self.now) (Some (holder_of c.args.holder.now)) (signs_of m) c.sign.result)
    (ap (λ (v : ConfirmedView). v.made) c.new-signer.ensures.exact)
    (subst (λ (w : Wanted). IsPromised (λ out. out.items) c.args.message.now (wanted_of w) (Some (holder_of c.args.holder.now)) (signs_of c.new-signer.result.made) c.sign.result)
    (sym c.in-Origin.is) c.sign.ensures.promised)

pub returns-in-Diversion-clause-promised : goal.returns-in-Diversion-clause-promised
returns-in-Diversion-clause-promised c =
    subst (λ (m : Option (List ℕ)). IsPromised (λ out. out.items) c.args.message.now (wanted_of c.args.self.now) (Some (holder_of c.args.holder.now)) (signs_of m) c.divert.result)
    (ap (λ (v : ConfirmedView). v.made) c.new-signer.ensures.exact)
    (subst (λ (w : Wanted). IsPromised (λ out. out.items) c.args.message.now (wanted_of w) (Some (holder_of c.args.holder.now)) (signs_of c.new-signer.result.made) c.divert.result)
    (sym c.in-Diversion.is) c.divert.ensures.promised)
