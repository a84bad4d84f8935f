-- The PASSporT of an order is one that can be made.
use Rattle.std.proofs.Common.{◌≡◌, ℕ, Bool, true, false, cond, ◌&&◌, nat_le, nat_lt, inl, inr, codes, List, [], ◌∷◌, length, Ok, Err, IsTrue, refl, sym, ap, subst, ◌∙◌, arith}
use Rattle.std.proofs.lemmas.Bool.{and_parts}
use Rattle.std.proofs.lemmas.Bool.Decides.{nat_tests}
use Rattle.text_grammar.specs.Moment.{last_second}
use Rattle.text_grammar.specs.Uri.{is_uri}
use Rattle.passport_claims.specs.Kind.{ppt_of}
use Rattle.passport_claims.specs.Made.{has_origid, is_called_count, made}
use Rattle.passport_claims.specs.Passport.{ClaimsView, is_text}
use Rattle.passport_claims.specs.declared.fault.ClaimFault.{ClaimFault}
use Rattle.passport_claims.specs.declared.fault.ClaimFault.TheVariants as claim_faults
use Rattle.lists.specs.Given.{IsFaultOf}
use Rattle.passport_claims.specs.Reading.{fault_seen}
use Rattle.lists.proofs.StepLaws.{inside}
use Rattle.passport_claims.specs.declared.kind.Kind.{Kind}
use Rattle.passport_claims.proofs.KindLaws.{memory_or_read}
use Rattle.auth_service.specs.Order.{OrderView, is_order, kind_of}
use Rattle.auth_service.specs.Signed.{claims_by}
use Rattle.auth_service.specs.Written.{IsFor}

-- what is asked of an order
pub record IsOrder (order : OrderView) : Type 0 where
  pub uri : IsTrue (is_uri order.x5u)
  pub within : nat_lt last_second order.iat ≡ false
  pub origid : has_origid (kind_of order.shape) ≡ true

pub order_parts : (order : OrderView) → IsTrue (is_order order) → IsOrder order
order_parts order h =
    let t = and_parts (is_uri order.x5u && nat_le order.iat last_second) (has_origid (kind_of order.shape)) h in
    let u = and_parts (is_uri order.x5u) (nat_le order.iat last_second) t.0 in
    record { uri = u.0; within = grind (arith, nat_tests, u.1); origid = t.1 }

one_by : (t : Bool) → nat_le 1 (cond t 1 32) ≡ true
one_by true = refl
one_by false = refl

one_called : (kind : Kind) → is_called_count kind 1 ≡ true
one_called kind = one_by (is_text (codes "div") (ppt_of kind))

-- it is made
pub made_again : (order : OrderView) (orig dest : List ℕ) → IsTrue (is_order order)
    → made (kind_of order.shape) order.x5u order.iat orig (dest ∷ []) ≡ Ok (claims_by order orig dest)
unfolding made
made_again order orig dest h =
    let p = order_parts order h in
    let uri : is_uri order.x5u ≡ true = p.uri in
    rw (uri, p.within, one_called (kind_of order.shape), p.origid) refl

-- so what is made of its parts is the PASSporT
pub made_is : (order : OrderView) (kind : Kind) (orig dest : List ℕ) (claims : ClaimsView) → IsTrue (is_order order) → kind ≡ kind_of order.shape
    → made kind order.x5u order.iat orig (dest ∷ []) ≡ Ok claims → claims_by order orig dest ≡ claims
made_is order kind orig dest claims h k e =
    inside (claims_by order orig dest) claims (sym (made_again order orig dest h) ∙ ap (λ (x : Kind). made x order.x5u order.iat orig (dest ∷ [])) (sym k) ∙ e)

-- and refused for no cause
pub never_refused : (order : OrderView) (orig dest : List ℕ) (fault : ClaimFault) → IsTrue (is_order order)
    → made (kind_of order.shape) order.x5u order.iat orig (dest ∷ []) ≡ Err fault → ⊥
never_refused order orig dest fault h e = let k = made_again order orig dest h in absurd cc

-- so that the one fault that may come is out of memory
only_memory : (order : OrderView) (orig dest : List ℕ) (fault : ClaimFault) → IsTrue (is_order order)
    → IsFaultOf (fault_seen fault) (made (kind_of order.shape) order.x5u order.iat orig (dest ∷ [])) → fault ≡ claim_faults.Memory
only_memory order orig dest fault h e =
    elim (memory_or_read fault (made (kind_of order.shape) order.x5u order.iat orig (dest ∷ [])) e) [
      | inl is ↦ is
      | inr refused ↦ absurd (never_refused order orig dest fault h refused)
    ]

pub memory_alone : (order : OrderView) (kind : Kind) (orig dest : List ℕ) (fault : ClaimFault) → IsTrue (is_order order) → kind ≡ kind_of order.shape
    → IsFaultOf (fault_seen fault) (made kind order.x5u order.iat orig (dest ∷ [])) → fault ≡ claim_faults.Memory
memory_alone order kind orig dest fault h k e =
    only_memory order orig dest fault h (subst (λ (x : Kind). IsFaultOf (fault_seen fault) (made x order.x5u order.iat orig (dest ∷ []))) k e)

pub made_for : (order : OrderView) (orig dest : List ℕ) (claims : ClaimsView) → claims ≡ claims_by order orig dest → IsFor order claims
made_for order orig dest claims e = record {
  kind = ap (λ (c : ClaimsView). c.kind) e;
  x5u = ap (λ (c : ClaimsView). c.x5u) e;
  called = ap (λ (c : ClaimsView). length c.dest) e;
}
