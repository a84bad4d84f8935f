-- Whether a call may go on, in words.
use Rattle.std.proofs.Common.{◌≡◌, ℕ, ◌+◌, ◌≤◌, Bool, true, false, nat_le, cond, List, [], ◌∷◌, length, drop, Option, Some, None, Result, Ok, Err, refl, sym, ◌∙◌, ap, subst, arith, inl, inr}
use Rattle.std.proofs.lemmas.Bool.{or_cases, or_left, or_right}
use Rattle.std.proofs.lemmas.Bool.Decides.{nat_tests}
use Rattle.sip_message.specs.Accessors.{identities}
use Rattle.sip_message.specs.Address.{uri_number}
use Rattle.sip_message.specs.HeadAlphabet.{is_target}
use Rattle.sip_message.specs.Message.{MessageView}
use Rattle.verify_rules.specs.Call.{Reading}
use Rattle.auth_service.specs.Order.{HolderView}
use Rattle.retarget.specs.Answer.{is_provider}
use Rattle.retarget.specs.Causes.{IsCaused, LeadsNowhere}
use Rattle.retarget.specs.Hop.{HopView, next_number}
use Rattle.retarget.specs.Onward.{GoesOnTo, HasBeenAt, IsFull, LeadsTo, has_been_at, is_full, links_of, onward, onward_to}
use Rattle.retarget.specs.Verdicts.{IsAfterVerdict}
use Rattle.retarget.specs.declared.fault.HopFault.{HopFault}
use Rattle.retarget.specs.declared.fault.HopFault.TheVariants as faults
use Rattle.retarget.proofs.BeenLaws.{been_by, been_is}

abbrev Signs : Type 0
Signs = List ℕ → List ℕ → Option (List ℕ)

-- ---- the target's number

leads_by : (hop : HopView) (b : Bool) → is_target hop.target ≡ b → (number : List ℕ) → cond b (uri_number hop.target hop.local) None ≡ Some number → LeadsTo hop number
leads_by hop true e number h = record { uri = e; gives = h }
leads_by hop false e number h = absurd cc

pub leads : (hop : HopView) (number : List ℕ) → next_number hop ≡ Some number → LeadsTo hop number
leads hop number h = leads_by hop (is_target hop.target) refl number h

pub leads_is : (hop : HopView) (number : List ℕ) → LeadsTo hop number → next_number hop ≡ Some number
leads_is hop number l = ap (λ b. cond b (uri_number hop.target hop.local) None) l.uri ∙ l.gives

-- ---- room

links_length : (readings : List Reading) → 1 ≤ length readings → length readings ≡ length (drop 1 readings) + 1
links_length [] some = absurd (omega (arith, some))
links_length (origin ∷ links) some = omega arith

pub full_by : (message : MessageView) (readings : List Reading) → 1 ≤ length readings → is_full message readings ≡ true → IsFull message readings
full_by message readings some h = elim (or_cases (nat_le 16 (length (identities message))) (nat_le 9 (length readings)) h) [
  | inl fields ↦ inl (grind (arith, nat_tests, fields))
  | inr judged ↦ let all = links_length readings some in let k : 9 ≤ length readings = grind (arith, nat_tests, judged) in inr (omega (arith, all, k))
]

pub full_is : (message : MessageView) (readings : List Reading) → 1 ≤ length readings → IsFull message readings → is_full message readings ≡ true
full_is message readings some (inl fields) = or_left (nat_le 16 (length (identities message))) (nat_le 9 (length readings)) (grind (arith, nat_tests, fields))
full_is message readings some (inr links) =
    let all = links_length readings some in
    let k : 9 ≤ length readings = omega (arith, all, links) in
    or_right (nat_le 16 (length (identities message))) (nat_le 9 (length readings)) (grind (arith, nat_tests, k))

-- ---- the number, or the first fault

-- the call goes on to this number; or the fault has its cause, tells of a call that passed, and isn't the provider's
pub record IsStopped (bytes : List ℕ) (message : MessageView) (earlier : List ℕ) (readings : List Reading) (hop : HopView) (fault : HopFault) : Type 0 where
  pub caused : (holder : HolderView) (signs : Signs) → IsCaused bytes message earlier readings hop holder signs fault
  pub after : IsAfterVerdict fault
  pub unnamed : is_provider fault ≡ false

abbrev pub Answers : List ℕ → MessageView → List ℕ → List Reading → HopView → Result (List ℕ) HopFault → Type 0
Answers bytes message earlier readings hop (Ok number) = GoesOnTo message earlier readings hop number
Answers bytes message earlier readings hop (Err fault) = IsStopped bytes message earlier readings hop fault

by_tests : (bytes : List ℕ) (message : MessageView) (earlier : List ℕ) (readings : List Reading) (hop : HopView) (number : List ℕ) (been full : Bool) → 1 ≤ length readings → LeadsTo hop number
    → has_been_at earlier number (links_of readings) ≡ been → is_full message readings ≡ full
    → Answers bytes message earlier readings hop (cond been (Err faults.Loop) (cond full (Err faults.Full) (Ok number)))
by_tests bytes message earlier readings hop number true full some l b f = record {
  caused = λ holder signs. record { number = number; leads = l; been = been_by earlier number (links_of readings) b };
  after = record { passed = refl; no_pass = tt };
  unnamed = refl;
}
by_tests bytes message earlier readings hop number false true some l b f =
    let new : HasBeenAt earlier number (links_of readings) → ⊥ = λ h. let k = been_is earlier number (links_of readings) h in absurd cc in
    record {
      caused = λ holder signs. record { number = number; leads = l; new = new; full = full_by message readings some f };
      after = record { passed = refl; no_pass = tt };
      unnamed = refl;
    }
by_tests bytes message earlier readings hop number false false some l b f = record {
  leads = l;
  new = λ h. let k = been_is earlier number (links_of readings) h in absurd cc;
  room = λ h. let k = full_is message readings some h in absurd cc;
}

nowhere : (hop : HopView) → next_number hop ≡ None → LeadsNowhere hop
nowhere hop e number l = let k = leads_is hop number l in absurd cc

by_number : (bytes : List ℕ) (message : MessageView) (earlier : List ℕ) (readings : List Reading) (hop : HopView) (o : Option (List ℕ)) → 1 ≤ length readings → next_number hop ≡ o
    → Answers bytes message earlier readings hop (onward_to message earlier readings o)
by_number bytes message earlier readings hop None some e = record {
  caused = λ holder signs. nowhere hop e;
  after = record { passed = refl; no_pass = tt };
  unnamed = refl;
}
by_number bytes message earlier readings hop (Some number) some e =
    by_tests bytes message earlier readings hop number (has_been_at earlier number (links_of readings)) (is_full message readings) some (leads hop number e) refl refl

pub answers : (bytes : List ℕ) (message : MessageView) (earlier : List ℕ) (readings : List Reading) (hop : HopView) (r : Result (List ℕ) HopFault) → 1 ≤ length readings
    → r ≡ onward message earlier readings hop → Answers bytes message earlier readings hop r
unfolding onward
answers bytes message earlier readings hop r some e =
    subst (Answers bytes message earlier readings hop) (sym e) (by_number bytes message earlier readings hop (next_number hop) some refl)
