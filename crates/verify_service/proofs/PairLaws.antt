-- The seat of a round that was carried out, and the classes of its calls, as those see them who know the calls of the log.
use Rattle.std.proofs.Common.{◌≡◌, ℕ, zero, suc, ◌<◌, ◌⊎◌, inl, inr, true, List, [], ◌∷◌, length, map, unwrap_or, Option, Some, None, refl, sym, ap, ◌∙◌, subst, arith}
use Rattle.std.proofs.lemmas.Option.{same_Some}
use Rattle.std.specs.List.{slice_get}
use Rattle.call_log.specs.Entry.{Entry}
use Rattle.replay_desk.specs.Holder.{Holder}
use Rattle.live_desk.specs.Lists.{In}
use Rattle.replay_desk.specs.Past.{PastView, found}
use Rattle.verify_rules.specs.declared.settings.Settings.{Settings}
use Rattle.verify_service.specs.Carried.{Carries, HasPairs, IsReplayPair, IsValidPair}
use Rattle.verify_service.specs.Carrying.{IsInTurn, IsLoss, IsWin, Placed, out_at}
use Rattle.verify_service.specs.Claiming.{ReplaysKept, loss_of, pair_of}
use Rattle.call_judging.specs.Judging.{ticket_or_none}
use Rattle.verify_service.specs.Judging.{EachPair, call_in}
use Rattle.verify_service.specs.Ready.{class_in, is_passed, ticket_in}
use Rattle.verify_service.specs.Rows.{held, kept_of_past, passes}
use Rattle.state_text.specs.declared.kept.Kept.{Kept as Passed}
use Rattle.std.specs.Option.{option_map}
use Rattle.verify_service.specs.Screening.{IsReady}
use Rattle.verify_service.specs.declared.outcome.Outcome.{Outcome}
use Rattle.verify_service.specs.declared.outcome.Outcome.TheVariants as outcomes
use Rattle.verify_service.specs.declared.screening.ReadyCall.{ReadyCall}
use Rattle.verify_service.proofs.CallRowLaws.{apart_passed, ticket_is}
use Rattle.verify_service.proofs.EntryClassLaws.{Beside, ClassedCall, are_classes, beside, class_at, of_log, out_some, some_at, some_out}
use Rattle.verify_service.proofs.CarriedLaws.{IsCarried, carried_settled, first_wins}

-- what isn't held isn't found
none_kept : (o : Option Passed) → option_map kept_of_past o ≡ None → o ≡ None
none_kept None none = refl
none_kept (Some passed) none = absurd cc

module _ (settings : Settings) (entries : List Entry) (calls : List ReadyCall) (outs : List Outcome) (past next : PastView) (all : Holder)
    (k : IsCarried settings entries calls outs past next all) (classed : (at : ℕ) (call : ReadyCall) → slice_get calls at ≡ Some call → ClassedCall call) where
  abbrev classes : List (Option ℕ)
  classes = map (λ (call : ReadyCall). call.class) calls

  -- ---- the wins and the losses

  within : (at : ℕ) (xs : List ReadyCall) (es : List Entry) (call : ReadyCall) → EachPair (IsReady settings) es xs → slice_get xs at ≡ Some call → at < length es
  within at [] [] call ready is = absurd cc
  within at [] (e ∷ es) call ready is = absurd ready
  within at (x ∷ xs) [] call ready is = absurd ready
  within zero (x ∷ xs) (e ∷ es) call ready is = omega arith
  within (suc at) (x ∷ xs) (e ∷ es) call ready is = let less = within at xs es call ready.1 is in omega arith

  answer_at : (at : ℕ) (call : ReadyCall) (o : Outcome) → slice_get calls at ≡ Some call → out_at outs at ≡ o → slice_get outs at ≡ Some o
  answer_at at call o stands is =
      let less = within at calls entries call k.ready stands in
      let counted = k.counted in
      some_out outs at (omega arith) ∙ ap Some is

  placed : (at : ℕ) (call : ReadyCall) (o : Outcome) → slice_get calls at ≡ Some call → slice_get outs at ≡ Some o → Placed past call all o
  placed at call o stands is = subst (λ (x : Outcome). Placed past call all x) (out_some outs at o is) (k.claims.each at call stands)

  class_is : (at : ℕ) (call : ReadyCall) (n : ℕ) → slice_get calls at ≡ Some call → slice_get classes at ≡ Some (Some n) → class_in call ≡ n
  class_is at call n stands is = ap (λ (o : Option ℕ). unwrap_or o 0) (same_Some call.class (Some n) (sym (class_at settings entries calls k.laws k.ready k.classed classed at call stands) ∙ is))

  win_pair : (p : ℕ × ℕ) → IsWin calls outs (length calls) p → IsValidPair entries classes outs p
  win_pair p win =
      let l = of_log settings entries calls win.at win.call k.ready win.stands in
      let through = k.passed win.at win.call win.stands (ap passes win.valid) in
      record {
        at = win.at;
        entry = l.entry;
        stands = l.stands;
        class = some_at settings entries calls k.laws k.ready k.classed classed win.at win.call win.stands through ∙ ap (λ (q : ℕ × ℕ). Some (Some q.0)) (sym win.pair);
        number = sym l.ready.number ∙ ap (λ (q : ℕ × ℕ). q.1) (sym win.pair);
        valid = answer_at win.at win.call outcomes.Valid win.stands win.valid;
      }

  pair_win : (p : ℕ × ℕ) (v : IsValidPair entries classes outs p) → Beside settings calls v.at v.entry → In p all.wins
  pair_win p v b =
      let class : class_in b.call ≡ p.0 = class_is v.at b.call p.0 b.stands v.class in
      let number : b.call.number ≡ p.1 = b.ready.number ∙ v.number in
      let own : In (pair_of b.call) all.wins = (placed v.at b.call outcomes.Valid b.stands v.valid).1 in
      subst (λ n. In (p.0, n) all.wins) number (subst (λ n. In (n, b.call.number) all.wins) class own)

  loss_pair : (p : ℕ × ℕ) → IsLoss past calls outs (length calls) p → IsReplayPair settings (held past) entries classes outs p
  loss_pair p loss =
      let l = of_log settings entries calls loss.at loss.call k.ready loss.stands in
      let through = k.passed loss.at loss.call loss.stands (ap passes loss.replay) in
      record {
        at = loss.at;
        entry = l.entry;
        stands = l.stands;
        class = some_at settings entries calls k.laws k.ready k.classed classed loss.at loss.call loss.stands through ∙ ap (λ n. Some (Some n)) (sym loss.class);
        replay = answer_at loss.at loss.call (outcomes.Replay p.1) loss.stands loss.replay;
        free = ap (option_map kept_of_past) (ap (found past) (sym (ticket_is k.laws (call_in settings l.entry) loss.call.screening through l.ready.screening)) ∙ loss.free);
      }

  pair_loss : (p : ℕ × ℕ) (v : IsReplayPair settings (held past) entries classes outs p) → Beside settings calls v.at v.entry → In p all.losses
  pair_loss p v b = by (placed v.at b.call (outcomes.Replay p.1) b.stands v.replay)
    where
      class : class_in b.call ≡ p.0
      class = class_is v.at b.call p.0 b.stands v.class

      through : is_passed b.call.screening ≡ true
      through = k.passed v.at b.call b.stands (ap passes (out_some outs v.at (outcomes.Replay p.1) v.replay))

      free : found past (ticket_in b.call.screening) ≡ None
      free = ap (found past) (ticket_is k.laws (call_in settings v.entry) b.call.screening through b.ready.screening) ∙ none_kept (found past (ticket_or_none (call_in settings v.entry))) v.free

      by : ReplaysKept past (ticket_in b.call.screening) p.1 ⊎ ((found past (ticket_in b.call.screening) ≡ None) × In (loss_of b.call p.1) all.losses) → In p all.losses
      by (inl kept) = absurd (apart_passed (found past (ticket_in b.call.screening)) kept.kept kept.stands free)
      by (inr lost) = subst (λ n. In (n, p.1) all.losses) class lost.1

  pub has_pairs : HasPairs settings (held past) entries classes outs all
  has_pairs = record {
    wins = λ p. (λ has. win_pair p (k.claims.wins p has), λ v. pair_win p v (beside settings entries calls v.at v.entry k.ready v.stands));
    losses = λ p. (λ has. loss_pair p (k.claims.losses p has), λ v. pair_loss p v (beside settings entries calls v.at v.entry k.ready v.stands));
  }

  -- ---- all of it

  pub carries : (workers : ℕ) → (workers ≡ 1 → IsInTurn past calls outs) → Carries settings entries workers past next (record { outcomes = outs; classes = classes; desk = all.desk; seat = all })
  carries workers turn = record {
    classes = are_classes settings entries calls k.laws k.ready k.classed classed;
    pairs = has_pairs;
    settled = carried_settled settings entries calls outs past next all k;
    first = λ one. first_wins settings entries calls outs past next all k (turn one);
  }
