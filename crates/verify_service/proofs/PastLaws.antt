-- The past of the desk, as the replay rule sees it.
use Rattle.std.proofs.Common.{◌≡◌, ℕ, nat_lt, Bool, true, false, cond, List, Option, Some, None, refl, sym, ap, ◌∙◌}
use Rattle.std.specs.Option.{option_map}
use Rattle.replay_desk.specs.Past.{PastView, found, unless_below as desk_unless_below}
use Rattle.replay_law.specs.Held.{Held, Same, purged, unless_below}
use Rattle.state_text.specs.declared.kept.Kept.{Kept as Passed}
use Rattle.verify_service.specs.Rows.{held, kept_of_past}

-- ---- the purge

purged_by : (t : Bool) (passed : Passed) → cond t None (Some (kept_of_past passed)) ≡ option_map kept_of_past (cond t None (Some passed))
purged_by true passed = refl
purged_by false passed = refl

purged_at : (moment : ℕ) (o : Option Passed) → unless_below moment (option_map kept_of_past o) ≡ option_map kept_of_past (desk_unless_below moment o)
purged_at moment None = refl
purged_at moment (Some passed) = purged_by (nat_lt passed.last moment) passed

-- what the purge of the desk's past leaves is what the replay rule's leaves
pub held_purged : (moment : ℕ) (past next : PastView) → ((ticket : List ℕ) → found next ticket ≡ desk_unless_below moment (found past ticket)) → Same (purged moment (held past)) (held next)
held_purged moment past next left = λ ticket. purged_at moment (found past ticket) ∙ ap (option_map kept_of_past) (sym (left ticket))

pub held_same : (past next : PastView) (before : Held) → ((ticket : List ℕ) → found next ticket ≡ found past ticket) → Same before (held past) → Same before (held next)
held_same past next before left same = λ ticket. same ticket ∙ ap (option_map kept_of_past) (sym (left ticket))
