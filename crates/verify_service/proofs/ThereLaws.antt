-- A chain that is kept or held stays there if one more is, unless as many others were used as the cache may hold chains.
use Rattle.std.proofs.Common.{◌≡◌, ℕ, ◌≤◌, inl, inr, Bool, true, false, cond, List, length, is_some, Option, Some, refl, sym, ap, ◌∙◌, subst}
use Rattle.std.specs.Cmp.Lexicographic.{nat_list_eq_equiv}
use Rattle.std.specs.Str.{bytes_eq}
use Rattle.cert_store.specs.Asking.{is_failed}
use Rattle.cert_store.specs.Files.{Files}
use Rattle.cert_store.specs.Holding.{Chains, Holding, chain_of, put_in}
use Rattle.cert_store.specs.Judged.{JudgedView}
use Rattle.cert_store.specs.Using.{HeldUnless, IsHeldSince, IsOnce, has, names}
use Rattle.verify_rules.specs.States.{State, have, long, no_chain, unread}
use Rattle.verify_service.specs.Kept.{HoldsChain, KeepsChain, Kept, StoresChain, StoresJudged, kept_state}
use Rattle.verify_service.specs.RightChains.{IsThere, IsThereUnless}
use Rattle.verify_service.proofs.TestLaws.{or_left, or_right}

abbrev pub PutLaw : Type 0
PutLaw = (used : List (List ℕ)) (x5u : List ℕ) (judged : JudgedView) (holding : Holding) → IsHeldSince used x5u (put_in x5u judged holding)

abbrev pub OthersLaw : Type 0
OthersLaw = (used : List (List ℕ)) (x5u other : List ℕ) (judged : JudgedView) (holding : Holding) → IsOnce (names holding.entries) → has x5u used ≡ true
    → HeldUnless holding.capacity used other holding.entries → HeldUnless holding.capacity used other (put_in x5u judged holding)

abbrev pub FewLaw : Type 0
FewLaw = (capacity : ℕ) (used : List (List ℕ)) (x5u : List ℕ) (entries : Chains) → has x5u used ≡ true → length used ≤ capacity → HeldUnless capacity used x5u entries
    → is_some (chain_of x5u entries) ≡ true

some_step : (b : Bool) (state : State) (o : Option State) → is_some o ≡ true → is_some (cond b (Some state) o) ≡ true
some_step true state o is = refl
some_step false state o is = is

-- ---- it is kept

kept_here : (capacity : ℕ) (used : List (List ℕ)) (x5u : List ℕ) (state : State) (held now : Holding) (kept kept_now : Kept) → KeepsChain x5u state held now kept kept_now
    → IsThereUnless capacity used now.entries kept_now x5u
kept_here capacity used x5u state held now kept kept_now one =
    inl (ap is_some (one.keeps x5u) ∙ ap (λ b. is_some (cond b (Some state) (kept_state x5u kept))) (nat_list_eq_equiv.refl x5u))

kept_others : (used : List (List ℕ)) (x5u other : List ℕ) (state : State) (held now : Holding) (kept kept_now : Kept) → KeepsChain x5u state held now kept kept_now
    → IsThereUnless held.capacity used held.entries kept other → IsThereUnless held.capacity used now.entries kept_now other
kept_others used x5u other state held now kept kept_now one (inl is) = inl (ap is_some (one.keeps other) ∙ some_step (bytes_eq x5u other) state (kept_state other kept) is)
kept_others used x5u other state held now kept kept_now one (inr so) = inr (subst (λ (h : Holding). HeldUnless held.capacity used other h.entries) (sym one.same) so)

-- ---- it is held

held_here : PutLaw → (capacity : ℕ) (used : List (List ℕ)) (x5u : List ℕ) (judged : JudgedView) (held now : Holding) (kept kept_now : Kept) → HoldsChain x5u judged held now kept kept_now
    → IsThereUnless capacity used now.entries kept_now x5u
held_here law capacity used x5u judged held now kept kept_now one =
    inr (inl (subst (λ (h : Holding). IsHeldSince used x5u h.entries) (sym one.holds) (law used x5u judged held)))

held_others : OthersLaw → (used : List (List ℕ)) (x5u other : List ℕ) (judged : JudgedView) (held now : Holding) (kept kept_now : Kept) → IsOnce (names held.entries) → has x5u used ≡ true
    → HoldsChain x5u judged held now kept kept_now → IsThereUnless held.capacity used held.entries kept other → IsThereUnless held.capacity used now.entries kept_now other
held_others law used x5u other judged held now kept kept_now once among one (inl is) = inl (ap (λ (k : Kept). is_some (kept_state other k)) one.same ∙ is)
held_others law used x5u other judged held now kept kept_now once among one (inr so) =
    inr (subst (λ (h : Holding). HeldUnless held.capacity used other h.entries) (sym one.holds) (law used x5u other judged held once among so))

-- ---- of one chain that is stored

judged_here : PutLaw → (capacity : ℕ) (used : List (List ℕ)) (x5u : List ℕ) (judged : JudgedView) (held now : Holding) (kept kept_now : Kept) (failed : Bool)
    → StoresJudged failed x5u judged held now kept kept_now → IsThereUnless capacity used now.entries kept_now x5u
judged_here law capacity used x5u judged held now kept kept_now true one = kept_here capacity used x5u (have judged) held now kept kept_now one
judged_here law capacity used x5u judged held now kept kept_now false one = held_here law capacity used x5u judged held now kept kept_now one

pub stored_here : PutLaw → (used : List (List ℕ)) (x5u : List ℕ) (state : State) (held now : Holding) (kept kept_now : Kept) → StoresChain x5u state held now kept kept_now
    → IsThereUnless held.capacity used now.entries kept_now x5u
stored_here law used x5u (have judged) held now kept kept_now one = judged_here law held.capacity used x5u judged held now kept kept_now (is_failed judged.asked) one
stored_here law used x5u no_chain held now kept kept_now one = kept_here held.capacity used x5u no_chain held now kept kept_now one
stored_here law used x5u long held now kept kept_now one = kept_here held.capacity used x5u long held now kept kept_now one
stored_here law used x5u unread held now kept kept_now one = kept_here held.capacity used x5u unread held now kept kept_now one

judged_others : OthersLaw → (used : List (List ℕ)) (x5u other : List ℕ) (judged : JudgedView) (held now : Holding) (kept kept_now : Kept) (failed : Bool) → IsOnce (names held.entries)
    → has x5u used ≡ true → StoresJudged failed x5u judged held now kept kept_now → IsThereUnless held.capacity used held.entries kept other
    → IsThereUnless held.capacity used now.entries kept_now other
judged_others law used x5u other judged held now kept kept_now true once among one so = kept_others used x5u other (have judged) held now kept kept_now one so
judged_others law used x5u other judged held now kept kept_now false once among one so = held_others law used x5u other judged held now kept kept_now once among one so

pub stored_others : OthersLaw → (used : List (List ℕ)) (x5u other : List ℕ) (state : State) (held now : Holding) (kept kept_now : Kept) → IsOnce (names held.entries) → has x5u used ≡ true
    → StoresChain x5u state held now kept kept_now → IsThereUnless held.capacity used held.entries kept other → IsThereUnless held.capacity used now.entries kept_now other
stored_others law used x5u other (have judged) held now kept kept_now once among one so =
    judged_others law used x5u other judged held now kept kept_now (is_failed judged.asked) once among one so
stored_others law used x5u other no_chain held now kept kept_now once among one so = kept_others used x5u other no_chain held now kept kept_now one so
stored_others law used x5u other long held now kept kept_now once among one so = kept_others used x5u other long held now kept kept_now one so
stored_others law used x5u other unread held now kept kept_now once among one so = kept_others used x5u other unread held now kept kept_now one so

-- ---- and then it is there

pub there_of : FewLaw → (files : Files) (capacity : ℕ) (used : List (List ℕ)) (x5u : List ℕ) (held : Chains) (kept : Kept) → has x5u used ≡ true → length used ≤ capacity
    → IsThereUnless capacity used held kept x5u → IsThere files held kept x5u
there_of law files capacity used x5u held kept among few (inl is) = λ stands. or_left (is_some (kept_state x5u kept)) (is_some (chain_of x5u held)) is
there_of law files capacity used x5u held kept among few (inr so) =
    λ stands. or_right (is_some (kept_state x5u kept)) (is_some (chain_of x5u held)) (law capacity used x5u held among few so)
