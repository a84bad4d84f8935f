-- What the words that a seat set and saw say of a ticket.
use Rattle.std.proofs.Common.{◌≡◌, ◌≢◌, ℕ, zero, suc, ◌<◌, ⊎_elim, List, [], ◌∷◌, ◌++◌, take, get_or, refl, sym, ap, ◌∙◌, subst, arith}
use Rattle.std.proofs.Math.Seq.{take-suc}
use Rattle.live_desk.specs.Rule.{code_of, parent_of, piece_of, reads, word_at}
use Rattle.live_desk.specs.Ticket.{IsTicket, pieces}
use Rattle.live_desk.specs.Views.{AllMark, AllStand, Stands, seen_of, set_of}
use Rattle.live_desk.specs.Trail.{Has, Trail}
use Rattle.live_desk.specs.declared.view.SetWord.{SetWord}
use Rattle.live_desk.specs.declared.view.SeenWord.{SeenWord}
use Rattle.live_desk.proofs.Tickets.{pieces_len, pieces_small}
use Rattle.live_desk.proofs.Words.{parent_code, piece_code}

-- a word that is the code of a ticket's next piece stands for one piece more
pub read_more : (size : ℕ) (words : List ℕ) (ticket : List ℕ) (level slot parent : ℕ) → IsTicket ticket → level < 6
    → word_at size words level slot ≡ code_of parent (get_or (pieces ticket) level 0)
    → ((l : ℕ) → level ≡ suc l → reads size words l parent ≡ take (suc l) (pieces ticket))
    → reads size words level slot ≡ take (suc level) (pieces ticket)
read_more size words ticket zero slot parent is below word above =
    ap (λ (n : ℕ). piece_of n ∷ []) word
    ∙ (ap (λ (n : ℕ). n ∷ []) (piece_code parent _ (pieces_small ticket 0 is)) ∙ sym (take-suc (pieces ticket) 0 0 (omega (arith, pieces_len ticket))))
read_more size words ticket (suc level) slot parent is below word above =
    ap (λ (n : ℕ). reads size words level (parent_of n) ++ piece_of n ∷ []) word
    ∙ (ap (λ (n : ℕ). reads size words level n ++ piece_of (code_of parent (get_or (pieces ticket) (suc level) 0)) ∷ []) (parent_code parent _ (pieces_small ticket (suc level) is))
    ∙ (ap (λ (n : ℕ). reads size words level parent ++ n ∷ []) (piece_code parent _ (pieces_small ticket (suc level) is))
    ∙ (ap (λ (xs : List ℕ). xs ++ get_or (pieces ticket) (suc level) 0 ∷ []) (above level refl)
    ∙ sym (take-suc (pieces ticket) (suc level) 0 (omega (arith, pieces_len ticket))))))

module _ (size : ℕ) (words : List ℕ) (sets : List SetWord) (seen : List SeenWord) (marks : AllMark size words sets) (stands : AllStand size words seen) where
  pub has_stands : (level slot word : ℕ) → Has sets seen level slot word → Stands size words level slot word
  has_stands level slot word has = ⊎_elim (λ set. (marks (set_of level slot word set.0) set.1).stands) (λ found. stands (seen_of level slot word) found) has

  pub trail_reads : (ticket : List ℕ) → IsTicket ticket → (level parent : ℕ) → level < 6 → Trail sets seen (pieces ticket) (suc level) parent
      → (parent < size) × (word_at size words level parent ≢ 0) × (reads size words level parent ≡ take (suc level) (pieces ticket))
  trail_reads ticket is zero parent below trail =
      let here = has_stands 0 parent _ trail.2 in
      (here.within, (λ none. here.some (sym here.is ∙ none)), read_more size words ticket 0 parent trail.0 is below here.is (λ l apart. absurd (omega arith)))
  trail_reads ticket is (suc level) parent below trail =
      let here = has_stands (suc level) parent _ trail.2 in
      let before = trail_reads ticket is level trail.0 (omega arith) trail.1 in (
        here.within,
        (λ none. here.some (sym here.is ∙ none)),
        read_more size words ticket (suc level) parent trail.0 is below here.is
            (λ l same. let one : l ≡ level = omega arith in subst (λ (n : ℕ). reads size words n trail.0 ≡ take (suc n) (pieces ticket)) (sym one) before.2),
      )
