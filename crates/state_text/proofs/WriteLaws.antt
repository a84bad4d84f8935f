-- What is written of a state, line by line.
use Rattle.std.proofs.Common.{◌≡◌, ℕ, List, [], ◌∷◌, ◌++◌, length, Result, Ok, Err, IfOk, codes, sym, ◌∙◌, ap, append_assoc, append-nil}
use Rattle.std.specs.Fmt.{decimal}
use Rattle.state_text.specs.State.{Entry, StateView}
use Rattle.state_text.specs.StateText.{head_line, head_text, kept_line, kept_lines, number_line, state_text, text_of}

pub head_is : (window call moment : ℕ) → codes "past 1\nwindow " ++ (decimal window ++ (codes "\ncall " ++ (decimal call ++ (codes "\nmoment " ++ (decimal moment ++ codes "\n"))))) ≡ head_text window call moment
head_is window call moment =
    let third = number_line (codes "moment ") moment in
    let second = number_line (codes "call ") call in
    ap (λ x. codes "past 1\nwindow " ++ x) (
    ap (λ x. decimal window ++ 10 ∷ x) (ap (λ x. codes "call " ++ x) (sym (append_assoc (decimal call) (10 ∷ []) third)))
    ∙ sym (append_assoc (decimal window) (10 ∷ []) (second ++ third)))

end_of : (entries : List Entry) (line : List ℕ) → text_of (kept_lines entries ++ line ∷ []) ≡ text_of (kept_lines entries) ++ line
end_of [] line = append-nil line
end_of (e ∷ es) line = ap (λ x. kept_line e ++ x) (end_of es line) ∙ sym (append_assoc (kept_line e) (text_of (kept_lines es)) line)

written_state : (s : StateView) → (head_text s.window s.call s.moment ++ text_of (kept_lines s.kept)) ++ number_line (codes "end ") (length s.kept) ≡ state_text s
unfolding state_text
written_state s =
    let tail = text_of (kept_lines s.kept) ++ number_line (codes "end ") (length s.kept) in
    let third = number_line (codes "moment ") s.moment in
    let second = number_line (codes "call ") s.call in
    let first = number_line (codes "window ") s.window in
    append_assoc (head_text s.window s.call s.moment) (text_of (kept_lines s.kept)) (number_line (codes "end ") (length s.kept))
    ∙ append_assoc head_line (first ++ (second ++ third)) tail
    ∙ ap (λ x. head_line ++ x) (append_assoc first (second ++ third) tail ∙ ap (λ x. first ++ x) (append_assoc second third tail ∙ ap (λ x. second ++ (third ++ x)) (sym (end_of s.kept (number_line (codes "end ") (length s.kept))))))

pub written_by : (s : StateView) (head kept all : List ℕ) → head ≡ head_text s.window s.call s.moment → kept ≡ head ++ text_of (kept_lines s.kept) → all ≡ kept ++ number_line (codes "end ") (length s.kept) → all ≡ state_text s
written_by s head kept all h k e = e ∙ ap (λ x. x ++ number_line (codes "end ") (length s.kept)) (k ∙ ap (λ x. x ++ text_of (kept_lines s.kept)) h) ∙ written_state s

-- the same text, if there is one
pub if_same : {X E : Type 0} (result : Result X E) (seen : X → List ℕ) (one other : List ℕ) → one ≡ other → IfOk result (λ x. seen x ≡ one) → IfOk result (λ x. seen x ≡ other)
if_same (Ok x) seen one other same is = is ∙ same
if_same (Err fault) seen one other same is = tt
