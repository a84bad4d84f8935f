-- A type is such a one exactly if this is what it is: no type is two.
use Rattle.std.proofs.Common.{◌≡◌, ℕ, Bool, true, false, not, ◌&&◌, List, Option, Some, None, codes, refl, sym, ap, subst}
use Rattle.std.specs.Str.{bytes_eq}
use Rattle.verify_rules.specs.Ppt.{is_other, is_type, ppt_of, type_of_text}
use Rattle.verify_rules.specs.declared.identity_field.Ppt.{Ppt}
use Rattle.verify_rules.specs.declared.identity_field.Ppt.TheVariants.{Absent, Shaken, Div, Other}
use Rattle.verify_rules.proofs.Known.{absent_by, text_by}

other_by : (text : List ℕ) (s d : Bool) → bytes_eq text (codes "shaken") ≡ s → bytes_eq text (codes "div") ≡ d → (not s && not d) ≡ true
    → ppt_of (Some text) ≡ Other
unfolding ppt_of
other_by text true d is other h = absurd cc
other_by text false true is other h = absurd cc
other_by text false false is other h = rw (is, other) refl

pub means_ppt : (ppt : Ppt) (given : Option (List ℕ)) → is_type ppt given ≡ true → ppt_of given ≡ ppt
unfolding ppt_of
means_ppt Absent given h = ap ppt_of (absent_by given h)
means_ppt Shaken given h = ap ppt_of (text_by (codes "shaken") given h)
means_ppt Div given h = ap ppt_of (text_by (codes "div") given h)
means_ppt Other None h = absurd cc
means_ppt Other (Some text) h = other_by text (bytes_eq text (codes "shaken")) (bytes_eq text (codes "div")) refl refl h

own_by : (text : List ℕ) (s d : Bool) → bytes_eq text (codes "shaken") ≡ s → bytes_eq text (codes "div") ≡ d → is_type (ppt_of (Some text)) (Some text) ≡ true
unfolding ppt_of
own_by text true d is other = rw is is
own_by text false true is other = rw (is, other) other
own_by text false false is other =
    let what : type_of_text text ≡ Other = rw (is, other) refl in
    let so : is_other (Some text) ≡ true = rw (is, other) refl in
    subst (λ ppt. is_type ppt (Some text) ≡ true) (sym what) so

own : (given : Option (List ℕ)) → is_type (ppt_of given) given ≡ true
unfolding ppt_of
own None = refl
own (Some text) = own_by text (bytes_eq text (codes "shaken")) (bytes_eq text (codes "div")) refl refl

pub ppt_means : (ppt : Ppt) (given : Option (List ℕ)) → ppt_of given ≡ ppt → is_type ppt given ≡ true
ppt_means ppt given h = subst (λ p. is_type p given ≡ true) h (own given)
