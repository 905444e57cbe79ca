-- Lists that grow at their end.
use Rattle.std.proofs.Common.{◌≡◌, zero, suc, List, [], ◌∷◌, ◌++◌, map, All, sym, ap, ◌∙◌, subst, arith}
use Rattle.std.proofs.lemmas.List.{map-append, append_assoc}
use Rattle.std.proofs.lemmas.List.Elements.{All-append}
use mathlib.Core.List.{IsPrefix}

-- what was made, and what is still to be made, are all
pub pushed : {A B : Type 0} (f : A → B) (made more : List A) (x : A) (y : B) (rest all : List B)
    → more ≡ made ++ x ∷ [] → f x ≡ y → map f made ++ y ∷ rest ≡ all → map f more ++ rest ≡ all
pushed f made more x y rest all grown same before = ap (λ xs. map f xs ++ rest) grown
    ∙ ap (λ ys. ys ++ rest) (map-append f made (x ∷ [])) ∙ append_assoc (map f made) (f x ∷ []) rest
    ∙ ap (λ z. map f made ++ z ∷ rest) same ∙ before

-- of both lists' new elements the same is made
pub pushed_both : {A B C : Type 0} (f : A → C) (g : B → C) (made more : List A) (made_too more_too : List B) (x : A) (y : B)
    → more ≡ made ++ x ∷ [] → more_too ≡ made_too ++ y ∷ [] → map f made ≡ map g made_too → f x ≡ g y
    → map f more ≡ map g more_too
pushed_both f g made more made_too more_too x y grown grown_too before same =
    ap (map f) grown ∙ map-append f made (x ∷ []) ∙ (λ i. before i ++ same i ∷ [])
    ∙ sym (ap (map g) grown_too ∙ map-append g made_too (y ∷ []))

only : {A : Type 0} (P : A → Type 0) (x : A) → P x → All P (x ∷ [])
only P x holds zero d near = holds
only P x holds (suc k) d near = absurd (omega arith)

-- it holds of each element of a list that grew by one of which it holds
pub holds_of_all : {A : Type 0} (P : A → Type 0) (made more : List A) (x : A) → more ≡ made ++ x ∷ [] → P x → All P made
    → All P more
holds_of_all P made more x grown holds before =
    subst (All P) (sym grown) (All-append P made (x ∷ []) before (only P x holds))

-- what grew and grows again has grown
pub grown_on : {A : Type 0} (xs ys zs : List A) → IsPrefix xs ys → IsPrefix ys zs → IsPrefix xs zs
grown_on xs ys zs first then_more = (
  first.0 ++ then_more.0,
  sym (append_assoc xs first.0 then_more.0) ∙ ap (λ list. list ++ then_more.0) first.1 ∙ then_more.1,
)
