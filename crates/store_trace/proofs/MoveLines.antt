-- Which moves the lines of `moves` tell.
use Rattle.std.proofs.Common.{◌≡◌, ℕ, zero, suc, ◌+◌, ◌<◌, List, [], ◌∷◌, ◌++◌, length, get_or, map, take, sym, ap, ◌∙◌, subst}
use Rattle.std.specs.Prelude.{slice_get, Some}
use Rattle.std.proofs.lemmas.List.{map-append, take_more}

-- what holds of each of a list with its place, and of one more behind it
pub each_push : {A : Type 0} (P : ℕ → A → Type 0) (xs : List A) (x : A) → ((i : ℕ) (y : A) → slice_get xs i ≡ Some y → P i y)
    → P (length xs) x → (i : ℕ) (y : A) → slice_get (xs ++ x ∷ []) i ≡ Some y → P i y
each_push P [] x each last zero y is = let same : x ≡ y = cc is in subst (P zero) same last
each_push P [] x each last (suc i) y is = absurd (cc is)
each_push P (z ∷ xs) x each last zero y is = each zero y is
each_push P (z ∷ xs) x each last (suc i) y is =
    each_push (λ (n : ℕ). P (suc n)) xs x (λ n w at. each (suc n) w at) last i y is

-- what two functions have the same of the first ones of a list, and of the next one
pub same_next : {A K : Type 0} (f g : A → K) (xs : List A) (i : ℕ) (x : A) → i < length xs → x ≡ get_or xs i x → f x ≡ g x
    → map f (take i xs) ≡ map g (take i xs) → map f (take (i + 1) xs) ≡ map g (take (i + 1) xs)
same_next f g xs i x inside at one same =
    let next : take (i + 1) xs ≡ take i xs ++ x ∷ [] = take_more xs i x inside ∙ ap (λ y. take i xs ++ y ∷ []) (sym at) in
    ap (map f) next ∙ map-append f (take i xs) (x ∷ []) ∙ ap (λ ks. ks ++ f x ∷ []) same ∙ ap (λ k. map g (take i xs) ++ k ∷ []) one
    ∙ sym (ap (map g) next ∙ map-append g (take i xs) (x ∷ []))
