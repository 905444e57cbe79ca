-- Lists made by one push for each number in a row.
use Rattle.std.proofs.Common.{◌≡◌, ℕ, ◌+◌, List, [], ◌∷◌, ◌++◌, map, sym, ◌∙◌, ap, arith}
use Rattle.std.specs.List.{range_with_len}
use Rattle.std.proofs.lemmas.List.FromFn.{map-range_with_len_more}

-- one push more
pub pushed_more : {X : Type 0} (f : ℕ → X) (n : ℕ) (xs ys : List X) (x : X)
    → ys ≡ xs ++ x ∷ [] → xs ≡ map f (range_with_len 0 n) → x ≡ f n → ys ≡ map f (range_with_len 0 (n + 1))
pushed_more f n xs ys x e d at =
    e ∙ ap (λ q. q ++ x ∷ []) d ∙ ap (λ q. map f (range_with_len 0 n) ++ q ∷ []) at
    ∙ sym (map-range_with_len_more f 0 n n (omega arith))
