-- Lists whose elements are changed in turn, one by one.
use Rattle.std.proofs.Common.{◌≡◌, ℕ, zero, suc, ◌<◌, List, [], ◌∷◌, ◌++◌, length, map, refl, sym, ap, ◌∙◌, subst, append_assoc, append-nil, arith}
use Rattle.std.specs.List.{AllZip}
use Rattle.std.specs.Prelude.{slice_index_or, slice_set}
use Rattle.std.proofs.lemmas.List.{map-append}

module _ {A : Type 0} (R : A → A → Type 0) where
  -- the first so many were changed, and the others are as they were
  abbrev pub ChangedSoFar : ℕ → List A → List A → Type 0
  ChangedSoFar zero befores afters = afters ≡ befores
  ChangedSoFar (suc count) [] afters = afters ≡ []
  ChangedSoFar (suc count) (before ∷ befores) [] = ⊥
  ChangedSoFar (suc count) (before ∷ befores) (after ∷ afters) = R before after × ChangedSoFar count befores afters

  -- one more was
  pub changed_next : (count : ℕ) (befores afters : List A) (changed none : A) → ChangedSoFar count befores afters → count < length befores
      → R (slice_index_or afters count none) changed → ChangedSoFar (suc count) befores (slice_set afters count changed)
  changed_next zero [] afters changed none so_far low one = absurd (omega (arith, low))
  changed_next zero (before ∷ befores) afters changed none so_far low one =
      subst (λ (xs : List A). ChangedSoFar 1 (before ∷ befores) (slice_set xs 0 changed)) (sym so_far)
      (subst (λ (xs : List A). R (slice_index_or xs 0 none) changed) so_far one, refl)
  changed_next (suc count) [] afters changed none so_far low one = absurd (omega (arith, low))
  changed_next (suc count) (before ∷ befores) [] changed none so_far low one = absurd so_far
  changed_next (suc count) (before ∷ befores) (after ∷ afters) changed none so_far low one =
      (so_far.0, changed_next count befores afters changed none so_far.1 (omega (arith, low)) one)

  -- where as many were as there are, each was
  pub all_changed : (befores afters : List A) → ChangedSoFar (length befores) befores afters → AllZip R befores afters
  all_changed [] [] so_far = tt
  all_changed [] (after ∷ afters) so_far = absurd (cc so_far)
  all_changed (before ∷ befores) [] so_far = absurd so_far
  all_changed (before ∷ befores) (after ∷ afters) so_far = (so_far.0, all_changed befores afters so_far.1)

-- Lists whose elements go together, place by place.
module _ {A B : Type 0} where
  -- what is the same of each is the same of all
  pub zip_map : {K : Type 0} (P : A → B → Type 0) (f : A → K) (g : B → K) → ((x : A) (y : B) → P x y → g y ≡ f x)
      → (xs : List A) (ys : List B) → AllZip P xs ys → map g ys ≡ map f xs
  zip_map P f g same [] [] p = refl
  zip_map P f g same [] (y ∷ ys) p = absurd p
  zip_map P f g same (x ∷ xs) [] p = absurd p
  zip_map P f g same (x ∷ xs) (y ∷ ys) p =
      ap (λ k. k ∷ map g ys) (same x y p.0) ∙ ap (λ ks. f x ∷ ks) (zip_map P f g same xs ys p.1)

  -- they go together by what is made of each
  pub zip_seen : {K L : Type 0} (P : K → L → Type 0) (f : A → K) (g : B → L) (xs : List A) (ys : List B)
      → AllZip (λ x y. P (f x) (g y)) xs ys → AllZip P (map f xs) (map g ys)
  zip_seen P f g [] [] p = tt
  zip_seen P f g [] (y ∷ ys) p = absurd p
  zip_seen P f g (x ∷ xs) [] p = absurd p
  zip_seen P f g (x ∷ xs) (y ∷ ys) p = (p.0, zip_seen P f g xs ys p.1)

  -- a pair more behind them
  pub zip_push : (R : A → B → Type 0) (xs : List A) (ys : List B) (x : A) (y : B) → AllZip R xs ys → R x y → AllZip R (xs ++ x ∷ []) (ys ++ y ∷ [])
  zip_push R [] [] x y each one = (one, tt)
  zip_push R [] (z ∷ ys) x y each one = absurd each
  zip_push R (z ∷ xs) [] x y each one = absurd each
  zip_push R (z ∷ xs) (w ∷ ys) x y each one = (each.0, zip_push R xs ys x y each.1 one)

  -- they are as many
  pub zip_long : (R : A → B → Type 0) (xs : List A) (ys : List B) → AllZip R xs ys → length ys ≡ length xs
  zip_long R [] [] each = refl
  zip_long R [] (y ∷ ys) each = absurd each
  zip_long R (x ∷ xs) [] each = absurd each
  zip_long R (x ∷ xs) (y ∷ ys) each = ap suc (zip_long R xs ys each.1)

  -- The first ones of all were taken, and those that are left are the rest of them.
  abbrev pub SoFar : (A → B → Type 0) → List A → List A → List B → Type 0
  SoFar R all rest ys = (done : List A) × AllZip R done ys × (done ++ rest ≡ all)

  pub so_far_next : (R : A → B → Type 0) (all rest left : List A) (ys zs : List B) (x : A) (y : B) → rest ≡ x ∷ left → zs ≡ ys ++ y ∷ []
      → SoFar R all rest ys → R x y → SoFar R all left zs
  so_far_next R all rest left ys zs x y next more so_far one = (
    so_far.0 ++ x ∷ [],
    subst (AllZip R (so_far.0 ++ x ∷ [])) (sym more) (zip_push R so_far.0 ys x y so_far.1 one),
    append_assoc so_far.0 (x ∷ []) left ∙ ap (λ (xs : List A). so_far.0 ++ xs) (sym next) ∙ so_far.2,
  )

  pub so_far_all : (R : A → B → Type 0) (all rest : List A) (ys : List B) → rest ≡ [] → SoFar R all rest ys → AllZip R all ys
  so_far_all R all rest ys none so_far =
      subst (λ (xs : List A). AllZip R xs ys) (sym (append-nil so_far.0) ∙ ap (λ (xs : List A). so_far.0 ++ xs) (sym none) ∙ so_far.2) so_far.1

-- what is made of the elements of two lists is all of a list, also where one goes from the second to the first
pub moved_over : {A B K : Type 0} (f : A → K) (g : B → K) (xs more : List A) (x : A) (rest left : List B) (y : B) (all : List K) → more ≡ xs ++ x ∷ []
    → rest ≡ y ∷ left → f x ≡ g y → map f xs ++ map g rest ≡ all → map f more ++ map g left ≡ all
moved_over f g xs more x rest left y all is_more next same so_far =
    ap (λ zs. map f zs ++ map g left) is_more ∙ ap (λ ks. ks ++ map g left) (map-append f xs (x ∷ []))
    ∙ append_assoc (map f xs) (f x ∷ []) (map g left) ∙ ap (λ k. map f xs ++ (k ∷ map g left)) same
    ∙ ap (λ ys. map f xs ++ map g ys) (sym next) ∙ so_far

-- and where none is left in the second
pub moved_all : {A B K : Type 0} (f : A → K) (g : B → K) (xs : List A) (rest : List B) (all : List K) → rest ≡ [] → map f xs ++ map g rest ≡ all → map f xs ≡ all
moved_all f g xs rest all none so_far = sym (append-nil (map f xs)) ∙ ap (λ ys. map f xs ++ map g ys) (sym none) ∙ so_far

-- from the first by one relation to the second, and from there by another to the third
pub zip_through : {A B C : Type 0} (P : A → B → Type 0) (Q : B → C → Type 0) (S : A → C → Type 0) → ((x : A) (y : B) (z : C) → P x y → Q y z → S x z)
    → (xs : List A) (ys : List B) (zs : List C) → AllZip P xs ys → AllZip Q ys zs → AllZip S xs zs
zip_through P Q S tells [] [] [] p q = tt
zip_through P Q S tells [] [] (z ∷ zs) p q = absurd q
zip_through P Q S tells [] (y ∷ ys) zs p q = absurd p
zip_through P Q S tells (x ∷ xs) [] zs p q = absurd p
zip_through P Q S tells (x ∷ xs) (y ∷ ys) [] p q = absurd q
zip_through P Q S tells (x ∷ xs) (y ∷ ys) (z ∷ zs) p q = (tells x y z p.0 q.0, zip_through P Q S tells xs ys zs p.1 q.1)
