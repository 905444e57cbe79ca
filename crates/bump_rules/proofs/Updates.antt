-- Lists that are written at one place, and as they are seen; sums over lists, and how often a list names a life.
use Rattle.std.proofs.Common.{◌≡◌, ℕ, zero, suc, ◌+◌, ◌<◌, ◌≤◌, Bool, false, List, [], ◌∷◌, ◌++◌, length, drop, slice_index_or, slice_set, get_or, set, map, refl, sym, ap, ◌∙◌, arith}
use Rattle.std.specs.Prelude.{Result, Ok, Err, OnErr}
use Rattle.std.proofs.lemmas.List.{get_or-map, map-set}
use Rattle.std.specs.List.{list_any}
use Rattle.std.proofs.lemmas.Bool.{or_from, or_parts}
use Rattle.std.proofs.Math.Seq.{drop-cons, map-set_same}
use Rattle.bump_rules.specs.declared.items.ItemId.{ItemId}
use Rattle.bump_rules.specs.Totals.{total}
use Rattle.bump_rules.specs.Lives.{one_if, count_of}

-- what is the same of the element that was written is the same of each
pub same_read : {A B : Type 0} (f : A → B) (xs : List A) (i : ℕ) (v d : A) → f v ≡ f (slice_index_or xs i d) → (j : ℕ)
    → f (slice_index_or (slice_set xs i v) j d) ≡ f (slice_index_or xs j d)
same_read f [] i v d same j = refl
same_read f (x ∷ xs) zero v d same zero = same
same_read f (x ∷ xs) zero v d same (suc j) = refl
same_read f (x ∷ xs) (suc i) v d same zero = refl
same_read f (x ∷ xs) (suc i) v d same (suc j) = same_read f xs i v d same j

-- an element changed behind a reference: the seen list has it changed alike
pub rewritten : {A B : Type 0} (f : A → B) (h : B → B) (xs : List A) (i : ℕ) (a x : A) (d : B) → i < length xs → a
    ≡ get_or xs i a → f x ≡ h (f a)
    → map f (set xs i x) ≡ set (map f xs) i (h (get_or (map f xs) i d))
rewritten {B = B} f h xs i a x d lt is alike = map-set f xs i x ∙ ap (λ (v : B). set (map f xs) i v) (alike
    ∙ ap (λ v. h (f v)) is ∙ ap h (sym (get_or-map f xs i a d lt)))

-- an element changed behind a reference, and seen as before, leaves the seen list
pub unchanged : {A B : Type 0} (f : A → B) (xs : List A) (i : ℕ) (a x : A) → i < length xs → a ≡ get_or xs i a → f x
    ≡ f a → map f (set xs i x) ≡ map f xs
unchanged f xs i a x lt is alike = map-set_same f xs i x a (alike ∙ ap f is)

-- what holds anyway holds of an error
pub on_err : {T E P : Type 0} (r : Result T E) → P → OnErr r P
on_err (Ok x) p = tt
on_err (Err e) p = p

-- where no element passes the test, and another one doesn't, none does when that one is written
pub none_written : {A : Type 0} (test : A → Bool) (xs : List A) (i : ℕ) (a : A) → list_any test xs ≡ false → test a
    ≡ false → list_any test (slice_set xs i a) ≡ false
none_written test [] i a none fails = none
none_written test (x ∷ xs) zero a none fails = or_from (test a) (list_any test xs) fails (or_parts (test x)
    (list_any test xs) none).1
none_written test (x ∷ xs) (suc i) a none fails = let both = or_parts (test x) (list_any test xs) none in
    or_from (test x) (list_any test (slice_set xs i a)) both.0 (none_written test xs i a both.1 fails)

module _ {A : Type 0} (f : A → ℕ) where
  -- one element changed: the sum loses the old term and gains the new one
  pub total_written : (xs : List A) (i : ℕ) (y d : A) → i < length xs → total f (slice_set xs i y) + f
      (slice_index_or xs i d) ≡ total f xs + f y
  total_written [] i y d within = absurd (omega arith)
  total_written (x ∷ xs) zero y d within = omega arith
  total_written (x ∷ xs) (suc i) y d within = omega (arith, total_written xs i y d (omega arith))

  -- an element of the same term leaves the sum
  pub total_kept : (xs : List A) (i : ℕ) (y d : A) → i < length xs → f y ≡ f (slice_index_or xs i d)
      → total f (slice_set xs i y) ≡ total f xs
  total_kept xs i y d within same = omega (arith, total_written xs i y d within)

  -- a term is at most the sum
  pub term_within : (xs : List A) (i : ℕ) (d : A) → i < length xs → f (slice_index_or xs i d) ≤ total f xs
  term_within [] i d within = absurd (omega arith)
  term_within (x ∷ xs) zero d within = omega arith
  term_within (x ∷ xs) (suc i) d within = omega (arith, term_within xs i d (omega arith))

  -- the sum over two lists
  pub total_append : (xs ys : List A) → total f (xs ++ ys) ≡ total f xs + total f ys
  total_append [] ys = omega arith
  total_append (x ∷ xs) ys = omega (arith, total_append xs ys)

  -- one more element at the end
  pub total_push : (xs : List A) (y : A) → total f (xs ++ y ∷ []) ≡ total f xs + f y
  total_push xs y = omega (arith, total_append xs (y ∷ []))

-- a sum of two terms is the sum of both
pub total_both : {A : Type 0} (f g : A → ℕ) (xs : List A) → total (λ x. f x + g x) xs ≡ total f xs + total g xs
total_both f g [] = omega arith
total_both f g (x ∷ xs) = omega (arith, total_both f g xs)

-- equal terms have equal sums
pub total_same : {A : Type 0} (f g : A → ℕ) → ((x : A) → f x ≡ g x) → (xs : List A) → total f xs ≡ total g xs
total_same f g same [] = refl
total_same f g same (x ∷ xs) = omega (arith, same x, total_same f g same xs)

-- terms at most others have a sum at most theirs
pub total_below : {A : Type 0} (f g : A → ℕ) → ((x : A) → f x ≤ g x) → (xs : List A) → total f xs ≤ total g xs
total_below f g below [] = omega arith
total_below f g below (x ∷ xs) = omega (arith, below x, total_below f g below xs)

-- how often a list with one more life at its end names a life
pub count_push : (l m : ItemId) (xs : List ItemId) → count_of l (xs ++ m ∷ []) ≡ count_of l xs + one_if l m
count_push l m xs = total_push (one_if l) xs m
