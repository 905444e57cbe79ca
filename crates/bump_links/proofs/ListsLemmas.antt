-- Plain lists: an element that stands once, and the list without it.
use Rattle.std.proofs.Common.{◌≡◌, ◌≢◌, ℕ, suc, ◌<◌, ◌≤◌, true, false, eqb, eq-eqb, None, List, [], ◌∷◌, ◌++◌, length, refl, sym, ◌∙◌, ap, subst, arith, inl, inr}
use Rattle.std.specs.List.{AllByRecursion, list_any, IsDistinct}
use Rattle.std.proofs.lemmas.Map.Steps.{length-le_from_distinct_below}
use Rattle.std.proofs.lemmas.Bool.{ne_eqb, eq-eqb}
use Rattle.std.proofs.lemmas.Bool.Decides.{eqb_tells}
use Rattle.bump_links.specs.Lists.{times, without, first_of, last_of, next_of, begins_with, previous_of}
use Rattle.bump_links.specs.Chain.{AllDiffer}

-- of a fact of each element, the weaker fact of each element
pub Each-weaker : (P Q : ℕ → Type 0) → ((x : ℕ) → P x → Q x) → (xs : List ℕ) → AllByRecursion P xs → AllByRecursion Q xs
Each-weaker P Q h [] a = tt
Each-weaker P Q h (x ∷ xs) a = (h x a.0, Each-weaker P Q h xs a.1)

-- two facts of each element give a third
pub Each-both : (P Q R : ℕ → Type 0) → ((x : ℕ) → P x → Q x → R x) → (xs : List ℕ)
    → AllByRecursion P xs → AllByRecursion Q xs → AllByRecursion R xs
Each-both P Q R h [] a b = tt
Each-both P Q R h (x ∷ xs) a b = (h x a.0 b.0, Each-both P Q R h xs a.1 b.1)

-- a fact of each element of two lists, one behind the other
pub Each-parts : (P : ℕ → Type 0) (xs ys : List ℕ) → AllByRecursion P (xs ++ ys) → AllByRecursion P xs
    × AllByRecursion P ys
Each-parts P [] ys a = (tt, a)
Each-parts P (x ∷ xs) ys a = let r = Each-parts P xs ys a.1 in ((a.0, r.0), r.1)

-- and back
pub Each-append : (P : ℕ → Type 0) (xs ys : List ℕ) → AllByRecursion P xs → AllByRecursion P ys
    → AllByRecursion P (xs ++ ys)
Each-append P [] ys a b = b
Each-append P (x ∷ xs) ys a b = (a.0, Each-append P xs ys a.1 b)

-- lists of elements that all differ: so do those of each part, and those of one from those of the other
pub AllDiffer-parts : (xs ys : List ℕ) → AllDiffer (xs ++ ys)
    → AllDiffer xs × AllDiffer ys × AllByRecursion (λ m. AllByRecursion (λ k. k ≢ m) ys) xs
AllDiffer-parts [] ys d = (tt, d, tt)
AllDiffer-parts (x ∷ xs) ys d =
    let r = AllDiffer-parts xs ys d.1 in
    let e = Each-parts (λ k. k ≢ x) xs ys d.0 in
    ((e.0, r.0), r.1, (e.1, r.2))

-- and back
pub AllDiffer-append : (xs ys : List ℕ) → AllDiffer xs → AllDiffer ys
    → AllByRecursion (λ m. AllByRecursion (λ k. k ≢ m) ys) xs → AllDiffer (xs ++ ys)
AllDiffer-append [] ys d e a = e
AllDiffer-append (x ∷ xs) ys d e a =
    (Each-append (λ k. k ≢ x) xs ys d.0 a.0, AllDiffer-append xs ys d.1 e a.1)

-- an element that does not stand in a list differs from each of its elements
pub apart-from_times : (n : ℕ) (xs : List ℕ) → times n xs ≡ 0 → AllByRecursion (λ m. m ≢ n) xs
apart-from_times n [] h = tt
apart-from_times n (x ∷ xs) h =
    elim (eqb_tells x n) [
      | inl t ↦ absurd (let k = rw t.0 at h in omega (arith, k))
      | inr f ↦ (f.1, apart-from_times n xs (rw f.0 at h))
    ]

-- and back
pub times-apart : (n : ℕ) (xs : List ℕ) → AllByRecursion (λ m. m ≢ n) xs → times n xs ≡ 0
times-apart n [] a = refl
times-apart n (x ∷ xs) a = rw (ne_eqb x n a.0) (times-apart n xs a.1)

-- a list without an element that does not stand in it is itself
pub without-absent : (n : ℕ) (xs : List ℕ) → AllByRecursion (λ m. m ≢ n) xs → without n xs ≡ xs
without-absent n [] a = refl
without-absent n (x ∷ xs) a = rw (ne_eqb x n a.0) (ap (λ r. x ∷ r) (without-absent n xs a.1))

-- where a list of elements that all differ holds n: what stands before n and what stands behind it
pub record SplitAt (n : ℕ) (xs : List ℕ) : Type 0 where
  pub front : List ℕ
  pub rest : List ℕ
  pub whole : xs ≡ front ++ n ∷ rest
  pub others : without n xs ≡ front ++ rest
  pub before : AllByRecursion (λ m. m ≢ n) front
  pub behind : AllByRecursion (λ m. m ≢ n) rest

-- a list that holds n once falls in two parts at n
pub split_at : (n : ℕ) (xs : List ℕ) → times n xs ≡ 1 → SplitAt n xs
split_at n [] h = absurd (omega arith)
split_at n (x ∷ xs) h =
    elim (eqb_tells x n) [
      | inl t ↦
          let k : suc (times n xs) ≡ 1 = rw t.0 at h in
          let a : AllByRecursion (λ m. m ≢ n) xs = apart-from_times n xs (omega (arith, k)) in
          record {
            front = [];
            rest = xs;
            whole = ap (λ y. y ∷ xs) t.1;
            others = rw t.0 (without-absent n xs a);
            before = tt;
            behind = a;
          }
      | inr f ↦
          let k : times n xs ≡ 1 = rw f.0 at h in
          let r : SplitAt n xs = split_at n xs k in
          record {
            front = x ∷ r.front;
            rest = r.rest;
            whole = ap (λ y. x ∷ y) r.whole;
            others = rw f.0 (ap (λ y. x ∷ y) r.others);
            before = (f.1, r.before);
            behind = r.behind;
          }
    ]

-- an element that is not removed stands in the list as often as before
pub times-without_other : (m n : ℕ) (xs : List ℕ) → m ≢ n → times m (without n xs) ≡ times m xs
times-without_other m n [] h = refl
times-without_other m n (x ∷ xs) h =
    elim (eqb_tells x n) [
      | inl t ↦
          let d : x ≢ m = (λ e. h (sym e ∙ t.1)) in
          rw (t.0, ne_eqb x m d) (times-without_other m n xs h)
      | inr f ↦
          elim (eqb_tells x m) [
            | inl t ↦ rw (f.0, t.0) (ap suc (times-without_other m n xs h))
            | inr g ↦ rw (f.0, g.0) (times-without_other m n xs h)
          ]
    ]

-- an element that is removed stands in the list no more
pub times-without_same : (n : ℕ) (xs : List ℕ) → times n (without n xs) ≡ 0
times-without_same n [] = refl
times-without_same n (x ∷ xs) =
    elim (eqb_tells x n) [
      | inl t ↦ rw t.0 (times-without_same n xs)
      | inr f ↦ rw (f.0, f.0) (times-without_same n xs)
    ]

-- what holds of each element holds of one that stands in the list
pub Each-at : (P : ℕ → Type 0) (n : ℕ) (xs : List ℕ) → AllByRecursion P xs → times n xs ≡ 1 → P n
Each-at P n [] a h = absurd (omega arith)
Each-at P n (x ∷ xs) a h =
    elim (eqb_tells x n) [
      | inl t ↦ subst P t.1 a.0
      | inr f ↦ Each-at P n xs a.1 (rw f.0 at h)
    ]

-- what differs from each element is not found among them
differ_unequal : (x : ℕ) (xs : List ℕ) → AllByRecursion (λ y. y ≢ x) xs → AllByRecursion (λ y. eqb x y ≡ false) xs
differ_unequal x xs a = Each-weaker (λ y. y ≢ x) (λ y. eqb x y ≡ false) (λ y h. ne_eqb x y (λ e. h (sym e))) xs a

-- elements that all differ are distinct by their test
distinct_differ : (xs : List ℕ) → AllDiffer xs → IsDistinct eqb xs
unfolding IsDistinct
distinct_differ [] d = tt
distinct_differ (x ∷ xs) d = (differ_unequal x xs d.0, distinct_differ xs d.1)

-- what holds of each element holds of one that is found
found_at : (n : ℕ) (xs : List ℕ) → AllByRecursion (λ m. m < n) xs → (q : ℕ) → list_any (eqb q) xs ≡ true → q < n
found_at n [] a q h = cc
found_at n (x ∷ xs) a q h =
    elim (eqb_tells q x) [
      | inl t ↦ (let p : x < n = a.0 in let e : q ≡ x = t.1 in omega (arith, e))
      | inr f ↦ found_at n xs a.1 q (rw f.0 at h)
    ]

-- numbers below n that all differ are at most n
pub length-le_from_AllDiffer : (n : ℕ) (xs : List ℕ) → AllDiffer xs → AllByRecursion (λ m. m < n) xs → length xs ≤ n
length-le_from_AllDiffer n xs d a = length-le_from_distinct_below xs n (distinct_differ xs d) (found_at n xs a)

-- the last element of a list that has one behind it is the last of the rest
pub last_of-cons : (x y : ℕ) (ys : List ℕ) → last_of (x ∷ y ∷ ys) ≡ last_of (y ∷ ys)
last_of-cons x y ys = refl

-- what follows an element in a list that is split at it is the first behind it
pub next_of-split : (n : ℕ) (xs ys : List ℕ) → AllByRecursion (λ m. m ≢ n) xs → next_of n (xs ++ n ∷ ys) ≡ first_of ys
next_of-split n [] ys a = rw (eq-eqb n n refl) refl
next_of-split n (x ∷ xs) ys a = rw (ne_eqb x n a.0) (next_of-split n xs ys a.1)

-- an element that isn't there is not the first
begins_with-absent : (n : ℕ) (xs : List ℕ) → AllByRecursion (λ m. m ≢ n) xs → begins_with n xs ≡ false
begins_with-absent n [] a = refl
begins_with-absent n (x ∷ xs) a = ne_eqb x n a.0

-- it follows nothing
previous_of-absent : (n : ℕ) (xs : List ℕ) → AllByRecursion (λ m. m ≢ n) xs → previous_of n xs ≡ None
previous_of-absent n [] a = refl
previous_of-absent n (x ∷ xs) a = rw (begins_with-absent n xs a.1) (previous_of-absent n xs a.1)

-- what an element follows in a list that is split at it is the last before it
pub previous_of-split : (n : ℕ) (xs ys : List ℕ) → AllByRecursion (λ m. m ≢ n) xs → AllByRecursion (λ m. m ≢ n) ys
    → previous_of n (xs ++ n ∷ ys) ≡ last_of xs
previous_of-split n [] ys a b = rw (begins_with-absent n ys b) (previous_of-absent n ys b)
previous_of-split n (x ∷ []) ys a b = rw (eq-eqb n n refl) refl
previous_of-split n (x ∷ y ∷ xs) ys a b =
    rw (ne_eqb y n a.1.0) (previous_of-split n (y ∷ xs) ys a.1 b ∙ sym (last_of-cons x y xs))
