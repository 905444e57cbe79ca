-- What stands in a place of a list.
use Rattle.std.proofs.Common.{◌≡◌, ℕ, zero, suc, ◌+◌, ◌<◌, ◌++◌, List, [], ◌∷◌, length, drop, get_or, set, Some, refl, sym, ap, ◌∙◌, subst, arith}
use native.Mathlib.Decide.{ℕ_discrete}
use Rattle.std.specs.List.{All, slice_get}
use Rattle.std.proofs.lemmas.List.{length-append}

-- what is put into a place stands there
pub get_set_same : {X : Type 0} (xs : List X) (i : ℕ) (x : X) → i < length xs → slice_get (set xs i x) i ≡ Some x
get_set_same [] i x low = absurd (omega (arith, low))
get_set_same (y ∷ ys) zero x low = refl
get_set_same (y ∷ ys) (suc i) x low = get_set_same ys i x (omega (arith, low))

-- and what stands in another place stays
pub get_set_other : {X : Type 0} (xs : List X) (i j : ℕ) (x : X) → (j ≡ i → ⊥)
    → slice_get (set xs i x) j ≡ slice_get xs j
get_set_other [] i j x unlike = refl
get_set_other (y ∷ ys) zero zero x unlike = absurd (unlike refl)
get_set_other (y ∷ ys) zero (suc j) x unlike = refl
get_set_other (y ∷ ys) (suc i) zero x unlike = refl
get_set_other (y ∷ ys) (suc i) (suc j) x unlike = get_set_other ys i j x (λ e. unlike (ap suc e))

-- what is behind so many
pub get_drop : {X : Type 0} (xs : List X) (n i : ℕ) → slice_get (drop n xs) i ≡ slice_get xs (n + i)
get_drop xs zero i =
    let e : i ≡ 0 + i = omega arith in ap (slice_get xs) e
get_drop [] (suc n) i = refl
get_drop (x ∷ xs) (suc n) i =
    let e : suc (n + i) ≡ suc n + i = omega arith in get_drop xs n i ∙ ap (slice_get (x ∷ xs)) e

-- the places of a list stay where more is behind it
pub get_front : {X : Type 0} (xs ys : List X) (i : ℕ) → i < length xs → slice_get (xs ++ ys) i ≡ slice_get xs i
get_front [] ys i low = absurd (omega (arith, low))
get_front (x ∷ xs) ys zero low = refl
get_front (x ∷ xs) ys (suc i) low = get_front xs ys i (omega (arith, low))

-- and what is put behind it stands in the next place
pub get_end : {X : Type 0} (xs : List X) (x : X) → slice_get (xs ++ x ∷ []) (length xs) ≡ Some x
get_end [] x = refl
get_end (y ∷ ys) x = get_end ys x

-- the first behind so many stands in that place, and the rest is behind one more
pub drop_first : {X : Type 0} (xs : List X) (n : ℕ) (x : X) (rest : List X) → drop n xs ≡ x ∷ rest
    → (slice_get xs n ≡ Some x) × (drop (n + 1) xs ≡ rest)
drop_first [] zero x rest e = absurd (let u : ⊥ = cc e in u)
drop_first [] (suc n) x rest e = absurd (let u : ⊥ = cc e in u)
drop_first (y ∷ ys) zero x rest e =
    let first : y ≡ x = cc e in let more : ys ≡ rest = cc e in (ap Some first, more)
drop_first (y ∷ ys) (suc n) x rest e =
    let behind = drop_first ys n x rest e in
    let next : suc n + 1 ≡ suc (n + 1) = omega arith in
    (behind.0, ap (λ m. drop m (y ∷ ys)) next ∙ behind.1)

-- a place within a list has something
pub get_within : {X : Type 0} (xs : List X) (i : ℕ) → i < length xs → (x : X) × (slice_get xs i ≡ Some x)
get_within [] i low = absurd (omega (arith, low))
get_within (x ∷ xs) zero low = (x, refl)
get_within (x ∷ xs) (suc i) low = get_within xs i (omega (arith, low))

-- dropping twice is dropping both
pub drop_drop : {X : Type 0} (xs : List X) (m n : ℕ) → drop n (drop m xs) ≡ drop (m + n) xs
drop_drop xs zero n =
    let e : n ≡ 0 + n = omega arith in ap (λ k. drop k xs) e
drop_drop [] (suc m) zero =
    let e : suc m ≡ suc m + 0 = omega arith in ap (λ k. drop k []) e
drop_drop [] (suc m) (suc n) =
    let e : suc (m + suc n) ≡ suc m + suc n = omega arith in ap (λ k. drop k []) e
drop_drop (x ∷ xs) (suc m) n =
    let e : suc (m + n) ≡ suc m + n = omega arith in drop_drop xs m n ∙ ap (λ k. drop k (x ∷ xs)) e

-- where one more is put behind a list each place has what is due, if it is due
pub each_pushed : {X : Type 0} (Due : ℕ → X → Type 0) (xs ys : List X) (count : ℕ) (x : X) → length xs ≡ count
    → ys ≡ xs ++ x ∷ [] → ((i : ℕ) → i < count → (y : X) × (slice_get xs i ≡ Some y) × Due i y) → Due count x
    → (i : ℕ) → i < count + 1 → (y : X) × (slice_get ys i ≡ Some y) × Due i y
each_pushed {X} Due xs ys count x long is each due i low = by (ℕ_discrete i count)
  where
    by : Dec (i ≡ count) → (y : X) × (slice_get ys i ≡ Some y) × Due i y
    by (yes same) = (
      x,
      ap (λ zs. slice_get zs i) is
          ∙ (ap (slice_get (xs ++ x ∷ [])) (same ∙ sym long) ∙ get_end xs x),
      subst (λ n. Due n x) (sym same) due,
    )
    by (no unlike) =
        let under : i < count = omega (arith, low, unlike) in
        let was = each i under in
        let place : slice_get ys i ≡ slice_get xs i =
        ap (λ zs. slice_get zs i) is ∙ get_front xs (x ∷ []) i (omega (arith, under, long)) in
        (was.0, place ∙ was.1, was.2)

-- and so it is where all are known
pub get_pushed : {X : Type 0} (due : ℕ → X) (xs ys : List X) (count : ℕ) (x : X) → length xs ≡ count
    → ys ≡ xs ++ x ∷ [] → ((i : ℕ) → i < count → slice_get xs i ≡ Some (due i)) → x ≡ due count
    → (i : ℕ) → i < count + 1 → slice_get ys i ≡ Some (due i)
get_pushed due xs ys count x long is each same i low =
    let it = each_pushed (λ n y. y ≡ due n) xs ys count x long is (λ j below. (due j, each j below, refl)) same i low in
    it.1 ∙ ap Some it.2

-- so many more
pub length_pushed : {X : Type 0} (xs ys : List X) (count : ℕ) (x : X) → length xs ≡ count → ys ≡ xs ++ x ∷ []
    → length ys ≡ count + 1
length_pushed xs ys count x long is = ap length is ∙ (length-append xs (x ∷ []) ∙ ap (λ n. n + 1) long)

-- what is behind a shorter beginning has a first one
pub behind_some : {X : Type 0} (all xs ys : List X) → all ≡ xs ++ ys → length xs < length all
    → (y : X) × (rest : List X) × (ys ≡ y ∷ rest)
behind_some all xs [] is low =
    let same : length all ≡ length xs + 0 = ap length is ∙ length-append xs [] in absurd (omega (arith, same, low))
behind_some all xs (y ∷ rest) is low = (y, rest, refl)

-- so has what is behind so many
pub drop_some : {X : Type 0} (xs : List X) (n : ℕ) → n < length xs
    → (x : X) × (slice_get xs n ≡ Some x) × (drop n xs ≡ x ∷ drop (n + 1) xs)
drop_some [] n low = absurd (omega (arith, low))
drop_some (x ∷ xs) zero low = (x, refl, refl)
drop_some (x ∷ xs) (suc n) low =
    let one = drop_some xs n (omega (arith, low)) in
    let next : suc (n + 1) ≡ suc n + 1 = omega arith in
    (one.0, one.1, one.2 ∙ ap (λ m. one.0 ∷ drop m (x ∷ xs)) next)

-- what holds of each holds of those behind the first
pub all_rest : {X : Type 0} (P : X → Type 0) (all : List X) (x : X) (rest : List X) → all ≡ x ∷ rest → All P all
    → All P rest
all_rest P all x rest is each =
    let own : All P (x ∷ rest) = subst (All P) is each in λ k none low. own (suc k) none (omega (arith, low))

-- what is put back where it stood changes nothing
pub set_back : {A : Type 0} (xs : List A) (place : ℕ) (d : A) → set xs place (get_or xs place d) ≡ xs
set_back [] place d = refl
set_back (x ∷ xs) zero d = refl
set_back (x ∷ xs) (suc place) d = ap (λ (r : List _). x ∷ r) (set_back xs place d)
