-- Links that spell a list: parts of it, and what a store to a link changes.
use Rattle.std.proofs.Common.{◌≡◌, ◌≢◌, ℕ, List, [], ◌∷◌, ◌++◌, length, refl, sym, ◌∙◌, ap, subst}
use Rattle.std.specs.List.{AllByRecursion}
use Rattle.bump_links.specs.Chain.{SpellsChain, AllDiffer, followed}

-- the links run up to an element, and on from it
pub Spells-split : (f b : ℕ → ℕ) (before first : ℕ) (xs : List ℕ) (n : ℕ) (ys : List ℕ) (last after : ℕ)
    → SpellsChain f b before first (xs ++ n ∷ ys) last after
    → SpellsChain f b before first xs (b n) n × SpellsChain f b n (f n) ys last after
Spells-split f b before first [] n ys last after s = ((s.0, s.1), s.2)
Spells-split f b before first (x ∷ xs) n ys last after s =
    let r = Spells-split f b x (f x) xs n ys last after s.2 in ((s.0, s.1, r.0), r.1)

-- two runs of links, one behind the other, are one
pub Spells-append : (f b : ℕ → ℕ) (before first : ℕ) (xs : List ℕ) (p s : ℕ) (ys : List ℕ) (last after : ℕ)
    → SpellsChain f b before first xs p s → SpellsChain f b p s ys last after
    → SpellsChain f b before first (xs ++ ys) last after
Spells-append f b before first [] p s ys last after r t =
    let P : ℕ → Type 0 = λ q. SpellsChain f b q first ys last after in
    let Q : ℕ → Type 0 = λ q. SpellsChain f b p q ys last after in
    subst P r.1 (subst Q (sym r.0) t)
Spells-append f b before first (x ∷ xs) p s ys last after r t =
    (r.0, r.1, Spells-append f b x (f x) xs p s ys last after r.2 t)

-- the last of a list that is not empty has what each of its elements has
pub Spells-last : (f b : ℕ → ℕ) (P : ℕ → Type 0) (before first x : ℕ) (xs : List ℕ) (last after : ℕ)
    → SpellsChain f b before first (x ∷ xs) last after → AllByRecursion P (x ∷ xs) → P last
Spells-last f b P before first x [] last after s a = subst P (sym s.2.1) a.0
Spells-last f b P before first x (y ∷ ys) last after s a =
    Spells-last f b P x (f x) y ys last after s.2 a.1

-- links that stay as they were at each element still spell the list
pub Spells-kept : (f b f' b' : ℕ → ℕ) (before first : ℕ) (xs : List ℕ) (last after : ℕ)
    → AllByRecursion (λ m. (f' m ≡ f m) × (b' m ≡ b m)) xs
    → SpellsChain f b before first xs last after → SpellsChain f' b' before first xs last after
Spells-kept f b f' b' before first [] last after k s = s
Spells-kept f b f' b' before first (x ∷ xs) last after k s =
    let e : f' x ≡ f x = k.0.0 in
    let P : ℕ → Type 0 = λ q. SpellsChain f' b' x q xs last after in
    (s.0, k.0.1 ∙ s.1, subst P (sym e) (Spells-kept f b f' b' x (f x) xs last after k.1 s.2))

-- a, or b where the list is empty
abbrev pub or_none : List ℕ → ℕ → ℕ → ℕ
or_none [] a b = b
or_none (x ∷ xs) a b = a

-- the last element of a run now leads to `s`
pub Spells-end : (f b f' b' : ℕ → ℕ) (before first : ℕ) (xs : List ℕ) (p n s : ℕ)
    → AllDiffer xs
    → AllByRecursion (λ m. (b' m ≡ b m) × (m ≢ p → f' m ≡ f m) × (m ≡ p → f' m ≡ s)) xs
    → SpellsChain f b before first xs p n
    → SpellsChain f' b' before (or_none xs first s) xs p s
Spells-end f b f' b' before first [] p n s d k r = (refl, r.1)
Spells-end f b f' b' before first (x ∷ []) p n s d k r =
    (r.0, k.0.0 ∙ r.1, (k.0.2 (sym r.2.1), r.2.1))
Spells-end f b f' b' before first (x ∷ y ∷ ys) p n s d k r =
    let P : ℕ → Type 0 = λ q. SpellsChain f' b' x q (y ∷ ys) p s in
    let apart : p ≢ x = Spells-last f b (λ m. m ≢ x) x (f x) y ys p n r.2 d.0 in
    let e : f' x ≡ f x = k.0.1 (λ h. apart (sym h)) in
    (r.0, k.0.0 ∙ r.1, subst P (sym e) (Spells-end f b f' b' x (f x) (y ∷ ys) p n s d.1 k.1 r.2))

-- a run now begins behind `p`
pub Spells-begin : (f b f' b' : ℕ → ℕ) (before first : ℕ) (xs : List ℕ) (last after p : ℕ)
    → AllDiffer xs
    → AllByRecursion (λ m. (f' m ≡ f m) × (m ≢ first → b' m ≡ b m) × (m ≡ first → b' m ≡ p)) xs
    → SpellsChain f b before first xs last after
    → SpellsChain f' b' p first xs (or_none xs last p) after
Spells-begin f b f' b' before first [] last after p d k r = (r.0, refl)
Spells-begin f b f' b' before first (x ∷ xs) last after p d k r =
    let e : f' x ≡ f x = k.0.0 in
    let P : ℕ → Type 0 = λ q. SpellsChain f' b' x q xs last after in (
      r.0,
      k.0.2 (sym r.0),
      subst P (sym e) (Spells-kept f b f' b' x (f x) xs last after (kept_behind f b f' b' first x xs p
          (sym r.0) d.0 k.1) r.2),
    )
  where
    kept_behind : (f b f' b' : ℕ → ℕ) (first x : ℕ) (xs : List ℕ) (p : ℕ) → x ≡ first
        → AllByRecursion (λ m. m ≢ x) xs
        → AllByRecursion (λ m. (f' m ≡ f m) × (m ≢ first → b' m ≡ b m) × (m ≡ first → b' m ≡ p)) xs
        → AllByRecursion (λ m. (f' m ≡ f m) × (b' m ≡ b m)) xs
    kept_behind f b f' b' first x [] p e a k = tt
    kept_behind f b f' b' first x (y ∷ ys) p e a k =
        ((k.0.0, k.0.1 (λ h. a.0 (h ∙ sym e))), kept_behind f b f' b' first x ys p e a.1 k.1)

-- following the forward links from the first element gives the list
pub followed-Spells : (f b : ℕ → ℕ) (before first : ℕ) (xs : List ℕ) (last after : ℕ)
    → SpellsChain f b before first xs last after → followed f (length xs) first ≡ xs
followed-Spells f b before first [] last after s = refl
followed-Spells f b before first (x ∷ xs) last after s =
    let P : ℕ → Type 0 = λ q. (q ∷ followed f (length xs) (f q)) ≡ x ∷ xs in
    subst P (sym s.0) (ap (λ r. x ∷ r) (followed-Spells f b x (f x) xs last after s.2))
