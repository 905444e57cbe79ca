-- Two lists that hold each node once are not both empty.
use Rattle.std.proofs.Common.{◌≡◌, ◌<◌, ℕ, zero, suc, ap, sym, ◌∙◌, refl, List, [], ◌∷◌, length, None, arith}
use Rattle.bump_links.specs.Lists.{Lists, list_at, times, first_of, last_of, HoldsEachOnce, IsHeldBy}

-- a list without a first element is empty
first_none : (xs : List ℕ) → first_of xs ≡ None → xs ≡ []
first_none [] h = refl
first_none (x ∷ xs) h = cc

-- and so is one without a last element
last_none : (xs : List ℕ) → last_of xs ≡ None → xs ≡ []
last_none [] h = refl
last_none (x ∷ xs) h = cc

-- no node stands in an empty list
not_in_empty : (s : Lists) (n l : ℕ) → IsHeldBy s n l → list_at s l ≡ [] → ⊥
not_in_empty s n l held none = let e : 0 ≡ suc 0 = sym (ap (times n) none) ∙ held.once in cc

-- nor in either of two empty lists
held_by_none : (s : Lists) (l : ℕ) → length s.lists ≡ 2 → IsHeldBy s 0 l → list_at s 0 ≡ [] → list_at s 1 ≡ [] → ⊥
held_by_none s zero two held p q = not_in_empty s 0 0 held p
held_by_none s (suc zero) two held p q = not_in_empty s 0 1 held q
held_by_none s (suc (suc l)) two held p q = absurd (omega (arith, held.listed))

-- so a list with no last element beside one with no first element holds no node
pub none_in_two : (s : Lists) → length s.lists ≡ 2 → 0 < s.nodes → HoldsEachOnce s → last_of (list_at s 0) ≡ None → first_of (list_at s 1) ≡ None → ⊥
none_in_two s two some each p q =
    let (l, held) = each.holder 0 some in
    held_by_none s l two held (last_none (list_at s 0) p) (first_none (list_at s 1) q)
