-- A walk through a plain list, front first.
use Rattle.std.proofs.Common.{◌≡◌, ℕ, zero, suc, ◌-◌, ◌<◌, ◌≤◌, List, [], ◌∷◌, length, drop, Option, Some, None, refl, sym, ◌∙◌, ap, arith, inl, inr}
use Rattle.std.proofs.lemmas.Bool.{eq-eqb}
use Rattle.std.proofs.lemmas.Bool.Decides.{eqb_tells}
use Rattle.bump_links.specs.Lists.{times, first_of, next_of}
use Rattle.bump_rules.specs.ClassLists.{last_part, IsAmid}

-- the whole list is its last part of its length
pub last_part-whole : (xs : List ℕ) → last_part (length xs) xs ≡ xs
last_part-whole xs = let none : length xs - length xs ≡ 0 = omega arith in ap (λ k. drop k xs) none

-- a walk that has all of a list before it begins with its first
pub starts : (xs : List ℕ) (left : ℕ) (next : Option ℕ) → left ≡ length xs → next ≡ first_of xs → IsAmid xs left next
    × (last_part left xs ≡ xs)
starts xs left next all is =
    let whole : last_part left xs ≡ xs = ap (λ n. last_part n xs) all ∙ last_part-whole xs in
    (record { within = omega (arith, all); next = is ∙ ap first_of (sym whole) }, whole)

-- a part of a list that begins with an element: that one is in the list, and the part is it and what is behind it;
-- where it stands in the list once, what follows it there is the first behind it
pub record Begins (c k : ℕ) (xs : List ℕ) : Type 0 where
  pub is : drop k xs ≡ c ∷ drop (suc k) xs
  pub within : k < length xs
  pub there : 0 < times c xs
  pub next : times c xs ≡ 1 → next_of c xs ≡ first_of (drop (suc k) xs)

-- a part of a list that has a first element begins with it
pub begins : (c k : ℕ) (xs : List ℕ) → first_of (drop k xs) ≡ Some c → Begins c k xs
begins c zero [] is = absurd (let u : ⊥ = cc in u)
begins c (suc k) [] is = absurd (let u : ⊥ = cc in u)
begins c zero (x ∷ xs) is =
    let same : x ≡ c = cc in
    record {
      is = ap (λ y. y ∷ xs) same;
      within = omega arith;
      there = rw (eq-eqb x c same) (omega arith);
      next = λ once. rw (eq-eqb x c same) refl;
    }
begins c (suc k) (x ∷ xs) is =
    let rest = begins c k xs is in
    let below : k < length xs = rest.within in
    let there : 0 < times c xs = rest.there in
    elim (eqb_tells x c) [
      | inl t ↦ record {
        is = rest.is;
        within = omega (arith, below);
        there = rw t.0 (omega arith);
        next = λ once. absurd (let k : suc (times c xs) ≡ 1 = rw t.0 at once in omega (arith, there, k));
      }
      | inr f ↦ record {
        is = rest.is;
        within = omega (arith, below);
        there = rw f.0 there;
        next = λ once. rw f.0 (rest.next (rw f.0 at once));
      }
    ]

-- a walk that has an element next
pub record GoesOn (c left : ℕ) (xs : List ℕ) : Type 0 where
  pub some : 1 ≤ left
  pub there : 0 < times c xs
  pub is : last_part left xs ≡ c ∷ last_part (left - 1) xs
  pub on : times c xs ≡ 1 → IsAmid xs (left - 1) (next_of c xs)

-- goes on behind it
pub goes_on : (c left : ℕ) (xs : List ℕ) (next : Option ℕ) → IsAmid xs left next → next ≡ Some c → GoesOn c left xs
goes_on c left xs next amid is =
    let k = length xs - left in
    let b = begins c k xs (sym amid.next ∙ is) in
    let within : left ≤ length xs = amid.within in
    let below : k < length xs = b.within in
    let behind : suc k ≡ length xs - (left - 1) = omega (arith, within, below) in
    record {
      some = omega (arith, within, below);
      there = b.there;
      is = b.is ∙ ap (λ j. c ∷ drop j xs) behind;
      on = λ once. record {
        within = omega (arith, within);
        next = b.next once ∙ ap (λ j. first_of (drop j xs)) behind;
      };
    }
