-- A table of numbers by key, and a page of it that grows.
use Rattle.std.proofs.Common.{◌≡◌, ◌≢◌, ℕ, ◌<◌, ◌≤◌, ◌/◌, ◌%◌, cond, List, [], length, get_or, set, nat_eq, Option, Some, None, refl, sym, ap, subst, ◌∙◌, arith, inl, inr}
use Rattle.std.proofs.lemmas.Bool.{cases_eq, eq-eqb, ne_eqb}
use Rattle.std.proofs.lemmas.List.{get_or-set_same, get_or-set_other}
use Rattle.replay_policies.specs.Tables.{page_at, number_of, one_of, held, HasPlace}

-- what counts 0 is no number
pub none_of : (number : Option ℕ) → one_of number ≡ 0 → number ≡ None
none_of None none = refl
none_of (Some n) none = absurd (omega arith)

-- nothing counts more than 1
pub one_of-most : (number : Option ℕ) → one_of number ≤ 1
one_of-most None = omega arith
one_of-most (Some n) = omega arith

-- A key of a table has another number, or none.
module _ (new old : List (List (Option ℕ))) (key : ℕ) (number : Option ℕ)
    (numbers : (k : ℕ) → number_of new k ≡ cond (nat_eq k key) number (number_of old k)) where
  -- it counts what its number does
  pub held-same : held new key ≡ one_of number
  held-same = ap one_of (numbers key ∙ rw (eq-eqb key key refl) refl)

  -- and each other key what it did
  pub held-other : (k : ℕ) → k ≢ key → held new k ≡ held old k
  held-other k other = ap one_of (numbers k ∙ rw (ne_eqb k key other) refl)

  -- without a number, no key counts more than it did
  pub held-less : number ≡ None → (k : ℕ) → held new k ≤ held old k
  held-less none k =
      elim (cases_eq k key) [
        | inl e ↦
            let here : held new k ≡ held new key = ap (held new) e in
            let zero_is : one_of number ≡ 0 = ap one_of none in
            omega (arith, here, held-same, zero_is)
        | inr other ↦ let same = held-other k other in omega (arith, same)
      ]

module _ (pages : List (List (Option ℕ))) (at : ℕ) (page : List (Option ℕ)) (there : at < length pages) where
  -- the page is what it is now, and the others are what they were
  grown_page : (k : ℕ) → k ≡ at → page_at (set pages at page) k ≡ page
  grown_page k same =
      subst (λ n. page_at (set pages at page) n ≡ page) (sym same) (get_or-set_same pages at page [] there)

  other_page : (k : ℕ) → k ≢ at → page_at (set pages at page) k ≡ page_at pages k
  other_page k other = get_or-set_other pages at k page [] other

  -- where it has the numbers that it had, so has the table
  pub grown_numbers : ((place : ℕ) → get_or page place None ≡ get_or (page_at pages at) place None)
      → (k : ℕ) → number_of (set pages at page) k ≡ number_of pages k
  grown_numbers same k =
      elim (cases_eq (k / 65536) at) [
        | inl e ↦
            ap (λ (p : List (Option ℕ)). get_or p (k % 65536) None) (grown_page (k / 65536) e)
            ∙ same (k % 65536)
            ∙ ap (λ n. get_or (page_at pages n) (k % 65536) None) (sym e)
        | inr other ↦ ap (λ (p : List (Option ℕ)). get_or p (k % 65536) None) (other_page (k / 65536) other)
      ]

  -- where it has as many places at least, each key has its place
  pub grown_places : length (page_at pages at) ≤ length page → (k : ℕ) → HasPlace pages k → HasPlace (set pages at page) k
  grown_places more k had =
      elim (cases_eq (k / 65536) at) [
        | inl e ↦
            let long : length (page_at (set pages at page) (k / 65536)) ≡ length page = ap length (grown_page (k / 65536) e) in
            let was : length (page_at pages (k / 65536)) ≡ length (page_at pages at) = ap (λ n. length (page_at pages n)) e in
            omega (arith, long, was, more, had)
        | inr other ↦
            let same : length (page_at (set pages at page) (k / 65536)) ≡ length (page_at pages (k / 65536)) =
            ap length (other_page (k / 65536) other) in
            omega (arith, same, had)
      ]

  -- where it has all its places, each of its keys has one
  pub grown_place : 65536 ≤ length page → (key : ℕ) → key / 65536 ≡ at → HasPlace (set pages at page) key
  grown_place all key e =
      let long : length (page_at (set pages at page) (key / 65536)) ≡ length page = ap length (grown_page (key / 65536) e) in
      omega (arith, long, all)
