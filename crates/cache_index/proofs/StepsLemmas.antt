-- How far it is from nest to nest, and what one more nest that is passed does to the words.
use Rattle.std.proofs.Common.{◌≡◌, ◌≢◌, ℕ, ◌+◌, ◌-◌, ◌*◌, ◌^◌, ◌<◌, ◌≤◌, cond, ltb, List}
use Rattle.std.proofs.Common.{length, set, get_or, sym, ap, ◌∙◌, subst, arith, ⊎_elim, length-set}
use Rattle.std.proofs.Common.{get_or-set_same, get_or-set_other}
use Rattle.std.proofs.Math.Nat.{div-lt_iff_lt-mul, mul-le-mul_left}
use Rattle.std.proofs.lemmas.Bool.{cases_lt, cases_eq, cond_both, cond-true, cond-false, ltb-true, ltb-false, lt-ltb}
use Rattle.std.proofs.lemmas.Bool.{le-ltb}
use Rattle.cache_index.specs.Places.{nest_behind, steps_to, passed_at, home_of}
use Rattle.cache_index.specs.Changes.{OneMorePassed}

-- a search begins at one of the nests
pub home_of-lt : (nests hash : ℕ) → hash < 2 ^ 32 → 0 < nests → home_of nests hash < nests
home_of-lt nests hash fits some =
    let more = mul-le-mul_left nests (let e : hash + 1 ≤ 2 ^ 32 = omega arith in e) in
    let product : hash * nests < nests * 2 ^ 32 = omega (arith, more) in
    (div-lt_iff_lt-mul {k = 2 ^ 32} {x = hash * nests} {y = nests} (omega arith)).1 product

pub nest_behind-lt : (nests home steps : ℕ) → home < nests → steps < nests → nest_behind nests home steps < nests
nest_behind-lt nests home steps in_home in_steps =
    cond_both (ltb (home + steps) nests) (home + steps) (home + steps - nests) (λ v. v < nests)
    (λ e. ltb-true (home + steps) nests e) (λ e. omega (arith, ltb-false (home + steps) nests e))

pub steps_to-lt : (nests home nest : ℕ) → home < nests → nest < nests → steps_to nests home nest < nests
steps_to-lt nests home nest in_home in_nest =
    cond_both (ltb nest home) (nests + nest - home) (nest - home) (λ v. v < nests)
    (λ e. omega (arith, ltb-true nest home e)) (λ e. omega (arith, ltb-false nest home e))

-- so many steps lead to the nest that is so many steps behind
pub steps_to-nest_behind : (nests home steps : ℕ) → home < nests → steps < nests
    → steps_to nests home (nest_behind nests home steps) ≡ steps
steps_to-nest_behind nests home steps in_home in_steps =
    cond_both (ltb (home + steps) nests) (home + steps) (home + steps - nests) (λ v. steps_to nests home v ≡ steps)
    (λ e. cond_both (ltb (home + steps) home) (nests + (home + steps) - home) (home + steps - home) (λ v. v ≡ steps)
    (λ f. absurd (omega (arith, ltb-true (home + steps) home f))) (λ f. omega arith))
    (λ e. let over = ltb-false (home + steps) nests e in
    cond_both (ltb (home + steps - nests) home) (nests + (home + steps - nests) - home) (home + steps - nests - home)
    (λ v. v ≡ steps)
    (λ f. omega (arith, over)) (λ f. absurd (omega (arith, over, ltb-false (home + steps - nests) home f))))

pub nest_behind-steps_to : (nests home nest : ℕ) → home < nests → nest < nests
    → nest_behind nests home (steps_to nests home nest) ≡ nest
nest_behind-steps_to nests home nest in_home in_nest =
    cond_both (ltb nest home) (nests + nest - home) (nest - home) (λ v. nest_behind nests home v ≡ nest)
    (λ e. let below = ltb-true nest home e in
    cond_both (ltb (home + (nests + nest - home)) nests) (home + (nests + nest - home)) (home + (nests + nest - home)
    - nests) (λ v. v ≡ nest)
    (λ f. absurd (omega (arith, below, ltb-true (home + (nests + nest - home)) nests f))) (λ f. omega (arith, below)))
    (λ e. let over = ltb-false nest home e in
    cond_both (ltb (home + (nest - home)) nests) (home + (nest - home)) (home + (nest - home) - nests) (λ v. v ≡ nest)
    (λ f. omega (arith, over)) (λ f. absurd (omega (arith, over, ltb-false (home + (nest - home)) nests f))))

-- 1 where one number is below another, and else 0
abbrev pub one_below : ℕ → ℕ → ℕ
one_below n m = cond (ltb n m) 1 0

pub one_below-yes : (n m : ℕ) → n < m → one_below n m ≡ 1
one_below-yes n m below = cond-true (ltb n m) 1 0 (lt-ltb n m below)

pub one_below-no : (n m : ℕ) → m ≤ n → one_below n m ≡ 0
one_below-no n m over = cond-false (ltb n m) 1 0 (le-ltb n m over)

one_below-same : (n : ℕ) → one_below n n ≡ 0
one_below-same n = one_below-no n n (omega arith)

one_below-next : (n : ℕ) → one_below n (n + 1) ≡ 1
one_below-next n = one_below-yes n (n + 1) (omega arith)

one_below-other : (n m : ℕ) → n ≢ m → one_below n (m + 1) ≡ one_below n m
one_below-other n m apart = ⊎_elim
    (λ below. one_below-yes n (m + 1) (omega arith) ∙ sym (one_below-yes n m below))
    (λ over. one_below-no n (m + 1) (omega arith) ∙ sym (one_below-no n m over))
    (cases_lt n m)

-- how a nest that is passed next counts so far
pub not_yet : (nests home steps nest : ℕ) (before after : List ℕ) → OneMorePassed nests home steps before after
    → home < nests → steps < nests
    → nest ≡ nest_behind nests home steps → passed_at after nest ≡ passed_at before nest
not_yet nests home steps nest before after so_far in_home in_steps at =
    let within : nest < nests = rw at (nest_behind-lt nests home steps in_home in_steps) in
    let far : steps_to nests home nest ≡ steps = rw at (steps_to-nest_behind nests home steps in_home in_steps) in
    let none : one_below (steps_to nests home nest) steps ≡ 0 = rw far (one_below-same steps) in
    omega (arith, so_far.passed nest within, none)

-- the nest that is so many steps behind is passed once more
pub one_more_passed : (nests home steps nest : ℕ) (before after : List ℕ)
    → OneMorePassed nests home steps before after → home < nests → steps < nests
    → nest ≡ nest_behind nests home steps → length after ≡ 8 * nests
    → OneMorePassed nests home (steps + 1) before (set after (8 * nest + 1) (passed_at after nest + 1))
one_more_passed nests home steps nest before after so_far in_home in_steps at full =
    let within : nest < nests = rw at (nest_behind-lt nests home steps in_home in_steps) in
    let far : steps_to nests home nest ≡ steps = rw at (steps_to-nest_behind nests home steps in_home in_steps) in
    let value = passed_at after nest + 1 in
    record {
      size = length-set after (8 * nest + 1) value ∙ so_far.size;
      passed = λ n inside. ⊎_elim
          (λ same.
          let here : get_or (set after (8 * n + 1) value) (8 * n + 1) 0 ≡ value =
          get_or-set_same after (8 * n + 1) value 0 (omega arith) in
          let here2 : get_or (set after (8 * nest + 1) value) (8 * n + 1) 0 ≡ value =
          let P : ℕ → Type 0 = λ k. get_or (set after (8 * k + 1) value) (8 * n + 1) 0 ≡ value in subst P same here in
          let one : one_below (steps_to nests home n) (steps + 1) ≡ 1 =
          let P : ℕ → Type 0 = λ k. one_below (steps_to nests home k) (steps + 1) ≡ 1 in
          subst P (sym same) (rw far (one_below-next steps)) in
          let zero_so_far : one_below (steps_to nests home n) steps ≡ 0 =
          let P : ℕ → Type 0 = λ k. one_below (steps_to nests home k) steps ≡ 0 in
          subst P (sym same) (rw far (one_below-same steps)) in
          let was : passed_at after n ≡ passed_at after nest = ap (λ (k : ℕ). passed_at after k) same in
          omega (arith, here2, one, zero_so_far, so_far.passed n inside, was))
          (λ apart.
          let other : get_or (set after (8 * nest + 1) value) (8 * n + 1) 0 ≡ passed_at after n =
          get_or-set_other after (8 * nest + 1) (8 * n + 1) value 0 (λ e. apart (omega arith)) in
          let elsewhere : steps_to nests home n ≢ steps =
          λ e. apart (sym (nest_behind-steps_to nests home n in_home inside)
          ∙ ap (λ (k : ℕ). nest_behind nests home k) e ∙ sym at) in
          omega (arith, other, one_below-other (steps_to nests home n) steps elsewhere, so_far.passed n inside))
          (cases_eq n nest);
      others = λ word apart.
          get_or-set_other after (8 * nest + 1) word value 0 (λ e. apart (omega arith)) ∙ so_far.others word apart;
    }

-- the nest that is so many steps behind is passed once less
pub one_less_passed : (nests home steps nest : ℕ) (before after : List ℕ)
    → OneMorePassed nests home steps after before → home < nests → steps < nests
    → nest ≡ nest_behind nests home steps → length after ≡ 8 * nests → 0 < passed_at after nest
    → OneMorePassed nests home (steps + 1) (set after (8 * nest + 1) (passed_at after nest - 1)) before
one_less_passed nests home steps nest before after so_far in_home in_steps at full some =
    let within : nest < nests = rw at (nest_behind-lt nests home steps in_home in_steps) in
    let far : steps_to nests home nest ≡ steps = rw at (steps_to-nest_behind nests home steps in_home in_steps) in
    let value = passed_at after nest - 1 in
    record {
      size = so_far.size ∙ sym (length-set after (8 * nest + 1) value);
      passed = λ n inside. ⊎_elim
          (λ same.
          let here : get_or (set after (8 * n + 1) value) (8 * n + 1) 0 ≡ value =
          get_or-set_same after (8 * n + 1) value 0 (omega arith) in
          let here2 : get_or (set after (8 * nest + 1) value) (8 * n + 1) 0 ≡ value =
          let P : ℕ → Type 0 = λ k. get_or (set after (8 * k + 1) value) (8 * n + 1) 0 ≡ value in subst P same here in
          let one : one_below (steps_to nests home n) (steps + 1) ≡ 1 =
          let P : ℕ → Type 0 = λ k. one_below (steps_to nests home k) (steps + 1) ≡ 1 in
          subst P (sym same) (rw far (one_below-next steps)) in
          let zero_so_far : one_below (steps_to nests home n) steps ≡ 0 =
          let P : ℕ → Type 0 = λ k. one_below (steps_to nests home k) steps ≡ 0 in
          subst P (sym same) (rw far (one_below-same steps)) in
          let was : passed_at after n ≡ passed_at after nest = ap (λ (k : ℕ). passed_at after k) same in
          omega (arith, here2, one, zero_so_far, so_far.passed n inside, was))
          (λ apart.
          let other : get_or (set after (8 * nest + 1) value) (8 * n + 1) 0 ≡ passed_at after n =
          get_or-set_other after (8 * nest + 1) (8 * n + 1) value 0 (λ e. apart (omega arith)) in
          let elsewhere : steps_to nests home n ≢ steps =
          λ e. apart (sym (nest_behind-steps_to nests home n in_home inside)
          ∙ ap (λ (k : ℕ). nest_behind nests home k) e ∙ sym at) in
          omega (arith, other, one_below-other (steps_to nests home n) steps elsewhere, so_far.passed n inside))
          (cases_eq n nest);
      others = λ word apart.
          so_far.others word apart ∙ sym (get_or-set_other after (8 * nest + 1) word value 0 (λ e. apart (omega
          arith)));
    }
