-- How a reader's search goes on: from nest to nest, and from lane to lane in a nest.
use Rattle.std.proofs.Common.{◌≡◌, ℕ, zero, suc, ◌+◌, ◌-◌, ◌*◌, ◌/◌, ◌%◌, ◌^◌, ◌<◌, min, cond, ltb, bit_and, w64, refl, sym}
use Rattle.std.proofs.Common.{ap, ◌∙◌, subst, arith, ◌⊎◌, inl, inr, ⊎_elim, pow-suc}
use Rattle.std.specs.Int.{trailing_zeros}
use Rattle.std.specs.Int.Bits.{and_step, and_self}
use Rattle.std.proofs.Math.Nat.{div-add-mod, div-div-eq-div-mul}
use Rattle.std.proofs.lemmas.Nat.Bits.{bit_at-trailing_zeros, bit_at_above}
use Rattle.std.proofs.lemmas.Bool.{cases_lt, cond_both, ltb-true, ltb-false}
use Rattle.cache_index.specs.Places.{nest_behind}
use Rattle.cache_index.specs.Views.{ReaderSearchView}
use Rattle.cache_index.specs.Walks.{IsBehind, TakesLowest, WalksOn}

-- the lowest bit of the lanes that were found is that of a lane
pub lane_of_bits : (found : ℕ) → 0 < found → found < 2 ^ 48 → trailing_zeros w64 found / 8 < 6
lane_of_bits found some few =
    let at = trailing_zeros w64 found in
    let lowest = bit_at-trailing_zeros w64 found some (omega arith) in
    let below : at < 48 = ⊎_elim (λ h. h)
    (λ above. let none = bit_at_above found 48 at few above in absurd (omega (arith, none, lowest.1)))
    (cases_lt at 48) in
    omega (arith, below)

-- of an odd number, the lowest bit that is 1 is the first
takes_first : (n : ℕ) → n % 2 ≡ 1 → TakesLowest n (bit_and n (n - 1))
takes_first n odd =
    let half : (n - 1) / 2 ≡ n / 2 = omega arith in
    let low : min (n % 2) ((n - 1) % 2) ≡ 0 = omega arith in
    let same = ap (λ (h : ℕ). bit_and (n / 2) h) half ∙ and_self (n / 2) in
    record { bit = 0; zeros = omega arith; one = omega arith; rest = omega (arith, and_step n (n - 1), low, same, odd) }

-- of an even number, it is one place above that of its half
takes_above : (n : ℕ) → 0 < n → n % 2 ≡ 0 → TakesLowest (n / 2) (bit_and (n / 2) (n / 2 - 1))
    → TakesLowest n (bit_and n (n - 1))
takes_above n some even takes =
    let half : (n - 1) / 2 ≡ n / 2 - 1 = omega arith in
    let low : min (n % 2) ((n - 1) % 2) ≡ 0 = omega arith in
    let same = ap (λ (h : ℕ). bit_and (n / 2) h) half in
    let twice = pow-suc 2 takes.bit in
    let above : n / 2 / 2 ^ takes.bit ≡ n / 2 ^ suc takes.bit =
    div-div-eq-div-mul n 2 (2 ^ takes.bit) ∙ ap (λ (p : ℕ). n / p) (let e : 2 * 2 ^ takes.bit ≡ 2 ^ suc takes.bit = omega (
      arith,
      twice,
    ) in e) in
    record {
      bit = suc takes.bit;
      zeros = even_zeros n (2 ^ takes.bit) (2 ^ suc takes.bit) even (omega (arith, twice)) takes.zeros;
      one = sym (ap (λ (h : ℕ). h % 2) above) ∙ takes.one;
      rest = omega (arith, and_step n (n - 1), low, same, takes.rest, twice, even);
    }
  where
    even_zeros : (m p q : ℕ) → m % 2 ≡ 0 → q ≡ 2 * p → m / 2 % p ≡ 0 → m % q ≡ 0
    even_zeros m p q is_even double none =
        let P : ℕ → Type 0 = λ k. 2 * p * k + m % (2 * p) ≡ m in
        let parts = subst P (sym (div-div-eq-div-mul m 2 p)) (div-add-mod m (2 * p)) in
        let whole : m % (2 * p) ≡ 0 = omega (arith, parts, div-add-mod (m / 2) p, none, is_even) in
        subst (λ (r : ℕ). m % r ≡ 0) (sym double) whole

-- a number and the one before it have all bits of the number together but the lowest
pub takes_lowest : (width n : ℕ) → 0 < n → n < 2 ^ width → TakesLowest n (bit_and n (n - 1))
takes_lowest zero n some fits = absurd (omega arith)
takes_lowest (suc width) n some fits = ⊎_elim
    (λ even. takes_above n some (omega (arith, even)) (takes_lowest width (n / 2) (omega (arith, even, some)) (omega (
      arith,
      pow-suc 2 width,
      fits,
    ))))
    (λ odd. takes_first n (omega (arith, odd)))
    (cases_lt (n % 2) 1)

-- no step behind a nest is the nest itself
nest_behind-none : (nests nest : ℕ) → nest < nests → nest_behind nests nest 0 ≡ nest
nest_behind-none nests nest within =
    cond_both (ltb (nest + 0) nests) (nest + 0) (nest + 0 - nests) (λ v. v ≡ nest)
    (λ e. omega arith) (λ e. absurd (omega (arith, within, ltb-false (nest + 0) nests e)))

-- one step further
nest_behind-next : (nests nest steps : ℕ) → nest < nests → steps + 1 < nests
    → nest_behind nests (nest_behind nests nest steps) 1 ≡ nest_behind nests nest (steps + 1)
nest_behind-next nests nest steps within few =
    cond_both (ltb (nest + steps) nests) (nest + steps) (nest + steps - nests)
    (λ v. nest_behind nests v 1 ≡ nest_behind nests nest (steps + 1))
    (λ e. let same : nest + steps + 1 ≡ nest + (steps + 1) = omega arith in
    subst (λ (k : ℕ). cond (ltb (nest + steps + 1) nests) (nest + steps + 1) (nest + steps + 1 - nests)
    ≡ cond (ltb k nests) k (k - nests)) same refl)
    (λ e. let over = ltb-false (nest + steps) nests e in
    cond_both (ltb (nest + steps - nests + 1) nests) (nest + steps - nests + 1) (nest + steps - nests + 1 - nests)
    (λ v. v ≡ nest_behind nests nest (steps + 1))
    (λ f. cond_both (ltb (nest + (steps + 1)) nests) (nest + (steps + 1)) (nest + (steps + 1) - nests)
    (λ v. nest + steps - nests + 1 ≡ v)
    (λ g. absurd (omega (arith, over, ltb-true (nest + (steps + 1)) nests g))) (λ g. omega (arith, over)))
    (λ f. absurd (omega (arith, over, within, few, ltb-false (nest + steps - nests + 1) nests f))))

-- a search that hasn't gone on
walks_nowhere : (search : ReaderSearchView) → search.nest < search.nests → WalksOn search search
walks_nowhere search within = record {
  later = omega arith;
  nest = sym (ap (λ (s : ℕ). nest_behind search.nests search.nest s) (let e : search.later - search.later ≡ 0 = omega arith in
      e) ∙ nest_behind-none search.nests search.nest within);
}

-- one nest more
walks_more : (before between after : ReaderSearchView) → before.nest < before.nests → before.later < before.nests
    → between.nests ≡ before.nests → WalksOn before between → after.later + 1 ≡ between.later
    → after.nest ≡ nest_behind between.nests between.nest 1 → WalksOn before after
walks_more before between after within few same walks later nest =
    let steps = before.later - between.later in
    let more : steps + 1 ≡ before.later - after.later = omega (arith, walks.later, later) in
    record {
      later = omega (arith, walks.later, later);
      nest = nest ∙ (ap (λ (n : ℕ). nest_behind n between.nest 1) same
          ∙ (ap (λ (n : ℕ). nest_behind before.nests n 1) walks.nest
          ∙ (nest_behind-next before.nests before.nest steps within (omega (arith, more, few, walks.later, later))
          ∙ ap (λ (s : ℕ). nest_behind before.nests before.nest s) more)));
    }

-- a search hasn't gone on yet, or it began at one of the nests and went on from there
abbrev pub Walked : ReaderSearchView → ReaderSearchView → Type 0
Walked before now = (now ≡ before) ⊎ ((before.nest < before.nests) × (before.later < before.nests) × WalksOn before now)

-- it goes on by one nest more
pub walked_more : (before between after : ReaderSearchView) → Walked before between → between.nest < between.nests
    → between.later < between.nests → between.nests ≡ before.nests → after.later + 1 ≡ between.later
    → after.nest ≡ nest_behind between.nests between.nest 1 → Walked before after
walked_more before between after (inl same) within few nests later nest =
    let P : ReaderSearchView → Type 0 = λ v. Walked v after in
    subst P same (inr (within, few, walks_more between between after within few refl (walks_nowhere between within) later nest))
walked_more before between after (inr walked) within few nests later nest =
    inr (walked.0, walked.1, walks_more before between after walked.0 walked.1 nests walked.2 later nest)

-- A walk over all nests is at its home again behind the last of them, and not before.
home_again : (nests home nest later : ℕ) → home < nests → later < nests
    → nest ≡ nest_behind nests home (nests - 1 - later)
    → (nest_behind nests nest 1 ≡ home → later ≡ 0) × (later ≡ 0 → nest_behind nests nest 1 ≡ home)
home_again nests home nest later within few is =
    subst (λ n. (nest_behind nests n 1 ≡ home → later ≡ 0) × (later ≡ 0 → nest_behind nests n 1 ≡ home)) (sym is)
    (cond_both (ltb (home + steps) nests) (home + steps) (home + steps - nests)
    (λ n. (nest_behind nests n 1 ≡ home → later ≡ 0) × (later ≡ 0 → nest_behind nests n 1 ≡ home))
    (λ e. let low = ltb-true (home + steps) nests e in
    cond_both (ltb (home + steps + 1) nests) (home + steps + 1) (home + steps + 1 - nests)
    (λ v. (v ≡ home → later ≡ 0) × (later ≡ 0 → v ≡ home))
    (λ f. let below = ltb-true (home + steps + 1) nests f in
    ((λ same. absurd (omega (arith, same))), (λ none. absurd (omega (arith, none, below, within)))))
    (λ f. let over = ltb-false (home + steps + 1) nests f in
    ((λ same. omega (arith, same, low, over, few)), (λ none. omega (arith, none, low, over, few)))))
    (λ e. let high = ltb-false (home + steps) nests e in
    cond_both (ltb (home + steps - nests + 1) nests) (home + steps - nests + 1) (home + steps - nests + 1 - nests)
    (λ v. (v ≡ home → later ≡ 0) × (later ≡ 0 → v ≡ home))
    (λ f. ((λ same. omega (arith, same, high, few)), (λ none. omega (arith, none, high, few))))
    (λ f. absurd (omega (arith, high, within, few, ltb-false (home + steps - nests + 1) nests f)))))
  where
    steps : ℕ
    steps = nests - 1 - later

-- where the next nest is the home, none is left
pub last_behind : (nests home nest later word : ℕ) → home < nests → later < nests → IsBehind nests home nest later
    → word ≡ 8 * nest → nest_behind nests (word / 8) 1 ≡ home → later ≡ 0
last_behind nests home nest later word within few is at same =
    (home_again nests home nest later within few is).0
    (subst (λ n. nest_behind nests n 1 ≡ home) (let e : word / 8 ≡ nest = omega (arith, at) in e) same)

-- and where it is another one, some are
pub more_behind : (nests home nest later word : ℕ) → home < nests → later < nests → IsBehind nests home nest later
    → word ≡ 8 * nest → (nest_behind nests (word / 8) 1 ≡ home → ⊥) → 0 < later
more_behind nests home nest later word within few is at apart = ⊎_elim
    (λ none. absurd (apart (subst (λ n. nest_behind nests n 1 ≡ home) (let e : nest ≡ word / 8 = omega (arith, at) in e)
    ((home_again nests home nest later within few is).1 (omega (arith, none))))))
    (λ some. omega (arith, some))
    (cases_lt later 1)

-- a search that begins is at its home
pub begins_behind : (nests home : ℕ) → home < nests → IsBehind nests home home (nests - 1)
begins_behind nests home within =
    sym (ap (λ (s : ℕ). nest_behind nests home s) (let e : nests - 1 - (nests - 1) ≡ 0 = omega arith in e)
    ∙ nest_behind-none nests home within)

-- and one that comes to the next nest is one step further
pub walks_behind : (nests home nest later next : ℕ) → home < nests → later < nests → next + 1 ≡ later
    → IsBehind nests home nest later → IsBehind nests home (nest_behind nests nest 1) next
walks_behind nests home nest later next within few less is =
    let more : nests - 1 - later + 1 ≡ nests - 1 - next = omega (arith, less, few) in
    ap (λ (n : ℕ). nest_behind nests n 1) is
    ∙ (nest_behind-next nests home (nests - 1 - later) within (omega (arith, less, few))
    ∙ ap (λ (s : ℕ). nest_behind nests home s) more)
