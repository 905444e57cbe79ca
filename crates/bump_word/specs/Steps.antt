-- What an atomic step on a head word does to the Head, and what a mask reads of it.
use Rattle.std.specs.Prelude.{◌≡◌, ◌≢◌, ◌↔◌, ℕ, Bool, true, false, bit_and}
use Rattle.bump_rules.specs.declared.items.Head.{Head}
use Rattle.bump_word.specs.Words.{Spells}

-- Where the step finds the word of a Head that is allowed, it leaves the word of the changed Head. A step answers the
-- number that it found, n: so the answer is the word of the Head before.
abbrev pub Changes : (ℕ → ℕ) → (Head → Type 0) → (Head → Head) → Type 0
Changes step may change = (n : ℕ) (h : Head) → Spells n h → may h → Spells (step n) (change h)

-- In the word of a Head the mask's bit is set exactly where the flag is.
abbrev pub Tests : ℕ → (Head → Bool) → Type 0
Tests mask flag = (n : ℕ) (h : Head) → Spells n h → ((bit_and n mask ≢ 0) ↔ (flag h ≡ true))
    × ((bit_and n mask ≡ 0) ↔ (flag h ≡ false))

-- Of the word of a Head, the field is read.
abbrev pub Reads : (ℕ → ℕ) → (Head → ℕ) → Type 0
Reads read field = (n : ℕ) (h : Head) → Spells n h → read n ≡ field h
