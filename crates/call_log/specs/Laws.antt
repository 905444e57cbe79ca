-- The rule of a log.
use Rattle.std.specs.Prelude.{ℕ, ◌≡◌, ◌<◌, true, List, [], ◌∷◌, length, map}
use Rattle.logbook.specs.Pages.{Cell, Book, Named, cell}
use Rattle.call_log.specs.Fronts.{AreNumbered}

-- Beside its state an entry has a number: that of the first says how many values there are.
abbrev pub Entry : Type 0 → Type 0
Entry S = S × ℕ

-- the states of entries
abbrev pub states : {S : Type 0} → List (Entry S) → List S
states entries = map (λ e. e.0) entries

-- the state of the first, or else what is given
abbrev pub first_in : {S : Type 0} → S → List (Entry S) → S
first_in any [] = any
first_in any (first ∷ log) = first.0

-- how many values there are
abbrev pub values_in : {S : Type 0} → List (Entry S) → ℕ
values_in [] = 0
values_in (first ∷ log) = first.1

-- the states behind the first
abbrev pub states_in : {S : Type 0} → List (Entry S) → List S
states_in [] = []
states_in (first ∷ log) = states log

-- the log has begun
abbrev pub HasBegun : {S : Type 0} → List (Entry S) → Type 0
HasBegun [] = ⊥
HasBegun (first ∷ log) = Unit {0}

-- There is a word for each value, and no state has the number of another one.
pub record HasWords {S : Type 0} (number_of : S → ℕ) (cells : List Cell) (values : ℕ) (log : List S) : Type 0 where
  pub words : length cells ≡ values
  pub home : (i : ℕ) → i < values → (cell cells i).1 ≡ true
  pub numbered : AreNumbered number_of values log

-- the log has a first entry, and a word for each value
abbrev pub IsKept : {S : Type 0} → (S → ℕ) → List Cell → List (Entry S) → Type 0
IsKept number_of cells [] = ⊥
IsKept number_of cells (first ∷ log) = HasWords number_of cells first.1 (states log)

-- the word of the value of this number
abbrev pub head_of : ℕ → Book → Named
head_of number b = record { tracked = true; key = number; book = b }
