-- What contracts see of a log.
use Rattle.std.specs.Prelude.{ℕ, zero, suc, ◌≡◌, ◌+◌, ◌==◌, if◌then◌else◌, List, [], ◌∷◌, ◌++◌}
use mathlib.Core.List.{IsPrefix}

-- the log of one of several values, with the states of all of them
pub record LogView (S : Type 0) : Type 0 where
  -- stands for nothing: a value has it before its first call
  pub first : S
  -- the state behind each call, of whichever value, in order
  pub log : List S
  -- which value it is the log of
  pub number : ℕ
  -- how many values there are: their numbers are those below
  pub values : ℕ

-- the state of the value of this number: the last of the log's states that has it, or else the first
unfoldable pub state_of : {S : Type 0} → (S → ℕ) → ℕ → S → List S → S
state_of number_of i first [] = first
state_of number_of i first (s ∷ log) = state_of number_of i (if number_of s == i then s else first) log

-- how many calls the value of this number had
unfoldable pub calls_of : {S : Type 0} → (S → ℕ) → ℕ → List S → ℕ
calls_of number_of i [] = zero
calls_of number_of i (s ∷ log) = if number_of s == i then suc (calls_of number_of i log) else calls_of number_of i log

-- the state of the value that it is the log of
abbrev pub last_state : {S : Type 0} → (S → ℕ) → LogView S → S
last_state number_of log = state_of number_of log.number log.first log.log

-- One call of the log's value was noted, which left this state. Behind what the log had may stand states of other
-- values, and behind them stands this one.
pub record Notes {S : Type 0} (number_of : S → ℕ) (state : S) (log log' : LogView S) : Type 0 where
  pub first : log'.first ≡ log.first
  pub number : log'.number ≡ log.number
  pub values : log'.values ≡ log.values
  pub seen : IsPrefix log.log log'.log
  pub last : last_state number_of log' ≡ state
  pub once : calls_of number_of log.number log'.log ≡ calls_of number_of log.number log.log + 1
  pub alone : log.values ≡ 1 → log'.log ≡ log.log ++ state ∷ []
