-- How many calls a value had, and what they cost.
use Rattle.std.specs.Prelude.{ℕ, Bool}

-- a value has at most so many calls
abbrev pub most_calls : ℕ
most_calls = 18446744073709551615

-- how many calls it had, and whether it is the only value of its log
pub record CountView : Type 0 where
  pub calls : ℕ
  pub alone : Bool
