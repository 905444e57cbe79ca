-- What was seen of a log.
use Rattle.std.specs.Prelude.{ℕ, ◌≡◌, ◌<◌, List, [], ◌∷◌, ◌++◌, All}
use mathlib.Core.List.{IsPrefix}
use Rattle.call_log.specs.Logs.{calls_of}

pub record FrontView (S : Type 0) : Type 0 where
  pub first : S
  pub log : List S
  pub values : ℕ
  -- under which the law keeps how many calls each value had
  pub name : ℕ

-- whoever saw this before has seen that as well now
pub record Extends {S : Type 0} (before after : FrontView S) : Type 0 where
  pub first : after.first ≡ before.first
  pub values : after.values ≡ before.values
  pub seen : IsPrefix before.log after.log

-- each state is that of one of so many values
abbrev pub AreNumbered : {S : Type 0} → (S → ℕ) → ℕ → List S → Type 0
AreNumbered number_of values log = All (λ s. number_of s < values) log

-- The state was added, in one step, to a log that had what both had seen, and as many states of this number as the
-- first of the two.
pub record IsAdded {S : Type 0} (number_of : S → ℕ) (number : ℕ) (state : S) (this that after : FrontView S)
    : Type 0 where
  pub before : List S
  pub added : after.log ≡ before ++ state ∷ []
  pub mine : Extends this after
  pub theirs : Extends that after
  pub this_seen : IsPrefix this.log before
  pub that_seen : IsPrefix that.log before
  pub calls : calls_of number_of number before ≡ calls_of number_of number this.log
  pub numbered : AreNumbered number_of after.values after.log

-- What both had seen was seen in one step, and what the log had then: of this number no more states than the first of the
-- two had.
pub record IsSeen {S : Type 0} (number_of : S → ℕ) (number : ℕ) (this that after : FrontView S) : Type 0 where
  pub mine : Extends this after
  pub theirs : Extends that after
  pub calls : calls_of number_of number after.log ≡ calls_of number_of number this.log
  pub numbered : AreNumbered number_of after.values after.log
