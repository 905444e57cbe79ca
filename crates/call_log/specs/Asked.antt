-- What a request did to what was seen of a log.
use Rattle.std.specs.Prelude.{ℕ, ◌≡◌, ◌++◌, true, List}
use mathlib.Core.List.{IsPrefix}
use Rattle.call_log.specs.Fronts.{AreNumbered, Extends, FrontView}
use Rattle.call_log.specs.Laws.{Entry, states}
use Rattle.call_log.specs.Logs.{calls_of}
use Rattle.call_log.specs.Tallies.{asked, number_asked}
use Rattle.call_log.specs.declared.tallies.Tally.{Tally}

-- the value of this number has its part of how many calls it had
pub record IsTally (name number calls : ℕ) (tally : Tally) : Type 0 where
  pub named : tally.name ≡ name
  pub of : tally.number ≡ number
  pub here : tally.here ≡ true
  pub counts : tally.calls ≡ calls

-- The request was done, in one step, on a log that had what both had seen, and as many states of its value as the first
-- of the two.
pub record HasAsked {S : Type 0} (number_of : S → ℕ) (ask : Entry S) (this that after : FrontView S) : Type 0 where
  pub before : List S
  pub did : after.log ≡ before ++ states (asked ask)
  pub mine : Extends this after
  pub theirs : Extends that after
  pub name : after.name ≡ this.name
  pub this_seen : IsPrefix this.log before
  pub that_seen : IsPrefix that.log before
  pub calls : calls_of number_of (number_asked number_of ask) before ≡ calls_of number_of (number_asked number_of ask) this.log
  pub numbered : AreNumbered number_of after.values after.log
