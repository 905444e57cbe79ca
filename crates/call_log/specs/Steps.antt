-- What a step on a log tells.
use Rattle.std.specs.Prelude.{ℕ, ◌≡◌, List, ◌++◌, Option, Some}
use mathlib.Core.List.{IsPrefix}
use Rattle.logbook.specs.Pages.{Step, View}
use Rattle.call_log.specs.Logs.{calls_of}
use Rattle.call_log.specs.Fronts.{AreNumbered}
use Rattle.call_log.specs.Laws.{Entry, states_in, values_in}
use Rattle.call_log.specs.Tallies.{asked, number_asked}

-- A request was done on the whole log, which had all that was seen before, and was answered by how many calls its value
-- has now.
pub record HasDone {S : Type 0} (number_of : S → ℕ) (ask : Entry S) (known log : List (Entry S)) (answer : Option ℕ)
    : Type 0 where
  pub before : List (Entry S)
  pub did : log ≡ before ++ asked ask
  pub seen : IsPrefix known before
  pub told : answer ≡ Some (calls_of number_of (number_asked number_of ask) (states_in log))
  pub numbered : AreNumbered number_of (values_in log) (states_in log)

abbrev pub Steps : {S : Type 0} → (S → ℕ) → Step (Entry S) → View (Entry S) ℕ → ℕ → View (Entry S) ℕ → Type 0
Steps number_of s v found w = HasDone number_of s.ask v.0 w.0 w.1.1
