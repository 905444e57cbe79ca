-- How many calls each value had. The law keeps these numbers beside the log, and each value has a part of its own: so
-- only whoever has that part adds to the log a state of the value.
use Rattle.std.specs.Prelude.{ℕ, zero, suc, ◌≡◌, ◌+◌, ◌<◌, Bool, true, false, List, [], ◌∷◌, ◌++◌, map}
use Rattle.std.specs.List.{range_with_len}
use base.Fml.{Fml, ftrue, fsep}
use base.Share.{quarter}
use Rattle.logbook.specs.Pages.{Cell}
use Rattle.logbook.specs.Kept.{fact, part, roster}
use Rattle.call_log.specs.Laws.{Entry, states_in, values_in}
use Rattle.call_log.specs.Logs.{calls_of}

-- how many of a log's states are of each value
abbrev pub tallies : {S : Type 0} → (S → ℕ) → List (Entry S) → List Cell
tallies number_of log = map (λ i. (calls_of number_of i (states_in log), true)) (range_with_len 0 (values_in log))

-- the name under which these numbers are kept
abbrev pub name_in : List ℕ → ℕ
name_in [] = 0
name_in (name ∷ names) = name

-- what the law keeps of them
abbrev pub keeps_tallies : {S : Type 0} → (S → ℕ) → List ℕ → List (Entry S) → Fml
keeps_tallies number_of names log = roster (name_in names) 0 (tallies number_of log)

-- what a value has of its own number, unless it is with a step
unfoldable pub tally_owns : ℕ → ℕ → Bool → ℕ → Fml
tally_owns name number true calls = part name number quarter calls
tally_owns name number false calls = ftrue

-- A request has a number beside a state: behind 0, it is to add the state, and behind another one, to look at the value
-- whose number is one less.
abbrev pub number_by : ℕ → ℕ → ℕ
number_by number zero = number
number_by number (suc looked) = looked

-- the value that a request is about
abbrev pub number_asked : {S : Type 0} → (S → ℕ) → Entry S → ℕ
number_asked number_of ask = number_by (number_of ask.0) ask.1

abbrev pub added_by : {S : Type 0} → Entry S → ℕ → List (Entry S)
added_by ask zero = ask ∷ []
added_by ask (suc looked) = []

-- what a request adds to the log
abbrev pub asked : {S : Type 0} → Entry S → List (Entry S)
asked ask = added_by ask ask.1

abbrev pub calls_by : ℕ → ℕ → ℕ
calls_by calls zero = calls + 1
calls_by calls (suc looked) = calls

-- how many calls its value has then, where it had so many
abbrev pub calls_asked : {S : Type 0} → Entry S → ℕ → ℕ
calls_asked ask calls = calls_by calls ask.1

-- what a request does, and that it is answered by how many calls the value has then
pub record IsDone {S : Type 0} (number_of : S → ℕ) (ask : Entry S) (before after : List (Entry S)) (answer : ℕ)
    : Type 0 where
  pub few : number_asked number_of ask < values_in before
  pub did : after ≡ before ++ asked ask
  pub told : answer ≡ calls_of number_of (number_asked number_of ask) (states_in after)

-- what is known of a request beforehand: its value, and how many calls that one has then
abbrev pub known : {S : Type 0} → S → ℕ → ℕ → List (Entry S)
known any number calls = (any, number) ∷ (any, calls) ∷ []

-- the number of the value
abbrev pub number_known : {S : Type 0} → List (Entry S) → ℕ
number_known [] = 0
number_known (e ∷ known) = e.1

-- how many calls it has then
abbrev pub calls_known : {S : Type 0} → List (Entry S) → ℕ
calls_known [] = 0
calls_known (e ∷ known) = number_known known

-- once a request was done, the answer is the number that was known, and the value has its part again
abbrev pub gains_tally : {S : Type 0} → List ℕ → List (Entry S) → ℕ → Fml
gains_tally names known answer = fsep (fact (answer ≡ calls_known known)) (tally_owns (name_in names) (number_known known) true answer)
