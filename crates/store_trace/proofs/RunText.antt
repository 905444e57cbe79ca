-- What a run tells at its end, by where its lines went on to.
use Rattle.std.proofs.Common.{◌≡◌, ℕ, true, false, List, [], ◌∷◌, Option, Some, None, inl, inr}
use Rattle.std.specs.Prelude.{◌⊎◌}
use Rattle.bump_trace.specs.Gathering.{Gathers}
use Rattle.bump_trace.specs.Meaning.{parts_of}
use Rattle.bump_trace.specs.Stages.{Stage, Open, StoreState}
use Rattle.trace_lines.specs.Lines.{rest_fault}
use Rattle.trace_lines.specs.Text.{fault_line}
use Rattle.trace_lines.specs.declared.faults.Fault.{Fault}
use Rattle.trace_lines.specs.declared.faults.LineError.{LineError}
use Rattle.trace_lines.specs.declared.faults.LineError.TheVariants as errors
use Rattle.store_trace.specs.Endings.{Whole, Stopped, Goes, StopsAs}
use Rattle.store_trace.specs.Runs.{NoMore, TellsEnd, GathersLines}
use Rattle.store_trace.proofs.Endings.{ends_here, stops_here}
use Rattle.store_trace.proofs.LinesSaid.{open_end, is_open}
use Rattle.store_trace.proofs.ToldText.{tells_whole, tells_stop, tells_fault}

-- lines that are run to the end of the input end there
pub last_of : {P Q : Type 0} → P ⊎ ((false ≡ true) × Q) → P
last_of (inl last) = last
last_of (inr no_par) = absurd cc

module _ (n : ℕ) (all : List (List ℕ)) (s : Stage) (later : ℕ) (rest : List ℕ) (store : StoreState) (reached : Goes n all s later (parts_of rest) (Open store)) where
  -- an error behind the lines that were run stops all of them
  pub stops_behind : (number : ℕ) (error : LineError) → StopsAs later (parts_of rest) (Open store) number error → StopsAs n all s number error
  stops_behind number errors.Memory p = tt
  stops_behind number (errors.Fault what) p = reached (Stopped number what) p

  module _ (last : parts_of rest ≡ rest ∷ []) (held mid holds : Option (List ℕ)) (old gathered new : List ℕ) (told : GathersLines held mid old gathered) where
    -- nothing is wrong at the end of the input
    pub tells_end : rest_fault rest ≡ None → TellsEnd NoMore held mid old gathered n all s false
    tells_end none =
        tells_whole held mid old gathered n all s store told
        (ends_here n all s later rest (Open store) reached last (Whole store) (open_end store rest None none, is_open store))

    -- something is, and its line was gathered
    pub tells_rest : (what : Fault) → rest_fault rest ≡ Some what → Gathers mid holds gathered new (fault_line later what) → TellsEnd NoMore held holds old new n all s true
    tells_rest what is more =
        tells_fault NoMore held holds old new n all s
        (tells_stop held mid holds old gathered new told n all s later what
        (stops_here n all s later rest (Open store) reached last what (open_end store rest (Some what) is)) more)
