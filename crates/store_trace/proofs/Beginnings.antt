-- Where the lines of a store begin.
use Rattle.std.proofs.Common.{◌≡◌, ℕ, List, Result, Ok, Err, sym, subst}
use Rattle.std.specs.Result.{IfOk, IfErr}
use Rattle.model_state.specs.Opening.{new_state}
use Rattle.bump_trace.specs.Meaning.{parts_of}
use Rattle.bump_trace.specs.Stages.{Stage, Open, StoreState, nameless, opened}
use Rattle.trace_lines.specs.declared.faults.Fault.{Fault}
use Rattle.trace_lines.specs.declared.faults.LineError.{LineError}
use Rattle.trace_lines.specs.declared.faults.LineError.TheVariants as errors
use Rattle.store_trace.specs.Endings.{EndsAt, Stopped, Goes, StopsAs}
use Rattle.store_trace.specs.declared.openings.Beginning.{Beginning}
use Rattle.store_trace.specs.declared.openings.LineStart.{LineStart}
use Rattle.store_trace.specs.declared.openings.StoppedLine.{StoppedLine as TheStopped}

module _ (n₀ : ℕ) (all : List (List ℕ)) (s₀ : Stage) where
  -- what begins at a place goes on from there with the store that is opened
  pub begun_opens : (begun : Result Beginning TheStopped) (place : LineStart) (s : Stage) → IfOk begun (λ b. b.place ≡ place)
      → IfOk begun (λ b. opened s ≡ Ok (nameless (new_state b.config)))
      → ((store : StoreState) → opened s ≡ Ok store → Goes n₀ all s₀ place.number (parts_of place.rest.now) (Open store))
      → IfOk begun (λ b. Goes n₀ all s₀ b.place.number (parts_of b.place.rest.now) (Open (nameless (new_state b.config))))
  begun_opens (Ok b) place s is opens goes =
      subst (λ (p : LineStart). Goes n₀ all s₀ p.number (parts_of p.rest.now) (Open (nameless (new_state b.config)))) (sym is) (goes (nameless (new_state b.config)) opens)
  begun_opens (Err e) place s is opens goes = tt

  -- an error that is this fault
  stops_by : (n : ℕ) (error : LineError) (what : Fault) → error ≡ errors.Fault what → EndsAt n₀ all s₀ (Stopped n what) → StopsAs n₀ all s₀ n error
  stops_by n error what is ends = subst (StopsAs n₀ all s₀ n) (sym is) ends

  -- where nothing begins, the lines end
  pub begun_stops : (begun : Result Beginning TheStopped) (n : ℕ) (P : Fault → Type 0) → IfErr begun (λ stopped. stopped.number ≡ n)
      → IfErr begun (λ stopped. (what : Fault) × (stopped.error ≡ errors.Fault what) × P what) → ((what : Fault) → P what → EndsAt n₀ all s₀ (Stopped n what))
      → IfErr begun (λ stopped. StopsAs n₀ all s₀ stopped.number stopped.error)
  begun_stops (Ok b) n P is fault ends = tt
  begun_stops (Err stopped) n P is fault ends =
      subst (λ (k : ℕ). StopsAs n₀ all s₀ k stopped.error) (sym is) (stops_by n stopped.error fault.0 fault.1 (ends fault.0 fault.2))
