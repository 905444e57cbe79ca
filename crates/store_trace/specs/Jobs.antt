-- What threads were given, and what came back of them.
use Rattle.std.specs.Prelude.{◌≡◌, ℕ, zero, suc, Bool, false, List, [], ◌∷◌, length, map, Option, Some, None, replicate, fold}
use Rattle.std.specs.List.{AllZip, list_any, zip}
use Rattle.bump_ring.specs.Ends.{Ring}
use Rattle.bump_rules.specs.declared.configs.Config.{Config}
use Rattle.bump_store.specs.Lanes.{LaneState}
use Rattle.bump_store.specs.Passes.{IsDrained}
use Rattle.bump_unlocked.specs.Workers.{WorkerState}
use Rattle.store_trace.specs.Making.{MakesGet, WereMade}
use Rattle.store_trace.specs.Slots.{slot_ring}
use Rattle.store_trace.specs.Tasks.{MakesEach, MakesSome, drain_times, lines_of}
use Rattle.store_trace.specs.Totals.{no_lines, both_totals}
use Rattle.store_trace.specs.declared.jobs.DrainerThread.{DrainerThread}
use Rattle.store_trace.specs.declared.jobs.Job.{Job}
use Rattle.store_trace.specs.declared.jobs.Job.TheVariants.{Runs, Done}
use Rattle.store_trace.specs.declared.jobs.JoinedWorker.{JoinedWorker}
use Rattle.store_trace.specs.declared.slots.Slot.{Slot}
use Rattle.store_trace.specs.declared.tasks.GetTask.{GetTask}
use Rattle.store_trace.specs.declared.tasks.Share.{Share}
use Rattle.store_trace.specs.declared.tasks.Share.TheVariants as shares
use Rattle.store_trace.specs.declared.totals.Totals.{Totals}

-- the shares of so many drainers: the first one is the maintenance thread
abbrev pub shares_of : ℕ → List Share
shares_of zero = []
shares_of (suc count) = shares.All ∷ replicate count shares.Drains

module _ {N : Type 0} where
  -- the ring with which a worker went in
  abbrev pub job_ring : Job N → Ring
  job_ring (Runs running) = running.lane_was.value.lane.ring
  job_ring (Done slot tasks) = slot_ring slot

  -- those of all, in order
  abbrev pub job_rings : List (Job N) → List Ring
  job_rings jobs = map job_ring jobs

  -- What came of the lines of a worker: it made them, and their answers were counted, or some first ones of them where
  -- the gate let one not pass. Those of a worker that was closed before were counted alone.
  abbrev pub WorkerMade : Config → Option WorkerState → List GetTask → JoinedWorker N → Type 0
  WorkerMade config (Some worker) tasks joined = (after : WorkerState) × (joined.slot.worker ≡ Some after)
      × MakesSome (MakesGet config) tasks joined.is_stopped (worker, no_lines) (after, joined.totals)
  WorkerMade config None tasks joined = (joined.slot.worker ≡ None)
      × (joined.totals ≡ record no_lines { closed = length tasks }) × (joined.is_stopped ≡ false)

  -- The job of a worker with these lines: a thread to which both were given on this store, or what is left where the
  -- worker was closed.
  abbrev pub IsJobOf : Config → Slot N → List GetTask → Job N → Type 0
  IsJobOf config slot tasks (Runs running) = (slot.worker ≡ Some running.handle.promise.worker.value)
      × (running.handle.promise.tasks.value.items ≡ tasks) × (running.handle.promise.store.value ≡ config)
  IsJobOf config slot tasks (Done same lines) = (slot.worker ≡ None) × (same.worker ≡ None) × (lines.items ≡ tasks)

  -- What came back of a job.
  abbrev pub Came : Job N → JoinedWorker N → Type 0
  Came (Runs running) joined = WorkerMade running.handle.promise.store.value
      (Some running.handle.promise.worker.value) running.handle.promise.tasks.value.items joined
  Came (Done slot lines) joined = (joined.slot ≡ slot) × (joined.totals ≡ record no_lines { closed = length lines.items })
      × (joined.is_stopped ≡ false)

  -- each worker with its lines
  abbrev pub with_lines : List (Slot N) → List (List GetTask) → List (Slot N × List GetTask)
  with_lines slots gets = zip slots gets

  -- the jobs of workers, each with its lines
  abbrev pub AreJobsOf : Config → List (Slot N) → List (List GetTask) → List (Job N) → Type 0
  AreJobsOf config slots gets jobs = AllZip (λ one job. IsJobOf config one.0 one.1 job) (with_lines slots gets) jobs

  -- the counts of all workers together
  abbrev pub totals_of : List (JoinedWorker N) → Totals
  totals_of all = fold (λ totals joined. both_totals totals joined.totals) no_lines all

  -- they are these workers, and their counts together, and whether one was stopped
  abbrev pub IsSumOf : List (JoinedWorker N) → List (Slot N) → Totals → Bool → Type 0
  IsSumOf all slots totals is_stopped = (slots ≡ map (λ joined. joined.slot) all) × (totals ≡ totals_of all)
      × (is_stopped ≡ list_any (λ joined. joined.is_stopped) all)

  -- What came back of all jobs.
  abbrev pub AllCame : List (Job N) → List (Slot N) → Totals → Bool → Type 0
  AllCame jobs slots totals is_stopped =
      (all : List (JoinedWorker N)) × AllZip Came jobs all × IsSumOf all slots totals is_stopped

  -- What came of the lines of all workers.
  abbrev pub WorkersMade : Config → List (Slot N) → List (List GetTask) → List (Slot N) → Totals → Bool → Type 0
  WorkersMade config befores gets slots totals is_stopped = (all : List (JoinedWorker N))
      × AllZip (λ one joined. WorkerMade config one.0.worker one.1 joined) (with_lines befores gets) all
      × IsSumOf all slots totals is_stopped

  -- the lanes with which each drainer went in
  abbrev pub drainer_lanes : List (DrainerThread N) → List (List LaneState)
  drainer_lanes drainers = map (λ drainer. drainer.handle.promise.lanes.value.items) drainers

  -- and its share of the lines
  abbrev pub drainer_shares : List (DrainerThread N) → List Share
  drainer_shares drainers = map (λ drainer. drainer.handle.promise.share) drainers

  -- What a drainer leaves of its lanes, and which lines it made.
  abbrev pub DrainerMade : DrainerThread N → List LaneState → Type 0
  DrainerMade drainer lanes = AllZip (MakesEach IsDrained (drain_times drainer.handle.promise.tasks.value.items))
      drainer.handle.promise.lanes.value.items lanes
      × WereMade drainer.handle.promise.store.value
      (lines_of drainer.handle.promise.share drainer.handle.promise.tasks.value.items)
