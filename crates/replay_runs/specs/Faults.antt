-- Which plans and runs are refused, and why.
use Rattle.std.specs.Prelude.{ℕ, ◌≡◌, ◌<◌, ◌⊎◌, ⊤, true, List, length, Option, None, Some, nat_lt, if◌then◌else◌}
use Rattle.cache_config.specs.Configs.{first_cache_fault}
use Rattle.cache_config.specs.declared.config.CacheFault.{CacheFault}
use Rattle.bump_trace.specs.Meaning.{verdict_of}
use Rattle.bump_trace.specs.Runs.{most_bytes}
use Rattle.cache_shelf.specs.Limits.{put_bumps}
use Rattle.bump_trace.specs.declared.runs.SimFault.{SimFault}
use Rattle.bump_trace.specs.declared.runs.SimFault.TheVariants as sim
use Rattle.replay_runs.specs.Writing.{IsTraceOf, HasTooLong}
use Rattle.replay_runs.specs.declared.plans.Plan.{Plan}
use Rattle.replay_runs.specs.declared.faults.ReplayFault.{ReplayFault}
use Rattle.replay_runs.specs.declared.faults.ReplayFault.TheVariants.{Config, Parts, Memory, Long, Bumps, Refused, Run}

-- why no run of a plan is traced, by the fault that its configuration has and by its parts: a trace is of one part
abbrev pub plan_fault_by : Option CacheFault → ℕ → Option ReplayFault
plan_fault_by None parts = if nat_lt 1 parts then Some Parts else None
plan_fault_by (Some own) parts = Some (Config own)

abbrev pub plan_fault : Plan → Option ReplayFault
plan_fault plan = plan_fault_by (first_cache_fault plan.config) plan.config.parts

-- why no store is made of a plan: for its fault, if it has one, and else for want of memory
abbrev pub RefusesStore : Option ReplayFault → ReplayFault → Type 0
RefusesStore None fault = fault ≡ Memory
RefusesStore (Some own) fault = fault ≡ own

-- Why no text is written: memory was refused, or the World refused a call, or the text would be too long, or a reader's
-- ring had more bumps at a put than it applies.
abbrev pub IsOfTraceWriting : Plan → List ℕ → List ℕ → ReplayFault → Type 0
IsOfTraceWriting plan accesses times (Config own) = ⊥
IsOfTraceWriting plan accesses times Parts = ⊥
IsOfTraceWriting plan accesses times Long = HasTooLong plan accesses times
IsOfTraceWriting plan accesses times Bumps = put_bumps < plan.config.ring
IsOfTraceWriting plan accesses times Memory = ⊤
IsOfTraceWriting plan accesses times Refused = ⊤
IsOfTraceWriting plan accesses times (Run own) = ⊥

-- The fault of a text's run, as one of a trace that is written. What the run tells is kept in memory, so only for want of
-- it can that not be written.
abbrev pub fault_of : SimFault → ReplayFault
fault_of sim.Trace = Run sim.Trace
fault_of sim.Read = Run sim.Read
fault_of sim.Size = Long
fault_of sim.Write = Memory
fault_of sim.Memory = Memory
fault_of sim.Threads = Run sim.Threads
fault_of sim.Ring = Run sim.Ring
fault_of sim.Gate = Run sim.Gate

-- why a text doesn't run: it has a fault, it couldn't be read, it is too long, or memory was refused
abbrev pub IsOfText : List ℕ → ReplayFault → Type 0
IsOfText text (Config own) = ⊥
IsOfText text Parts = ⊥
IsOfText text Long = most_bytes < length text
IsOfText text Bumps = ⊥
IsOfText text Memory = ⊤
IsOfText text Refused = ⊥
IsOfText text (Run sim.Trace) = (verdict_of text).is_fault ≡ true
IsOfText text (Run sim.Read) = ⊤
IsOfText text (Run sim.Size) = ⊥
IsOfText text (Run sim.Write) = ⊥
IsOfText text (Run sim.Memory) = ⊥
IsOfText text (Run sim.Threads) = ⊥
IsOfText text (Run sim.Ring) = ⊥
IsOfText text (Run sim.Gate) = ⊥

-- why a run of these accesses isn't traced: no text is written, or the one that is written doesn't run
abbrev pub IsOfTracing : Plan → List ℕ → List ℕ → ReplayFault → Type 0
IsOfTracing plan accesses times fault = IsOfTraceWriting plan accesses times fault
    ⊎ ((text : List ℕ) × IsTraceOf plan accesses times text × IsOfText text fault)

-- a plan that has a fault is refused by it, and one that has none is traced, but for those reasons
abbrev pub Refuses : Option ReplayFault → Plan → List ℕ → List ℕ → ReplayFault → Type 0
Refuses None plan accesses times fault = IsOfTracing plan accesses times fault
Refuses (Some own) plan accesses times fault = fault ≡ own
