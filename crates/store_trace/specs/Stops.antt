-- Why lines that have no fault are not run.
use Rattle.trace_lines.specs.declared.faults.LineError.TheVariants as errors
use Rattle.store_trace.specs.declared.stops.Stop.{Stop}
use Rattle.store_trace.specs.declared.stops.Stop.TheVariants.{Line, Ring}

-- for want of memory, or by a ring that couldn't show its end
abbrev pub IsNoFault : Stop → Type 0
IsNoFault Ring = Unit {0}
IsNoFault (Line errors.Memory) = Unit {0}
IsNoFault (Line (errors.Fault fault)) = ⊥
