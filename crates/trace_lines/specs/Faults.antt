-- The faults of a trace and their words, and what comes of the first one.
use Rattle.std.specs.Prelude.{ℕ, List, codes, Option, Some, None, Result, Ok, Err}
use Rattle.bump_rules.specs.declared.configs.ConfigFault.{ConfigFault}
use Rattle.bump_rules.specs.declared.configs.ConfigFault.TheVariants as config
use Rattle.trace_lines.specs.declared.faults.Fault.{Fault}
use Rattle.trace_lines.specs.declared.faults.Fault.TheVariants as fault

-- the word that tells a fault
abbrev pub fault_word : Fault → List ℕ
fault_word fault.Long = codes "LONG"
fault_word fault.Truncated = codes "TRUNCATED"
fault_word fault.Command = codes "COMMAND"
fault_word fault.Count = codes "COUNT"
fault_word fault.Number = codes "NUMBER"
fault_word fault.Name = codes "NAME"
fault_word fault.Segment = codes "SEGMENT"
fault_word fault.Order = codes "ORDER"
fault_word fault.Workers = codes "WORKERS"
fault_word fault.Capacity = codes "CAPACITY"
fault_word fault.Refs = codes "REFS"
fault_word fault.Generation = codes "GENERATION"
fault_word fault.Classes = codes "CLASSES"
fault_word fault.Chunks = codes "CHUNKS"
fault_word fault.Worker = codes "WORKER"
fault_word fault.Class = codes "CLASS"
fault_word fault.Unbound = codes "UNBOUND"
fault_word fault.Held = codes "HELD"

-- the fault of a trace whose configuration has a fault
abbrev pub fault_of_config : ConfigFault → Fault
fault_of_config config.Workers = fault.Workers
fault_of_config config.Capacity = fault.Capacity
fault_of_config config.RefsLimit = fault.Refs
fault_of_config config.Generation = fault.Generation
fault_of_config config.Classes = fault.Classes
fault_of_config config.Chunks = fault.Chunks

-- the first fault, or what follows
infixl 10 ◌>>=◌
abbrev pub ◌>>=◌ : {A B : Type 0} → Result A Fault → (A → Result B Fault) → Result B Fault
(Ok value) >>= next = next value
(Err what) >>= next = Err what

-- this fault where there is none
abbrev pub or_fault : {A : Type 0} → Fault → Option A → Result A Fault
or_fault what (Some value) = Ok value
or_fault what None = Err what
