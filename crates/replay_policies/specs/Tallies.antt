-- What a tally counts.
use Rattle.std.specs.Prelude.{◌+◌, ◌==◌, Bool, true, false, if◌then◌else◌}
use Rattle.replay_policies.specs.declared.tallies.Tally.{Tally}

-- there was no access
abbrev pub no_accesses : Tally
no_accesses = record { accesses = 0; hits = 0; misses = 0 }

-- with one access more, which hit or not
abbrev pub with_access : Bool → Tally → Tally
with_access true tally = record { accesses = tally.accesses + 1; hits = tally.hits + 1; misses = tally.misses }
with_access false tally = record { accesses = tally.accesses + 1; hits = tally.hits; misses = tally.misses + 1 }

-- with one access more, but for a tally that has 2^64 - 1 accesses, which stays as it is
abbrev pub counted_access : Bool → Tally → Tally
counted_access hit tally = if tally.accesses == 18446744073709551615 then tally else with_access hit tally
