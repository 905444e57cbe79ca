-- Behind which accesses a cache is tended.
use Rattle.std.specs.Prelude.{ℕ, zero, suc, ◌-◌, ◌%◌, ◌||◌, Bool, List, max, nat_eq, nat_le, if◌then◌else◌}
use Rattle.replay_runs.specs.Asked.{time_at}
use Rattle.replay_runs.specs.declared.plans.Tending.{Tending}
use Rattle.replay_runs.specs.declared.plans.Tending.TheVariants.{Accesses, Ticks}

-- Whether a tend is due behind the access with this place, at this time: behind the first one and then behind each so
-- many, or behind the first one and then behind each whose time is so many ticks behind that of the last tend.
abbrev pub is_due : Tending → ℕ → ℕ → ℕ → Bool
is_due (Accesses count) place now tended = nat_eq (place % max count 1) 0
is_due (Ticks ticks) place now tended = nat_eq place 0 || nat_le ticks (now - tended)

-- the time of the last tend behind one of the first so many accesses, and 0 if there is none
abbrev pub last_tend : Tending → List ℕ → ℕ → ℕ
last_tend tending times zero = 0
last_tend tending times (suc place) =
    let before = last_tend tending times place in
    if is_due tending place (time_at times place) before then time_at times place else before

-- whether the cache is tended behind the access with this place
abbrev pub is_tended : Tending → List ℕ → ℕ → Bool
is_tended tending times place = is_due tending place (time_at times place) (last_tend tending times place)
