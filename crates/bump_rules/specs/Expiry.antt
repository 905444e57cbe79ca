-- When an entry expires.
use Rattle.std.specs.Prelude.{ℕ, ◌-◌, Bool, false, not, ◌&&◌, ◌==◌, nat_le, Option, None, Some}

-- whether what expires at this time has expired now: 0 is never, and else it has from its own tick on
abbrev pub has_expired : ℕ → ℕ → Bool
has_expired expires now = not (expires == 0) && nat_le expires now

-- whether it does within so many ticks from now on, or has; without a number of ticks nothing does
abbrev pub expires_within : Option ℕ → ℕ → ℕ → Bool
expires_within None expires now = false
expires_within (Some ticks) expires now = not (expires == 0) && nat_le (expires - now) ticks
