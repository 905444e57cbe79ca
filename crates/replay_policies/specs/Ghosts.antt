-- What a contract sees of ghosts, keys that a cache evicted and has no items of any more.
use Rattle.std.specs.Prelude.{ℕ, ◌+◌, ◌<◌, ◌≤◌, Option}
use Rattle.replay_policies.specs.Tables.{one_of}

-- the newest key, where it has no place among the others yet
pub record GhostsView : Type 0 where
  pub waiting : Option ℕ

-- there is room for the one that waits and so many that have a place, and one place at least
pub record IsGhosts (room places : ℕ) (waiting : Option ℕ) (placed : ℕ) : Type 0 where
  pub some : 0 < places
  pub few : one_of waiting + placed ≤ room
