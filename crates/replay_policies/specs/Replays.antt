-- What a contract sees of a replay.
use Rattle.std.specs.Prelude.{◌≡◌, ℕ, ◌+◌, ◌<◌, Bool, nat_le, ◌&&◌, if◌then◌else◌}
use Rattle.bump_rules.specs.Configs.{most_chunks}
use Rattle.replay_policies.specs.declared.caches.Cache.{Cache}
use Rattle.replay_policies.specs.declared.tallies.Tally.{Tally}
use Rattle.replay_policies.specs.declared.faults.PolicyFault.{PolicyFault}
use Rattle.replay_policies.specs.declared.faults.PolicyFault.TheVariants.{Items, Memory}
use Rattle.replay_policies.specs.Caches.{IsCache}

-- how many items it has room for, and its tally
pub record ReplayView : Type 0 where
  pub items : ℕ
  pub tally : Tally

-- what every replay keeps: it has room, its cache is of so many items, and its hits and misses are its accesses
pub record IsReplay (items : ℕ) (cache : Cache) (tally : Tally) : Type 0 where
  pub some : 0 < items
  pub room : IsCache items cache
  pub sum : tally.hits + tally.misses ≡ tally.accesses

-- a cache may have room for so many items
abbrev pub is_size_allowed : ℕ → Bool
is_size_allowed items = nat_le 1 items && nat_le items most_chunks

-- why a replay is refused, where it is
abbrev pub policy_fault_of : ℕ → PolicyFault
policy_fault_of items = if is_size_allowed items then Memory else Items
