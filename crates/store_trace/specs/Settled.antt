-- What is told of a worker whose lane was settled.
use Rattle.std.specs.Prelude.{◌≡◌, ◌+◌}
use Rattle.bump_store.specs.declared.settling.Settled.{Settled}

-- All that its ring accepted was applied, and what it attempted was accepted or dropped.
pub record IsSettled (told : Settled) : Type 0 where
  pub applied : told.applied ≡ told.counts.accepted
  pub attempted : told.counts.attempted ≡ told.counts.accepted + told.counts.full + told.counts.busy + told.counts.refs
