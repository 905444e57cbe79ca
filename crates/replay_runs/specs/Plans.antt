-- How an access log is run.
use Rattle.std.specs.Prelude.{ℕ, Option, Some, None}
use Rattle.cache_config.specs.Configs.{spare_of}
use Rattle.replay_runs.specs.declared.plans.Plan.{Plan}

-- so many spare chunks of a part: those that were asked for, or as many as a cache of any number of items has with so many
-- readers
abbrev pub spare_for : Option ℕ → ℕ → ℕ → ℕ
spare_for None items readers = spare_of readers
spare_for (Some spare) items readers = spare

-- a plan, for so many items, and the spare chunks that were asked for
abbrev pub with_items : ℕ → Option ℕ → Plan → Plan
with_items items spare plan = record plan {
  config = record plan.config { items = items; spare = spare_for spare items plan.config.readers };
}
