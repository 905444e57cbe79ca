-- The row in which a get or a peek found a value, whether by a hold or by a glance.
use Rattle.std.proofs.Common.{ℕ, List, length, inl, inr}
use Rattle.bump_rules.specs.declared.configs.Config.{Config}
use Rattle.bump_steps.specs.References.{words_in}
use Rattle.bump_steps.specs.Rule.{RowPredicate}
use Rattle.bump_unlocked.specs.Workers.{WorkerState}
use Rattle.cache_readers.specs.Looks.{Finds, GlancesKey, HasWords, Peeks}

-- the table's law holds of it, and it has the key, and behind it the value
pub record FoundRow (law : RowPredicate) (key value : List ℕ) : Type 0 where
  pub row : List ℕ
  pub lawful : law (words_in row)
  pub has_key : HasWords key 0 row
  pub has_value : HasWords value (length key) row

module _ (law : RowPredicate) (config : Config) (key value : List ℕ) (now from to : ℕ) (before after : WorkerState) where
  -- a glance's
  glanced_row : GlancesKey law config key value now from to before after → FoundRow law key value
  glanced_row found = record {
    row = found.search.ends.glance.row;
    lawful = found.search.ends.lawful;
    has_key = found.search.ends.has_key;
    has_value = found.search.ends.has_value;
  }

  -- a get's
  pub finds_row : Finds law config key value now from to before after → FoundRow law key value
  finds_row (inr found) = glanced_row found
  finds_row (inl held) = record {
    row = held.hold.row;
    lawful = held.hits.takes.search.ends.lawful;
    has_key = held.hits.takes.search.ends.has_key;
    has_value = held.has_value;
  }

  -- and a peek's
  pub peeks_row : Peeks law config key value now from to before after → FoundRow law key value
  peeks_row (inr found) = glanced_row found
  peeks_row (inl held) = record {
    row = held.sees.hold.row;
    lawful = held.sees.takes.search.ends.lawful;
    has_key = held.sees.takes.search.ends.has_key;
    has_value = held.has_value;
  }
