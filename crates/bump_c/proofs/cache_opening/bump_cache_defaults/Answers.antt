use Rattle.std.proofs.Common.{ap, ◌∙◌}
use Rattle.bump_c.specs.CacheOpening.{cache_config_of, cache_numbers_of}
use Rattle.bump_c.proofs.cache_opening.bump_cache_defaults.Goals as goal

pub returns-clause-config : goal.returns-clause-config
returns-clause-config c = ap cache_config_of (c.numbers_of.ensures ∙ ap cache_numbers_of c.defaults-config.ensures)
