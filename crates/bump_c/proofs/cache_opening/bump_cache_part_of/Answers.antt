use Rattle.std.proofs.Common.{ℕ, Option, unwrap_or, ap, ◌∙◌}
use Rattle.cache_handles.specs.Configs.{part_of_key}
use Rattle.cache_handles.specs.declared.config.ByteConfig.{ByteConfig}
use Rattle.bump_c.proofs.cache_opening.bump_cache_part_of.Goals as goal

pub returns : goal.returns
returns c = c.unwrap_or.ensures ∙ ap (λ (o : Option ℕ). unwrap_or o 4294967295)
    (c.part_of.ensures ∙ ap (λ (config : ByteConfig). part_of_key config c.args.key.now) c.config_of-config.ensures)
