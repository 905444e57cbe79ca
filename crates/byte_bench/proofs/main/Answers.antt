use Rattle.std.proofs.Common.{rules, sym, ◌∙◌}
use Rattle.cache_handles.proofs.ConfigLemmas.{byte_sound}
use Rattle.byte_bench.proofs.main.Goals as goal

pub store-requires : goal.store-requires
store-requires c = record { sound = (byte_sound c.defaults-config.result (search rules)).cache }
