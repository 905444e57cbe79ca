use Rattle.cache_handles.proofs.ConfigLemmas.{byte_sound}
use Rattle.bump_c.proofs.cache_opening.open_sound.Goals as goal

pub store-requires : goal.store-requires
store-requires c = record { sound = (byte_sound c.args.config.now c.requires).cache }
