use Rattle.std.proofs.Common.{sym, subst}
use Rattle.bump_rules.specs.Configs.{HaveChunks}
use Rattle.bump_rules.proofs.Bounds.{bounds}
use Rattle.model_state.proofs.world_state.WorldState.new.Goals as goal

pub new_classes-requires-clause-some : goal.new_classes-requires-clause-some
new_classes-requires-clause-some c =
    let config = c.args.config.now in
    subst HaveChunks (sym c.as_slice-classes.ensures)
    (bounds config.workers config.capacity config.refs_limit config.first_generation config.classes
    config.valid).chunks_each
