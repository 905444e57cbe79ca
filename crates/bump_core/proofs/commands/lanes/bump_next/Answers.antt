use Rattle.model_state.specs.Views.{state_of}
use Rattle.bump_core.proofs.commands.NextBumps.{some_next_in_range}
use Rattle.bump_core.proofs.commands.lanes.bump_next.Goals as goal

pub returns-clause-chunk : goal.returns-clause-chunk
returns-clause-chunk c = some_next_in_range
    (state_of c.args.inside.now) c.requires.lawful c.args.worker c.requires.worker c.bump_of.result c.bump_of.ensures
