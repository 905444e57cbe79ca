use Rattle.std.proofs.Common.{rules}
use Rattle.model_state.specs.Views.{state_of}
use Rattle.model_state.proofs.LookUps.{some_applied}
use Rattle.model_state.proofs.world_state.WorldState.applied_by.Goals as goal

pub returns-clause-chunk : goal.returns-clause-chunk
returns-clause-chunk c = some_applied (state_of c.args.self.now) c.requires c.args.worker
    (search rules) c.applied_now.result (search rules)
