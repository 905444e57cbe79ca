use Rattle.std.proofs.Common.{rules}
use Rattle.model_state.specs.Views.{state_of}
use Rattle.model_state.proofs.LookUps.{some_tried_bump}
use Rattle.model_state.proofs.world_state.WorldState.looked_at_by.Goals as goal

pub returns-clause-chunk : goal.returns-clause-chunk
returns-clause-chunk c = some_tried_bump (state_of c.args.self.now) c.requires c.args.worker
    (search rules) c.tried.result (search rules)
