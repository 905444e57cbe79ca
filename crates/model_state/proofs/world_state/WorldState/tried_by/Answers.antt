use Rattle.std.proofs.Common.{rules}
use Rattle.model_state.specs.Views.{state_of}
use Rattle.model_state.proofs.LookUps.{some_tried}
use Rattle.model_state.proofs.world_state.WorldState.tried_by.Goals as goal

pub returns-clause-chunk : goal.returns-clause-chunk
returns-clause-chunk c = some_tried (state_of c.args.self.now) c.requires c.args.worker c.tried.result (search rules)
    (search rules)
