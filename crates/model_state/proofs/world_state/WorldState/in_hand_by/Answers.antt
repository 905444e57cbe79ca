use Rattle.std.proofs.Common.{rules}
use Rattle.model_state.specs.Views.{state_of}
use Rattle.model_state.proofs.LookUps.{some_in_hand}
use Rattle.model_state.proofs.world_state.WorldState.in_hand_by.Goals as goal

pub returns-clause-chunk : goal.returns-clause-chunk
returns-clause-chunk c = some_in_hand (state_of c.args.self.now) c.requires c.args.worker c.in_hand.result
    (search rules) (search rules)
