use Rattle.model_state.specs.Views.{state_of}
use Rattle.model_state.proofs.Fronts.{some_next}
use Rattle.model_state.proofs.world_state.WorldState.next_chunk.Goals as goal

pub returns-clause-free : goal.returns-clause-free
returns-clause-free c = some_next
    (state_of c.args.self.now) c.requires.lawful c.args.class c.unused_front.result c.requires.class
    c.unused_front.ensures
