use Rattle.bump_rules.specs.Tables.{segment_of}
use Rattle.model_state.specs.Views.{state_of}
use Rattle.model_state.proofs.Fronts.{some_last}
use Rattle.bump_core.proofs.commands.pulls.last.Goals as goal

pub returns-clause-linked : goal.returns-clause-linked
returns-clause-linked c = some_last (state_of c.args.inside.now) c.requires.lawful c.args.class
    (segment_of c.args.tail) c.tail_chunk.result c.requires.class c.tail_chunk.ensures
