use Rattle.std.proofs.Common.{ap, ◌∙◌}
use Rattle.model_state.specs.declared.chunks.Chunk.{Chunk}
use Rattle.model_state.specs.State.{State}
use Rattle.bump_core.specs.Readers.{time_of}
use Rattle.bump_core.proofs.worlds.World.time.Goals as goal

pub returns : goal.returns
returns c = ap (λ (k : Chunk). k.time) c.chunk.ensures ∙ ap (λ (s : State). time_of s c.args.chunk) c.self.view_is
