use Rattle.std.proofs.Common.{ap, ◌∙◌}
use Rattle.model_state.specs.declared.chunks.Chunk.{Chunk}
use Rattle.model_state.specs.State.{State}
use Rattle.bump_core.specs.Readers.{holds_at}
use Rattle.bump_core.proofs.worlds.World.holds.Goals as goal

pub returns : goal.returns
returns c = ap (λ (k : Chunk). k.holds) c.chunk.ensures ∙ ap (λ (s : State). holds_at s c.args.chunk) c.self.view_is
