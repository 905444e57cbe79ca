use Rattle.std.proofs.Common.{◌≡◌, ◌+◌, drop, map}
use Rattle.model_state.specs.State.{class_from}
use Rattle.model_state.specs.Views.{class_view}
use Rattle.model_state.proofs.world_state.WorldState.class_of.Given as goal

-- no class so far ends behind the chunk
abbrev pub invariant-loop-k : goal.invariant-loop-k
invariant-loop-k l = class_from (map class_view l.self.classes.items) l.chunk
    ≡ l.k + class_from (map class_view (drop l.k l.self.classes.items)) l.chunk
