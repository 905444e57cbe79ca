use Rattle.std.proofs.Common.{◌≡◌, ◌+◌, length}
use Rattle.bump_rules.specs.Sweeps.{unheld}
use Rattle.model_state.specs.State.{heads_of}
use Rattle.model_state.proofs.classes.Class.count_unheld.Given as goal

-- those of what is left that somebody holds are still to be taken away
abbrev pub invariant-loop-chunk : goal.invariant-loop-chunk
invariant-loop-chunk l =
    (goal.iterator-loop-chunk).can_next l.chunk-iterator ×
    (goal.iterator-loop-chunk).is_finite l.chunk-iterator ×
    (l.count + length (unheld (heads_of l.chunks) l.chunk-iterator)
    ≡ length (unheld (heads_of l.chunks) l.self.lists.dying) + length l.chunk-iterator)
