use Rattle.std.proofs.Common.{◌≡◌, ◌≤◌, ◌+◌, ◌++◌, length}
use Rattle.std.specs.Vec.{vec_capacity, vec_len}
use Rattle.bump_rules.specs.Sweeps.{unheld, swept_of}
use Rattle.model_state.specs.State.{heads_of}
use Rattle.model_state.proofs.classes.enter_unheld.Given as goal

-- the entries so far and those of what is left are all, and there is room for the latter
abbrev pub invariant-loop-chunk : goal.invariant-loop-chunk
invariant-loop-chunk l =
    (goal.iterator-loop-chunk).can_next l.chunk-iterator ×
    (goal.iterator-loop-chunk).is_finite l.chunk-iterator ×
    (l.history.items ++ swept_of (heads_of l.chunks) l.chunk-iterator ≡ l.fn.history.items ++ swept_of
    (heads_of l.chunks) l.lists.dying) ×
    (vec_len l.history + length (unheld (heads_of l.chunks) l.chunk-iterator) ≤ vec_capacity l.history)
