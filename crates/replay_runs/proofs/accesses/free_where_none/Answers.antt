use Rattle.std.proofs.Common.{◌++◌, ap, ◌∙◌, inl, inr, refl}
use Rattle.replay_runs.specs.Writing.{sweep_instruction, with_end}
use Rattle.replay_runs.proofs.accesses.free_where_none.Goals as goal

pub returns-then-has_room-clause-text : goal.returns-then-has_room-clause-text
returns-then-has_room-clause-text c = inl refl

pub returns-clause-text : goal.returns-clause-text
returns-clause-text c = inr (c.in_ok-sweep.ensures.text
    ∙ ap (λ text. text ++ with_end sweep_instruction) c.in_ok-drain.ensures.text)
