use Rattle.std.proofs.Common.{rules, ◌≡◌, ℕ, refl}
use Rattle.bump_rules.specs.declared.bumps.Bump.{Bump}
use Rattle.bump_rules.specs.declared.bumps.Ended.{Ended}
use Rattle.bump_rules.specs.declared.bumps.Ended.TheVariants.{Freed, Deferred}
use Rattle.bump_rules.specs.declared.bumps.Outcome.{Outcome}
use Rattle.bump_rules.specs.declared.bumps.Outcome.TheVariants as outcome
use Rattle.model_state.specs.declared.chunks.Chunk.{Chunk}
use Rattle.model_state.specs.State.{State, chunk_at, worker_at, with_chunk, with_worker}
use Rattle.model_state.specs.Views.{state_of}
use Rattle.bump_core.specs.Commands.{bumped_chunk, bumped_worker, bumped_lists, outcome_next, gone_as}
use Rattle.bump_core.proofs.commands.lanes.apply.Goals as goal

-- the changes of a bump's chunk and its worker are none of its lists
apart : (s : State) (w : ℕ) (b : Bump) (became : Outcome) (ended : Ended) (k : Chunk)
    → with_chunk (with_worker (bumped_lists s w b became ended) w
    (bumped_worker (worker_at (bumped_lists s w b became ended) w) b became)) b.life.chunk k
    ≡ bumped_lists (with_worker (with_chunk s b.life.chunk k) w (bumped_worker (worker_at s w) b became)) w b
    became ended
apart s w b outcome.Moved ended k = refl
apart s w b outcome.TimeOnly ended k = refl
apart s w b outcome.Gone Freed k = refl
apart s w b outcome.Gone Deferred k = refl

pub returns-clause-ok : goal.returns-clause-ok
returns-clause-ok c =
    let s = state_of c.args.inside.now in
    let b = c.args.bump in
    let became = outcome_next s b in
    let lists = apart s c.args.worker b became (gone_as s b.life.chunk)
    (bumped_chunk (chunk_at s b.life.chunk) c.args.now became) in
    search rules
