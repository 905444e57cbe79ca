-- The event of a ring that closes leaves a lawful state lawful.
use Rattle.std.proofs.Common.{◌≡◌, ℕ, true, false, refl, arith}
use Rattle.bump_rules.specs.declared.events.Event.TheVariants as event
use Rattle.model_state.specs.State.{State, WorkerState, worker_at}
use Rattle.model_state.specs.Events.{is_enabled, after}
use Rattle.model_state.specs.Rings.{IsWorker}
use Rattle.model_state.specs.Worlds.{IsLawful}
use Rattle.bump_core.proofs.worlds.Frames.{worker_lawful, alone_kept, tells_kept}
use Rattle.model_state.proofs.Enabled.{close_from}

-- a worker's ring closes
pub after_close : (s : State) (w : ℕ) → IsLawful s → is_enabled s (event.Close w) ≡ true
    → IsLawful (after s (event.Close w))
after_close s w o enabled = let inside = (close_from s w enabled).0 in
    let y : WorkerState = record (worker_at s w) { is_open = false } in
    let was : IsWorker s.capacity (worker_at s w) = o.workers w inside in
    worker_lawful s w y o inside
    (λ m. refl)
    (λ m. refl)
    (λ m. omega arith)
    (record { ring = was.ring; applied = was.applied; accounts = was.accounts })
    (alone_kept s w y inside o refl)
    (o.waits w inside)
    (tells_kept s w o inside)
