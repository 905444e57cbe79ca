use Rattle.std.proofs.Common.{◌≡◌, true, ap, subst}
use Rattle.bump_readers.specs.Glances.{IsGlancing, IsLinkedLife}
use Rattle.bump_steps.specs.declared.views.WorkerSheet.{WorkerSheet}
use Rattle.bump_unlocked.specs.Workers.{WorkerState}
use Rattle.bump_unlocked.proofs.workers.Worker.end_glance.Goals as goal

pub returns-clause-faithful : goal.returns-clause-faithful
returns-clause-faithful g c = subst (λ (w : WorkerSheet). (last : IsGlancing c.args.glance w)
    → IsLinkedLife c.args.glance c.end_glance.result → last.glance.agrees ≡ true)
    (ap (λ (w : WorkerState). w.sheet) c.self.view_is) c.end_glance.ensures.faithful
