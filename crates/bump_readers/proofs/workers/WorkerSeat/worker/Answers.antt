use Rattle.std.proofs.Common.{ap, ◌∙◌}
use Rattle.bump_readers.specs.declared.views.WorkerView.{WorkerView}
use Rattle.bump_readers.proofs.workers.WorkerSeat.worker.Goals as goal

pub returns : goal.returns
returns g c = c.self.invariant.2 ∙ ap (λ (v : WorkerView). v.sheet.worker) c.self.view_is
