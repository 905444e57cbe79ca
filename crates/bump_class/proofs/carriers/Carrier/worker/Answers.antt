use Rattle.std.proofs.Common.{sym, ap, ◌∙◌}
use Rattle.bump_class.specs.Lanes.{LaneView}
use Rattle.bump_class.proofs.carriers.Carrier.worker.Goals as goal

pub returns : goal.returns
returns g c = sym c.self.invariant.worker_is ∙ ap (λ (l : LaneView). l.sheet.worker) c.self.view_is
