use Rattle.std.proofs.Common.{ap}
use Rattle.bump_readers.specs.declared.views.HoldView.{HoldView}
use Rattle.bump_readers.proofs.holds.Hold.life.Goals as goal

pub returns : goal.returns
returns g c = ap (λ (v : HoldView). v.life) c.self.view_is
