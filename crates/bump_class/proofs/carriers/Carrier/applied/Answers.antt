use Rattle.std.proofs.Common.{ap, ◌∙◌, length}
use Rattle.bump_class.specs.Lanes.{LaneView, entries}
use Rattle.bump_class.proofs.carriers.Carrier.applied.Goals as goal

pub returns : goal.returns
returns g c = c.self.invariant.counted ∙ ap (λ (l : LaneView). length (entries l)) c.self.view_is
