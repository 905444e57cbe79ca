use Rattle.std.proofs.Common.{ap, ◌∙◌}
use Rattle.bump_steps.specs.declared.views.Ride.{Ride}
use Rattle.bump_readers.proofs.riders.Rider.life.Goals as goal

pub returns : goal.returns
returns g c = c.self.invariant.4 ∙ ap (λ (r : Ride). r.life) c.self.view_is
