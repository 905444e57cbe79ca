use Rattle.std.proofs.Common.{◌<◌, subst}
use Rattle.bump_rules.specs.Rings.{most_attempts}
use Rattle.bump_steps.specs.declared.views.Ride.{Ride}
use Rattle.bump_readers.proofs.riders.Rider.promise.Goals as goal

pub returns : goal.returns
returns g c = record { few = subst (λ (r : Ride). r.number < most_attempts) c.self.view_is c.self.invariant.3 }
