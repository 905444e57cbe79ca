use Rattle.std.proofs.Common.{ap, ◌∙◌}
use Rattle.bump_heads.specs.declared.views.ClassView.{ClassView}
use Rattle.bump_heads.proofs.seats.ClassSeat.class.Goals as goal

pub returns : goal.returns
returns g c = c.self.invariant.3 ∙ ap (λ (v : ClassView). v.sheet.class) c.self.view_is
