use Rattle.std.proofs.Common.{subst}
use Rattle.bump_class.specs.Applications.{AppliesBump}
use Rattle.bump_class.specs.Lanes.{LaneView}
use Rattle.bump_class.proofs.books.Book.apply_front.Goals as goal

pub returns : goal.returns
returns g c = record {
  applied = subst (λ (x : LaneView). AppliesBump c.args.now c.args.self.now x c.apply_bump.result c.apply_bump.new.self
      c.apply_bump.new.lane) c.lane.view_is c.apply_bump.ensures.applied;
}
