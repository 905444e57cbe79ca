use Rattle.std.proofs.Common.{subst}
use Rattle.bump_class.specs.Applications.{EachMoveIsTold}
use Rattle.bump_store.specs.Lanes.{LaneState}
use Rattle.bump_store.proofs.lanes.Lane.meet.Goals as goal

pub returns-clause-told : goal.returns-clause-told
returns-clause-told g c = subst (λ (x : LaneState). EachMoveIsTold c.args.book.now.sheet x.lane.sheet) c.self.view_is
    c.meet_lane.ensures.told
