use Rattle.std.proofs.Common.{IfSome, subst, Option}
use Rattle.bump_steps.specs.declared.views.LaneSheet.{LaneSheet}
use Rattle.bump_heads.specs.Applying.{TellsMoves}
use Rattle.bump_class.specs.Lanes.{LaneView}
use Rattle.bump_class.proofs.carriers.Carrier.meet.Goals as goal

pub returns-clause-moves : goal.returns-clause-moves
returns-clause-moves g c =
    let y = c.self.inside in
    subst (λ (x : LaneView). TellsMoves c.args.class.now.sheet x.sheet) c.self.view_is
    (subst (λ (o : Option LaneSheet). IfSome o (TellsMoves c.args.class.now.sheet)) c.self.invariant.whole
    c.meet_lane.ensures.moves)
