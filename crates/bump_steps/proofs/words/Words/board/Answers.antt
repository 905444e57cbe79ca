use Rattle.std.proofs.Common.{ap, sym, ◌∙◌, subst}
use Rattle.atomic_table.specs.Table.{Joins}
use Rattle.bump_rules.specs.declared.lanes.LaneStage.{LaneStage}
use Rattle.bump_steps.specs.declared.views.View.{View}
use Rattle.bump_steps.specs.Rule.{Kept, blank}
use Rattle.bump_steps.specs.Plays.{Sat}
use Rattle.bump_steps.specs.Riders.{board_both}
use Rattle.bump_steps.specs.Riders.{lane_me}
use Rattle.bump_steps.proofs.Boardings.{boards}
use Rattle.bump_steps.proofs.words.Words.board.Goals as goal

pub join_seat-requires : goal.join_seat-requires
join_seat-requires g c = let m = c.requires.views in let key = c.args.self.now.table.shared.key in
    let v = ap (λ (x : Sat). x.0) (m.2 ∙ ap (λ (s : LaneStage). lane_me (record m.0 { stage = s })) m.3) in let w =
    ap (λ (x : Sat). x.0) m.4 in (
      c.requires.seats.0,
      c.requires.seats.1,
      ap (λ (x : Sat). x.1) m.4,
      c.requires.seats.2,
      subst (λ (x : View × View). Joins (Kept g.L.RowLaw.law key) c.args.seat.now.id x.0 c.args.rider.id x.1 (board_both x.0 x.1)
          blank) (λ i. (sym v i, sym w i)) (boards m.0 m.1 key c.args.seat.now.id c.args.rider.id),
    )
