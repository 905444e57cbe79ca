use Rattle.std.proofs.Common.{ap, sym, ◌∙◌, subst}
use Rattle.atomic_table.specs.Table.{Joins}
use Rattle.bump_rules.specs.declared.hands.Hand.{Hand}
use Rattle.bump_steps.specs.declared.views.View.{View}
use Rattle.bump_steps.specs.Rule.{Kept, blank}
use Rattle.bump_steps.specs.Plays.{Sat}
use Rattle.bump_steps.specs.Rides.{touching, return_both}
use Rattle.bump_steps.proofs.RideMoves.{ride_joins}
use Rattle.bump_steps.proofs.words.Words.rider_back.Goals as goal

pub join_seat-requires : goal.join_seat-requires
join_seat-requires g c = let m = c.requires.rider in let on = m.2 in let key = c.args.self.now.table.shared.key in
    let v = on.view ∙ ap (λ (s : Hand). touching (record on.sheet { hand = s }) on.hold) on.hand in let w =
    ap (λ (x : Sat). x.0) m.1 in (
      c.requires.seats.0,
      c.requires.seats.1,
      ap (λ (x : Sat). x.1) m.1,
      c.requires.seats.2,
      subst (λ (x : View × View). Joins (Kept g.L.RowLaw.law key) c.args.seat.now.id x.0 c.args.rider.id x.1 (return_both x.0 x.1)
          blank) (λ i. (sym v i, sym w i)) (ride_joins on.sheet on.hold m.0 key c.args.seat.now.id c.args.rider.id),
    )
