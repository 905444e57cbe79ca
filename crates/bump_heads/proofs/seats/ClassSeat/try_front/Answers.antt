use Rattle.std.proofs.Common.{rules, Option, IsSome, sym, ◌∙◌, subst}
use Rattle.bump_steps.specs.declared.views.LaneSheet.{LaneSheet}
use Rattle.bump_heads.proofs.Badges.{seat_view, some_carries}
use Rattle.bump_heads.proofs.Seeing.{may_front, tried_told, tried_keeps}
use Rattle.bump_heads.proofs.seats.ClassSeat.try_front.Goals as goal

pub into_seat-seat-requires : goal.into_seat-seat-requires
into_seat-seat-requires g c = seat_view g.N.Name.table c.lane.inside.badge c.replace.result
    c.replace.ensures.value c.lane.invariant.0
    (subst (λ (o : Option LaneSheet). IsSome o) (sym c.lane.view_is)
    (some_carries c.args.lane.now c.args.bump c.requires.carries))

pub try_front-requires-clause-may : goal.try_front-requires-clause-may
try_front-requires-clause-may g c = may_front g.N.Name.table _ _ c.into_seat-seat.result c.lane.inside.worker _ _ c.replace.ensures.value c.into_seat-seat.ensures
    c.lane.view_is c.lane.invariant c.requires.carries c.self.inside.seat.me c.self.inside.seat.table_id c.self.inside.class _
    c.self.view_is c.self.invariant c.requires.alone c.requires.own _ c.join.ensures.joined

pub invariant_of-self : goal.invariant_of-self
invariant_of-self g c = tried_keeps g.N.Name.table _ _ c.into_seat-seat.result c.lane.inside.worker _ _ c.replace.ensures.value c.into_seat-seat.ensures
    c.lane.view_is c.lane.invariant c.requires.carries c.self.inside.seat.me c.self.inside.seat.table_id c.self.inside.class _
    c.self.view_is c.self.invariant c.requires.alone c.requires.own _ c.join.ensures.joined
    c.try_front.result c.head_of.result c.head_of.ensures c.try_front.new.seat.me c.try_front.ensures.told.0 c.try_front.ensures.told.1
    _ (c.try_front.ensures.same.0 ∙ c.join.ensures.same.0)

pub returns : goal.returns
returns g c =
    let told = tried_told g.N.Name.table _ _ c.into_seat-seat.result c.lane.inside.worker _ _ c.replace.ensures.value c.into_seat-seat.ensures
    c.lane.view_is c.lane.invariant c.requires.carries c.self.inside.seat.me c.self.inside.seat.table_id c.self.inside.class _
    c.self.view_is c.self.invariant c.requires.alone c.requires.own _ c.join.ensures.joined
    c.try_front.result c.head_of.result c.head_of.ensures c.try_front.new.seat.me c.try_front.ensures.told.0 c.try_front.ensures.told.1 in
    record { hollow = search rules; tried = search rules; found = told.2; fits = search rules; once = told.0; moves = told.1 }

pub invariant_of-lane : goal.invariant_of-lane
invariant_of-lane g c = search rules
