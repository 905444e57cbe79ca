use Rattle.std.proofs.Common.{rules, Option, Some, None, IsSome, sym, refl, ◌∙◌, ◌++◌, ◌∷◌, [], subst}
use Rattle.bump_steps.specs.Places.{rows}
use Rattle.bump_steps.specs.declared.views.Kind.TheVariants as kind
use Rattle.bump_steps.specs.Meetings.{class_after_meet}
use Rattle.bump_steps.specs.Plays.{step_of}
use Rattle.bump_steps.specs.declared.views.LaneSheet.{LaneSheet}
use Rattle.bump_heads.proofs.Badges.{seat_view, out_lane, out_is}
use Rattle.bump_heads.proofs.ClassSheets.{noted_sheet}
use Rattle.bump_heads.proofs.ClassSeats.{seat_kept}
use Rattle.bump_heads.proofs.Joining.{noted_joined}
use Rattle.bump_heads.proofs.Seeing.{met_rest, met_told}
use Rattle.bump_heads.specs.Seats.{class_in}
use Rattle.bump_heads.proofs.seats.ClassSeat.meet_lane.Goals as goal

pub into_seat-seat-requires : goal.into_seat-seat-requires
into_seat-seat-requires g c = seat_view g.N.Name.table c.lane.inside.badge c.replace.result
    c.replace.ensures.value c.lane.invariant.0
    (subst (λ (o : Option LaneSheet). IsSome o) (sym c.lane.view_is) c.requires.whole)

pub returns-clause-once : goal.returns-clause-once
returns-clause-once g c =
    let s = c.into_seat-seat.result in
    let b = c.lane.inside.badge in
    let e = c.into_seat-seat.ensures in
    let same = c.replace.ensures.value in
    let whole = out_is g.N.Name.table b c.replace.result same s e.2 e.3 c.lane.invariant.0 c.lane.invariant.1
    c.lane.invariant.2 e.0 in
    (met_told c.self.inside.seat.me c.join.new.seat.me c.meet_lane.new.seat.me c.part_lanes.new.seat.me c.part_lanes.result.me
    (class_in c.self.inside.seat.me.0) c.args.self.now (Some s) s g.N.Name.table
    c.args.lane.now c.self.invariant.0 (cc c.self.view_is) c.requires.alone whole refl
    (out_lane g.N.Name.table b c.replace.result same s e.2 ∙ c.lane.view_is) c.join.ensures.joined c.meet_lane.ensures.noted (search rules) (search rules)
    c.meet_lane.ensures.told).0

pub returns-clause-moves : goal.returns-clause-moves
returns-clause-moves g c =
    let s = c.into_seat-seat.result in
    let b = c.lane.inside.badge in
    let e = c.into_seat-seat.ensures in
    let same = c.replace.ensures.value in
    let whole = out_is g.N.Name.table b c.replace.result same s e.2 e.3 c.lane.invariant.0 c.lane.invariant.1
    c.lane.invariant.2 e.0 in
    (met_told c.self.inside.seat.me c.join.new.seat.me c.meet_lane.new.seat.me c.part_lanes.new.seat.me c.part_lanes.result.me
    (class_in c.self.inside.seat.me.0) c.args.self.now (Some s) s g.N.Name.table
    c.args.lane.now c.self.invariant.0 (cc c.self.view_is) c.requires.alone whole refl
    (out_lane g.N.Name.table b c.replace.result same s e.2 ∙ c.lane.view_is) c.join.ensures.joined c.meet_lane.ensures.noted (search rules) (search rules)
    c.meet_lane.ensures.told).1

pub invariant_of-lane : goal.invariant_of-lane
invariant_of-lane g c = search rules

pub returns-clause-lane : goal.returns-clause-lane
returns-clause-lane g c = search rules

pub invariant_of-self : goal.invariant_of-self
invariant_of-self g c =
    let i = c.into_seat-seat.result in
    let b = c.lane.inside.badge in
    let e = c.into_seat-seat.ensures in
    let now = c.args.self.now in
    let step = step_of kind.Meet 0 0 None in
    let whole = out_is g.N.Name.table b c.replace.result c.replace.ensures.value i e.2 e.3 c.lane.invariant.0
    c.lane.invariant.1 c.lane.invariant.2 e.0 in
    seat_kept c.self.inside.seat.me c.part_lanes.new.seat.me now class_after_meet
    g.N.Name.table c.part_lanes.new.seat.table_id c.self.inside.class c.self.view_is
    c.self.invariant.0
    (met_rest c.self.inside.seat.me c.join.new.seat.me c.meet_lane.new.seat.me c.part_lanes.new.seat.me
    c.part_lanes.result.me (class_in c.self.inside.seat.me.0) now (Some i) i g.N.Name.table
    c.args.lane.now c.self.invariant.0 (cc c.self.view_is) c.requires.alone whole refl
    (out_lane g.N.Name.table b c.replace.result c.replace.ensures.value i e.2 ∙ c.lane.view_is) c.join.ensures.joined
    c.meet_lane.ensures.noted (search rules) (search rules))
    (search rules) c.self.invariant.2 c.self.invariant.3 c.self.invariant.4
    c.self.invariant.5 refl (λ o. noted_sheet (rows g.N.Name.table) now.sheet (now.sheet.steps ++ step ∷ []) o)
    (λ j o. noted_joined now.sheet step now.lane j o)

pub returns-clause-class : goal.returns-clause-class
returns-clause-class g c = search rules
