use Rattle.std.proofs.Common.{rules, Option, IfSome, refl, sym, ◌∙◌, subst}
use Rattle.bump_heads.specs.declared.views.ClassView.{ClassView}
use Rattle.bump_steps.specs.declared.views.LaneSheet.{LaneSheet}
use Rattle.bump_readers.specs.Seats.{head_or}
use Rattle.bump_heads.specs.Applying.{IsJoined, TellsMoves}
use Rattle.bump_heads.specs.Seats.{class_in, no_class, IsOfWorker}
use Rattle.bump_heads.proofs.Badges.{back_lane, back_is, back_rests}
use Rattle.bump_heads.proofs.Joining.{ending_told}
use Rattle.bump_heads.proofs.Seeing.{may_end, alighted_seen, alighted_told, alighted_whole, alighted_seat, alighted_lane, alighted_worker, entry_told}
use Rattle.bump_heads.proofs.seats.ClassSeat.alight.Goals as goal

pub alight-word-requires-clause-may : goal.alight-word-requires-clause-may
alight-word-requires-clause-may g c =
    let r = c.requires.ends in
    let lane = subst (λ (x : ClassView). IsJoined x.sheet x.lane c.self.invariant.5.0) (cc c.self.view_is)
    c.self.invariant.5.1 in
    let e = ending_told c.args.self.now r.0 c.args.bump r.1 c.args.outcome r.2 c.self.invariant.5.0 lane in
    may_end c.self.inside.seat.me (class_in c.self.inside.seat.me.0) c.args.self.now c.self.invariant.0
    (cc c.self.view_is) c.args.bump.life.chunk c.args.outcome r.0 c.args.bump e

pub returns-clause-found : goal.returns-clause-found
returns-clause-found g c =
    let r = c.requires.ends in
    let lane = subst (λ (x : ClassView). IsJoined x.sheet x.lane c.self.invariant.5.0) (cc c.self.view_is)
    c.self.invariant.5.1 in
    let e = ending_told c.args.self.now r.0 c.args.bump r.1 c.args.outcome r.2 c.self.invariant.5.0 lane in
    alighted_seen c.self.inside.seat.me (class_in c.self.inside.seat.me.0) c.args.self.now c.self.invariant.0
    (cc c.self.view_is) c.args.bump.life.chunk c.args.outcome r.0 c.args.bump e
    c.alight-word.result c.head_of.result c.head_of.ensures c.alight-word.ensures.told.1

pub returns-clause-once : goal.returns-clause-once
returns-clause-once g c =
    let r = c.requires.ends in
    let lane = subst (λ (x : ClassView). IsJoined x.sheet x.lane c.self.invariant.5.0) (cc c.self.view_is)
    c.self.invariant.5.1 in
    let e = ending_told c.args.self.now r.0 c.args.bump r.1 c.args.outcome r.2 c.self.invariant.5.0 lane in
    (alighted_told c.self.inside.seat.me (class_in c.self.inside.seat.me.0) c.args.self.now c.self.invariant.0
    (cc c.self.view_is) c.args.bump.life.chunk c.args.outcome r.0 c.args.bump e
    c.alight-word.result c.head_of.result c.head_of.ensures c.part_lanes-sheet.new.seat.me
    c.part_lanes-sheet.result.me c.alight-word.new.seat.me c.alight-word.ensures.told.0
    c.part_lanes-sheet.ensures.sheets.0 c.part_lanes-sheet.ensures.sheets.1 c.alight-word.ensures.told.1).0

pub returns-clause-moves : goal.returns-clause-moves
returns-clause-moves g c =
    let r = c.requires.ends in
    let lane = subst (λ (x : ClassView). IsJoined x.sheet x.lane c.self.invariant.5.0) (cc c.self.view_is)
    c.self.invariant.5.1 in
    let e = ending_told c.args.self.now r.0 c.args.bump r.1 c.args.outcome r.2 c.self.invariant.5.0 lane in
    subst (λ (o : Option LaneSheet). IfSome o (TellsMoves (head_or no_class c.part_lanes-sheet.new.seat.me.0.classes)))
    (sym (back_lane g.N.Name.table c.into_badge.result.views c.part_lanes-sheet.result c.into_badge.ensures.2))
    (alighted_told c.self.inside.seat.me (class_in c.self.inside.seat.me.0) c.args.self.now c.self.invariant.0
    (cc c.self.view_is) c.args.bump.life.chunk c.args.outcome r.0 c.args.bump e
    c.alight-word.result c.head_of.result c.head_of.ensures c.part_lanes-sheet.new.seat.me
    c.part_lanes-sheet.result.me c.alight-word.new.seat.me c.alight-word.ensures.told.0
    c.part_lanes-sheet.ensures.sheets.0 c.part_lanes-sheet.ensures.sheets.1 c.alight-word.ensures.told.1).1

pub returns-clause-entry : goal.returns-clause-entry
returns-clause-entry g c =
    let r = c.requires.ends in
    let lane = subst (λ (x : ClassView). IsJoined x.sheet x.lane c.self.invariant.5.0) (cc c.self.view_is)
    c.self.invariant.5.1 in
    let e = ending_told c.args.self.now r.0 c.args.bump r.1 c.args.outcome r.2 c.self.invariant.5.0 lane in
    entry_told c.self.inside.seat.me (class_in c.self.inside.seat.me.0) c.args.self.now c.self.invariant.0
    (cc c.self.view_is) c.args.bump.life.chunk c.args.outcome r.0 c.args.bump e
    c.alight-word.result c.head_of.result c.head_of.ensures c.part_lanes-sheet.new.seat.me
    c.part_lanes-sheet.result.me c.alight-word.new.seat.me c.alight-word.ensures.told.0
    c.part_lanes-sheet.ensures.sheets.0 c.part_lanes-sheet.ensures.sheets.1

pub returns-clause-lane : goal.returns-clause-lane
returns-clause-lane g c = search rules

pub invariant_of-self : goal.invariant_of-self
invariant_of-self g c =
    let r = c.requires.ends in
    let lane = subst (λ (x : ClassView). IsJoined x.sheet x.lane c.self.invariant.5.0) (cc c.self.view_is)
    c.self.invariant.5.1 in
    let e = ending_told c.args.self.now r.0 c.args.bump r.1 c.args.outcome r.2 c.self.invariant.5.0 lane in
    let t = alighted_whole c.self.inside.seat.me (class_in c.self.inside.seat.me.0) c.args.self.now c.self.invariant.0
    (cc c.self.view_is) c.args.bump.life.chunk c.args.outcome r.0 c.args.bump e
    c.alight-word.result c.head_of.result c.head_of.ensures c.part_lanes-sheet.new.seat.me
    c.part_lanes-sheet.result.me c.alight-word.new.seat.me c.alight-word.ensures.told.0
    c.part_lanes-sheet.ensures.sheets.0 c.part_lanes-sheet.ensures.sheets.1 g.N.Name.table
    c.self.inside.class c.self.invariant.5.0 c.self.invariant.3 c.self.invariant.4 in (
      t.0,
      c.part_lanes-sheet.ensures.same.0 ∙ c.alight-word.ensures.same.0 ∙ c.self.invariant.1,
      t.1,
      t.2,
      t.3,
      (c.self.invariant.5.0, t.4),
    )

pub returns-clause-class : goal.returns-clause-class
returns-clause-class g c =
    let r = c.requires.ends in
    let lane = subst (λ (x : ClassView). IsJoined x.sheet x.lane c.self.invariant.5.0) (cc c.self.view_is)
    c.self.invariant.5.1 in
    let e = ending_told c.args.self.now r.0 c.args.bump r.1 c.args.outcome r.2 c.self.invariant.5.0 lane in
    alighted_seat c.self.inside.seat.me (class_in c.self.inside.seat.me.0) c.args.self.now c.self.invariant.0
    (cc c.self.view_is) c.args.bump.life.chunk c.args.outcome r.0 c.args.bump e
    c.alight-word.result c.head_of.result c.head_of.ensures c.part_lanes-sheet.new.seat.me
    c.part_lanes-sheet.result.me c.alight-word.new.seat.me c.alight-word.ensures.told.0
    c.part_lanes-sheet.ensures.sheets.0 c.part_lanes-sheet.ensures.sheets.1

pub invariant_of-lane : goal.invariant_of-lane
invariant_of-lane g c =
    let r = c.requires.ends in
    let lane = subst (λ (x : ClassView). IsJoined x.sheet x.lane c.self.invariant.5.0) (cc c.self.view_is)
    c.self.invariant.5.1 in
    let e = ending_told c.args.self.now r.0 c.args.bump r.1 c.args.outcome r.2 c.self.invariant.5.0 lane in
    let s = c.part_lanes-sheet.result in
    let b = c.into_badge.result in
    let whole = alighted_lane c.self.inside.seat.me (class_in c.self.inside.seat.me.0) c.args.self.now c.self.invariant.0
    (cc c.self.view_is) c.args.bump.life.chunk c.args.outcome r.0 c.args.bump e
    c.alight-word.result c.head_of.result c.head_of.ensures c.part_lanes-sheet.new.seat.me
    c.part_lanes-sheet.result.me c.alight-word.new.seat.me c.alight-word.ensures.told.0
    c.part_lanes-sheet.ensures.sheets.0 c.part_lanes-sheet.ensures.sheets.1
    g.N.Name.table s.table_id (c.part_lanes-sheet.ensures.same.2 ∙ c.alight-word.ensures.same.0 ∙ c.self.invariant.1)
    s refl refl in (
      back_is g.N.Name.table b.views s c.into_badge.ensures.2 whole,
      (λ some. c.into_badge.ensures.0 ∙ whole.1),
      back_rests g.N.Name.table b.views s c.into_badge.ensures.2 whole,
      search rules,
      subst (IsOfWorker c.lane.inside.worker) (sym (back_lane g.N.Name.table b.views s c.into_badge.ensures.2))
          (alighted_worker c.self.inside.seat.me (class_in c.self.inside.seat.me.0) c.args.self.now c.self.invariant.0
          (cc c.self.view_is) c.args.bump.life.chunk c.args.outcome r.0 c.args.bump e
          c.alight-word.result c.head_of.result c.head_of.ensures c.part_lanes-sheet.new.seat.me
          c.part_lanes-sheet.result.me c.alight-word.new.seat.me c.alight-word.ensures.told.0
          c.part_lanes-sheet.ensures.sheets.0 c.part_lanes-sheet.ensures.sheets.1 c.lane.inside.worker),
      c.lane.invariant.5,
    )
