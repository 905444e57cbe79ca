use Rattle.std.proofs.Common.{◌≡◌, ◌<◌, ◌++◌, ◌∷◌, [], None, sym, ap, ◌∙◌, subst, arith}
use Rattle.bump_rules.specs.declared.bumps.Bump.{Bump}
use Rattle.bump_rules.specs.Rings.{most_attempts}
use Rattle.bump_steps.specs.Riders.{bump_of_ride, lane_after_board}
use Rattle.bump_heads.specs.Seats.{aboard_lane}
use Rattle.bump_class.specs.Lanes.{LaneView, KeepsLane, carries, sheet_or, entries}
use Rattle.bump_class.proofs.LaneLemmas.{next_number, boarded_keeps, none_carried, count_is, sheet_boarded, boarded_told}
use Rattle.bump_class.proofs.carriers.Carrier.take.Goals as goal

pub board-requires-clause-next : goal.board-requires-clause-next
board-requires-clause-next g c =
    let i = c.self.inside in
    let none : aboard_lane i.seat ≡ None = none_carried i.seat i.worker i.applied i.receiver.received c.self.invariant
    (ap carries c.self.view_is ∙ c.requires.idle) in
    c.in_ok-rider.ensures.number ∙ sym (next_number i.seat i.worker i.applied i.receiver.received c.self.invariant none)

pub invariant_of-self-2 : goal.invariant_of-self-2
invariant_of-self-2 g c =
    let i = c.self.inside in
    let r = c.in_ok-rider.rider in
    let none : aboard_lane i.seat ≡ None = none_carried i.seat i.worker i.applied i.receiver.received c.self.invariant
    (ap carries c.self.view_is ∙ c.requires.idle) in
    let few : r.number < most_attempts = omega (arith, c.promise.ensures.few) in
    let kept = boarded_keeps i.seat i.worker i.applied i.receiver.received r c.self.invariant none
    c.in_ok-rider.ensures.number few in
    subst (λ x. KeepsLane c.board.new.self i.worker i.applied x) (sym c.in_ok-rider.ensures.received)
    (subst (λ x. KeepsLane x i.worker i.applied (i.receiver.received ++ r ∷ [])) (sym c.board.ensures.boarded) kept)

pub returns-clause-next : goal.returns-clause-next
returns-clause-next g c =
    let i = c.self.inside in
    let r = c.in_ok-rider.rider in
    let none : aboard_lane i.seat ≡ None = none_carried i.seat i.worker i.applied i.receiver.received c.self.invariant
    (ap carries c.self.view_is ∙ c.requires.idle) in
    let number = count_is i.seat i.worker i.applied i.receiver.received r c.self.invariant none
    c.in_ok-rider.ensures.number in
    let bump : ◌≡◌ {A = Bump} (record { number = i.applied; life = c.life.result }) (bump_of_ride r) =
    λ j. record { number = number j; life = c.life.ensures j } in
    let sheet = ap sheet_or c.board.ensures.boarded ∙ sheet_boarded i.seat (bump_of_ride r) c.self.invariant.whole in (
      r,
      record {
        bump_taken = bump;
        number = number ∙ c.in_ok-rider.ensures.number ∙ ap (λ (l : LaneView). Rattle.std.proofs.Common.length l.received) c.self.view_is;
        first_known = λ some. sym (ap (λ (l : LaneView). l.known) c.self.view_is)
            ∙ c.in_ok-rider.ensures.known (subst (λ (l : LaneView). 0 < Rattle.std.proofs.Common.length l.known) (sym c.self.view_is) some);
        none_known = λ empty. c.in_ok-rider.ensures.unknown (ap (λ (l : LaneView). l.known) c.self.view_is ∙ empty);
        lane = λ j. record {
          ring = (c.in_ok-rider.ensures.ring ∙ ap (λ (l : LaneView). l.ring) c.self.view_is) j;
          received = (c.in_ok-rider.ensures.received ∙ ap (λ (l : LaneView). l.received ++ r ∷ []) c.self.view_is) j;
          known = c.take.new.self.known;
          sheet = (sheet ∙ (λ k. lane_after_board (sym bump k) (c.self.view_is k).sheet)) j;
        };
      },
    )

pub returns-clause-aboard : goal.returns-clause-aboard
returns-clause-aboard g c = let boards = returns-clause-next g c in boarded_told boards.1

pub returns-clause-number : goal.returns-clause-number
returns-clause-number g c = c.self.invariant.counted
    ∙ ap (λ (l : LaneView). Rattle.std.proofs.Common.length (entries l)) c.self.view_is
