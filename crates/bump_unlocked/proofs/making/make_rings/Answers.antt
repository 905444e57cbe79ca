use Rattle.std.proofs.Common.{rules, ◌≡◌, ◌+◌, ◌-◌, ◌∷◌, ◌++◌, map, drop, Option, IsSome, sym, ap, ◌∙◌, refl, subst}
use Rattle.std.specs.Vec.Iter.{into_iter_items}
use Rattle.bump_heads.specs.Applying.{stage_of}
use Rattle.bump_heads.specs.Making.{lane_seen}
use Rattle.bump_readers.specs.Seats.{head_or}
use Rattle.bump_readers.specs.Workers.{worker_seen}
use Rattle.bump_readers.specs.declared.views.WorkerView.{WorkerView}
use Rattle.bump_steps.specs.Riders.{applied_by}
use Rattle.bump_steps.specs.declared.views.LaneSheet.{LaneSheet}
use Rattle.bump_steps.specs.Rule.{worker_sheet, worker_sheets, lane_sheet, lane_sheets}
use Rattle.bump_class.specs.Lanes.{LaneView, sheet_or}
use Rattle.bump_unlocked.specs.Workers.{WorkerState}
use Rattle.bump_unlocked.proofs.GrowingLists.{pushed, pushed_both, holds_of_all}
use Rattle.bump_unlocked.proofs.NewSheets.{next_worker, next_lane}
use Rattle.bump_unlocked.proofs.making.make_rings.Goals as goal

pub unreachable-requires : goal.unreachable-requires
unreachable-requires g c = let w = c.loop-number.number in
    let some : into_iter_items c.loop-number.left ≡ worker_seen (worker_sheet w) ∷ map worker_seen (worker_sheets (w + 1) (c.args.count - (w + 1))) = c.loop-number.invariant.seats ∙ ap (map worker_seen) (next_worker w c.args.count c.loop-number-test.true) in
    search (rules, some)

pub unreachable-requires-in_default-next : goal.unreachable-requires-in_default-next
unreachable-requires-in_default-next g c = let w = c.loop-number.number in
    let some : into_iter_items c.loop-number.lanes_left ≡ lane_seen (lane_sheet w) ∷ map lane_seen (lane_sheets (w + 1) (c.args.count - (w + 1))) = c.loop-number.invariant.lane_seats ∙ ap (map lane_seen) (next_lane w c.args.count c.loop-number-test.true) in
    search (rules, some)

pub new-worker-requires-clause-seat : goal.new-worker-requires-clause-seat
new-worker-requires-clause-seat g c = let w = c.loop-number.number in
    let first = worker_seen (worker_sheet w) in
    let is : c.in-Some.seat ≡ first = ap (head_or first) (sym c.in-Some.ensures.items ∙ c.loop-number.invariant.seats ∙ ap (map worker_seen) (next_worker w c.args.count c.loop-number-test.true)) in
    is ∙ ap (λ (x : WorkerView). worker_seen (worker_sheet x.sheet.worker)) (sym is)

pub new-raw-requires : goal.new-raw-requires
new-raw-requires g c = let w = c.loop-number.number in
    let first = lane_seen (lane_sheet w) in
    let is : c.in-Some-next.lane_seat ≡ first = ap (head_or first) (sym c.in-Some-next.ensures.items ∙ c.loop-number.invariant.lane_seats ∙ ap (map lane_seen) (next_lane w c.args.count c.loop-number-test.true)) in record {
      unused = record {
        untaken = search rules;
        whole = subst (λ (x : Option LaneSheet). IsSome x) (sym is) refl;
        empty = ap stage_of is;
        fresh = ap applied_by is;
      };
    }

pub loop-number-preserved : goal.loop-number-preserved
loop-number-preserved g c =
    let i = c.loop-number.invariant in
    let w = c.loop-number.number in
    let n = c.args.count in
    let worker = worker_seen (worker_sheet w) in
    let lane = lane_seen (lane_sheet w) in
    let seats = sym c.in-Some.ensures.items ∙ i.seats ∙ ap (map worker_seen) (next_worker w n c.loop-number-test.true) in
    let lanes = sym c.in-Some-next.ensures.items ∙ i.lane_seats ∙ ap (map lane_seen) (next_lane w n c.loop-number-test.true) in
    let seat : c.in-Some.seat ≡ worker = ap (head_or worker) seats in
    let lane_seat : c.in-Some-next.lane_seat ≡ lane = ap (head_or lane) lanes in
    let a = c.in_ok-add.ensures in record {
      seats = ap (drop 1) seats;
      lane_seats = ap (drop 1) lanes;
      workers = pushed (λ (x : WorkerState). x.sheet) c.loop-number.workers.items _ c.new-worker.result (worker_sheet w) (worker_sheets (w + 1) (n - (w + 1))) _ a.0
          (ap (λ (x : WorkerState). x.sheet) c.new-worker.ensures ∙ ap (λ (x : WorkerView). worker_sheet x.sheet.worker) seat)
          (ap (λ x. map (λ (y : WorkerState). y.sheet) c.loop-number.workers.items ++ x) (sym (next_worker w n c.loop-number-test.true)) ∙ i.workers);
      lanes = pushed (λ (x : LaneView). x.sheet) c.loop-number.lanes.items _ c.new-raw.result (lane_sheet w) (lane_sheets (w + 1) (n - (w + 1))) _ a.1
          (ap (λ (x : LaneView). x.sheet) c.new-raw.ensures ∙ ap sheet_or lane_seat)
          (ap (λ x. map (λ (y : LaneView). y.sheet) c.loop-number.lanes.items ++ x) (sym (next_lane w n c.loop-number-test.true)) ∙ i.lanes);
      rings = pushed_both (λ (x : WorkerState). x.sender.ring) (λ (x : LaneView). x.ring) c.loop-number.workers.items _ c.loop-number.lanes.items _ c.new-worker.result c.new-raw.result a.0 a.1 i.rings
          (ap (λ (x : WorkerState). x.sender.ring) c.new-worker.ensures ∙ sym (ap (λ (x : LaneView). x.ring) c.new-raw.ensures ∙ c.in_ok-sender.ensures.ring));
      capacity = holds_of_all (λ (x : WorkerState). x.sender.capacity ≡ c.args.capacity) c.loop-number.workers.items _ c.new-worker.result a.0
          (ap (λ (x : WorkerState). x.sender.capacity) c.new-worker.ensures ∙ c.in_ok-sender.ensures.capacity) i.capacity;
    }
