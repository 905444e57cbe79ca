use Rattle.std.proofs.Common.{rules, ◌≡◌, ◌+◌, ◌<◌, suc, length, ap, subst, arith}
use Rattle.std.specs.Prelude.{slice_set}
use Rattle.bump_rules.proofs.Updates.{total_written}
use Rattle.bump_class.specs.Lanes.{entries}
use Rattle.bump_store.specs.Lanes.{LaneState}
use Rattle.bump_store.specs.Passes.{IsDrained, all_applied}
use Rattle.bump_store.proofs.PassLemmas.{DrainedSoFar, one_more, as_many, all_were}
use Rattle.bump_store.proofs.maintainers.Maintainer.pass.Goals as goal

pub overflow_add-count : goal.overflow_add-count
overflow_add-count g c =
    let i = c.loop-worker.invariant in
    let same : length c.self.inside.lanes.items ≡ length c.args.self.now = ap length c.self.view_is in
    omega (arith, i.few, i.end, c.loop-worker-test.true, c.self.invariant, same, c.drain-count.ensures.few)

pub loop-worker-preserved : goal.loop-worker-preserved
loop-worker-preserved g c =
    let i = c.loop-worker.invariant in
    let w = c.loop-worker.worker in
    let befores = c.args.self.now in
    let afters = c.loop-worker.self-inside.lanes.items in
    let before = c.index_mut.result.now in
    let after = c.drain-count.new.self in
    let value = c.index_mut.ensures.value in
    let d = c.drain-count.ensures in
    let low : w < length befores = omega (arith, c.loop-worker-test.true, i.end) in
    let within : w < length afters = omega (arith, low, as_many c.args.now w befores afters i.drained) in
    let one : IsDrained c.args.now before after = record {
      count = c.drain-count.result;
      most = d.most;
      applied = d.drained;
      grown = d.count;
      none = d.none;
      ring = d.ring.0;
      capacity = d.ring.1;
    } in
    let next : suc w ≡ w + 1 = omega arith in record {
      drained = subst (λ n. DrainedSoFar c.args.now n befores (slice_set afters w after)) next
          (one_more c.args.now w befores afters after before i.drained low (subst (λ (l : LaneState). IsDrained c.args.now l after) value one));
      count = omega (
        arith,
        total_written (λ (l : LaneState). length (entries l.lane)) afters w after before within,
        ap (λ (l : LaneState). length (entries l.lane)) value,
        d.count,
        i.count,
      );
      few = omega (arith, i.few, d.few);
      end = i.end;
      place = omega (arith, low);
    }

pub returns-clause-lanes : goal.returns-clause-lanes
returns-clause-lanes g c =
    let i = c.loop-worker.invariant in
    let all : c.loop-worker.worker ≡ length c.args.self.now = omega (arith, i.end, i.place, c.loop-worker-test.false) in
    all_were c.args.now c.args.self.now c.loop-worker.self-inside.lanes.items
    (subst (λ n. DrainedSoFar c.args.now n c.args.self.now c.loop-worker.self-inside.lanes.items) all i.drained)

pub loop-worker-init : goal.loop-worker-init
loop-worker-init g c = record {
  drained = c.self.view_is;
  count = omega (arith, ap all_applied c.self.view_is);
  few = omega arith;
  end = search rules;
  place = omega arith;
}
