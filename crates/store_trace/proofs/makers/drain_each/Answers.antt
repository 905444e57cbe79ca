use Rattle.std.proofs.Common.{◌≡◌, ℕ, ◌+◌, ◌<◌, suc, length, subst, arith}
use Rattle.std.specs.Prelude.{slice_set}
use Rattle.bump_store.specs.Lanes.{LaneState}
use Rattle.bump_store.specs.Passes.{IsDrained}
use Rattle.store_trace.proofs.InTurn.{ChangedSoFar, changed_next, all_changed}
use Rattle.store_trace.proofs.makers.drain_each.Goals as goal

pub loop-at-preserved : goal.loop-at-preserved
loop-at-preserved g c =
    let i = c.loop-at.invariant in
    let at = c.loop-at.at in
    let now = c.args.now in
    let befores = c.args.lanes.now.items in
    let afters = c.loop-at.lanes.items in
    let before = c.index_mut.result.now in
    let after = c.drain-applied.new.self in
    let d = c.drain-applied.ensures in
    let low : at < length befores = omega (arith, c.loop-at-test.true, i.end) in
    let one : IsDrained now before after = record {
      count = c.drain-applied.result;
      most = d.most;
      applied = d.drained;
      grown = d.count;
      none = d.none;
      ring = d.ring.0;
      capacity = d.ring.1;
    } in
    let next : suc at ≡ at + 1 = omega arith in record {
      drained = subst (λ (n : ℕ). ChangedSoFar (IsDrained now) n befores (slice_set afters at after)) next
          (changed_next (IsDrained now) at befores afters after before i.drained low
          (subst (λ (l : LaneState). IsDrained now l after) c.index_mut.ensures.value one));
      end = i.end;
      place = omega (arith, low);
    }

pub returns : goal.returns
returns g c =
    let i = c.loop-at.invariant in
    let now = c.args.now in
    let befores = c.args.lanes.now.items in
    let afters = c.loop-at.lanes.items in
    let all : c.loop-at.at ≡ length befores = omega (arith, i.end, i.place, c.loop-at-test.false) in
    all_changed (IsDrained now) befores afters (subst (λ (n : ℕ). ChangedSoFar (IsDrained now) n befores afters) all i.drained)
