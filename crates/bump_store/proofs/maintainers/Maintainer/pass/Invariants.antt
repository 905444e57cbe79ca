use Rattle.std.proofs.Common.{◌≡◌, ◌≤◌, ◌+◌, ◌*◌, length}
use Rattle.bump_store.specs.Passes.{all_applied}
use Rattle.bump_store.proofs.PassLemmas.{DrainedSoFar}
use Rattle.bump_store.proofs.maintainers.Maintainer.pass.Given as goal

abbrev pub invariant-loop-worker : goal.invariant-loop-worker
invariant-loop-worker g l = record {
  drained : DrainedSoFar l.fn.now l.worker l.fn.self l.self-inside.lanes.items;
  count : all_applied l.self-inside.lanes.items ≡ all_applied l.fn.self + l.count;
  few : l.count ≤ l.worker * 4294967296;
  end : l.worker-end ≡ length l.fn.self;
  place : l.worker ≤ length l.fn.self;
}
