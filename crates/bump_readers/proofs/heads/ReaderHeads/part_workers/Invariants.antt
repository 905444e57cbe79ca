use Rattle.std.proofs.Common.{◌≡◌, ◌+◌, [], ◌++◌, map, length}
use Rattle.bump_readers.specs.Workers.{worker_seen, AreNewWorkers}
use Rattle.bump_readers.proofs.heads.ReaderHeads.part_workers.Given as goal

abbrev pub invariant-loop-worker : goal.invariant-loop-worker
invariant-loop-worker g l = record {
  id : l.seat.table_id ≡ g.N.Name.table;
  rest : l.seat.me ≡ (record l.fn.seat.me.0 { workers = l.seat.me.0.workers }, []);
  count : l.worker + length l.seat.me.0.workers ≡ l.fn.count;
  numbers : AreNewWorkers l.worker l.seat.me.0.workers;
  sheets : l.seats.items ++ map worker_seen l.seat.me.0.workers ≡ map worker_seen l.fn.seat.me.0.workers;
}
