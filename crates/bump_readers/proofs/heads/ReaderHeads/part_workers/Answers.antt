use Rattle.std.proofs.Common.{ap, ◌∙◌, List, ◌++◌, map}
use Rattle.bump_readers.specs.declared.views.WorkerView.{WorkerView}
use Rattle.bump_readers.specs.Workers.{worker_seen}
use Rattle.bump_readers.proofs.WorkerTurns.{worker_turn}
use Rattle.bump_readers.proofs.heads.ReaderHeads.part_workers.Goals as goal

pub invariant_of-push : goal.invariant_of-push
invariant_of-push g c = let o = c.loop-worker.invariant in let t = worker_turn g.N.Name.table c.loop-worker.seat.me
    c.args.seat.now.me.0 c.loop-worker.worker c.args.count c.loop-worker.seats.items
    (map worker_seen c.args.seat.now.me.0.workers) c.part_worker-sheet.new.seat.me c.part_worker-sheet.result.me o.rest
    o.count c.loop-worker-test.true o.numbers o.sheets c.part_worker-sheet.ensures.sheets.0
    c.part_worker-sheet.ensures.sheets.1 in (t.0, c.part_worker-sheet.ensures.same.2 ∙ o.id, t.1, t.2, t.3)

pub loop-worker-preserved : goal.loop-worker-preserved
loop-worker-preserved g c = let o = c.loop-worker.invariant in let t =
    worker_turn g.N.Name.table c.loop-worker.seat.me c.args.seat.now.me.0 c.loop-worker.worker c.args.count
    c.loop-worker.seats.items (map worker_seen c.args.seat.now.me.0.workers) c.part_worker-sheet.new.seat.me
    c.part_worker-sheet.result.me o.rest o.count c.loop-worker-test.true o.numbers o.sheets
    c.part_worker-sheet.ensures.sheets.0 c.part_worker-sheet.ensures.sheets.1 in
    record {
      id = c.part_worker-sheet.ensures.same.0 ∙ o.id;
      rest = t.4;
      count = t.5;
      numbers = t.6;
      sheets =
          ap (λ (x : List WorkerView). x ++ map worker_seen c.part_worker-sheet.new.seat.me.0.workers)
          c.in_ok-push.ensures.items ∙ t.7;
    }
