use Rattle.std.proofs.Common.{ℕ, ◌++◌, ap, ◌∙◌}
use Rattle.trace_lines.specs.Text.{moves_line}
use Rattle.bump_trace.specs.Shows.{moves_line_of}
use Rattle.bump_trace.proofs.AscendingLoops.{printed_more}
use Rattle.bump_trace.proofs.open_store.OpenStore.put_class_moves.Goals as goal

pub loop-worker-preserved : goal.loop-worker-preserved
loop-worker-preserved c =
    printed_more (moves_line_of c.args.self.now.world c.args.class) c.loop-worker.out.items _ _ c.loop-worker.worker _ c.loop-worker-test.true
    (c.in_ok-put_moves.ensures
    ∙ ap (λ (n : ℕ). c.loop-worker.out.items ++ moves_line c.args.class c.loop-worker.worker n) c.moves.ensures)
    c.loop-worker.invariant
