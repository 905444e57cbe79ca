use Rattle.std.proofs.Common.{◌≡◌, ℕ, ◌++◌, List, ap, ◌∙◌, arith}
use Rattle.bump_store.specs.declared.settling.Settled.{Settled}
use Rattle.store_trace.specs.Reports.{worker_line, settled_told}
use Rattle.store_trace.proofs.NumberedTexts.{told_next_of}
use Rattle.store_trace.proofs.pairs.put_workers.Goals as goal

-- the line of what was told is that of what it is equal to
line_of : (before new : List ℕ) (number : ℕ) (told same : Settled) → new ≡ before ++ worker_line number told → told ≡ same
    → new ≡ before ++ worker_line number same
line_of before new number told same is equal = is ∙ ap (λ (t : Settled). before ++ worker_line number t) equal

pub loop-number-preserved : goal.loop-number-preserved
loop-number-preserved g c =
    told_next_of worker_line (λ pair. settled_told pair.worker pair.lane pair.settled) c.args.pairs.now c.loop-number.number c.index-pairs-number.result
    c.args.out.now.items c.loop-number.out.items c.put_worker.new.out.items (omega arith) c.index-pairs-number.is c.loop-number.invariant
    (line_of c.loop-number.out.items c.put_worker.new.out.items c.loop-number.number c.told-told.result _ c.in_ok-put_worker.ensures c.told-told.ensures)
