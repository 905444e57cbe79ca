use Rattle.std.proofs.Common.{◌≡◌, ◌++◌, map, take}
use Rattle.store_trace.specs.Reports.{numbered_text, worker_line, settled_told}
use Rattle.store_trace.proofs.pairs.put_workers.Given as goal

-- the lines of the first workers, so many
abbrev pub invariant-loop-number : goal.invariant-loop-number
invariant-loop-number g l =
    l.out.items ≡ l.fn.out.items ++ numbered_text worker_line 0 (map (λ pair. settled_told pair.worker pair.lane pair.settled) (take l.number l.pairs))
