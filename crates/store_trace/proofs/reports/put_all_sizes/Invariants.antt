use Rattle.std.proofs.Common.{◌≡◌, ◌++◌, take}
use Rattle.store_trace.specs.Reports.{numbered_text, sizes_line}
use Rattle.store_trace.proofs.reports.put_all_sizes.Given as goal

-- the lines of the first classes, so many
abbrev pub invariant-loop-class : goal.invariant-loop-class
invariant-loop-class l = l.out.items ≡ l.fn.out.items ++ numbered_text sizes_line 0 (take l.class l.all)
