use Rattle.std.proofs.Common.{arith}
use Rattle.store_trace.specs.Reports.{sizes_line}
use Rattle.store_trace.proofs.NumberedTexts.{told_next}
use Rattle.store_trace.proofs.reports.put_all_sizes.Goals as goal

pub loop-class-preserved : goal.loop-class-preserved
loop-class-preserved c =
    told_next sizes_line c.args.all.now c.loop-class.class (record { hot = 0; warm = 0; cold = 0; temp = 0; dying = 0; unused = 0; retired = 0 })
    c.args.out.now.items c.loop-class.out.items c.put_sizes.new.out.items (omega arith) c.loop-class.invariant c.in_ok-put_sizes.ensures
