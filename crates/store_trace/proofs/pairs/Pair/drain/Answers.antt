use Rattle.trace_lines.specs.Text.{bump_line}
use Rattle.store_trace.proofs.EndedLines.{line_behind, bump_ends}
use Rattle.store_trace.proofs.pairs.Pair.drain.Goals as goal

pub loop-done-preserved : goal.loop-done-preserved
loop-done-preserved g c =
    let entry = c.in-Some.entry in
    λ whole. line_behind c.loop-done.out.items (bump_line c.args.number entry) c.put_bump.new.out.items
    (bump_ends c.args.number entry) c.in_ok-put_bump.ensures
