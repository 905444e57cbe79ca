use Rattle.std.proofs.Common.{rules}
use Rattle.trace_lines.specs.Text.{bump_line}
use Rattle.store_trace.proofs.EndedLines.{line_behind, bump_ends}
use Rattle.store_trace.proofs.pairs.put_rest.Goals as goal

pub loop-preserved : goal.loop-preserved
loop-preserved g c =
    let entry = c.in-Ok-Some.entry in
    record {
      ring = search rules;
      closed = search rules;
      lines = λ whole. line_behind c.loop.out.items (bump_line c.args.number entry) c.put_bump.new.out.items
          (bump_ends c.args.number entry) c.in_ok-put_bump-in-Ok-Some.ensures;
    }
