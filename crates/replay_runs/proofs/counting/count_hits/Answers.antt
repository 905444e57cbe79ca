use Rattle.std.proofs.Common.{sym, ◌∙◌}
use Rattle.replay_runs.proofs.CountedLines.{hits_from-line}
use Rattle.replay_runs.proofs.counting.count_hits.Goals as goal

pub loop-line-preserved : goal.loop-line-preserved
loop-line-preserved c =
    let told = rw c.in-Some.ensures.0 at c.loop-line.invariant in
    rw c.count_line.ensures (sym (hits_from-line c.loop-line.hits c.in-Some.line.now c.in-Some.after.now) ∙ told)

pub returns : goal.returns
returns c = rw c.in_default.ensures at c.loop-line.invariant
