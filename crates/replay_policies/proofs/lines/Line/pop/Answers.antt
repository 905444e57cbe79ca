use Rattle.std.proofs.Common.{ap, arith}
use Rattle.replay_policies.specs.declared.entries.Entry.{Entry}
use Rattle.replay_policies.specs.Tables.{one_of}
use Rattle.replay_policies.proofs.lines.Line.pop.Goals as goal

pub returns-clause-count : goal.returns-clause-count
returns-clause-count c =
    let one = ap one_of c.in_ok-entry.ensures.kept.at in omega (arith, c.remove.ensures.count, one)

pub returns-clause-uses : goal.returns-clause-uses
returns-clause-uses c =
    let kept = c.in_ok-entry.ensures.kept in
    let same = ap (λ (e : Entry). e.uses) kept.same in
    let left = c.remove.ensures.uses kept.node kept.at in
    omega (arith, same, left)

pub returns-clause-held : goal.returns-clause-held
returns-clause-held c = ap one_of c.in_ok-entry.ensures.kept.at
