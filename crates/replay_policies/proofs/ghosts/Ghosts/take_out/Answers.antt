use Rattle.std.proofs.Common.{arith}
use Rattle.replay_policies.proofs.GhostLemmas.{length-removed}
use Rattle.replay_policies.proofs.ghosts.Ghosts.take_out.Goals as goal

pub invariant_of-self : goal.invariant_of-self
invariant_of-self c =
    let had = c.self.invariant in
    let less = length-removed c.args.key c.self.inside.placed.entries in
    rw c.pop.ensures.entries (record { some = had.some; few = omega (arith, had.few, less) })
