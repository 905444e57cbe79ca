use Rattle.std.proofs.Common.{ap, arith}
use Rattle.replay_policies.specs.Tables.{one_of}
use Rattle.replay_policies.proofs.GhostLemmas.{length-put}
use Rattle.replay_policies.proofs.ghosts.Ghosts.make_place.Goals as goal

pub invariant_of-self-in-Some : goal.invariant_of-self-in-Some
invariant_of-self-in-Some c =
    let had = c.self.invariant in
    let one = ap one_of c.in-Some.is in
    let more = length-put c.in-Some.key c.self.inside.placed _ in
    rw c.in_ok-put.ensures.entries (record { some = had.some; few = omega (arith, had.few, one, more) })
