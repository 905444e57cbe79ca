use Rattle.std.proofs.Common.{◌-◌, arith, length}
use Rattle.std.proofs.lemmas.List.{length-take}
use Rattle.replay_policies.proofs.ghosts.Ghosts.push.Goals as goal
use Rattle.replay_policies.proofs.ghosts.Ghosts.push.Goals.{then-len-self, else-len-self}

pub invariant_of-self : goal.invariant_of-self
invariant_of-self c =
    let had = c.self.invariant in
    let placed = c.self.inside.placed.entries in
    elim c.if-len-self.branch [
      | then-len-self w ↦
          let left = length-take (length placed - 1) placed in
          rw w.self-inside-is (rw w.pop_lru.ensures.entries (record {
            some = had.some;
            few = omega (arith, had.few, left, c.if-self-eq0.false);
          }))
      | else-len-self w ↦
          rw w.self-inside-is (record { some = had.some; few = omega (arith, w.if-len-self.false, c.len.ensures.len) })
    ]
