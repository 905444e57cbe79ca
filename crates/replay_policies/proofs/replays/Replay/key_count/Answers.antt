use Rattle.std.proofs.Common.{◌≤◌, subst}
use Rattle.replay_policies.specs.Replays.{ReplayView}
use Rattle.replay_policies.proofs.replays.Replay.key_count.Goals as goal

pub returns : goal.returns
returns c = record {
  room = subst (λ (r : ReplayView). c.len.result ≤ r.items) c.self.view_is (c.len.ensures c.self.inside.items c.self.invariant.room);
}
