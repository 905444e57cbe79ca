use Rattle.std.proofs.Common.{◌∙◌}
use Rattle.call_log.proofs.Asking.{is_seen}
use Rattle.call_log.proofs.fronts.Front.look.Goals as goal

pub returns-clause-seen : goal.returns-clause-seen
returns-clause-seen g c = is_seen g.E.State.number c.args.head.now c.args.self.now c.args.other.now c.step.result
    g.E.State.some_state c.step.ensures.did

pub returns-clause-tally : goal.returns-clause-tally
returns-clause-tally g c =
    let seen = is_seen g.E.State.number c.args.head.now c.args.self.now c.args.other.now c.step.result
    g.E.State.some_state c.step.ensures.did in
    let now = c.step.ensures.tally in record {
      named = now.named ∙ c.step.ensures.did.name;
      of = now.of;
      here = now.here;
      counts = now.counts ∙ seen.calls;
    }
