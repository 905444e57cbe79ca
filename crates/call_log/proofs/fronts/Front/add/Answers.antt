use Rattle.call_log.proofs.Asking.{is_added}
use Rattle.call_log.proofs.fronts.Front.add.Goals as goal

pub returns-clause-added : goal.returns-clause-added
returns-clause-added g c = is_added g.E.State.number c.args.head.now c.args.self.now c.args.other.now c.step.result
    (g.V.Shows.shown c.args.value.now) c.requires.number c.step.ensures.did
