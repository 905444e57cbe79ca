use Rattle.call_log.specs.Tallies.{name_in}
use Rattle.call_log.proofs.Seeing.{extends}
use Rattle.call_log.proofs.fronts.Front.learn.Goals as goal

pub returns-clause-this : goal.returns-clause-this
returns-clause-this g c = rw (← c.self.view_is) (extends g.E.State.some_state (name_in c.self.inside.seen.names) (name_in c.learn.new.self.names) c.self.inside.seen.log
    c.learn.new.self.log c.self.invariant.1 c.learn.ensures.2)

pub returns-clause-that : goal.returns-clause-that
returns-clause-that g c = rw (← c.other.view_is) (extends g.E.State.some_state (name_in c.other.inside.seen.names) (name_in c.learn.new.self.names) c.other.inside.seen.log
    c.learn.new.self.log c.other.invariant.1 c.learn.ensures.3)
