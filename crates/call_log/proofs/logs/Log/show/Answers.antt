use Rattle.std.proofs.Common.{length, sym, ◌∙◌, ap}
use Rattle.call_log.proofs.Calling.{one_length, shows}
use Rattle.call_log.proofs.logs.Log.show.Goals as goal

pub returns-clause-to : goal.returns-clause-to
returns-clause-to g c =
    let is = c.self.invariant in let seen = c.look.ensures.seen in
    rw (← c.self.view_is) (shows g.E.State.number c.self.inside.head c.self.inside.front
    c.me.inside.front c.look.result seen is.0 is.2 c.me.inside.share.amount c.me.inside.share.parts
    c.audit.new.me.amount c.audit.new.me.parts c.audit.ensures.amount c.audit.ensures.parts).to

pub returns-clause-alone : goal.returns-clause-alone
returns-clause-alone g c =
    let is = c.self.invariant in let seen = c.look.ensures.seen in
    rw (← c.self.view_is) (shows g.E.State.number c.self.inside.head c.self.inside.front
    c.me.inside.front c.look.result seen is.0 is.2 c.me.inside.share.amount c.me.inside.share.parts
    c.audit.new.me.amount c.audit.new.me.parts c.audit.ensures.amount c.audit.ensures.parts).alone

pub returns-clause-whole : goal.returns-clause-whole
returns-clause-whole g c =
    let is = c.self.invariant in let seen = c.look.ensures.seen in
    rw (← c.self.view_is, ← c.me.view_is) (λ one all. ap length ((shows g.E.State.number c.self.inside.head
    c.self.inside.front c.me.inside.front c.look.result seen is.0 is.2 c.me.inside.share.amount
    c.me.inside.share.parts c.audit.new.me.amount c.audit.new.me.parts c.audit.ensures.amount c.audit.ensures.parts).alone one)
    ∙ (sym (one_length g.E.State.number c.self.inside.head c.self.inside.front is.0 is.2 one)
    ∙ (sym is.1 ∙ c.audit.ensures.whole (is.3 one) all)))
