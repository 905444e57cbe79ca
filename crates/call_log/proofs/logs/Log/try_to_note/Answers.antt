use Rattle.std.proofs.Common.{◌<◌, ◌+◌, ℕ, sym, ◌∙◌, ap, subst}
use Rattle.call_log.proofs.Calling.{log_noted, noted, one_length}
use Rattle.call_log.proofs.logs.Log.try_to_note.Goals as goal

pub invariant_of-self : goal.invariant_of-self
invariant_of-self g c =
    let is = c.self.invariant in let did = c.add-front.ensures.added in
    let count = c.audit.ensures.count ∙ c.pay.ensures.calls in
    let log = log_noted g.E.State.number c.self.inside.head c.self.inside.front c.me.inside.front c.add-front.result
    (g.V.Shows.shown c.args.value.now) did (c.requires.number ∙ sym (ap (λ l. l.number) c.self.view_is)) is.0 is.2 in (
      subst (λ (n : ℕ). c.self.inside.head < n) (sym did.mine.values) is.0,
      ap (λ n. n.calls) count ∙ (ap (λ (n : ℕ). n + 1) is.1 ∙ sym log.once),
      did.numbered,
      λ one. ap (λ n. n.alone) count ∙ is.3 (sym did.mine.values ∙ one),
      record {
        named = c.add-front.ensures.tally.named;
        of = c.add-front.ensures.tally.of;
        here = c.add-front.ensures.tally.here;
        counts = c.add-front.ensures.tally.counts ∙ (log.once ∙ (ap (λ (n : ℕ). n + 1) (sym is.1) ∙ sym (ap (λ n. n.calls) count)));
      },
    )

pub returns-clause-noted : goal.returns-clause-noted
returns-clause-noted g c =
    let is = c.self.invariant in let paid = c.pay.ensures in
    rw (← c.self.view_is, ← c.me.view_is, c.again.ensures) (noted g.E.State.number c.self.inside.head
    c.self.inside.front c.me.inside.front c.add-front.result (g.V.Shows.shown c.args.value.now) c.add-front.ensures.added
    (c.requires.number ∙ sym (ap (λ l. l.number) c.self.view_is)) is.0 is.2 c.me.inside.share.amount
    c.me.inside.share.parts c.audit.new.me.amount c.audit.new.me.parts (c.audit.ensures.amount ∙ paid.amount)
    (c.audit.ensures.parts ∙ paid.parts))

pub returns-clause-whole : goal.returns-clause-whole
returns-clause-whole g c =
    let is = c.self.invariant in let did = c.add-front.ensures.added in let paid = c.pay.ensures in
    let log = log_noted g.E.State.number c.self.inside.head c.self.inside.front c.me.inside.front c.add-front.result
    (g.V.Shows.shown c.args.value.now) did (c.requires.number ∙ sym (ap (λ l. l.number) c.self.view_is)) is.0 is.2 in
    let few : c.self.inside.head < c.add-front.result.values =
    subst (λ (n : ℕ). c.self.inside.head < n) (sym did.mine.values) is.0 in
    rw (← c.self.view_is, ← c.me.view_is, c.again.ensures) (λ one all. sym (one_length g.E.State.number
    c.self.inside.head c.add-front.result few did.numbered (did.mine.values ∙ one)) ∙ (log.once
    ∙ (ap (λ (n : ℕ). n + 1) (sym is.1) ∙ (sym (ap (λ n. n.calls) paid.calls)
    ∙ (c.audit.ensures.whole (ap (λ n. n.alone) paid.calls ∙ is.3 one)
    (ap (λ (n : ℕ). n + 1) paid.parts ∙ all) ∙ sym c.audit.ensures.amount)))))
