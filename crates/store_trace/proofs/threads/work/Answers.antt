use Rattle.std.proofs.Common.{not, List, ap, subst}
use Rattle.store_trace.specs.Making.{Counted, MakesGet}
use Rattle.store_trace.specs.Tasks.{MakesTurns}
use Rattle.store_trace.specs.Totals.{no_lines}
use Rattle.store_trace.specs.declared.makers.Getter.{Getter}
use Rattle.store_trace.specs.declared.totals.Totals.{Totals}
use Rattle.store_trace.specs.declared.tasks.GetTask.{GetTask}
use Rattle.store_trace.proofs.MadeLines.{turns_gotten, ring_of_turns}
use Rattle.store_trace.proofs.threads.work.Goals as goal

-- what it made, of its worker and its counts
turns : goal.returns-clause-turns
turns g c =
    let lets = g.G.Gate.lets c.args.gate.now c.args.number in
    let sees = g.G.Gate.sees c.args.gate.now c.args.number in
    let made = turns_gotten (λ (m : Getter g.row.N.Denot). m.store.now) (λ (m : Getter g.row.N.Denot). (m.worker, m.totals)) _
    (λ task a b does. (ap (λ s. s.now) does.0, does.1)) lets sees _ (not c.make_gets-passed.result) _ _ c.make_gets-passed.ensures in
    let after : Counted = (c.make_gets-passed.new.maker.worker, c.make_gets-passed.new.maker.totals) in
    subst (λ (ts : List GetTask). MakesTurns (MakesGet c.args.store.now) lets sees ts (not c.make_gets-passed.result) (c.args.worker, no_lines) after) c.deref.ensures.value
    (subst (λ (t : Totals). MakesTurns (MakesGet c.args.store.now) lets sees c.deref.result.now (not c.make_gets-passed.result) (c.args.worker, t) after) c.none.ensures made)

pub returns-clause-turns : goal.returns-clause-turns
returns-clause-turns g c = turns g c

pub returns-clause-ring : goal.returns-clause-ring
returns-clause-ring g c =
    ring_of_turns c.args.store.now (g.G.Gate.lets c.args.gate.now c.args.number) (g.G.Gate.sees c.args.gate.now c.args.number) c.args.tasks.items
    (not c.make_gets-passed.result) (c.args.worker, no_lines) (c.make_gets-passed.new.maker.worker, c.make_gets-passed.new.maker.totals) (turns g c)
