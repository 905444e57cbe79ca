use Rattle.std.proofs.Common.{List, sym, ap, subst}
use Rattle.std.specs.List.{AllZip}
use Rattle.bump_store.specs.Lanes.{LaneState}
use Rattle.bump_store.specs.Passes.{IsDrained}
use Rattle.store_trace.specs.Tasks.{MakesEach, lines_of, drain_times}
use Rattle.store_trace.specs.declared.makers.Tender.{Tender}
use Rattle.store_trace.proofs.MadeLines.{chores_drained, chores_made}
use Rattle.store_trace.proofs.threads.tend.Goals as goal

pub returns-clause-made : goal.returns-clause-made
returns-clause-made g c =
    chores_made _ _ _ _ (λ (t : Tender g.row.R.Denot g.row.N.Denot). t.store.now) (λ (t : Tender g.row.R.Denot g.row.N.Denot). t.lanes.items)
    (λ item a b does. does) (λ class tail a b does. does) (λ class a b does. does) (λ now a b does. (ap (λ s. s.now) does.0, does.2))
    (lines_of c.args.share c.args.tasks.now) _ _ c.make_chores.ensures

pub returns-clause-drained : goal.returns-clause-drained
returns-clause-drained g c =
    let made = chores_drained _ _ _ _ (λ (t : Tender g.row.R.Denot g.row.N.Denot). t.store.now) (λ (t : Tender g.row.R.Denot g.row.N.Denot). t.lanes.items)
    (λ item a b does. does) (λ class tail a b does. does) (λ class a b does. does) (λ now a b does. (ap (λ s. s.now) does.0, does.2))
    c.args.share c.args.tasks.now _ _ c.make_chores.ensures in
    let D = MakesEach IsDrained (drain_times c.args.tasks.now) in
    subst (λ (ls : List LaneState). AllZip D c.args.lanes.items ls) (sym c.from-2.ensures.0)
    (subst (λ (ls : List LaneState). AllZip D ls c.make_chores.new.maker.lanes.items) c.from.ensures.0 made)
