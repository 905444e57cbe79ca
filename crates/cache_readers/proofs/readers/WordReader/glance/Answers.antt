use Rattle.std.proofs.Common.{rules, inr, ap, ◌∙◌, subst}
use Rattle.bump_unlocked.specs.Workers.{WorkerState}
use Rattle.cache_readers.specs.Glances.{GlanceFinds}
use Rattle.cache_readers.specs.Misses.{IsAbsent}
use Rattle.cache_readers.specs.Readers.{ReaderView}
use Rattle.cache_readers.proofs.LookLemmas.{found_at_once, nothing_at_once}
use Rattle.cache_readers.proofs.readers.WordReader.glance.Goals as goal

pub returns-in-Found-clause-found : goal.returns-in-Found-clause-found
returns-in-Found-clause-found g c = λ told.
    inr (found_at_once _ _ _ _ _ _ _ _ _ (search rules)
    (subst (λ (w : WorkerState). GlanceFinds g.L.RowLaw.law c.args.key.now c.glance_first-told.new.value c.args.now w
    c.glance_first-told.new.worker) (search rules) (c.glance_first-told.ensures.found told)))

pub returns-in-Nothing-clause-nothing : goal.returns-in-Nothing-clause-nothing
returns-in-Nothing-clause-nothing g c = λ told.
    nothing_at_once _ _ _ _ _ _ _ (search rules)
    (c.glance_first-told.ensures.nothing told ∙ ap (λ (r : ReaderView). r.worker) c.self.view_is)

pub returns-in-Nothing-clause-absent : goal.returns-in-Nothing-clause-absent
returns-in-Nothing-clause-absent g c = λ told.
    subst (λ (r : ReaderView). IsAbsent c.args.hash c.args.key.now r.index r.worker r.eye c.glance_first-told.new.worker
    c.glance_first-told.new.eye) c.self.view_is (c.glance_first-told.ensures.absent told)
