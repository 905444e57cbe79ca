use Rattle.std.proofs.Common.{IfOk, subst}
use Rattle.seen_words.specs.Windows.{AtLast}
use Rattle.cache_index.specs.History.{LeadsAll}
use Rattle.cache_index.specs.Views.{IndexView}
use Rattle.cache_index.proofs.EyeLemmas.{told_from}
use Rattle.cache_index.proofs.index.Index.reader.Goals as goal

pub returns-clause-sees : goal.returns-clause-sees
returns-clause-sees c =
    subst (λ (v : IndexView). IfOk c.reader.result (λ r. AtLast (LeadsAll v.first v.table) r.1.seen)) c.self.view_is
    (told_from c.self.inside.first c.self.inside.from_zero c.reader.result c.self.invariant c.reader.ensures.sees)
